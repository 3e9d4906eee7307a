use Rattle.std.proofs.Common.{◌≡◌, None, slice_get, ap, sym, ◌∙◌, subst}
use Rattle.std.specs.List.{position}
use Rattle.book_register.specs.Register.{IsBound, IsSorted, Rows, has_key, key_of}
use Rattle.book_register.specs.declared.key.Key.{Key}
use Rattle.book_register.proofs.RowLemmas.{inserted_at, inserted_sorted}
use Rattle.book_register.proofs.register.Register.insert.Goals as goal

pub invariant_of-self : goal.invariant_of-self
invariant_of-self g c =
    let bound : IsBound (key_of c.args.entry) c.self.inside.rows.list c.count_before-place.result =
    subst (λ (k : Key). IsBound k c.self.inside.rows.list c.count_before-place.result) c.key_of.ensures
    c.count_before-place.ensures.bound in
    subst IsSorted (sym c.insert.ensures.list) (inserted_sorted c.self.inside.rows.list c.count_before-place.result
    c.args.entry c.self.invariant bound
    (subst (λ (v : Rows). position (has_key (key_of c.args.entry)) v.rows ≡ None) (sym c.self.view_is)
    c.requires.absent))

pub returns-clause-place : goal.returns-clause-place
returns-clause-place g c =
    ap (λ l. slice_get l c.count_before-place.result) c.insert.ensures.list
    ∙ inserted_at c.self.inside.rows.list c.count_before-place.result c.args.entry
    c.count_before-place.ensures.bound.within

pub returns-clause-sorted : goal.returns-clause-sorted
returns-clause-sorted g c =
    let bound : IsBound (key_of c.args.entry) c.self.inside.rows.list c.count_before-place.result =
    subst (λ (k : Key). IsBound k c.self.inside.rows.list c.count_before-place.result) c.key_of.ensures
    c.count_before-place.ensures.bound in
    subst IsSorted (sym c.insert.ensures.list) (inserted_sorted c.self.inside.rows.list c.count_before-place.result
    c.args.entry c.self.invariant bound
    (subst (λ (v : Rows). position (has_key (key_of c.args.entry)) v.rows ≡ None) (sym c.self.view_is)
    c.requires.absent))
