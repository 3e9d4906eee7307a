use Rattle.std.proofs.Common.{ap, sym, ◌∙◌, subst}
use Rattle.std.specs.List.{position}
use Rattle.book_register.specs.Register.{IsSorted, Rows, has_key, key_at}
use Rattle.book_register.specs.declared.key.Key.{Key}
use Rattle.book_register.proofs.RowLemmas.{position_below, removed_sorted}
use Rattle.book_register.proofs.register.Register.remove.Goals as goal

pub remove-row-requires : goal.remove-row-requires
remove-row-requires g c =
    let below = position_below c.key_at.result c.self.inside.rows.list c.in-Some.found
    (sym c.place_of.ensures.place ∙ c.in-Some.is) in
    below

pub invariant_of-self : goal.invariant_of-self
invariant_of-self g c =
    let below = position_below c.key_at.result c.self.inside.rows.list c.in-Some.found
    (sym c.place_of.ensures.place ∙ c.in-Some.is) in
    subst IsSorted (sym c.remove-row.ensures.list)
    (removed_sorted c.self.inside.rows.list c.in-Some.found c.self.invariant below)

pub returns-in-Some-clause-place : goal.returns-in-Some-clause-place
returns-in-Some-clause-place g c =
    sym c.in-Some.is ∙ c.place_of.ensures.place
    ∙ ap (λ (k : Key). position (has_key k) c.self.inside.rows.list) c.key_at.ensures
    ∙ ap (λ (v : Rows). position (has_key (key_at c.args.day c.args.txn c.args.place)) v.rows) c.self.view_is

pub returns-in-None-clause-place : goal.returns-in-None-clause-place
returns-in-None-clause-place g c =
    sym c.in-None.is ∙ c.place_of.ensures.place
    ∙ ap (λ (k : Key). position (has_key k) c.self.inside.rows.list) c.key_at.ensures
    ∙ ap (λ (v : Rows). position (has_key (key_at c.args.day c.args.txn c.args.place)) v.rows) c.self.view_is
