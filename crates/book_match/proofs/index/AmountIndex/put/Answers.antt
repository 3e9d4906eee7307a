use Rattle.std.proofs.Common.{◌≡◌, List, ap, sym, ◌∙◌, subst}
use Rattle.book_match.specs.AmountIndex.{Index, Rises, is_there, with_free}
use Rattle.book_match.specs.declared.free.Free.{Free}
use Rattle.book_match.proofs.IndexLemmas.{insert-is, rises-with}
use Rattle.book_match.proofs.index.AmountIndex.put.Goals as goal

pub invariant_of-self : goal.invariant_of-self
invariant_of-self c =
    let es : List Free = c.self.inside.entries.list in
    let seen : es ≡ c.args.self.now.entries = ap (λ (i : Index). i.entries) c.self.view_is in
    subst Rises (sym (c.insert.ensures.list ∙ insert-is c.args.free es c.place_of-place.result c.place_of-place.ensures.cut))
    (rises-with c.args.free es c.self.invariant (ap (is_there c.args.free) seen ∙ c.requires.absent))

pub returns-clause-entries : goal.returns-clause-entries
returns-clause-entries c =
    let es : List Free = c.self.inside.entries.list in
    let seen : es ≡ c.args.self.now.entries = ap (λ (i : Index). i.entries) c.self.view_is in
    c.insert.ensures.list ∙ insert-is c.args.free es c.place_of-place.result c.place_of-place.ensures.cut
    ∙ ap (with_free c.args.free) seen
