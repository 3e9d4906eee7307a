use Rattle.std.proofs.Common.{◌≡◌, true, List, get_or, ap, sym, ◌∙◌, subst, arith}
use Rattle.std.proofs.lemmas.List.{get_or_default}
use Rattle.book_seq.proofs.ListLemmas.{slice_get_or}
use Rattle.book_match.specs.AmountIndex.{Index, Rises, is_same, is_there, without_free}
use Rattle.book_match.specs.declared.free.Free.{Free}
use Rattle.book_match.proofs.IndexLemmas.{none-without, not-there, remove-is, rises-without, there}
use Rattle.book_match.proofs.index.AmountIndex.take.Goals as goal

pub returns-then-place-len-clause-taken : goal.returns-then-place-len-clause-taken
returns-then-place-len-clause-taken c =
    let es : List Free = c.self.inside.entries.list in
    let seen : es ≡ c.args.self.now.entries = ap (λ (i : Index). i.entries) c.self.view_is in
    sym (ap (is_there c.args.free) (sym seen)
    ∙ not-there c.args.free es c.place_of-place.result c.self.invariant c.place_of-place.ensures.cut
    (λ d lt. absurd (omega (arith, lt, c.len.ensures.len, c.if-place-len.true))))

pub returns-then-place-len-clause-entries : goal.returns-then-place-len-clause-entries
returns-then-place-len-clause-entries c =
    sym (none-without c.args.free c.args.self.now.entries (sym (returns-then-place-len-clause-taken c)))

pub returns-then-not-is_same-clause-taken : goal.returns-then-not-is_same-clause-taken
returns-then-not-is_same-clause-taken c =
    let es : List Free = c.self.inside.entries.list in
    let seen : es ≡ c.args.self.now.entries = ap (λ (i : Index). i.entries) c.self.view_is in
    let here = slice_get_or es c.place_of-place.result c.get.result.now c.get.ensures.entry in
    sym (ap (is_there c.args.free) (sym seen)
    ∙ not-there c.args.free es c.place_of-place.result c.self.invariant c.place_of-place.ensures.cut
    (λ d lt. ap (is_same c.args.free) (get_or_default es c.place_of-place.result d c.get.result.now lt ∙ sym here.1)
    ∙ sym c.is_same.ensures ∙ c.if-not-is_same.true))

pub returns-then-not-is_same-clause-entries : goal.returns-then-not-is_same-clause-entries
returns-then-not-is_same-clause-entries c =
    sym (none-without c.args.free c.args.self.now.entries (sym (returns-then-not-is_same-clause-taken c)))

pub invariant_of-self : goal.invariant_of-self
invariant_of-self c =
    let es : List Free = c.self.inside.entries.list in
    let here = slice_get_or es c.place_of-place.result c.get.result.now c.get.ensures.entry in
    let same : is_same c.args.free (get_or es c.place_of-place.result c.get.result.now) ≡ true =
    ap (is_same c.args.free) (sym here.1) ∙ sym c.is_same.ensures ∙ c.if-not-is_same.false in
    subst Rises (sym (c.remove.ensures.list ∙ remove-is c.args.free es c.place_of-place.result c.get.result.now
    c.place_of-place.ensures.cut here.0 same))
    (rises-without c.args.free es c.self.invariant)

pub returns-clause-entries : goal.returns-clause-entries
returns-clause-entries c =
    let es : List Free = c.self.inside.entries.list in
    let seen : es ≡ c.args.self.now.entries = ap (λ (i : Index). i.entries) c.self.view_is in
    let here = slice_get_or es c.place_of-place.result c.get.result.now c.get.ensures.entry in
    let same : is_same c.args.free (get_or es c.place_of-place.result c.get.result.now) ≡ true =
    ap (is_same c.args.free) (sym here.1) ∙ sym c.is_same.ensures ∙ c.if-not-is_same.false in
    c.remove.ensures.list
    ∙ remove-is c.args.free es c.place_of-place.result c.get.result.now c.place_of-place.ensures.cut here.0 same
    ∙ ap (without_free c.args.free) seen

pub returns-clause-taken : goal.returns-clause-taken
returns-clause-taken c =
    let es : List Free = c.self.inside.entries.list in
    let seen : es ≡ c.args.self.now.entries = ap (λ (i : Index). i.entries) c.self.view_is in
    let here = slice_get_or es c.place_of-place.result c.get.result.now c.get.ensures.entry in
    let same : is_same c.args.free (get_or es c.place_of-place.result c.get.result.now) ≡ true =
    ap (is_same c.args.free) (sym here.1) ∙ sym c.is_same.ensures ∙ c.if-not-is_same.false in
    sym (ap (is_there c.args.free) (sym seen)
    ∙ there c.args.free es c.place_of-place.result c.get.result.now c.place_of-place.ensures.cut here.0 same)
