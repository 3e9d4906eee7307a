-- The number of one transaction more; and the sorted numbers are those found.
use Rattle.std.proofs.Common.{ℕ, List, [], ◌∷◌, ◌++◌, ap, subst, ◌∙◌}
use Rattle.std.proofs.lemmas.List.{take_all}
use Rattle.book_match.specs.declared.views.Matched.{Matched}
use Rattle.book_step.specs.Marking.{Held}
use Rattle.book_step.specs.Soundness.{IsSound}
use Rattle.book_step.specs.State.{State}
use Rattle.book_step.proofs.NearLemmas.{HaveNumbers, all_touched, numbers-more}
use Rattle.book_step.proofs.clearing.numbers_nearby.Goals as goal

pub loop-pair-preserved : goal.loop-pair-preserved
loop-pair-preserved c =
    let found : List ℕ = c.loop-pair.numbers.items in
    numbers-more c.args.present.now.book.transactions c.args.pairs.now c.loop-pair.pair-index _ c.in-Some.held found
    c.push.new.self.items c.loop-pair-test.true c.in-Some.ensures.there
    (c.in_ok-push.ensures.items ∙ ap (λ (h : Held). found ++ h.number ∷ []) c.held.view_is) c.loop-pair.invariant

pub returns-clause-has : goal.returns-clause-has
returns-clause-has c =
    let pairs = c.args.pairs.now in
    let book = c.args.present.now.book in
    let found = c.loop-pair.numbers.items in
    let sound = subst (λ (s : State). IsSound s) c.present.view_is c.present.invariant in
    all_touched book pairs found c.sort_once.new.numbers.items sound.book
    (subst (λ (ps : List Matched). HaveNumbers book.transactions found ps)
    (take_all c.loop-pair.pair-index pairs c.loop-pair-test.false) c.loop-pair.invariant)
    c.sort_once.ensures.keeps
