use Rattle.std.proofs.Common.{sym, ◌∙◌}
use Rattle.book_step.specs.SameTransaction.{same_split}
use Rattle.book_commodity.proofs.PairLemmas.{pairs-end, pairs-other, pairs-same}
use Rattle.book_step.proofs.same_transaction.are_same.Goals as goal

pub returns-then-not-is_same_split : goal.returns-then-not-is_same_split
returns-then-not-is_same_split c =
    sym (c.loop-place.invariant
    ∙ pairs-other (λ a b. (same_split a b).is) c.args.splits.now c.args.others.now c.loop-place.place
    c.index-splits-place.result c.index-others-place.result c.loop-place-test.true c.if-splits-others.false
    c.index-splits-place.is c.index-others-place.is
    (sym c.is_same_split.ensures ∙ c.if-not-is_same_split.true))

pub loop-place-preserved : goal.loop-place-preserved
loop-place-preserved c =
    c.loop-place.invariant
    ∙ pairs-same (λ a b. (same_split a b).is) c.args.splits.now c.args.others.now c.loop-place.place
    c.index-splits-place.result c.index-others-place.result c.loop-place-test.true c.if-splits-others.false
    c.index-splits-place.is c.index-others-place.is
    (sym c.is_same_split.ensures ∙ c.if-not-is_same_split.false)

pub returns : goal.returns
returns c =
    sym (c.loop-place.invariant
    ∙ pairs-end (λ a b. (same_split a b).is) c.args.splits.now c.args.others.now c.loop-place.place
    c.loop-place-test.false c.if-splits-others.false)
