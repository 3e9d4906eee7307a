use Rattle.std.proofs.Common.{sym, ◌∙◌, arith}
use Rattle.book_commodity.proofs.ListLemmas.{any-here, any-later, any-end}
use Rattle.book_step.specs.Editing.{is_same_part}
use Rattle.book_step.proofs.editing.has_part.Goals as goal

pub returns-then-is_same_part : goal.returns-then-is_same_part
returns-then-is_same_part c =
    sym (c.loop-other.invariant
    ∙ any-here (is_same_part c.args.split.now) c.args.later.now c.loop-other.other-index c.other-item.result
    c.loop-other-test.true c.other-item.is (sym c.is_same_part.ensures ∙ c.if-is_same_part.true))

pub loop-other-preserved : goal.loop-other-preserved
loop-other-preserved c =
    c.loop-other.invariant
    ∙ any-later (is_same_part c.args.split.now) c.args.later.now c.loop-other.other-index c.other-item.result
    c.loop-other-test.true c.other-item.is (sym c.is_same_part.ensures ∙ c.if-is_same_part.false)

pub returns : goal.returns
returns c = sym (c.loop-other.invariant
    ∙ any-end (is_same_part c.args.split.now) c.args.later.now c.loop-other.other-index
    (omega (arith, c.loop-other-test.false)))
