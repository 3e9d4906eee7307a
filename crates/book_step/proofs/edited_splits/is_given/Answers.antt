use Rattle.std.proofs.Common.{sym, ◌∙◌, arith}
use Rattle.book_splits.specs.TransactionRules.{is_among}
use Rattle.book_commodity.proofs.ListLemmas.{any-here, any-later, any-end}
use Rattle.book_step.specs.Editing.{number_given}
use Rattle.book_step.proofs.EditedSplitLemmas.{among-given}
use Rattle.book_step.proofs.edited_splits.is_given.Goals as goal

pub returns-then-has_number : goal.returns-then-has_number
returns-then-has_number c =
    sym (among-given c.args.given.now c.args.id ∙ c.loop-split.invariant
    ∙ any-here (λ split. is_among (number_given split.id) c.args.id) c.args.given.now c.loop-split.split-index
    c.split-item.result c.loop-split-test.true c.split-item.is (sym c.has_number.ensures ∙ c.if-has_number.true))

pub loop-split-preserved : goal.loop-split-preserved
loop-split-preserved c =
    c.loop-split.invariant
    ∙ any-later (λ split. is_among (number_given split.id) c.args.id) c.args.given.now c.loop-split.split-index
    c.split-item.result c.loop-split-test.true c.split-item.is (sym c.has_number.ensures ∙ c.if-has_number.false)

pub returns : goal.returns
returns c = sym (among-given c.args.given.now c.args.id ∙ c.loop-split.invariant
    ∙ any-end (λ split. is_among (number_given split.id) c.args.id) c.args.given.now c.loop-split.split-index
    (omega (arith, c.loop-split-test.false)))
