-- The number was seen before, or it is seen now.
use Rattle.std.proofs.Common.{pos, ap, sym, ◌∙◌}
use Rattle.book_splits.specs.declared.reconciliation.MarkedSplit.{MarkedSplit}
use Rattle.book_sound.specs.ReconciliationRules.{marked_numbers}
use Rattle.book_check.specs.Numbers.{are_new}
use Rattle.book_check.proofs.ReconciliationLemmas.{once_new, split_next, split_taken}
use Rattle.book_check.proofs.reconciliations.are_once.Goals as goal

abbrev none : MarkedSplit
none = record { split = 0; quantity = pos 0 }

pub loop-split-init : goal.loop-split-init
loop-split-init c =
    once_new (marked_numbers c.args.marked.now)
    ∙ ap (λ seen. are_new seen (marked_numbers c.args.marked.now)) (sym c.new-seen.ensures)

pub returns-then-branch : goal.returns-then-branch
returns-then-branch c =
    sym (c.loop-split.invariant
    ∙ split_taken c.loop-split.seen c.args.marked.now c.loop-split.split-index none c.loop-split-test.true
    (sym c.in_ok-insert.ensures.before ∙ c.if-branch.true))

pub loop-split-preserved : goal.loop-split-preserved
loop-split-preserved c =
    c.loop-split.invariant
    ∙ split_next c.loop-split.seen c.insert.new.self c.args.marked.now c.loop-split.split-index none
    c.loop-split-test.true (sym c.in_ok-insert.ensures.before ∙ c.if-branch.false) c.in_ok-insert.ensures.adds
