use Rattle.std.proofs.Common.{◌+◌, ◌^◌, map, take, ap, rules, arith}
use Rattle.std.proofs.lemmas.Int.{ints}
use Rattle.book_splits.specs.Balance.{total}
use Rattle.book_reports.proofs.LineLemmas.{debits_small, side_small, total_next, within}
use Rattle.book_reports.specs.declared.trial_balance.TrialLine.{TrialLine}
use Rattle.book_reports.proofs.trial_balance.TrialLines.debits.Goals as goal

pub overflow_add-sum : goal.overflow_add-sum
overflow_add-sum c =
    let lines = c.as_slice-line-items.result.now in
    let can = c.loop-line.invariant.1 in
    let before = debits_small lines c.loop-line.line-index can in
    let item = side_small lines c.loop-line.line-index c.line-item.result can c.loop-line-test.true in
    search (rules, before, item, c.line-item.is, c.loop-line.invariant.0)

pub loop-line-preserved : goal.loop-line-preserved
loop-line-preserved c =
    let lines = c.as_slice-line-items.result.now in
    let i = c.loop-line.line-index in
    let can = c.loop-line.invariant.1 in
    let next = total_next (λ (l : TrialLine). l.debit) lines i c.line-item.result c.loop-line-test.true in
    let item = ap (λ (l : TrialLine). l.debit) c.line-item.is in
    let before = within (10 ^ 34) (total (map (λ (l : TrialLine). l.debit) (take i lines))) (debits_small lines i can) in
    let after = within (10 ^ 34) (total (map (λ (l : TrialLine). l.debit) (take (i + 1) lines)))
    (debits_small lines (i + 1) can) in
    (omega (arith, ints, next, item, before.0, before.1, after.0, after.1, c.loop-line.invariant.0), can)
