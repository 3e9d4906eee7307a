use Rattle.std.proofs.Common.{◌+◌, ◌^◌, map, take, ap, rules, arith}
use Rattle.std.proofs.lemmas.Int.{ints}
use Rattle.book_splits.specs.Balance.{total}
use Rattle.book_reports.specs.Sections.{amount_in}
use Rattle.book_reports.specs.declared.lines.Line.{Line}
use Rattle.book_reports.proofs.LineLemmas.{first_small, item_small, total_next, within}
use Rattle.book_reports.proofs.lines.Lines.sum.Goals as goal

pub overflow_add-sum : goal.overflow_add-sum
overflow_add-sum c =
    let lines = c.as_slice-line-items.result.now in
    let can = c.loop-line.invariant.1 in
    let before = first_small lines c.loop-line.line-index can in
    let item = item_small lines c.loop-line.line-index c.line-item.result can c.loop-line-test.true in
    search (rules, before, item, c.line-item.is, c.amount_in-sum.ensures, c.loop-line.invariant.0)

pub returns-clause-small : goal.returns-clause-small
returns-clause-small c =
    let before = first_small c.as_slice-line-items.result.now c.loop-line.line-index c.loop-line.invariant.1 in
    search (rules, before, c.loop-line.invariant.0)

pub loop-line-preserved : goal.loop-line-preserved
loop-line-preserved c =
    let lines = c.as_slice-line-items.result.now in
    let i = c.loop-line.line-index in
    let can = c.loop-line.invariant.1 in
    let next = total_next (λ (l : Line). amount_in l.worth) lines i c.line-item.result c.loop-line-test.true in
    let item = ap (λ (l : Line). amount_in l.worth) c.line-item.is in
    let before = within (10 ^ 34) (total (map (λ (l : Line). amount_in l.worth) (take i lines)))
    (first_small lines i can) in
    let after = within (10 ^ 34) (total (map (λ (l : Line). amount_in l.worth) (take (i + 1) lines)))
    (first_small lines (i + 1) can) in (
      omega (arith, ints, next, item, before.0, before.1, after.0, after.1, c.amount_in-sum.ensures, c.loop-line.invariant.0),
      can,
    )
