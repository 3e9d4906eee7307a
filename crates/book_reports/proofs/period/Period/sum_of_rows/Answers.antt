use Rattle.std.proofs.Common.{◌+◌, take, rules, arith}
use Rattle.std.proofs.lemmas.Int.{ints}
use Rattle.book_register.specs.Register.{balance}
use Rattle.book_limits.specs.Limits.{largest_sum}
use Rattle.book_reports.specs.Measure.{rows_in}
use Rattle.book_reports.proofs.LineLemmas.{within}
use Rattle.book_reports.proofs.RowLemmas.{first_can_be_summed, period_small, sum_next}
use Rattle.book_reports.proofs.period.Period.sum_of_rows.Goals as goal

pub overflow_add-sum : goal.overflow_add-sum
overflow_add-sum c =
    let rows = c.args.register.now.rows in
    let i = c.loop-place.place in
    let before = period_small c.args.self.now (take i rows) (first_can_be_summed rows i c.requires) in
    let after = period_small c.args.self.now (take (i + 1) rows) (first_can_be_summed rows (i + 1) c.requires) in
    let next = sum_next c.args.self.now rows i c.row-row.result c.row-row.ensures.row in
    search (rules, before, after, next, c.quantity_in.ensures)

pub loop-place-preserved : goal.loop-place-preserved
loop-place-preserved c =
    let rows = c.args.register.now.rows in
    let i = c.loop-place.place in
    let next = sum_next c.args.self.now rows i c.row-row.result c.row-row.ensures.row in
    let before = within largest_sum (balance (rows_in c.args.self.now (take i rows)))
    (period_small c.args.self.now (take i rows) (first_can_be_summed rows i c.requires)) in
    let after = within largest_sum (balance (rows_in c.args.self.now (take (i + 1) rows)))
    (period_small c.args.self.now (take (i + 1) rows) (first_can_be_summed rows (i + 1) c.requires)) in
    omega (arith, ints, next, before.0, before.1, after.0, after.1, c.quantity_in.ensures, c.loop-place.invariant)

pub returns-clause-small : goal.returns-clause-small
returns-clause-small c =
    let rows = c.args.register.now.rows in
    let i = c.loop-place.place in
    let before = period_small c.args.self.now (take i rows) (first_can_be_summed rows i c.requires) in
    search (rules, before, c.loop-place.invariant)
