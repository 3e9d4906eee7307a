use Rattle.std.proofs.Common.{FitsSigned, w64, ℕ, ◌+◌, List, [], ◌++◌, string_bytes, take, ap, ◌∙◌, rules, arith}
use Rattle.std.proofs.lemmas.Int.{ints}
use Rattle.book_register.specs.Register.{balance}
use Rattle.book_register.specs.declared.entry.Entry.{Entry}
use Rattle.book_limits.specs.Limits.{largest_sum}
use Rattle.book_reports.specs.Measure.{fraction_of}
use Rattle.book_reports.specs.RegisterText.{rows_after}
use Rattle.book_reports.proofs.LineLemmas.{within}
use Rattle.book_reports.proofs.RowLemmas.{balance_next, balance_small, first_can_be_summed, rows_end, rows_next}
use Rattle.book_reports.proofs.register_report.add_rows.Goals as goal

pub overflow_add-balance : goal.overflow_add-balance
overflow_add-balance c =
    let rows = c.register-register.result.now.rows in
    let i = c.loop-place.place in
    let can = c.register-register.ensures.summed in
    let fits : FitsSigned w64 c.row-row.result.quantity = search rules in
    let next = balance_next rows i c.row-row.result c.row-row.ensures.row in
    let before = balance_small (take i rows) (first_can_be_summed rows i can) in
    let after = balance_small (take (i + 1) rows) (first_can_be_summed rows (i + 1) can) in
    search (rules, fits, next, before, after, c.loop-place.invariant.1, c.from-balance.ensures)

pub loop-place-preserved : goal.loop-place-preserved
loop-place-preserved c =
    let rows = c.register-register.result.now.rows in
    let i = c.loop-place.place in
    let can = c.register-register.ensures.summed in
    let fits : FitsSigned w64 c.row-row.result.quantity = search rules in
    let next = balance_next rows i c.row-row.result c.row-row.ensures.row in
    let before = within largest_sum (balance (take i rows))
    (balance_small (take i rows) (first_can_be_summed rows i can)) in
    let after = within largest_sum (balance (take (i + 1) rows))
    (balance_small (take (i + 1) rows) (first_can_be_summed rows (i + 1) can)) in (
      rows_next c.args.form c.args.view.now c.fraction-fraction.result c.args.period.now rows i c.row-row.result _
          (string_bytes c.loop-place.out) (string_bytes c.add_row.new.out) _ c.row-row.ensures.row c.in_ok-add_row.ensures
          c.loop-place.invariant.0
          (omega (arith, ints, fits, next, before.0, before.1, after.0, after.1, c.loop-place.invariant.1, c.from-balance.ensures)),
      omega (arith, ints, fits, next, before.0, before.1, after.0, after.1, c.loop-place.invariant.1, c.from-balance.ensures),
    )

pub returns : goal.returns
returns c =
    let book = c.args.view.now in
    let rows = c.register-register.result.now.rows in
    let text : ℕ → List Entry → List ℕ =
    λ fraction of. string_bytes c.args.out.now ++ rows_after c.args.form book fraction c.args.period.now [] of in
    rows_end c.args.form book c.fraction-fraction.result c.args.period.now rows c.loop-place.place
    (string_bytes c.loop-place.out) _ (omega (arith, c.len-place-end.ensures.len)) c.loop-place.invariant.0
    ∙ ap (λ (n : ℕ). text n rows)
    (c.fraction-fraction.ensures.fraction ∙ ap (fraction_of book.commodities) c.commodity_of.ensures)
    ∙ ap (text (fraction_of book.commodities _)) c.register-register.ensures.rows
