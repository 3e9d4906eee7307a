use Rattle.std.proofs.Common.{FitsSigned, w64, ℕ, ◌+◌, List, [], ◌++◌, take, ap, ◌∙◌, rules, arith}
use Rattle.std.proofs.lemmas.Int.{ints}
use Rattle.book_register.specs.Register.{balance}
use Rattle.book_register.specs.declared.entry.Entry.{Entry}
use Rattle.book_limits.specs.Limits.{largest_sum}
use Rattle.book_reports.specs.Measure.{fraction_of}
use Rattle.book_reports.proofs.LineLemmas.{within}
use Rattle.book_reports.proofs.RowLemmas.{balance_next, balance_small, first_can_be_summed}
use Rattle.book_statement.specs.declared.line.Line.{Line}
use Rattle.book_undo.specs.Book.{Book}
use Rattle.book_listings.specs.Account.{line_of, matched_of, rows_after}
use Rattle.book_listings.proofs.RegisterLemmas.{rows_end, rows_next}
use Rattle.book_listings.proofs.account.add_rows.Goals as goal

pub overflow_add-balance : goal.overflow_add-balance
overflow_add-balance c =
    let rows = c.register-register.result.now.rows in
    let i = c.loop-place.place in
    let can = c.register-register.ensures.summed in
    let fits : FitsSigned w64 c.row-row.result.quantity = search rules in
    let next = balance_next rows i c.row-row.result c.row-row.ensures.row in
    let before = balance_small (take i rows) (first_can_be_summed rows i can) in
    let after = balance_small (take (i + 1) rows) (first_can_be_summed rows (i + 1) can) in
    search (rules, fits, next, before, after, c.loop-place.invariant.1, c.from.ensures)

pub loop-place-preserved : goal.loop-place-preserved
loop-place-preserved c =
    let rows = c.register-register.result.now.rows in
    let i = c.loop-place.place in
    let can = c.register-register.ensures.summed in
    let fits : FitsSigned w64 c.row-row.result.quantity = search rules in
    let next = balance_next rows i c.row-row.result c.row-row.ensures.row in
    let before = within largest_sum (balance (take i rows))
    (balance_small (take i rows) (first_can_be_summed rows i can)) in
    let after = within largest_sum (balance (take (i + 1) rows))
    (balance_small (take (i + 1) rows) (first_can_be_summed rows (i + 1) can)) in (
      rows_next c.args.book.now c.line_of-line.result c.in_ok-lines.lines.items c.fraction-fraction.result rows i
          c.row-row.result _ _ _ _ _
          (c.line_of-line.ensures ∙ c.in_ok-by_split.ensures c.row-row.result.split
          ∙ ap (line_of c.row-row.result.split) c.as_slice-2.ensures.value)
          c.row-row.ensures.row c.in_ok-register_row.ensures c.in_ok-push.ensures.added c.loop-place.invariant.0
          (omega (arith, ints, fits, next, before.0, before.1, after.0, after.1, c.loop-place.invariant.1, c.from.ensures)),
      omega (arith, ints, fits, next, before.0, before.1, after.0, after.1, c.loop-place.invariant.1, c.from.ensures),
    )

pub returns : goal.returns
returns c =
    let book = c.args.book.now in
    let rows = c.register-register.result.now.rows in
    let all : List (ℕ × ℕ) → ℕ → List Entry → List (List (List ℕ)) =
    λ lines fraction of. c.args.rows.now ++ rows_after book lines fraction [] of in
    let matched = matched_of c.args.account book.lines in
    rows_end book c.in_ok-lines.lines.items c.fraction-fraction.result rows c.loop-place.place _ _ (omega (arith, c.len-place-end.ensures.len))
    c.loop-place.invariant.0
    ∙ ap (λ (l : List (ℕ × ℕ)). all l c.fraction-fraction.result rows) c.in_ok-lines.ensures
    ∙ ap (λ (l : List (ℕ × Line)). all (matched_of c.args.account l) c.fraction-fraction.result rows)
    (c.as_slice.ensures ∙ ap (λ (b : Book). b.lines) c.plain.ensures)
    ∙ ap (λ (n : ℕ). all matched n rows) (c.fraction-fraction.ensures ∙ ap (fraction_of book.commodities) c.commodity_of.ensures)
    ∙ ap (all matched (fraction_of book.commodities _)) c.register-register.ensures.rows
