use Rattle.std.proofs.Common.{◌≡◌, [], ◌++◌, drop, string_bytes, take}
use Rattle.book_register.specs.Register.{balance}
use Rattle.book_reports.specs.RegisterText.{rows_after}
use Rattle.book_reports.proofs.register_report.add_rows.Given as goal

-- what was added, with the rows that are left, is the whole text; and the balance is that of the rows so far
abbrev pub invariant-loop-place : goal.invariant-loop-place
invariant-loop-place l =
    (string_bytes l.out ++ rows_after l.form l.view l.fraction l.period (take l.place l.register.rows) (drop l.place l.register.rows)
    ≡ string_bytes l.fn.out ++ rows_after l.form l.view l.fraction l.period [] l.register.rows)
    × (l.balance ≡ balance (take l.place l.register.rows))
