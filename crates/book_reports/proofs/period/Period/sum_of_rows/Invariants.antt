use Rattle.std.proofs.Common.{◌≡◌, take}
use Rattle.book_register.specs.Register.{balance}
use Rattle.book_reports.specs.Measure.{rows_in}
use Rattle.book_reports.proofs.period.Period.sum_of_rows.Given as goal

-- the rows so far were added up
abbrev pub invariant-loop-place : goal.invariant-loop-place
invariant-loop-place l = l.sum ≡ balance (rows_in l.self (take l.place l.register.rows))
