use Rattle.std.proofs.Common.{take}
use Rattle.book_reports.specs.Measure.{rows_in}
use Rattle.book_reports.specs.Sums.{AreSums}
use Rattle.book_reports.proofs.sums.sums_of.Given as goal

-- the rows so far were added up
abbrev pub invariant-loop-place : goal.invariant-loop-place
invariant-loop-place l = AreSums (rows_in l.period (take l.place l.register.rows)) l.sums.entries
