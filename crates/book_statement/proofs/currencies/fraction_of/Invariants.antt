use Rattle.std.proofs.Common.{◌≡◌, drop}
use Rattle.book_statement.specs.Currencies.{fraction_of}
use Rattle.book_statement.proofs.currencies.fraction_of.Given as goal

-- no currency before the place has the code
abbrev pub invariant-loop-place : goal.invariant-loop-place
invariant-loop-place l = fraction_of l.code (drop l.place l.known.entries) ≡ fraction_of l.code l.known.entries
