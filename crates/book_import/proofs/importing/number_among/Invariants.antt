-- None of those so far is equal, so that the first is among those that are left.
use Rattle.std.proofs.Common.{◌≡◌, drop}
use Rattle.book_import.specs.Import.{number_among}
use Rattle.book_import.proofs.importing.number_among.Given as goal

abbrev pub invariant-loop-number : goal.invariant-loop-number
invariant-loop-number l = number_among l.statement l.statements ≡ number_among l.statement (drop l.number-index l.statements)
