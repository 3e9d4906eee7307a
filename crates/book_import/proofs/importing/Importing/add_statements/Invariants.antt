-- What is left of the file leads to what all of it leads to.
use Rattle.book_import.proofs.StepLemmas.{StatementsLeft}
use Rattle.book_import.proofs.importing.Importing.add_statements.Given as goal

abbrev pub invariant-loop-bound : goal.invariant-loop-bound
invariant-loop-bound l = StatementsLeft l.statements l.file l.bound-index l.fn.self l.self
