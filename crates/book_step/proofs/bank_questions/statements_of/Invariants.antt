use Rattle.std.proofs.Common.{◌≡◌, ◌++◌, drop}
use Rattle.book_step.specs.BankLines.{statements_of}
use Rattle.book_step.proofs.bank_questions.statements_of.Given as goal

abbrev pub invariant-loop-number : goal.invariant-loop-number
invariant-loop-number l =
    l.shown ++ statements_of l.account (drop l.number-index l.statements) ≡ statements_of l.account l.statements
