use Rattle.std.proofs.Common.{◌≡◌, ◌++◌, drop}
use Rattle.book_step.specs.BankLines.{lines_of}
use Rattle.book_step.proofs.bank_questions.lines_of.Given as goal

abbrev pub invariant-loop-number : goal.invariant-loop-number
invariant-loop-number l =
    l.shown ++ lines_of l.account (drop l.number-index l.lines) ≡ lines_of l.account l.lines
