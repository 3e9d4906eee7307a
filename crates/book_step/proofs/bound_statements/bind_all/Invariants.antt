-- The statements so far have their accounts, and the rules of those that are left are the first that may be broken.
use Rattle.std.proofs.Common.{◌≡◌, ◌++◌, drop, map}
use Rattle.book_commodity.specs.Rules.{first_broken}
use Rattle.book_step.specs.Importing.{bound_to, file_rules}
use Rattle.book_step.proofs.bound_statements.bind_all.Given as goal

abbrev pub invariant-loop-statement : goal.invariant-loop-statement
invariant-loop-statement l = record {
  file : l.file ++ map (bound_to l.present.book.bindings l.given) (drop l.statement-index l.statements)
      ≡ map (bound_to l.present.book.bindings l.given) l.statements;
  rules : first_broken (file_rules l.present.book l.given (drop l.statement-index l.statements))
      ≡ first_broken (file_rules l.present.book l.given l.statements);
}
