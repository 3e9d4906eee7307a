-- None of the bindings so far has the text.
use Rattle.std.proofs.Common.{◌≡◌, drop}
use Rattle.book_step.specs.Importing.{bound_account}
use Rattle.book_step.proofs.bound_statements.bound_account.Given as goal

abbrev pub invariant-loop-binding : goal.invariant-loop-binding
invariant-loop-binding l = bound_account (drop l.binding-index l.bindings) l.text ≡ bound_account l.bindings l.text
