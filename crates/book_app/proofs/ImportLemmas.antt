-- What is said of a command is said of the import that it is.
use Rattle.std.proofs.Common.{◌≡◌, ℕ, List, Result, Err, IfOk, subst}
use Rattle.book_command.specs.declared.command.Command.{Command}
use Rattle.book_lines.specs.Marks.{IsAnswer}
use Rattle.book_lines.specs.declared.machine.Unanswered.{Unanswered}
use Rattle.book_lines.specs.declared.machine.Unanswered.TheVariants.{Keeper}
use Rattle.book_engine.specs.Acting.{IsChange}
use Rattle.book_engine.specs.Machine.{Machine, step}
use Rattle.book_app.specs.Machine.{IsOutcome}

-- the outcome of a command is that of the one which it equals
pub outcome_same :
    (result : Result (List ℕ) Unanswered) (old new : Machine) (one other : Command) → one ≡ other
    → IfOk result (λ text. IsAnswer text × IsOutcome (step old one) old text new)
    → IfOk result (λ text. IsAnswer text × IsOutcome (step old other) old text new)
outcome_same result old new one other same told =
    subst (λ (command : Command). IfOk result (λ text. IsAnswer text × IsOutcome (step old command) old text new))
    same told

-- and so is its change
pub change_same :
    (result : Result (List ℕ) Unanswered) (old : Machine) (one other : Command) → one ≡ other
    → (result ≡ Err Keeper → IsChange old (step old one)) → (result ≡ Err Keeper → IsChange old (step old other))
change_same result old one other same told =
    subst (λ (command : Command). result ≡ Err Keeper → IsChange old (step old command)) same told
