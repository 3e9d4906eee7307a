-- Where both are voided, what is kept of them decides.
use Rattle.std.proofs.Common.{Option, Some, sym, ap, ◌∙◌}
use Rattle.book_splits.specs.declared.void.Void.{Void}
use Rattle.book_step.specs.SameTransaction.{same_voided}
use Rattle.book_step.proofs.same_transaction.is_same_voided.Goals as goal

pub returns-in-Some-Some : goal.returns-in-Some-Some
returns-in-Some-Some c =
    c.is_same_void.ensures
    ∙ sym (ap (λ (v : Option Void). (same_voided v c.args.other.now).is) c.in-Some-Some.is-0
    ∙ ap (λ (o : Option Void). (same_voided (Some c.in-Some-Some.void) o).is) c.in-Some-Some.is-1)
