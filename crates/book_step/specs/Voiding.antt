-- The commands that void a transaction and bring one back, and the question for the voided splits of an account (GnuCash
-- Manual, voiding a transaction).
use Rattle.std.specs.Prelude.{ℕ, ◌==◌, Bool, List, [], ◌∷◌, ◌++◌, Option, Some, None, if◌then◌else◌}
use Rattle.book_commodity.specs.Table.{value_of, with_entry}
use Rattle.book_commodity.specs.declared.kind.Kind.TheVariants as kind
use Rattle.book_splits.specs.declared.split.Split.{Split}
use Rattle.book_splits.specs.declared.transaction.Txn.{Txn}
use Rattle.book_splits.specs.declared.void.KeptSplit.{KeptSplit}
use Rattle.book_splits.specs.declared.void.Void.{Void}
use Rattle.book_void.specs.Voiding.{restored, voided_for}
use Rattle.book_undo.specs.Book.{Book}
use Rattle.book_command.specs.declared.answer.Answer.TheVariants as answer
use Rattle.book_command.specs.declared.answer.VoidedShown.{VoidedShown}
use Rattle.book_command.specs.declared.rule.Rule.TheVariants.{Unknown}
use Rattle.book_step.specs.Editing.{book_with, reconciled}
use Rattle.book_step.specs.Outcome.{Outcome, Broken, changing}
use Rattle.book_step.specs.State.{State}
use Rattle.book_step.specs.VoidRules.{voided_transaction, not_voided}

-- ---- voiding

-- A transaction is voided for a reason, if it is there: it is not voided yet, and without force it has no reconciled
-- split. Each line that is matched with one of its splits is dismissed.
abbrev pub void_at : State → ℕ → List ℕ → Bool → Option Txn → Outcome
void_at state number reason force None = Broken (Unknown kind.Transaction number)
void_at state number reason force (Some old) =
    changing state (voided_transaction number old ∷ reconciled force old.splits [] ∷ [])
    (book_with state.book number old (voided_for reason old)) 0 answer.Void

-- A transaction of the book is voided for a reason.
abbrev pub void_transaction : State → ℕ → List ℕ → Bool → Outcome
void_transaction state number reason force =
    void_at state number reason force (value_of number state.book.transactions)

-- ---- bringing back

-- The book with a transaction brought back. The lines stay as they are.
abbrev pub book_restored : Book → ℕ → Txn → Book
book_restored book number old =
    record book { transactions = with_entry number (restored old) book.transactions }

-- A transaction is brought back, if it is there and voided.
abbrev pub unvoid_at : State → ℕ → Option Txn → Outcome
unvoid_at state number None = Broken (Unknown kind.Transaction number)
unvoid_at state number (Some old) =
    changing state (not_voided number old ∷ []) (book_restored state.book number old) 0 answer.Unvoid

-- A transaction of the book is brought back.
abbrev pub unvoid_transaction : State → ℕ → Outcome
unvoid_transaction state number = unvoid_at state number (value_of number state.book.transactions)

-- ---- the question

-- A split of a voided transaction, with what was kept of it.
abbrev pub voided_shown : ℕ → List ℕ → Split → KeptSplit → VoidedShown
voided_shown transaction reason split kept = record {
  transaction = transaction;
  split = split.id;
  value = kept.value;
  quantity = kept.quantity;
  reason = reason;
}

-- The splits on an account among those of a voided transaction, by place.
abbrev pub shown_on : ℕ → ℕ → List ℕ → List Split → List KeptSplit → List VoidedShown
shown_on account transaction reason [] kept = []
shown_on account transaction reason (split ∷ more) [] = []
shown_on account transaction reason (split ∷ more) (first ∷ kept) =
    if split.account == account
    then voided_shown transaction reason split first ∷ shown_on account transaction reason more kept
    else shown_on account transaction reason more kept

-- The same of a transaction with its number; none where it is not voided.
abbrev pub shown_where : ℕ → ℕ → List Split → Option Void → List VoidedShown
shown_where account transaction splits None = []
shown_where account transaction splits (Some void) = shown_on account transaction void.reason splits void.kept

-- The splits on an account whose transactions are voided, by the transactions' numbers and by place.
abbrev pub voided_of : ℕ → List (ℕ × Txn) → List VoidedShown
voided_of account [] = []
voided_of account (entry ∷ more) =
    shown_where account entry.0 entry.1.splits entry.1.voided ++ voided_of account more
