-- The reconciliations of an account form a chain (GnuCash Manual, reconciling; that they form a chain is a rule of this
-- project).
use Rattle.std.specs.Prelude.{◌≡◌, ℕ, ◌≤◌, ℤ, nat_lt, not, Bool, true, false, ◌&&◌, List, [], ◌∷◌, ◌++◌, filter}
use Rattle.std.specs.Prelude.{map, Some}
use Rattle.std.specs.List.{list_all}
use Rattle.book_commodity.specs.Table.{value_of}
use Rattle.book_splits.specs.Balance.{total}
use Rattle.book_splits.specs.declared.reconciliation.Recon.{Recon}
use Rattle.book_splits.specs.declared.transaction.Txn.{Txn}
use Rattle.book_undo.specs.Book.{Book}
use Rattle.book_reconcile.specs.Reconciliation.{is_intact}
use Rattle.book_sound.specs.Naming.{reconciliation_names}
use Rattle.book_sound.specs.ReconciliationRules.{marked_sum}
use Rattle.book_command.specs.declared.command.Update.{Update}
use Rattle.book_command.specs.declared.command.Update.TheVariants.{Reconcile, ReconcileStatement}

-- ---- the chain

-- The reconciliations of an account, in the order of their numbers.
abbrev pub of_account : ℕ → List (ℕ × Recon) → List (ℕ × Recon)
of_account account reconciliations = filter (λ entry. reconciliation_names account entry.1) reconciliations

-- Those of them up to a number: none has a greater one.
abbrev pub up_to : ℕ → ℕ → List (ℕ × Recon) → List (ℕ × Recon)
up_to number account reconciliations =
    filter (λ entry. reconciliation_names account entry.1 && not (nat_lt number entry.0)) reconciliations

-- Whether the records of reconciliations are all intact among the transactions.
abbrev pub are_intact : List (ℕ × Txn) → List (ℕ × Recon) → Bool
are_intact transactions reconciliations =
    list_all (λ entry. is_intact entry.0 entry.1 transactions) reconciliations

-- The sum of the quantities of all their lists.
abbrev pub sum_of_lists : List (ℕ × Recon) → ℤ
sum_of_lists reconciliations = total (map (λ entry. marked_sum entry.1.marked) reconciliations)

-- A book is chained: for each reconciliation, where it and those of its account with smaller numbers are intact, the
-- quantities of all their lists sum to its closing balance.
pub record IsChained (book : Book) : Type 0 where
  pub each : (number : ℕ) (reconciliation : Recon) → value_of number book.reconciliations ≡ Some reconciliation
      → are_intact book.transactions (up_to number reconciliation.account book.reconciliations) ≡ true
      → sum_of_lists (up_to number reconciliation.account book.reconciliations) ≡ reconciliation.closing

-- A reconciliation stands in a book, and is the last of its account: none with a greater number is of that account.
pub record IsLast (book : Book) (number : ℕ) (reconciliation : Recon) : Type 0 where
  pub there : value_of number book.reconciliations ≡ Some reconciliation
  pub last : (other : ℕ) (found : Recon) → value_of other book.reconciliations ≡ Some found
      → found.account ≡ reconciliation.account → other ≤ number

-- ---- what a change leaves

-- Each reconciliation of a book is in another under its number, as it was; and one that isn't intact in the first isn't
-- intact in the other.
pub record KeepsBroken (old new : Book) : Type 0 where
  pub stays : (number : ℕ) (reconciliation : Recon) → value_of number old.reconciliations ≡ Some reconciliation
      → value_of number new.reconciliations ≡ Some reconciliation
  pub broken : (number : ℕ) (reconciliation : Recon) → value_of number old.reconciliations ≡ Some reconciliation
      → is_intact number reconciliation old.transactions ≡ false
      → is_intact number reconciliation new.transactions ≡ false

-- A book has one reconciliation more, under a number and behind the others, and it is intact there.
pub record AddsIntact (number : ℕ) (old new : Book) : Type 0 where
  pub reconciliation : Recon
  pub behind : new.reconciliations ≡ old.reconciliations ++ (number, reconciliation) ∷ []
  pub intact : is_intact number reconciliation new.transactions ≡ true

-- Whether a change is a reconciliation.
abbrev pub is_reconciling : Update → Bool
is_reconciling (Reconcile account day closing) = true
is_reconciling (ReconcileStatement statement) = true
is_reconciling _ = false
