-- The rules that each transaction of a book keeps whose splits may be marked.
use Rattle.std.specs.Prelude.{ℕ, ◌==◌, not, Bool, true, false, ◌&&◌, List, [], ◌∷◌, Option, Some, None, is_none}
use Rattle.std.specs.List.{list_all, list_any}
use Rattle.std.specs.Ordering.{int_eq}
use Rattle.book_commodity.specs.Rules.{stands_before}
use Rattle.book_commodity.specs.Table.{value_of}
use Rattle.book_commodity.specs.declared.commodity.Commodity.{Commodity}
use Rattle.book_accounts.specs.declared.account.Account.{Account}
use Rattle.book_splits.specs.TransactionRules.{are_once, numbers_of, share_numbers}
use Rattle.book_splits.specs.declared.reconciliation.MarkedSplit.{MarkedSplit}
use Rattle.book_splits.specs.declared.reconciliation.Recon.{Recon}
use Rattle.book_splits.specs.declared.split.Mark.{Mark}
use Rattle.book_splits.specs.declared.split.Mark.TheVariants.{New, Cleared, Reconciled, Voided}
use Rattle.book_splits.specs.declared.split.Split.{Split}
use Rattle.book_splits.specs.declared.transaction.Txn.{Txn}
use Rattle.book_splits.specs.declared.void.Void.{Void}
pub use Rattle.book_void.specs.Voiding.{is_rightly_voided, keeps_as_many}
use Rattle.book_void.specs.Voiding.{restored}
use Rattle.book_sound.specs.Tests.{passes_check}

-- Whether it is the mark of a split that was reconciled with a bank statement (GnuCash SQL schema, column
-- reconcile_state of splits).
abbrev pub is_reconciled : Mark → Bool
is_reconciled Reconciled = true
is_reconciled _ = false

-- Whether a marked split is this one: it has its number and its present quantity.
abbrev pub is_marked_as : Split → MarkedSplit → Bool
is_marked_as split marked = (marked.split == split.id) && int_eq marked.quantity split.quantity

-- Whether there is a reconciliation, and it has marked the split: it is one of the split's account, and its list holds
-- the split with its present quantity.
abbrev pub has_marked : Split → Option Recon → Bool
has_marked split None = false
has_marked split (Some reconciliation) =
    (reconciliation.account == split.account) && list_any (is_marked_as split) reconciliation.marked

-- Whether the reconciliation that a split names, if it names one, has marked it.
abbrev pub is_named_rightly : List (ℕ × Recon) → Split → Option ℕ → Bool
is_named_rightly reconciliations split None = false
is_named_rightly reconciliations split (Some number) = has_marked split (value_of number reconciliations)

-- Whether a mark is one that a split of a transaction may have which is not voided: where it is reconciled, the split
-- names a reconciliation that has marked it; where it is new or cleared, the split names none (GnuCash Manual,
-- reconciling). It is not the mark of a voided split.
abbrev pub fits_mark : List (ℕ × Recon) → Split → Mark → Bool
fits_mark reconciliations split New = is_none split.recon
fits_mark reconciliations split Cleared = is_none split.recon
fits_mark reconciliations split Reconciled = is_named_rightly reconciliations split split.recon
fits_mark reconciliations split Voided = false

-- Whether a split is rightly marked, where its transaction is not voided.
abbrev pub is_rightly_marked : List (ℕ × Recon) → Split → Bool
is_rightly_marked reconciliations split = fits_mark reconciliations split split.mark

-- Whether the splits of a transaction are as its state says: where it is voided each is rightly voided, and else each
-- is rightly marked.
abbrev pub are_rightly_marked : List (ℕ × Recon) → Option Void → List Split → Bool
are_rightly_marked reconciliations None splits = list_all (is_rightly_marked reconciliations) splits
are_rightly_marked reconciliations (Some void) splits = list_all is_rightly_voided splits

-- The rules of a transaction: as it is, or as it is brought back where it is voided, it passes the check of
-- transactions among the commodities and the accounts of the book; each of its splits has a number that no other of
-- them has, and none of a transaction before it; where it is not voided, no split is, and each is reconciled exactly
-- where it names a reconciliation of its account that has marked it; where it is voided, each split is, with amounts of
-- zero and no reconciliation, and the amounts of each are kept (GnuCash Manual, reconciling, and voiding a
-- transaction).
abbrev pub marked_transaction_rules :
    List (ℕ × Commodity) → List (ℕ × Account) → List (ℕ × Recon) → List (ℕ × Txn) → ℕ → Txn → List Bool
marked_transaction_rules commodities accounts reconciliations transactions number transaction =
    passes_check commodities accounts (restored transaction)
    ∷ are_once (numbers_of transaction.splits)
    ∷ not (stands_before (share_numbers transaction) number transactions)
    ∷ are_rightly_marked reconciliations transaction.voided transaction.splits
    ∷ keeps_as_many transaction.voided transaction.splits
    ∷ []
