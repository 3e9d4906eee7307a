-- The rules of a transaction, in the order in which their names are told, all hold exactly where those do that a sound
-- book has of it.
use Rattle.std.proofs.Common.{◌≡◌, ℕ, Bool, true, false, not, List, [], ◌∷◌, refl}
use Rattle.book_commodity.specs.Rules.{stands_before}
use Rattle.book_commodity.specs.declared.commodity.Commodity.{Commodity}
use Rattle.book_accounts.specs.declared.account.Account.{Account}
use Rattle.book_splits.specs.TransactionRules.{are_once, numbers_of, share_numbers}
use Rattle.book_splits.specs.declared.reconciliation.Recon.{Recon}
use Rattle.book_splits.specs.declared.transaction.Txn.{Txn}
use Rattle.book_void.specs.Voiding.{keeps_as_many, restored}
use Rattle.book_sound.specs.MarkedTransactionRules.{are_rightly_marked, marked_transaction_rules}
use Rattle.book_sound.specs.Tests.{passes_check}
use Rattle.book_check.specs.FirstUnsound.{all_hold}
use Rattle.book_broken.specs.Names.{told_rules}

last_comes_first :
    (keeps passes once apart marked : Bool)
    → all_hold (keeps ∷ passes ∷ once ∷ apart ∷ marked ∷ []) ≡ all_hold (passes ∷ once ∷ apart ∷ marked ∷ keeps ∷ [])
last_comes_first true true true true marked = refl
last_comes_first true true true false marked = refl
last_comes_first true true false apart marked = refl
last_comes_first true false once apart marked = refl
last_comes_first false true true true true = refl
last_comes_first false true true true false = refl
last_comes_first false true true false marked = refl
last_comes_first false true false apart marked = refl
last_comes_first false false once apart marked = refl

pub told_hold :
    (commodities : List (ℕ × Commodity)) (accounts : List (ℕ × Account)) (reconciliations : List (ℕ × Recon))
    (transactions : List (ℕ × Txn)) (number : ℕ) (transaction : Txn)
    → all_hold (told_rules commodities accounts reconciliations transactions number transaction)
    ≡ all_hold (marked_transaction_rules commodities accounts reconciliations transactions number transaction)
told_hold commodities accounts reconciliations transactions number transaction =
    last_comes_first (keeps_as_many transaction.voided transaction.splits)
    (passes_check commodities accounts (restored transaction))
    (are_once (numbers_of transaction.splits))
    (not (stands_before (share_numbers transaction) number transactions))
    (are_rightly_marked reconciliations transaction.voided transaction.splits)
