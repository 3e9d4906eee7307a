-- The rules that each reconciliation of a book keeps.
use Rattle.std.specs.Prelude.{ℕ, ℤ, ◌+ℤ◌, Bool, List, [], ◌∷◌, map}
use Rattle.std.specs.Ordering.{int_eq}
use Rattle.book_accounts.specs.declared.account.Account.{Account}
use Rattle.book_splits.specs.Balance.{total}
use Rattle.book_splits.specs.TransactionRules.{are_once}
use Rattle.book_splits.specs.declared.reconciliation.MarkedSplit.{MarkedSplit}
use Rattle.book_splits.specs.declared.reconciliation.Recon.{Recon}
use Rattle.book_sound.specs.Tests.{is_live}

-- The numbers of marked splits.
abbrev pub marked_numbers : List MarkedSplit → List ℕ
marked_numbers marked = map (λ split. split.split) marked

-- The sum of the quantities that marked splits had.
abbrev pub marked_sum : List MarkedSplit → ℤ
marked_sum marked = total (map (λ split. split.quantity) marked)

-- Whether the opening balance and the marked splits sum to the closing balance (GnuCash Manual, reconciling: the
-- difference is zero).
abbrev pub is_closed : Recon → Bool
is_closed reconciliation =
    int_eq (reconciliation.opening +ℤ marked_sum reconciliation.marked) reconciliation.closing

-- The rules of a reconciliation: its account is in the book; each split stands once in its list; and its opening
-- balance and its splits sum to its closing balance.
abbrev pub reconciliation_rules : List (ℕ × Account) → ℕ → Recon → List Bool
reconciliation_rules accounts number reconciliation =
    is_live accounts reconciliation.account
    ∷ are_once (marked_numbers reconciliation.marked)
    ∷ is_closed reconciliation
    ∷ []
