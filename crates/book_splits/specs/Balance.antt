-- Sums over splits, computed afresh from the transactions (GnuCash Concepts Guide, account registers).
use Rattle.std.specs.Prelude.{ℕ, ◌*◌, ◌^◌, ℤ, pos, ◌+ℤ◌, ◌-ℤ◌, ◌≤ℤ◌, ◌==◌, Bool, not, ◌&&◌, List, [], ◌∷◌, ◌++◌}
use Rattle.std.specs.Prelude.{filter, map}
use Rattle.std.specs.List.{list_any}
use Rattle.book_splits.specs.TransactionRules.{is_voided}
use Rattle.book_splits.specs.declared.split.Split.{Split}
use Rattle.book_splits.specs.declared.transaction.Txn.{Txn}

-- The sum of the amounts.
abbrev pub total : List ℤ → ℤ
total [] = pos 0
total (amount ∷ more) = amount +ℤ total more

-- The sum of the values of the splits: zero where they balance.
abbrev pub sum_of_values : List Split → ℤ
sum_of_values splits = total (map (λ split. split.value) splits)

-- The splits of the transactions, one after another; each stands with its number.
abbrev pub splits_of : List (ℕ × Txn) → List Split
splits_of [] = []
splits_of (entry ∷ more) = entry.1.splits ++ splits_of more

-- The same without those of the transaction under a number.
abbrev pub splits_beside : ℕ → List (ℕ × Txn) → List Split
splits_beside number transactions = splits_of (filter (λ entry. not (number == entry.0)) transactions)

-- Whether an account has a split.
abbrev pub has_splits : List (ℕ × Txn) → ℕ → Bool
has_splits transactions account = list_any (λ split. split.account == account) (splits_of transactions)

-- Whether a split counts on an account: it names the account, and does not have the mark of a voided one.
abbrev pub counts_on : ℕ → Split → Bool
counts_on account split = (split.account == account) && not (is_voided split.mark)

-- What the splits give to an account: the sum of the quantities of those that count on it.
abbrev pub quantity_on : ℕ → List Split → ℤ
quantity_on account splits = total (map (λ split. split.quantity) (filter (counts_on account) splits))

-- What these splits give to the accounts of some splits, by place.
abbrev pub balances_in : List Split → List Split → List ℤ
balances_in all splits = map (λ split. quantity_on split.account all) splits

-- The balance of an account over all days.
abbrev pub balance : List (ℕ × Txn) → ℕ → ℤ
balance transactions account = quantity_on account (splits_of transactions)

-- The amount is small enough to be the sum of so many amounts of 64 bits.
abbrev pub IsWithin : ℕ → ℤ → Type 0
IsWithin count sum = ((pos 0 -ℤ pos (2 ^ 63 * count)) ≤ℤ sum) × (sum ≤ℤ pos (2 ^ 63 * count))
