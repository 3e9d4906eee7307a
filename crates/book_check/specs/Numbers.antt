-- The numbers of splits that a walk over transactions has seen.
use Rattle.std.specs.Prelude.{◌≡◌, ℕ, not, Bool, ◌&&◌, ◌||◌, List}
use Rattle.std.specs.List.{list_any}
use Rattle.std.specs.Ordering.{nat_cmp}
use Rattle.book_splits.specs.TransactionRules.{are_once, is_among, numbers_of}
use Rattle.book_splits.specs.declared.transaction.Txn.{Txn}
use Rattle.book_check.specs.Seen.{is_seen}

-- Whether each number stands once in the list, and was not seen before.
abbrev pub are_new : List ℕ → List ℕ → Bool
are_new seen numbers = are_once numbers && not (list_any (is_seen nat_cmp seen) numbers)

-- Afterwards a number is seen where it is one of the list, or was seen before.
abbrev pub AddsAll : List ℕ → List ℕ → List ℕ → Type 0
AddsAll old numbers new =
    (number : ℕ) → is_seen nat_cmp new number ≡ (is_among numbers number || is_seen nat_cmp old number)

-- The numbers seen are those of the splits of the transactions.
abbrev pub HasNumbers : List ℕ → List (ℕ × Txn) → Type 0
HasNumbers seen transactions =
    (number : ℕ) → is_seen nat_cmp seen number
    ≡ list_any (λ entry. is_among (numbers_of entry.1.splits) number) transactions
