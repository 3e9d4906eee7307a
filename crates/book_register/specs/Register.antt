-- The register of an account: its rows in the order of day, transaction number and place, and the balances over them
-- (GnuCash Concepts Guide, account registers; the order among rows of one day is this project's own).
use Rattle.std.specs.Prelude.{◌≡◌, ◌<◌, ◌≤◌, length, ℕ, ◌==◌, nat_lt, ℤ, pos, ◌+ℤ◌, int_lt, int_le, Bool, true, false}
use Rattle.std.specs.Prelude.{◌&&◌, if◌then◌else◌}
use Rattle.std.specs.Prelude.{⊤, List, [], ◌∷◌, filter, remove, slice_index_or, Option, Some, None}
use Rattle.std.specs.Ordering.{int_eq}
use Rattle.book_register.specs.Weights.{is_cleared, is_reconciled}
use Rattle.book_register.specs.declared.balances.Balances.{Balances}
use Rattle.book_register.specs.declared.entry.Entry.{Entry}
use Rattle.book_register.specs.declared.key.Key.{Key}

-- What contracts see of a register: its rows, how many more it has room for, and how often it was changed.
pub record Rows : Type 0 where
  pub rows : List Entry
  pub spare : ℕ
  pub changes : ℕ

-- Where a row stands: its day, its transaction's number and its place there, for the specifications of other crates.
abbrev pub RowKey : Type 0
RowKey = Key

-- The key of a day, a transaction's number and a place in it.
abbrev pub key_at : ℤ → ℕ → ℕ → Key
key_at day txn place = record { day = day; txn = txn; place = place }

-- A row stands at its day, its transaction's number and its place there.
abbrev pub key_of : Entry → Key
key_of entry = key_at entry.day entry.txn entry.place

-- One key comes before another: by day, on one day by transaction, in one transaction by place.
abbrev pub precedes : Key → Key → Bool
precedes one other =
    if int_lt one.day other.day then true else (if int_lt other.day one.day then false else
    (if nat_lt one.txn other.txn then true else (if nat_lt other.txn one.txn then false else
    nat_lt one.place other.place)))

-- A key comes before those of all these rows.
abbrev pub PrecedesAll : Key → List Entry → Type 0
PrecedesAll key [] = ⊤
PrecedesAll key (entry ∷ more) = (precedes key (key_of entry) ≡ true) × PrecedesAll key more

-- The rows stand in the order of their keys, and no key comes twice.
abbrev pub IsSorted : List Entry → Type 0
IsSorted [] = ⊤
IsSorted (entry ∷ more) = PrecedesAll (key_of entry) more × IsSorted more

-- The row stands at this key.
abbrev pub has_key : Key → Entry → Bool
has_key key entry = int_eq key.day entry.day && (key.txn == entry.txn && key.place == entry.place)

-- The rows without the one at a place, if there is one.
abbrev pub rows_without : Option ℕ → List Entry → List Entry
rows_without None rows = rows
rows_without (Some place) rows = remove rows place

-- The sum of the quantities of the rows.
abbrev pub balance : List Entry → ℤ
balance [] = pos 0
balance (entry ∷ more) = entry.quantity +ℤ balance more

-- The rows on or before a day.
abbrev pub rows_until : ℤ → List Entry → List Entry
rows_until day rows = filter (λ entry. int_le entry.day day) rows

-- The three balances over rows: of all, of those marked c or y, of those marked y.
abbrev pub balances : List Entry → Balances
balances rows = record {
  all = balance rows;
  cleared = balance (filter (λ entry. is_cleared entry.mark) rows);
  reconciled = balance (filter (λ entry. is_reconciled entry.mark) rows);
}

-- So many first rows stand before the key, and no other row does.
pub record IsBound (key : Key) (rows : List Entry) (count : ℕ) : Type 0 where
  pub within : count ≤ length rows
  pub before : (k : ℕ) (d : Entry) → k < count → precedes (key_of (slice_index_or rows k d)) key ≡ true
  pub others : (k : ℕ) (d : Entry) → count ≤ k → k < length rows
      → precedes (key_of (slice_index_or rows k d)) key ≡ false
