-- A keeper in SQLite, and what it knows of its rows.
use Rattle.std.specs.Prelude.{◌≡◌, ℕ, Bool, false, ◌&&◌, List, [], Option, Some, None, IfSome, refl}
use Rattle.std.specs.Coded.{Coded, code_by, coded×, coded_ℕ, coded_list, coded_option}
use Rattle.sqlite_value.specs.Order.{Row as Entry}
use Rattle.sqlite_trees.specs.Tree.{Trees}
use Rattle.sqlite_trees.specs.declared.store.Store.{Ghosts}
use Rattle.sqlite.specs.Held.{Held, held_code, state}
use Rattle.book_keeper.specs.declared.row.Row.{Row}
use Rattle.book_keeper.specs.declared.row.RowKey.{RowKey}
use Rattle.book_sqlite.specs.Content.{rows_of}
use Rattle.book_sqlite.specs.RowCalls.{IsSure, IsReady, AreNext}

-- Its connection to a file of rows, if it has one; its path and the count of its faults.
pub record SqliteKept (S : Type 0) : Type 0 where
  pub connection : Option (Held S)
  pub path : List ℕ
  pub faults : ℕ

abbrev pub kept_code : {S : Type 0} → Coded S → Coded (SqliteKept S)
kept_code {S} store =
    code_by (Option (Held S) × (List ℕ × ℕ))
    (coded× (coded_option (held_code store)) (coded× (coded_list coded_ℕ) coded_ℕ))
    (λ k. (k.connection, (k.path, k.faults)))
    (λ p. record { connection = p.0; path = p.1.0; faults = p.1.1 }) (λ _. refl)

module _ {S : Type 0} (g : Ghosts S) where
  -- the connection is one to a file of rows
  abbrev pub IsKept : Option (Held S) → Type 0
  IsKept connection = IfSome connection (λ c. IsReady (state g c))

  -- while the store is clean and the connection open, the rows that were read ahead are those that come next behind
  -- this key; without a connection there are none
  abbrev pub AreAhead : Option (Held S) → Option RowKey → List Row → Type 0
  AreAhead None after rows = rows ≡ []
  AreAhead (Some c) after rows = IsSure (state g c) → AreNext after rows ((state g c).committed.trees 0)

  abbrev known_by : Option (Held S) → Bool
  known_by None = false
  known_by (Some c) = (state g c).is_clean && (state g c).is_open

  -- whether the keeper knows its rows: its store is clean and its connection open
  abbrev pub is_sure : SqliteKept S → Bool
  is_sure k = known_by k.connection

  abbrev held_by : Option (Held S) → List Row → Type 0
  held_by None rows = ⊥
  held_by (Some c) rows = rows ≡ rows_of ((state g c).committed.trees 0)

  -- the keeper holds the rows of the last commit
  abbrev pub HoldsRows : SqliteKept S → List Row → Type 0
  HoldsRows k rows = held_by k.connection rows

  abbrev kept_by : Option (Held S) → List Entry → Type 0
  kept_by None entries = ⊥
  kept_by (Some c) entries = entries ≡ (state g c).committed.trees 0

  -- the keeper's table has these entries, as the last commit left them
  abbrev pub HasEntries : SqliteKept S → List Entry → Type 0
  HasEntries k entries = kept_by k.connection entries

  abbrev left_by : Option (Held S) → List Row → Type 0
  left_by None rows = ⊥
  left_by (Some c) rows = (db : Trees) × (state g c).may_leave db × (rows ≡ rows_of (db 0))

  -- a crash at this moment may leave these rows
  abbrev pub MayLeave : SqliteKept S → List Row → Type 0
  MayLeave k rows = left_by k.connection rows

  abbrev clean_by : Option (Held S) → Bool
  clean_by None = false
  clean_by (Some c) = (state g c).is_clean

  -- whether the store is clean
  abbrev pub has_clean_store : SqliteKept S → Bool
  has_clean_store k = clean_by k.connection
