-- What the calls on a connection make of the rows, where its store is clean.
use Rattle.std.specs.Prelude.{◌≡◌, ◌⊎◌, ◌≤◌, ◌<◌, ◌+◌, ◌-◌, ◌^◌, ℕ, ℤ, pos, negsuc, ◌<ℤ◌, ◌≤ℤ◌, true, false, ⊤}
use Rattle.std.specs.Prelude.{List, [], ◌∷◌, Option, Some, None, IsTrue, IfSome}
use Rattle.sqlite_value.specs.declared.value.Value.TheVariants.{Int}
use Rattle.sqlite_value.specs.Order.{Row as Entry, column}
use Rattle.sqlite_rules.specs.Lists.{Has}
use Rattle.sqlite.specs.State.{State, HasCleanDisk}
use Rattle.book_keeper.specs.declared.row.Row.{Row}
use Rattle.book_keeper.specs.declared.row.RowKey.{RowKey}
use Rattle.book_keeper.specs.Rows.{rank, first_after}
use Rattle.book_sqlite.specs.Content.{row_made, rows_of}
use Rattle.book_sqlite.specs.RowsDatabase.{IsRowsDatabase, rows_in}

-- The store is clean, and the connection is open.
abbrev pub IsSure : State → Type 0
IsSure s = HasCleanDisk s × IsTrue s.is_open

-- The connection stands between two transactions, over a file of rows.
pub record IsReady (s : State) : Type 0 where
  pub autocommit : s.in_transaction ≡ false
  pub settled : IsSure s → s.now ≡ s.committed
  pub rows : IsSure s → IsRowsDatabase s.now

-- A change of the rows inside a transaction. The last commit stays.
pub record ChangesInside (old new : State) (change : List Row → List Row) : Type 0 where
  pub was_open : IsTrue old.is_open
  pub is_open : IsTrue new.is_open
  pub committed : new.committed ≡ old.committed
  pub mode : new.in_transaction ≡ true
  pub rows : IsRowsDatabase old.now → IsRowsDatabase new.now × (rows_in new.now ≡ change (rows_in old.now))

-- A change of the rows that is committed.
pub record Committed (old new : State) (change : List Row → List Row) : Type 0 where
  pub was_open : IsTrue old.is_open
  pub is_open : IsTrue new.is_open
  pub settled : new.now ≡ new.committed
  pub rows : IsRowsDatabase old.now → IsRowsDatabase new.now × (rows_in new.now ≡ change (rows_in old.now))

-- The last commit stays, and nothing is written after it, while the connection is open.
pub record StaysCommitted (old new : State) : Type 0 where
  pub was_open : IsTrue new.is_open → IsTrue old.is_open
  pub now_is : IsTrue new.is_open → new.now ≡ old.committed
  pub committed : IsTrue new.is_open → new.committed ≡ old.committed

-- The entry has this kind and this number.
abbrev pub HasKey : Entry → ℤ → ℤ → Type 0
HasKey e kind id = (column e 1 ≡ Int kind) × (column e 2 ≡ Int id)

-- Keys in order: by kind, and then by number.
abbrev pub UpTo : ℤ → ℤ → ℤ → ℤ → Type 0
UpTo kind id other more = (kind <ℤ other) ⊎ ((kind ≡ other) × (id ≤ℤ more))

-- Behind a number among those of a kind.
abbrev pub Behind : ℤ → ℤ → ℤ → ℤ → Type 0
Behind kind id other more = (other ≡ kind) × (id <ℤ more)

-- Of a kind, or of a greater one.
abbrev pub From : ℤ → ℤ → ℤ → Type 0
From kind other more = kind ≤ℤ other

-- The least kind behind this one, or the least integer of SQL.
abbrev pub kinds_behind : Option ℕ → ℤ
kinds_behind None = negsuc (2 ^ 63 - 1)
kinds_behind (Some kind) = pos (kind + 1)

-- A key that comes later: one of a greater kind, or of the same kind with a greater number.
abbrev pub Later : ℤ → ℤ → ℤ → ℤ → Type 0
Later kind id other number = (kind <ℤ other) ⊎ ((other ≡ kind) × (id <ℤ number))

-- What is shown is one of the entries, whose key passes, and no other whose key passes and is late comes before it.
pub record IsShown (Passes Late : ℤ → ℤ → Type 0) (es : List Entry) (shown : Entry) : Type 0 where
  pub entry : Entry
  pub kind : ℤ
  pub id : ℤ
  pub there : Has es entry
  pub has : HasKey entry kind id
  pub passes : Passes kind id
  pub is : shown ≡ Int kind ∷ Int id ∷ column entry 3 ∷ []
  pub least : (e : Entry) (other number : ℤ) → Has es e → HasKey e other number → Passes other number
      → Late other number → UpTo kind id other number

-- Before each that is shown, no other comes whose key passes, is late and is later than those shown before it. That
-- the keys rise is looked at as the rows are read.
abbrev pub ShowsOn : (ℤ → ℤ → Type 0) → (ℤ → ℤ → Type 0) → List Entry → List Entry → Type 0
ShowsOn Passes Late es [] = ⊤
ShowsOn Passes Late es (shown ∷ more) =
    (first : IsShown Passes Late es shown)
    × ShowsOn Passes (λ other number. Late other number × Later first.kind first.id other number) es more

-- A select shows entries whose keys pass, none of them before the first, and leaves none out between two whose keys
-- rise; or nothing, where no key passes.
abbrev pub Shows : (ℤ → ℤ → Type 0) → List Entry → List Entry → Type 0
Shows Passes es [] = (e : Entry) (kind id : ℤ) → Has es e → HasKey e kind id → Passes kind id → ⊥
Shows Passes es (shown ∷ more) = ShowsOn Passes (λ _ _. ⊤) es (shown ∷ more)

abbrev made_of : Entry → Option Row
made_of shown = row_made (column shown 0) (column shown 1) (column shown 2)

-- The rows that are read of what is shown behind a key, which rise: all, or the first ones.
abbrev pub ReadsOn : RowKey → List Entry → List Row → Type 0
ReadsOn key shown [] = ⊤
ReadsOn key [] (row ∷ rows) = ⊥
ReadsOn key (x ∷ shown) (row ∷ rows) =
    (made_of x ≡ Some row) × (rank key < rank row.key) × ReadsOn row.key shown rows

-- The rows that are read from what a select shows: none where it shows none, or else the first, which has to be a row
-- of a book, and rows behind it.
abbrev pub ReadsFrom : List Entry → List Row → Type 0
ReadsFrom [] rows = rows ≡ []
ReadsFrom (x ∷ shown) rows =
    (row : Row) × (more : List Row) × (rows ≡ row ∷ more) × (made_of x ≡ Some row) × ReadsOn row.key shown more

-- The row is among those, its key passes, and no other key that passes is below it.
pub record IsLeast (Passes : ℤ → ℤ → Type 0) (rows : List Row) (row : Row) : Type 0 where
  pub there : Has rows row
  pub passes : Passes (pos row.key.kind) (pos row.key.id)
  pub least : (other : Row) → Has rows other → Passes (pos other.key.kind) (pos other.key.id)
      → rank row.key ≤ rank other.key

abbrev pub NonePasses : (ℤ → ℤ → Type 0) → List Row → Type 0
NonePasses Passes rows = (other : Row) → Has rows other → Passes (pos other.key.kind) (pos other.key.id) → ⊥

-- The least of the rows whose keys pass, or none where none passes.
abbrev pub IsFound : (ℤ → ℤ → Type 0) → List Row → Option Row → Type 0
IsFound Passes rows None = NonePasses Passes rows
IsFound Passes rows (Some row) = IsLeast Passes rows row

-- Before the row that is found, by kind and then by number. Where none is found, every key is.
abbrev pub IsBefore : Option Row → ℤ → ℤ → Type 0
IsBefore None kind id = ⊤
IsBefore (Some row) kind id = (kind <ℤ pos row.key.kind) ⊎ ((kind ≡ pos row.key.kind) × (id <ℤ pos row.key.id))

-- No entry whose key passes is before the row that is found, be it a row of a book or none.
abbrev pub NoneBefore : (ℤ → ℤ → Type 0) → List Entry → Option Row → Type 0
NoneBefore Passes entries found =
    (e : Entry) (kind id : ℤ) → Has entries e → HasKey e kind id → Passes kind id → IsBefore found kind id → ⊥

-- Behind the key, or any that SQL has.
abbrev pub IsBehind : Option RowKey → ℤ → ℤ → Type 0
IsBehind None = From (kinds_behind None)
IsBehind (Some key) = Later (pos key.kind) (pos key.id)

-- No entry behind the key is before the row that is found: what is no row of a book is not passed over.
abbrev pub PassesNone : Option RowKey → List Entry → Option Row → Type 0
PassesNone after = NoneBefore (IsBehind after)

-- Each row is the first behind the key before it, and nothing is passed over between them.
abbrev pub AreNext : Option RowKey → List Row → List Entry → Type 0
AreNext after [] entries = ⊤
AreNext after (row ∷ rows) entries =
    (Some row ≡ first_after after (rows_of entries)) × PassesNone after entries (Some row)
    × AreNext (Some row.key) rows entries

-- Each row has a key above the one before it.
abbrev pub AreAbove : Option RowKey → List Row → Type 0
AreAbove after [] = ⊤
AreAbove after (row ∷ rows) = IfSome after (λ key. rank key < rank row.key) × AreAbove (Some row.key) rows

-- Each of the rows but the first is the next behind the one before it.
abbrev pub AreNextOn : List Row → List Entry → Type 0
AreNextOn [] entries = ⊤
AreNextOn (row ∷ rows) entries = AreNext (Some row.key) rows entries

-- Each of the rows but the first has a key above the one before it.
abbrev pub AreAboveOn : List Row → Type 0
AreAboveOn [] = ⊤
AreAboveOn (row ∷ rows) = AreAbove (Some row.key) rows
