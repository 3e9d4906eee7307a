-- Rows: bodies under keys, in rising order of the keys, and what changes make of them.
use Rattle.std.specs.Prelude.{ℕ, zero, suc, ◌≡◌, ◌+◌, ◌*◌, ◌^◌, ◌<◌, ◌==◌, nat_lt, Bool, true, ◌&&◌}
use Rattle.std.specs.Prelude.{if◌then◌else◌, List, [], ◌∷◌, Option, Some, None, ⊤}
use Rattle.std.specs.List.{list_all}
use Rattle.book_keeper.specs.declared.row.RowKey.{RowKey}
use Rattle.book_keeper.specs.declared.row.Row.{Row}
use Rattle.book_keeper.specs.declared.row.Change.{Change}
use Rattle.book_keeper.specs.declared.row.Change.TheVariants.{Put, Gone}

-- The place of a key among all keys, as one number: keys are in order by kind, and then by their numbers, which are
-- below 2 ^ 64. Different keys have different ranks.
abbrev pub rank : RowKey → ℕ
rank key = key.kind * 2 ^ 64 + key.id

-- Every row's key is above the rank n.
abbrev pub AllAbove : ℕ → List Row → Type 0
AllAbove n [] = ⊤
AllAbove n (row ∷ rows) = (n < rank row.key) × AllAbove n rows

-- The keys rise from row to row, so that none comes twice.
abbrev pub Rises : List Row → Type 0
Rises [] = ⊤
Rises (row ∷ rows) = AllAbove (rank row.key) rows × Rises rows

-- Whether the keys rise from row to row.
abbrev pub do_rise : List Row → Bool
do_rise [] = true
do_rise (row ∷ rows) = list_all (λ other. nat_lt (rank row.key) (rank other.key)) rows && do_rise rows

-- The key that a change names.
abbrev pub changed_key : Change → RowKey
changed_key (Put row) = row.key
changed_key (Gone key) = key

-- The changes name rising keys from the rank n on, with numbers below 2 ^ 62.
abbrev pub AreRisingFrom : ℕ → List Change → Type 0
AreRisingFrom n [] = ⊤
AreRisingFrom n (change ∷ changes) =
    (n < rank (changed_key change) + 1) × ((changed_key change).id < 2 ^ 62)
    × AreRisingFrom (rank (changed_key change) + 1) changes

-- The changes name rising keys with numbers below 2 ^ 62.
abbrev pub AreRising : List Change → Type 0
AreRising = AreRisingFrom 0

-- The rows with this one: instead of the row with its key, or else in the order of keys.
abbrev pub with_row : Row → List Row → List Row
with_row new [] = new ∷ []
with_row new (row ∷ rows) =
    if nat_lt (rank new.key) (rank row.key)
    then new ∷ row ∷ rows
    else (if rank new.key == rank row.key then new ∷ rows else row ∷ with_row new rows)

-- The rows without the one that has this key.
abbrev pub without_row : RowKey → List Row → List Row
without_row key [] = []
without_row key (row ∷ rows) = if rank key == rank row.key then rows else row ∷ without_row key rows

-- The rows after a change.
abbrev pub after_change : Change → List Row → List Row
after_change (Put row) rows = with_row row rows
after_change (Gone key) rows = without_row key rows

-- The rows after one change and then the next, to the last.
abbrev pub after_changes : List Change → List Row → List Row
after_changes [] rows = rows
after_changes (change ∷ changes) rows = after_changes changes (after_change change rows)

-- The first row whose key is above the rank n.
abbrev pub first_above : ℕ → List Row → Option Row
first_above n [] = None
first_above n (row ∷ rows) = if nat_lt n (rank row.key) then Some row else first_above n rows

-- The first of the rows.
abbrev pub first_row : List Row → Option Row
first_row [] = None
first_row (row ∷ rows) = Some row

-- The first row behind a key, or the first of all.
abbrev pub first_after : Option RowKey → List Row → Option Row
first_after None rows = first_row rows
first_after (Some key) rows = first_above (rank key) rows

-- The row at a place has the key of this rank, and those before it have smaller ones.
abbrev pub IsAt : ℕ → List Row → ℕ → Type 0
IsAt n [] place = ⊥
IsAt n (row ∷ rows) zero = rank row.key ≡ n
IsAt n (row ∷ rows) (suc place) = (rank row.key < n) × IsAt n rows place

-- No row has the key of this rank: those before a place have smaller ones, those from it on greater ones.
abbrev pub IsGapFor : ℕ → List Row → ℕ → Type 0
IsGapFor n rows zero = AllAbove n rows
IsGapFor n [] (suc place) = ⊥
IsGapFor n (row ∷ rows) (suc place) = (rank row.key < n) × IsGapFor n rows place

-- What is seen of rows in memory: the rows, and how many more they have room for.
pub record KeptRows : Type 0 where
  pub rows : List Row
  pub spare : ℕ
