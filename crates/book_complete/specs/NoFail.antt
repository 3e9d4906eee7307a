-- Objects in memory that never fail.
use Rattle.std.specs.Prelude.{◌≡◌, ℕ, List, take}
use Rattle.book_keeper.specs.declared.row.Row.{Row}

-- What is seen of a source: the bytes that it has left, and the most that one call gives.
pub record BytesLeft : Type 0 where
  pub left : List ℕ
  pub piece : ℕ

-- What is seen of a keeper: its rows, and the path that it was opened with.
pub record RowsKept : Type 0 where
  pub rows : List Row
  pub path : List ℕ

-- A sink with so much room, which has kept these bytes, may have been given such ones: it keeps the first of them.
abbrev pub may_be_given : ℕ → List ℕ → List ℕ → Type 0
may_be_given room kept bytes = kept ≡ take room bytes
