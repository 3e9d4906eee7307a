-- What is kept of the free splits of a book, beside it.
use Rattle.std.specs.Prelude.{◌≡◌, ◌≤◌, ℕ, ◌+◌, List, count_by, length, not}
use Rattle.book_commodity.specs.Table.{Entries, value_of}
use Rattle.book_match.specs.AmountIndex.{Index, is_there}
use Rattle.book_match.specs.declared.free.Free.{Free}
use Rattle.book_undo.specs.Book.{Book}
use Rattle.book_free.specs.FreeSplits.{free_splits, line_of}
use Rattle.book_free.specs.declared.moves.Move.{Move}

-- The index of the free splits, and the number of the line that each matched split is matched with, by the split's
-- number.
pub record Kept : Type 0 where
  pub index : Index
  pub matched : Entries ℕ

-- What is kept is that of a book: the index has exactly its free splits, and each split that a line is matched with has
-- that line.
pub record Keeps (kept : Kept) (book : Book) : Type 0 where
  pub free : kept.index.entries ≡ free_splits book
  pub lines : (number : ℕ) → value_of number kept.matched.entries ≡ line_of number book.lines

-- How many splits stand in one of two lists and not in the other.
abbrev pub differing : List Free → List Free → ℕ
differing one other =
    count_by (λ free. not (is_there free other)) one + count_by (λ free. not (is_there free one)) other

-- There is room for what becomes of so many splits.
pub record HasRoomFor (kept : Kept) (moves : List (ℕ × Move)) : Type 0 where
  pub index : length moves ≤ kept.index.spare
  pub matched : length moves ≤ kept.matched.spare

-- The same is kept as before, and there is room for at least as much more.
pub record IsSameKept (old new : Kept) : Type 0 where
  pub entries : new.index.entries ≡ old.index.entries
  pub changes : new.index.changes ≡ old.index.changes
  pub matched : new.matched.entries ≡ old.matched.entries
  pub index_room : old.index.spare ≤ new.index.spare
  pub matched_room : old.matched.spare ≤ new.matched.spare
