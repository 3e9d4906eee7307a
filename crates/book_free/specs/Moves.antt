-- What becomes of the free splits where a book becomes another.
use Rattle.std.specs.Prelude.{◌≡◌, ℕ, List, Some, None}
use Rattle.book_commodity.specs.Table.{value_of}
use Rattle.book_undo.specs.Book.{Book}
use Rattle.book_free.specs.FreeSplits.{free_at, line_of}
use Rattle.book_free.specs.declared.moves.Move.{Move}

-- What becomes of the split of a number: what it is in the first book if it is free, what in the other, and the line
-- that is matched with it there.
abbrev pub move_of : ℕ → Book → Book → Move
move_of number old new = record {
  before = free_at number old;
  after = free_at number new;
  line = line_of number new.lines;
}

-- A split of a number is free in both books or in neither, as the same, and has the same line.
pub record IsUnmoved (number : ℕ) (old new : Book) : Type 0 where
  pub free : free_at number new ≡ free_at number old
  pub line : line_of number new.lines ≡ line_of number old.lines

-- Moves say what becomes of the splits of some numbers where a book becomes another, and no other split is moved.
pub record AreMoves (old new : Book) (moves : List (ℕ × Move)) : Type 0 where
  pub moved : (number : ℕ) (move : Move) → value_of number moves ≡ Some move → move ≡ move_of number old new
  pub others : (number : ℕ) → value_of number moves ≡ None → IsUnmoved number old new
