-- How what is kept of the free splits of a book becomes what is kept of another.
use Rattle.std.specs.Prelude.{◌≡◌, ℕ, ◌+◌, ◌-◌, ◌^◌, min, if◌then◌else◌, Bool, true, false, List, [], ◌∷◌, flat_map}
use Rattle.std.specs.Prelude.{Option, Some, None}
use Rattle.book_commodity.specs.Table.{Rises, with_entry, without_entry}
use Rattle.book_match.specs.AmountIndex.{is_same, ordered}
use Rattle.book_match.specs.declared.free.Free.{Free}
use Rattle.book_sound.specs.Soundness.{IsSoundBook}
use Rattle.book_undo.specs.Book.{Book}
use Rattle.book_free.specs.FreeSplits.{free_splits}
use Rattle.book_free.specs.Kept.{differing, Keeps, Kept}
use Rattle.book_free.specs.Moves.{AreMoves}
use Rattle.book_free.specs.declared.moves.Move.{Move}

-- What is kept of a book can follow moves to another: both books are sound, and the moves say what becomes of splits
-- from the one to the other.
pub record CanFollow (kept : Kept) (moves : List (ℕ × Move)) (old new : Book) : Type 0 where
  pub kept_of : Keeps kept old
  pub sound : IsSoundBook old
  pub later_sound : IsSoundBook new
  pub moves_are : AreMoves old new moves

-- It can from some book to some other.
pub record SomeFollow (kept : Kept) (moves : List (ℕ × Move)) : Type 0 where
  pub old : Book
  pub new : Book
  pub can : CanFollow kept moves old new

-- What was kept of a book has become what is kept of another: the index was changed by the splits that are free in one
-- of them alone. The count of changes stays at 2^64 - 1.
pub record HasFollowed (before now : Kept) (old new : Book) : Type 0 where
  pub kept_of : Keeps now new
  pub changes :
      now.index.changes
      ≡ min (before.index.changes + differing (free_splits old) (free_splits new)) (2 ^ 64 - 1)

-- ---- what leaves the index and what comes into it

-- Whether two splits are the same as the index has them, or there is neither.
abbrev pub same_free : Option Free → Option Free → Bool
same_free (Some one) (Some other) = is_same one other
same_free None None = true
same_free _ _ = false

-- What leaves the index by a move, and what comes into it: nothing, where the split is the same as the index has it.
abbrev pub leaving : Move → Option Free
leaving move = if same_free move.before move.after then None else move.before

abbrev pub coming : Move → Option Free
coming move = if same_free move.before move.after then None else move.after

-- A split that may be given, in a list.
abbrev pub listed : Option Free → List Free
listed None = []
listed (Some free) = free ∷ []

-- What a function picks of moves, in their order.
abbrev pub picked : (Move → Option Free) → List (ℕ × Move) → List Free
picked pick moves = flat_map (λ entry. listed (pick entry.1)) moves

-- What leaves the index by moves, and what comes into it, in the order of the index.
abbrev pub gone_of : List (ℕ × Move) → List Free
gone_of moves = ordered (picked leaving moves)

abbrev pub come_of : List (ℕ × Move) → List Free
come_of moves = ordered (picked coming moves)

-- Moves by rising numbers, with what leaves the index by them and what comes into it.
pub record AreListed (moves : List (ℕ × Move)) (gone come : List Free) : Type 0 where
  pub rise : Rises moves
  pub gone_is : gone ≡ gone_of moves
  pub come_is : come ≡ come_of moves

-- ---- the lines of the splits

-- The lines of the splits, where one is matched with another line from now on, or with none,
abbrev pub with_line : ℕ → Option ℕ → List (ℕ × ℕ) → List (ℕ × ℕ)
with_line split (Some line) entries = with_entry split line entries
with_line split None entries = without_entry split entries

-- and where they are matched as moves say.
abbrev pub with_lines : List (ℕ × Move) → List (ℕ × ℕ) → List (ℕ × ℕ)
with_lines [] entries = entries
with_lines (entry ∷ more) entries = with_lines more (with_line entry.0 entry.1.line entries)
