-- What an edit says of splits and of the lines that are matched with them: what they were, and what they become.
use Rattle.std.specs.Prelude.{ℕ, if◌then◌else◌, Bool, List, [], ◌∷◌, flat_map, is_some, map, Option, Some, None}
use Rattle.book_commodity.specs.Table.{value_of, with_entry}
use Rattle.book_splits.specs.declared.transaction.Txn.{Txn}
use Rattle.book_statement.specs.declared.line.Line.{Line}
use Rattle.book_match.specs.declared.free.Free.{Free}
use Rattle.book_sound.specs.LineRules.{matched_split}
use Rattle.book_undo.specs.Book.{Book}
use Rattle.book_undo.specs.Edit.{Leaf, OfCurrency, OfGone, OfPut}
use Rattle.book_undo.specs.declared.thing.Thing.{Thing}
use Rattle.book_undo.specs.declared.thing.Thing.TheVariants as thing
use Rattle.book_undo.specs.declared.thing.ThingKind.{ThingKind}
use Rattle.book_undo.specs.declared.thing.ThingKind.TheVariants as kind
use Rattle.book_free.specs.FreeSplits.{open_split}
use Rattle.book_free.specs.declared.moves.Move.{Move}

-- Whether a split has a line among the lines of splits.
abbrev pub is_taken : List (ℕ × ℕ) → ℕ → Bool
is_taken matched number = is_some (value_of number matched)

-- ---- what leaves say

-- The splits of a transaction, if there is one, by their numbers: each as the index has it, unless it is reconciled
-- or voided.
abbrev pub split_entries : Option Txn → List (ℕ × Option Free)
split_entries None = []
split_entries (Some transaction) =
    map (λ split. (split.id, open_split transaction.day split)) transaction.splits

-- The number of a line, if there is one, by that of the split that it is matched with, if it is.
abbrev pub entry_of_line : ℕ → Option ℕ → List (ℕ × ℕ)
entry_of_line number None = []
entry_of_line number (Some split) = (split, number) ∷ []

abbrev pub line_entries : ℕ → Option Line → List (ℕ × ℕ)
line_entries number None = []
line_entries number (Some line) = entry_of_line number (matched_split line.state)

-- The transaction of a thing, if it is one, and the line.
abbrev pub txn_in : Thing → Option Txn
txn_in (thing.Txn transaction) = Some transaction
txn_in _ = None

abbrev pub line_in : Thing → Option Line
line_in (thing.Line line) = Some line
line_in _ = None

-- What stands under a number among the transactions of a book, if that is what a thing or a kind is of; and among its
-- lines.
abbrev pub txn_before : Thing → ℕ → Book → Option Txn
txn_before (thing.Txn transaction) number book = value_of number book.transactions
txn_before _ number book = None

abbrev pub line_before : Thing → ℕ → Book → Option Line
line_before (thing.Line line) number book = value_of number book.lines
line_before _ number book = None

abbrev pub txn_gone : ThingKind → ℕ → Book → Option Txn
txn_gone kind.Txn number book = value_of number book.transactions
txn_gone _ number book = None

abbrev pub line_gone : ThingKind → ℕ → Book → Option Line
line_gone kind.Line number book = value_of number book.lines
line_gone _ number book = None

-- The splits that stood where a leaf puts or deletes a transaction, and those that it puts.
abbrev pub old_splits : Book → Leaf → List (ℕ × Option Free)
old_splits book (OfCurrency currency) = []
old_splits book (OfPut number thing) = split_entries (txn_before thing number book)
old_splits book (OfGone kind number) = split_entries (txn_gone kind number book)

abbrev pub new_splits : Leaf → List (ℕ × Option Free)
new_splits (OfCurrency currency) = []
new_splits (OfPut number thing) = split_entries (txn_in thing)
new_splits (OfGone kind number) = []

-- The matched line that stood where a leaf puts or deletes one, and that which it puts.
abbrev pub old_lines : Book → Leaf → List (ℕ × ℕ)
old_lines book (OfCurrency currency) = []
old_lines book (OfPut number thing) = line_entries number (line_before thing number book)
old_lines book (OfGone kind number) = line_entries number (line_gone kind number book)

abbrev pub new_lines : Leaf → List (ℕ × ℕ)
new_lines (OfCurrency currency) = []
new_lines (OfPut number thing) = line_entries number (line_in thing)
new_lines (OfGone kind number) = []

-- ---- what is noted of them

-- Entries are put into a table, one after another.
abbrev pub noted : {V : Type 0} → List (ℕ × V) → List (ℕ × V) → List (ℕ × V)
noted [] entries = entries
noted (entry ∷ more) entries = noted more (with_entry entry.0 entry.1 entries)

-- What was seen: the splits that stood in changed transactions and those that stand there now, as the index has them
-- unless they are reconciled or voided; and the changed lines that were matched and that are now, by the numbers of the
-- splits.
pub record Seen : Type 0 where
  pub before : List (ℕ × Option Free)
  pub after : List (ℕ × Option Free)
  pub lost : List (ℕ × ℕ)
  pub gained : List (ℕ × ℕ)

-- What leaves say of a book is noted beside what was seen before.
abbrev pub seen_after : Book → List Leaf → Seen → Seen
seen_after book leaves seen = record {
  before = noted (flat_map (old_splits book) leaves) seen.before;
  after = noted (flat_map new_splits leaves) seen.after;
  lost = noted (flat_map (old_lines book) leaves) seen.lost;
  gained = noted (flat_map new_lines leaves) seen.gained;
}

-- Nothing was seen.
abbrev pub seen_none : Seen
seen_none = record { before = []; after = []; lost = []; gained = [] }

-- ---- what becomes of a split

-- What was seen of a split on one side, if it was seen there; nothing, if on the other alone; else what it is
-- elsewhere.
abbrev pub side_of : Option (Option Free) → Bool → Option Free → Option Free
side_of (Some here) other elsewhere = here
side_of None other elsewhere = if other then None else elsewhere

-- The line of a split after it: one that was matched with it, or else the one before, unless that was changed.
abbrev pub line_now : Option ℕ → Bool → Option ℕ → Option ℕ
line_now (Some line) lost before = Some line
line_now None lost before = if lost then None else before

-- The split, unless a line is matched with it.
abbrev pub unless_taken : Bool → Option Free → Option Free
unless_taken taken split = if taken then None else split

-- What becomes of the split of a number by what was seen, where this is kept of the book's lines.
abbrev pub move_seen : Seen → List (ℕ × ℕ) → Option Free → ℕ → Move
move_seen seen matched elsewhere number = record {
  before = unless_taken (is_taken matched number)
      (side_of (value_of number seen.before) (is_some (value_of number seen.after)) elsewhere);
  after = unless_taken
      (is_some (line_now (value_of number seen.gained) (is_some (value_of number seen.lost)) (value_of number matched)))
      (side_of (value_of number seen.after) (is_some (value_of number seen.before)) elsewhere);
  line = line_now (value_of number seen.gained) (is_some (value_of number seen.lost)) (value_of number matched);
}

-- The moves of these numbers.
abbrev pub moves_seen : {V : Type 0} → (ℕ → Move) → List (ℕ × V) → List (ℕ × Move)
moves_seen becomes entries = map (λ entry. (entry.0, becomes entry.0)) entries

-- The moves of all splits that were seen.
abbrev pub all_moves : (ℕ → Move) → Seen → List (ℕ × Move)
all_moves becomes seen =
    noted (moves_seen becomes seen.gained) (noted (moves_seen becomes seen.lost)
    (noted (moves_seen becomes seen.after) (noted (moves_seen becomes seen.before) [])))
