-- The splits of a book that a line of a bank statement may be matched with.
use Rattle.std.specs.Prelude.{ℕ, nat_eq, ℤ, not, Bool, true, false, ◌&&◌, if◌then◌else◌, List, filter, find, flat_map, map}
use Rattle.std.specs.Prelude.{Option, Some, None, option_map}
use Rattle.std.specs.List.{list_any}
use Rattle.std.specs.Option.{option_and_then, option_eq}
use Rattle.book_splits.specs.declared.split.Mark.{Mark}
use Rattle.book_splits.specs.declared.split.Mark.TheVariants.{New, Cleared, Reconciled, Voided}
use Rattle.book_splits.specs.declared.split.Split.{Split}
use Rattle.book_splits.specs.declared.transaction.Txn.{Txn}
use Rattle.book_statement.specs.declared.line.Line.{Line}
use Rattle.book_statement.specs.declared.line_state.LineState.{LineState}
use Rattle.book_match.specs.AmountIndex.{ordered}
use Rattle.book_match.specs.Kept.{has_split}
use Rattle.book_match.specs.declared.free.Free.{Free}
use Rattle.book_sound.specs.LineRules.{matched_split, split_among}
use Rattle.book_undo.specs.Book.{Book}

-- Whether a line in a state is matched with the split of a number.
abbrev pub has_matched : ℕ → LineState → Bool
has_matched number state = option_eq nat_eq (matched_split state) (Some number)

-- Whether one of the lines is matched with the split of a number.
abbrev pub is_matched : List (ℕ × Line) → ℕ → Bool
is_matched lines number = list_any (λ entry. has_matched number entry.1.state) lines

-- The number of the line that is matched with the split of a number: the first of them; none, where no line is.
abbrev pub line_of : ℕ → List (ℕ × Line) → Option ℕ
line_of number lines = option_map (λ entry. entry.0) (find (λ entry. has_matched number entry.1.state) lines)

-- Whether a split with this mark may never be matched: it is reconciled or voided.
abbrev pub is_never_free : Mark → Bool
is_never_free New = false
is_never_free Cleared = false
is_never_free Reconciled = true
is_never_free Voided = true

-- Whether a split may be matched, where a test tells which splits lines are matched with: it is new or cleared, and no
-- line is matched with it.
abbrev pub is_free : (ℕ → Bool) → Split → Bool
is_free taken split = not (is_never_free split.mark) && not (taken split.id)

-- A split with the day of its transaction, as the index has it.
abbrev pub free_split : ℤ → Split → Free
free_split day split = record { account = split.account; amount = split.quantity; day = day; split = split.id }

-- The splits of a transaction that may be matched,
abbrev pub free_of : (ℕ → Bool) → Txn → List Free
free_of taken transaction = map (free_split transaction.day) (filter (is_free taken) transaction.splits)

-- those of some transactions,
abbrev pub free_among : (ℕ → Bool) → List (ℕ × Txn) → List Free
free_among taken transactions = flat_map (λ entry. free_of taken entry.1) transactions

-- and those of a book, for all accounts, in the order of the index.
abbrev pub free_splits : Book → List Free
free_splits book = ordered (free_among (is_matched book.lines) book.transactions)

-- ---- the split of one number

-- A split as the index has it, unless it is reconciled or voided.
abbrev pub open_split : ℤ → Split → Option Free
open_split day split = if is_never_free split.mark then None else Some (free_split day split)

-- That of a transaction with a number; none, where it is reconciled or voided, or isn't there.
abbrev pub open_in : ℕ → ℕ × Txn → Option Free
open_in number entry = option_and_then (open_split entry.1.day) (split_among number entry.1.splits)

-- That of some transactions.
abbrev pub open_at : ℕ → List (ℕ × Txn) → Option Free
open_at number transactions = option_and_then (open_in number) (find (has_split number) transactions)

-- The split of a book with a number, as the index has it, if it may be matched.
abbrev pub free_at : ℕ → Book → Option Free
free_at number book = if is_matched book.lines number then None else open_at number book.transactions
