-- The command that matches a line of a bank statement with a split.
use Rattle.std.specs.Prelude.{ℕ, nat_eq, not, Bool, if◌then◌else◌, List, [], ◌∷◌, Option, Some, None, find, option_map}
use Rattle.std.specs.Option.{option_eq}
use Rattle.book_commodity.specs.Rules.{broken_where}
use Rattle.book_commodity.specs.Table.{value_of}
use Rattle.book_commodity.specs.declared.kind.Kind.TheVariants as kind
use Rattle.book_splits.specs.declared.split.Mark.TheVariants.{New, Cleared}
use Rattle.book_splits.specs.declared.split.Split.{Split}
use Rattle.book_splits.specs.declared.transaction.Txn.{Txn}
use Rattle.book_statement.specs.declared.line.Line.{Line}
use Rattle.book_undo.specs.Book.{Book, with_thing}
use Rattle.book_undo.specs.declared.edit.Edit.{Edit, All, Put}
use Rattle.book_undo.specs.declared.thing.Thing.TheVariants as thing
use Rattle.book_sound.specs.LineRules.{fits_line, matched_split, split_at}
use Rattle.book_command.specs.declared.answer.Answer.TheVariants as answer
use Rattle.book_command.specs.declared.rule.Rule.{Rule}
use Rattle.book_command.specs.declared.rule.Rule.TheVariants.{LineAmount, LineTaken, Unknown}
use Rattle.book_step.specs.BankLines.{line_taken}
use Rattle.book_step.specs.LineAdding.{matched_with}
use Rattle.book_step.specs.Marking.{book_marked, remarked}
use Rattle.book_step.specs.Outcome.{Outcome, Broken, changing, unless_broken}
use Rattle.book_step.specs.SameTransaction.{is_mark}
use Rattle.book_step.specs.State.{State}
use Rattle.book_step.specs.VoidRules.{voided_transaction_of}

-- ---- the rules

-- Whether a line is matched with the split of a number.
abbrev pub is_matched_with : ℕ → Line → Bool
is_matched_with split line = option_eq nat_eq (matched_split line.state) (Some split)

-- The first line that is matched with the split of a number, under its own number.
abbrev pub line_of_split : ℕ → List (ℕ × Line) → Option (ℕ × Line)
line_of_split split lines = find (λ entry. is_matched_with split entry.1) lines

-- A line is matched with the split already (a rule of this project: a split stands for one booking of the bank).
abbrev pub split_taken : ℕ → List (ℕ × Line) → Option Rule
split_taken split lines = option_map (λ entry. LineTaken entry.0) (line_of_split split lines)

-- The split isn't in the line's account, its quantity isn't the line's amount, or it is voided (a rule of this project).
abbrev pub line_amount : ℕ → Line → Split → Option Rule
line_amount number line split = broken_where (not (fits_line line (Some split))) (LineAmount number)

-- The rules of a line and of a split that is to be matched with it: the line is open, no line has the split, and the
-- split fits the line.
abbrev pub match_rules : List (ℕ × Line) → ℕ → Line → ℕ → Split → List (Option Rule)
match_rules lines number line wanted split =
    line_taken number line ∷ split_taken wanted lines ∷ line_amount number line split ∷ []

-- ---- the book after the match

-- The book in which a new split is cleared: the bank has booked it (GnuCash Manual, reconciling). A split with another
-- mark stays as it is.
abbrev pub book_cleared : ℕ → Split → Book → Book
book_cleared wanted split book = if is_mark split.mark New then book_marked wanted Cleared book else book

-- The book in which the line is matched with the split.
abbrev pub book_paired : ℕ → Line → ℕ → Split → Book → Book
book_paired number line wanted split book =
    with_thing number (thing.Line (matched_with wanted line)) (book_cleared wanted split book)

-- The edit that does so, where the split's transaction stands under its own number.
abbrev pub pairing_edit : ℕ → Line → ℕ → ℕ → Txn → Split → Edit
pairing_edit number line wanted own transaction split =
    let matched = Put number (thing.Line (matched_with wanted line)) in
    if is_mark split.mark New then All (Put own (thing.Txn (remarked wanted Cleared transaction)) ∷ matched ∷ [])
    else matched

-- ---- the command

-- The command on a line of the book and a split, if that is there and its transaction is not voided.
abbrev pub line_match_of : State → ℕ → Line → ℕ → Option Split → Outcome
line_match_of state number line wanted None = Broken (Unknown kind.Split wanted)
line_match_of state number line wanted (Some split) =
    unless_broken (voided_transaction_of state.book.transactions wanted)
    (changing state (match_rules state.book.lines number line wanted split)
    (book_paired number line wanted split state.book) 0 answer.LineMatch)

-- The command on a line, if it is there.
abbrev pub line_match_at : State → ℕ → ℕ → Option Line → Outcome
line_match_at state number wanted None = Broken (Unknown kind.Line number)
line_match_at state number wanted (Some line) =
    line_match_of state number line wanted (split_at wanted state.book.transactions)

-- A line of the book is matched with a split.
abbrev pub line_match : State → ℕ → ℕ → Outcome
line_match state number wanted = line_match_at state number wanted (value_of number state.book.lines)
