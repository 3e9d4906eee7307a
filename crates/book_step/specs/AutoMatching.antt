-- The command that matches the open lines of an account with the account's splits.
use Rattle.std.specs.Prelude.{◌≡◌, ℕ, ℤ, ◌==◌, nat_lt, Bool, ◌&&◌, if◌then◌else◌, List, [], ◌∷◌, ◌++◌, find, flat_map}
use Rattle.std.specs.Prelude.{length, map, Option, Some, None, option_map, Contains}
use Rattle.std.specs.List.{list_any}
use Rattle.book_commodity.specs.Rules.{broken_where}
use Rattle.book_commodity.specs.declared.counted.Counted.TheVariants.{Window}
use Rattle.book_splits.specs.TransactionRules.{is_new}
use Rattle.book_splits.specs.declared.split.Mark.TheVariants.{Cleared}
use Rattle.book_splits.specs.declared.split.Split.{Split}
use Rattle.book_splits.specs.declared.transaction.Txn.{Txn}
use Rattle.book_statement.specs.declared.line.Line.{Line}
use Rattle.book_match.specs.Kept.{views_on}
use Rattle.book_match.specs.Proposal.{proposal}
use Rattle.book_match.specs.declared.views.Matched.{Matched}
use Rattle.book_undo.specs.Book.{Book}
use Rattle.book_undo.specs.declared.edit.Edit.{Edit}
use Rattle.book_import.specs.Edits.{line_edits}
use Rattle.book_free.specs.FreeSplits.{free_splits}
use Rattle.book_command.specs.declared.answer.Answer.TheVariants as answer
use Rattle.book_command.specs.declared.rule.Rule.{Rule}
use Rattle.book_command.specs.declared.rule.Rule.TheVariants.{Limit}
use Rattle.book_step.specs.Accounts.{unknown_account}
use Rattle.book_step.specs.Importing.{whole_edit}
use Rattle.book_step.specs.LineAdding.{matched_with}
use Rattle.book_step.specs.Matchable.{open_lines}
use Rattle.book_step.specs.Outcome.{Outcome, changing, leaving}
use Rattle.book_step.specs.Remarking.{all_remarked, remarking}
use Rattle.book_step.specs.State.{State}

-- ---- the pairs

-- The pairs that are proposed for an account of a book: of its open lines and of its splits that may be matched.
abbrev pub matches : Book → ℕ → ℕ → List Matched
matches book account window =
    proposal window (open_lines account book.lines) (views_on account (free_splits book) book.transactions)

-- The split that the line with a number takes, if it has a pair.
abbrev pub split_of : List Matched → ℕ → Option ℕ
split_of pairs line = option_map (λ pair. pair.split) (find (λ pair. pair.line == line) pairs)

-- Whether the split with a number is one of a pair.
abbrev pub has_pair : List Matched → ℕ → Bool
has_pair pairs split = list_any (λ pair. pair.split == split) pairs

-- ---- the book after

-- A line, matched with the split that it takes, if it takes one.
abbrev pub line_paired : Option ℕ → Line → Line
line_paired None line = line
line_paired (Some split) line = matched_with split line

-- The lines, of which those that take a split are matched with it.
abbrev pub lines_paired : (ℕ → Option ℕ) → List (ℕ × Line) → List (ℕ × Line)
lines_paired takes lines = map (λ entry. (entry.0, line_paired (takes entry.0) entry.1)) lines

-- Whether a split is new and is taken. The bank has booked it, and so it becomes cleared (GnuCash Manual, reconciling).
abbrev pub becomes_cleared : (ℕ → Bool) → Split → Bool
becomes_cleared taken split = is_new split.mark && taken split.id

-- The split, cleared.
abbrev pub cleared : Split → Split
cleared split = record split { mark = Cleared }

-- The split, cleared where it becomes so.
abbrev pub split_paired : (ℕ → Bool) → Split → Split
split_paired taken split = if becomes_cleared taken split then cleared split else split

-- Whether a split becomes cleared, whatever its day is.
abbrev pub clears : (ℕ → Bool) → ℤ → Split → Bool
clears taken day split = becomes_cleared taken split

-- The split after that, whatever its day is.
abbrev pub clearing : (ℕ → Bool) → ℤ → Split → Split
clearing taken day split = split_paired taken split

-- The book in which all pairs are matched.
abbrev pub book_paired : List Matched → Book → Book
book_paired pairs book = record book {
  transactions = all_remarked (clearing (has_pair pairs)) book.transactions;
  lines = lines_paired (split_of pairs) book.lines;
}

-- ---- the command

-- The window is at most 366 days (a limit of this project).
abbrev pub wide_window : ℕ → Option Rule
wide_window window = broken_where (nat_lt 366 window) (Limit Window 366)

-- The rules: the account is in the book, and the window is in its limit.
abbrev pub match_rules : Book → ℕ → ℕ → List (Option Rule)
match_rules book account window = unknown_account book.accounts account ∷ wide_window window ∷ []

-- What pairs come to, behind some rules. Where there is none the book stays as it is.
abbrev pub match_pairs : State → List (Option Rule) → List Matched → Outcome
match_pairs state rules pairs =
    if length pairs == 0 then leaving state rules (answer.MatchAuto pairs)
    else changing state rules (book_paired pairs state.book) 0 (answer.MatchAuto pairs)

-- All pairs are matched that are proposed for an account.
abbrev pub match_auto : State → ℕ → ℕ → Outcome
match_auto state account window =
    match_pairs state (match_rules state.book account window) (matches state.book account window)

-- ---- the edit

-- The row of a line, matched with the split that it takes; none, where it takes none.
abbrev pub newly_paired : ℕ × Line → Option ℕ → List (ℕ × Line)
newly_paired entry None = []
newly_paired entry (Some split) = (entry.0, matched_with split entry.1) ∷ []

-- The lines that take a split, matched with it, without the others.
abbrev pub lines_newly_paired : (ℕ → Option ℕ) → List (ℕ × Line) → List (ℕ × Line)
lines_newly_paired takes lines = flat_map (λ entry. newly_paired entry (takes entry.0)) lines

-- The edit that clears the splits of one transaction that become so; none, where it has none.
abbrev pub clearing_one : (ℕ → Bool) → ℕ × Txn → List Edit
clearing_one taken entry = remarking (clears taken) (clearing taken) (entry ∷ [])

-- The edit that matches one line with the split that it takes; none, where it takes none.
abbrev pub pairing_one : (ℕ → Option ℕ) → ℕ × Line → List Edit
pairing_one takes entry = line_edits (lines_newly_paired takes (entry ∷ []))

-- A list has the numbers of all lines that take a split.
abbrev pub HasTaking : (ℕ → Option ℕ) → List ℕ → Type 0
HasTaking takes numbers = (line split : ℕ) → takes line ≡ Some split → Contains numbers line

-- The edits that match the lines with the splits that they take, and clear those of these that are new: those of the
-- transactions, and behind them those of the lines, by rising keys.
abbrev pub pairing_edits : (ℕ → Bool) → (ℕ → Option ℕ) → Book → List Edit
pairing_edits taken takes book =
    remarking (clears taken) (clearing taken) book.transactions
    ++ line_edits (lines_newly_paired takes book.lines)

-- Those of all pairs: one alone, or else the list of all.
abbrev pub pairing_edit : List Matched → Book → Edit
pairing_edit pairs book = whole_edit (pairing_edits (has_pair pairs) (split_of pairs) book)
