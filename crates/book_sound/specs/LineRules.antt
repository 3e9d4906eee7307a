-- The rules that each statement's line in a book keeps.
use Rattle.std.specs.Prelude.{ℕ, ◌==◌, nat_eq, nat_lt, ℤ, unsigned_abs, not, Bool, true, false, ◌&&◌, List, [], ◌∷◌}
use Rattle.std.specs.Prelude.{Option, Some, None, find, is_some}
use Rattle.std.specs.Option.{option_eq}
use Rattle.std.specs.Ordering.{int_eq}
use Rattle.book_commodity.specs.Rules.{stands_before}
use Rattle.book_accounts.specs.declared.account.Account.{Account}
use Rattle.book_splits.specs.Balance.{splits_of}
use Rattle.book_splits.specs.TransactionRules.{is_voided}
use Rattle.book_splits.specs.declared.split.Split.{Split}
use Rattle.book_splits.specs.declared.transaction.Txn.{Txn}
use Rattle.book_statement.specs.Keys.{key, same_text}
use Rattle.book_statement.specs.Numbers.{largest_amount}
use Rattle.book_statement.specs.declared.held.Held.{Held}
use Rattle.book_statement.specs.declared.line.Line.{Line}
use Rattle.book_statement.specs.declared.line_key.LineKey.{LineKey}
use Rattle.book_statement.specs.declared.line_state.LineState.{LineState}
use Rattle.book_statement.specs.declared.line_state.LineState.TheVariants.{Open, Matched, Dismissed}
use Rattle.book_sound.specs.Tests.{is_live}

-- The key of a line, by which it is known when its file is imported again.
abbrev pub key_of_line : Line → LineKey
key_of_line line = key line.account line.body line.ordinal

-- Whether two keys are the same.
abbrev pub is_same_key : LineKey → LineKey → Bool
is_same_key one other =
    (other.account == one.account) && (int_eq other.day one.day && (int_eq other.amount one.amount
    && (same_text other.kind one.kind && (same_text other.ref_own one.ref_own
    && (same_text other.ref_bank one.ref_bank
    && (same_text other.text one.text && (other.ordinal == one.ordinal)))))))

-- Whether another line has the same key.
abbrev pub has_same_key : Line → Line → Bool
has_same_key line other = is_same_key (key_of_line line) (key_of_line other)

-- The split with a number among some splits, if there is one.
abbrev pub split_among : ℕ → List Split → Option Split
split_among number splits = find (λ split. split.id == number) splits

-- The split of the book with a number, if there is one.
abbrev pub split_at : ℕ → List (ℕ × Txn) → Option Split
split_at number transactions = split_among number (splits_of transactions)

-- Whether there is a split, and it is what the line says: it stands in the line's account, has the line's amount as its
-- quantity, and is not voided.
abbrev pub fits_line : Line → Option Split → Bool
fits_line line None = false
fits_line line (Some split) =
    (split.account == line.account) && (int_eq split.quantity line.body.amount && not (is_voided split.mark))

-- Whether a line is matched with a split of the book that is what the line says, if it is in the state of a matched
-- one.
abbrev pub fits_in_state : List (ℕ × Txn) → Line → LineState → Bool
fits_in_state transactions line Open = true
fits_in_state transactions line (Matched split) = fits_line line (split_at split transactions)
fits_in_state transactions line Dismissed = true

-- The split that a line in a state is matched with, if it is.
abbrev pub matched_split : LineState → Option ℕ
matched_split Open = None
matched_split (Matched split) = Some split
matched_split Dismissed = None

-- Whether another line is matched with the same split, if this one is matched.
abbrev pub shares_split : Line → Line → Bool
shares_split line other =
    is_some (matched_split line.state) && option_eq nat_eq (matched_split other.state) (matched_split line.state)

-- Whether the amount of a line is above 10^12 in size.
abbrev pub is_over_limit : ℤ → Bool
is_over_limit amount = nat_lt largest_amount (unsigned_abs amount)

-- The rules of a line: its account and its statement are in the book; its amount is at most 10^12 in size (a limit of
-- this project); no line before it has its key; where it is matched, a split of the book stands in its account and has
-- its amount as quantity, is not voided, and no line before it is matched with that split (rules of this project).
abbrev pub line_rules :
    List (ℕ × Account) → List (ℕ × Held) → List (ℕ × Txn) → List (ℕ × Line) → ℕ → Line → List Bool
line_rules accounts statements transactions lines number line =
    is_live accounts line.account
    ∷ is_live statements line.statement
    ∷ not (is_over_limit line.body.amount)
    ∷ not (stands_before (has_same_key line) number lines)
    ∷ fits_in_state transactions line line.state
    ∷ not (stands_before (shares_split line) number lines)
    ∷ []
