-- Which things may be put into a sound book, which then stays sound. That is seen from the thing, from a walk along the
-- transactions of the book, and from one along its lines.
use Rattle.std.specs.Prelude.{ℕ, ◌+◌, ◌==◌, nat_lt, not, Bool, true, false, ◌&&◌, ◌||◌, List, [], length, Option}
use Rattle.std.specs.Prelude.{Some, None}
use Rattle.std.specs.List.{list_all}
use Rattle.book_commodity.specs.Table.{value_of}
use Rattle.book_splits.specs.Balance.{splits_of}
use Rattle.book_splits.specs.TransactionRules.{are_once, numbers_of, share_numbers}
use Rattle.book_splits.specs.declared.split.Split.{Split}
use Rattle.book_splits.specs.declared.transaction.Txn.{Txn}
use Rattle.book_statement.specs.declared.line.Line.{Line}
use Rattle.book_statement.specs.declared.line_state.LineState.{LineState}
use Rattle.book_statement.specs.declared.line_state.LineState.TheVariants.{Open, Matched, Dismissed}
use Rattle.book_void.specs.Voiding.{keeps_as_many, restored}
use Rattle.book_sound.specs.LineRules.{fits_line, split_at}
use Rattle.book_sound.specs.MarkedTransactionRules.{are_rightly_marked}
use Rattle.book_sound.specs.Tests.{passes_check}
use Rattle.book_check.specs.LineWalk.{is_matched_with}
use Rattle.book_undo.specs.Book.{Book}
use Rattle.book_undo.specs.declared.edit.Edit.{Edit, Currency, Put, Gone, All'}
use Rattle.book_undo.specs.declared.thing.Thing.{Thing}
use Rattle.book_undo.specs.declared.thing.Thing.TheVariants as thing
use Rattle.book_history.specs.Leaving.{is_same_line, none_loses}

-- Whether the number of each of some splits is below the next.
abbrev pub are_drawn : ℕ → List Split → Bool
are_drawn next splits = list_all (λ split. nat_lt split.id next) splits

-- Whether a transaction keeps the rules that ask for no other: as it is brought back where it is voided, it passes the
-- check of transactions; each of its splits has a number that no other of them has; they are as its state says; and
-- where it is voided the amounts of each are kept.
abbrev pub keeps_own_rules : Book → Txn → Bool
keeps_own_rules book transaction =
    passes_check book.commodities book.accounts (restored transaction) && (are_once (numbers_of transaction.splits)
    && (are_rightly_marked book.reconciliations transaction.voided transaction.splits
    && keeps_as_many transaction.voided transaction.splits))

-- Whether there is room for a transaction more with so many splits.
abbrev pub has_room : List (ℕ × Txn) → ℕ → Bool
has_room transactions count =
    nat_lt (length transactions) 200000 && not (nat_lt 1000000 (length (splits_of transactions) + count))

-- Whether no transaction but that under a number has a split with the number of a split of a new one.
abbrev pub is_apart : ℕ → Txn → List (ℕ × Txn) → Bool
is_apart number new transactions =
    list_all (λ entry. (entry.0 == number) || not (share_numbers new entry.1)) transactions

-- The splits of a transaction, if there is one.
abbrev pub splits_found : Option Txn → List Split
splits_found None = []
splits_found (Some transaction) = transaction.splits

-- Whether a number and those of the splits of a transaction are below the next, there is room for the transaction under
-- the number, no other has a split with a number of its, and no line loses the split that it is matched with.
abbrev pub has_place : ℕ → Book → ℕ → Txn → Bool
has_place next book number new =
    nat_lt number next && (are_drawn next new.splits && (has_room book.transactions (length new.splits)
    && (is_apart number new book.transactions
    && none_loses (splits_found (value_of number book.transactions)) new.splits book.lines)))

-- Whether a transaction fits under a number: it has its place there, and keeps its rules.
abbrev pub fits_under : ℕ → Book → ℕ → Txn → Bool
fits_under next book number new = has_place next book number new && keeps_own_rules book new

-- Whether no line but that of a number is matched with a split.
abbrev pub is_free : ℕ → ℕ → List (ℕ × Line) → Bool
is_free number split lines = list_all (λ entry. (entry.0 == number) || not (is_matched_with split entry.1)) lines

-- Whether a line under a number may be in a state: where it is matched, it is with a split of the book that is what the
-- line says, and with which no other line is matched.
abbrev pub may_be : Book → ℕ → Line → LineState → Bool
may_be book number line Open = true
may_be book number line (Matched split) =
    fits_line line (split_at split book.transactions) && is_free number split book.lines
may_be book number line Dismissed = true

-- Whether a thing fits under a number: a transaction does as above, and a line does in the place of one with its key
-- and its statement, if it may be in its state.
abbrev pub thing_fits : ℕ → Book → ℕ → Thing → Bool
thing_fits next book number (thing.Txn new) = fits_under next book number new
thing_fits next book number (thing.Line new) =
    is_same_line new (value_of number book.lines) && may_be book number new new.state
thing_fits next book number _ = false

-- Whether an edit only puts a thing that fits under its number.
abbrev pub fits_there : ℕ → Book → Edit → Bool
fits_there next book (Currency currency) = false
fits_there next book (Put number thing) = thing_fits next book number thing
fits_there next book (Gone kind number) = false
fits_there next book (All' shape parts) = false
