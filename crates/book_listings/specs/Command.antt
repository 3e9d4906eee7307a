-- The command lines that give a transaction what it has: ready to be changed and sent (docs/COMMANDS.md, `edit`,
-- `unvoid`).
use Rattle.std.specs.Prelude.{ℕ, List, [], ◌∷◌, ◌++◌, map, codes, Option, Some, None, option_map}
use Rattle.serde_json.specs.Data.{Data, array, member, no_members, number, object, string, unsigned}
use Rattle.serde_json.specs.Find.{of_integer}
use Rattle.serde_json.specs.View.{items_of}
use Rattle.serde_json.specs.Written.{compact_text}
use Rattle.book_commodity.specs.Day.{day_text}
use Rattle.book_commodity.specs.Table.{value_of}
use Rattle.book_splits.specs.declared.split.Split.{Split}
use Rattle.book_splits.specs.declared.transaction.Txn.{Txn}
use Rattle.book_splits.specs.declared.void.Void.{Void}
use Rattle.book_void.specs.Voiding.{restored}
use Rattle.book_undo.specs.Book.{Book}

-- A split with its number, so that it is kept, and all that an edit gives it.
abbrev pub split_data : Split → Data
split_data split =
    object
    (member (codes "account") (number (unsigned split.account))
    (member (codes "action") (string split.action)
    (member (codes "id") (number (unsigned split.id))
    (member (codes "memo") (string split.memo)
    (member (codes "quantity") (number (of_integer split.quantity))
    (member (codes "value") (number (of_integer split.value)) no_members))))))

-- The command `edit` of the transaction with a number, as it stands.
abbrev pub edit_data : ℕ → Txn → Data
edit_data number_of transaction =
    object
    (member (codes "currency") (number (unsigned transaction.currency))
    (member (codes "day") (string (day_text transaction.day))
    (member (codes "description") (string transaction.description)
    (member (codes "do") (string (codes "edit"))
    (member (codes "num") (string transaction.num)
    (member (codes "splits") (array (items_of (map split_data transaction.splits)))
    (member (codes "transaction") (number (unsigned number_of)) no_members)))))))

-- The line of this command, with its line feed.
unfoldable pub edit_line : ℕ → Txn → List ℕ
edit_line number_of transaction = compact_text (edit_data number_of transaction) ++ 10 ∷ []

-- The command `unvoid` of the transaction with a number.
abbrev pub unvoid_data : ℕ → Data
unvoid_data number_of =
    object
    (member (codes "do") (string (codes "unvoid"))
    (member (codes "transaction") (number (unsigned number_of)) no_members))

-- The line of this command, with its line feed.
unfoldable pub unvoid_line : ℕ → List ℕ
unvoid_line number_of = compact_text (unvoid_data number_of) ++ 10 ∷ []

-- The lines for a transaction by what is kept of it.
abbrev pub lines_by : ℕ → Txn → Option Void → List ℕ
lines_by number_of transaction None = edit_line number_of transaction
lines_by number_of transaction (Some void) = unvoid_line number_of ++ edit_line number_of (restored transaction)

-- The lines for a transaction. A voided one takes no edit: it is brought back first, and has then what was kept of it.
abbrev pub lines_of : ℕ → Txn → List ℕ
lines_of number_of transaction = lines_by number_of transaction transaction.voided

-- The lines for the transaction with a number; none, where the book has no such transaction.
abbrev pub command_text : Book → ℕ → Option (List ℕ)
command_text book number_of = option_map (lines_of number_of) (value_of number_of book.transactions)
