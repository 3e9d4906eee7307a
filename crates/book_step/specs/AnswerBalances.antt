-- The balances in the answers to commands.
use Rattle.std.specs.Prelude.{◌≡◌, ℕ, ℤ, List, [], Option, Some, None, map, ⊤}
use Rattle.book_commodity.specs.Table.{value_of, with_entry}
use Rattle.book_splits.specs.Balance.{balance}
use Rattle.book_splits.specs.declared.transaction.Txn.{Txn}
use Rattle.book_undo.specs.Book.{Book}
use Rattle.book_undo.specs.Edit.{edited}
use Rattle.book_undo.specs.declared.edit.Edit as change
use Rattle.book_command.specs.declared.answer.Answer.{Answer}
use Rattle.book_command.specs.declared.answer.Answer.TheVariants.{Edit, Post}

-- For each split of a transaction, by place, the balance of its account over all days.
abbrev pub balances_at : List (ℕ × Txn) → Option Txn → List ℤ
balances_at transactions None = []
balances_at transactions (Some transaction) = map (λ split. balance transactions split.account) transaction.splits

-- The same of the transaction that stands under a number in a book.
abbrev pub balances_of : Book → ℕ → List ℤ
balances_of book number = balances_at book.transactions (value_of number book.transactions)

-- The answer without balances.
abbrev pub without_balances : Answer → Answer
without_balances (Post transaction splits balances) = Post transaction splits []
without_balances (Edit transaction splits balances) = Edit transaction splits []
without_balances answer = answer

-- The answer with the balances of the book.
abbrev pub with_balances : Book → Answer → Answer
with_balances book (Post transaction splits balances) = Post transaction splits (balances_of book transaction)
with_balances book (Edit transaction splits balances) = Edit transaction splits (balances_of book transaction)
with_balances book answer = answer

-- An edit puts a transaction under this number: the transactions after it are those before with one there.
abbrev pub PutsUnder : Book → change.Edit → ℕ → Type 0
PutsUnder book edit number =
    (transaction : Txn) × ((edited edit book).transactions ≡ with_entry number transaction book.transactions)

-- Where an answer has balances, the edit puts the answer's transaction.
abbrev pub PutsAnswered : Book → change.Edit → Answer → Type 0
PutsAnswered book edit (Post transaction splits balances) = PutsUnder book edit transaction
PutsAnswered book edit (Edit transaction splits balances) = PutsUnder book edit transaction
PutsAnswered book edit _ = ⊤
