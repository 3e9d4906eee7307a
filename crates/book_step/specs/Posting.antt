-- The commands on transactions.
use Rattle.std.specs.Prelude.{ℕ, ◌+◌, ℤ, nat_lt, List, [], ◌∷◌, Option, Some, None, map, length, option_map}
use Rattle.book_commodity.specs.Rules.{broken_where, first_broken}
use Rattle.book_commodity.specs.declared.counted.Counted.TheVariants.{Transactions, Splits}
use Rattle.book_splits.specs.Balance.{splits_of}
use Rattle.book_splits.specs.Check.{txn_rules}
use Rattle.book_splits.specs.declared.split.Mark.TheVariants.{New}
use Rattle.book_splits.specs.declared.split.Split.{Split}
use Rattle.book_splits.specs.declared.transaction.Txn.{Txn}
use Rattle.book_undo.specs.Book.{Book, with_thing}
use Rattle.book_undo.specs.declared.thing.Thing.TheVariants as thing
use Rattle.book_command.specs.Lifted.{of_txn_rule}
use Rattle.book_step.specs.AnswerBalances.{balances_at}
use Rattle.book_step.specs.Outcome.{Outcome, changing}
use Rattle.book_step.specs.State.{State}
use Rattle.book_command.specs.declared.answer.Answer.{Answer}
use Rattle.book_command.specs.declared.answer.Answer.TheVariants as answer
use Rattle.book_command.specs.declared.command.GivenSplit.{GivenSplit}
use Rattle.book_command.specs.declared.command.GivenTxn.{GivenTxn}
use Rattle.book_command.specs.declared.rule.Rule.{Rule}
use Rattle.book_command.specs.declared.rule.Rule.TheVariants.{Limit}

-- A split as it stands in the book after a post: new, and of no reconciliation.
abbrev pub new_split : ℕ → GivenSplit → Split
new_split number given = record {
  id = number;
  account = given.account;
  memo = given.memo;
  action = given.action;
  mark = New;
  recon = None;
  value = given.value;
  quantity = given.quantity;
}

-- The splits of a post draw their numbers in the order given.
abbrev pub new_splits : ℕ → List GivenSplit → List Split
new_splits number [] = []
new_splits number (given ∷ more) = new_split number given ∷ new_splits (number + 1) more

-- The transaction of a post that draws its number, the next for its first split, and so on.
abbrev pub new_transaction : ℕ → ℤ → GivenTxn → Txn
new_transaction number day given = record {
  currency = given.currency;
  day = day;
  num = given.num;
  description = given.description;
  splits = new_splits (number + 1) given.splits;
  voided = None;
}

-- The first rule of transactions that it breaks.
abbrev pub broken_by : Book → Txn → Option Rule
broken_by book transaction = option_map of_txn_rule
    (first_broken (txn_rules book.commodities book.accounts transaction))

-- A book has at most 200,000 transactions (a limit of this project).
abbrev pub too_many_transactions : Book → Option Rule
too_many_transactions book = broken_where (nat_lt 200000 (length book.transactions + 1)) (Limit Transactions 200000)

-- A book has at most 1,000,000 splits (a limit of this project).
abbrev pub too_many_splits : Book → Txn → Option Rule
too_many_splits book transaction =
    broken_where (nat_lt 1000000 (length (splits_of book.transactions) + length transaction.splits))
    (Limit Splits 1000000)

-- The rules of a post.
abbrev pub post_rules : Book → Txn → List (Option Rule)
post_rules book transaction = broken_by book transaction ∷ too_many_transactions book
    ∷ too_many_splits book transaction ∷ []

-- A post is answered with the numbers it drew, and for each split the balance of its account after the post.
abbrev pub post_answer : Book → ℕ → Txn → Answer
post_answer after number transaction =
    answer.Post number (map (λ split. split.id) transaction.splits) (balances_at after.transactions (Some transaction))

-- The transaction stands in the book, under the next number.
abbrev pub post_of : State → Txn → Outcome
post_of state transaction =
    let book = with_thing state.next (thing.Txn transaction) state.book in
    changing state (post_rules state.book transaction) book (1 + length transaction.splits)
    (post_answer book state.next transaction)

-- A new transaction.
abbrev pub post : State → ℤ → GivenTxn → Outcome
post state day given = post_of state (new_transaction state.next day given)
