-- The commands that edit and delete a transaction of the book.
use Rattle.std.specs.Prelude.{ℕ, ◌+◌, ◌==◌, ℤ, nat_lt, not, Bool, true, false, ◌&&◌, ◌||◌, if◌then◌else◌, List, [], ◌∷◌}
use Rattle.std.specs.Prelude.{◌++◌, Option, Some, None, is_none, map, length, option_map, find}
use Rattle.std.specs.List.{list_any}
use Rattle.std.specs.Option.{option_and_then}
use Rattle.std.specs.Ordering.{int_eq}
use Rattle.book_commodity.specs.Rules.{broken_where}
use Rattle.book_commodity.specs.Table.{value_of, with_entry, without_entry}
use Rattle.book_commodity.specs.declared.counted.Counted.TheVariants.{Splits}
use Rattle.book_commodity.specs.declared.kind.Kind.TheVariants as kind
use Rattle.book_splits.specs.Balance.{splits_of}
use Rattle.book_splits.specs.TransactionRules.{is_among, numbers_of}
use Rattle.book_splits.specs.declared.split.Mark.TheVariants as mark
use Rattle.book_splits.specs.declared.split.Split.{Split}
use Rattle.book_splits.specs.declared.transaction.Txn.{Txn}
use Rattle.book_undo.specs.Book.{Book}
use Rattle.book_sound.specs.Dismissal.{lines_after}
pub use Rattle.book_sound.specs.MarkedTransactionRules.{is_reconciled}
use Rattle.book_step.specs.AnswerBalances.{balances_at}
use Rattle.book_step.specs.Outcome.{Outcome, Broken, changing, leaving, unless_broken}
use Rattle.book_step.specs.Posting.{broken_by, new_split}
use Rattle.book_step.specs.SameTransaction.{same_transaction}
use Rattle.book_step.specs.State.{State}
use Rattle.book_step.specs.VoidRules.{voided_transaction}
use Rattle.book_command.specs.declared.answer.Answer.{Answer}
use Rattle.book_command.specs.declared.answer.Answer.TheVariants as answer
use Rattle.book_command.specs.declared.command.GivenSplit.{GivenSplit}
use Rattle.book_command.specs.declared.command.GivenTxn.{GivenTxn}
use Rattle.book_command.specs.declared.rule.Rule.{Rule}
use Rattle.book_command.specs.declared.rule.Rule.TheVariants.{Unknown, Limit, Reconciled}

-- The transaction isn't one of the book's (GnuCash SQL schema, table transactions).
abbrev pub unknown_transaction : List (ℕ × Txn) → ℕ → Option Rule
unknown_transaction transactions number =
    broken_where (is_none (value_of number transactions)) (Unknown kind.Transaction number)

-- ---- the splits that stay

-- The number that a given split has, as a list.
abbrev pub number_given : Option ℕ → List ℕ
number_given None = []
number_given (Some id) = id ∷ []

-- The numbers that given splits have, in the order given.
abbrev pub numbers_given : List GivenSplit → List ℕ
numbers_given [] = []
numbers_given (given ∷ more) = number_given given.id ++ numbers_given more

-- The number of a given split, where it has one, is not that of a split of the transaction, or it stands among those
-- given before.
abbrev pub unknown_split : List Split → List ℕ → Option ℕ → Option Rule
unknown_split splits before None = None
unknown_split splits before (Some id) =
    broken_where (not (is_among (numbers_of splits) id) || is_among before id) (Unknown kind.Split id)

-- The rules of the numbers of given splits, in the order given: each is that of a split of the transaction, and stands
-- once.
abbrev pub number_rules : List Split → List ℕ → List GivenSplit → List (Option Rule)
number_rules splits before [] = []
number_rules splits before (given ∷ more) =
    unknown_split splits before given.id ∷ number_rules splits (before ++ number_given given.id) more

-- The split that a given split is the new form of: the one whose number it has.
abbrev pub kept_by : List Split → GivenSplit → Option Split
kept_by splits given = option_and_then (λ id. find (λ split. split.id == id) splits) given.id

-- Whether a split keeps its mark and its reconciliation under this account with this quantity: it isn't reconciled, or
-- both are what they were.
abbrev pub keeps_mark : Split → ℕ → ℤ → Bool
keeps_mark split account quantity =
    not (is_reconciled split.mark) || ((account == split.account) && int_eq quantity split.quantity)

-- A split that stays keeps its number, and its mark and reconciliation where it may; else it is new again.
abbrev pub kept_split : Split → GivenSplit → Split
kept_split split given = record {
  id = split.id;
  account = given.account;
  memo = given.memo;
  action = given.action;
  mark = if keeps_mark split given.account given.quantity then split.mark else mark.New;
  recon = if keeps_mark split given.account given.quantity then split.recon else None;
  value = given.value;
  quantity = given.quantity;
}

-- ---- the transaction after the edit

-- A given split as it stands in the book after the edit: the new form of a split that stays, or a new one.
abbrev pub edited_split : ℕ → GivenSplit → Option Split → Split
edited_split next given None = new_split next given
edited_split next given (Some split) = kept_split split given

-- How many numbers a given split draws: one where it is a new one.
abbrev pub drawn_for : Option Split → ℕ
drawn_for None = 1
drawn_for (Some split) = 0

-- The splits after the edit, of which the new ones draw their numbers by place.
abbrev pub edited_splits : List Split → ℕ → List GivenSplit → List Split
edited_splits splits next [] = []
edited_splits splits next (given ∷ more) =
    edited_split next given (kept_by splits given)
    ∷ edited_splits splits (next + drawn_for (kept_by splits given)) more

-- How many numbers they draw.
abbrev pub drawn_by : List Split → List GivenSplit → ℕ
drawn_by splits [] = 0
drawn_by splits (given ∷ more) = drawn_for (kept_by splits given) + drawn_by splits more

-- The transaction after the edit: all of it is given anew.
abbrev pub edited_transaction : Txn → ℕ → ℤ → GivenTxn → Txn
edited_transaction old next day given = record {
  currency = given.currency;
  day = day;
  num = given.num;
  description = given.description;
  splits = edited_splits old.splits next given.splits;
  voided = None;
}

-- ---- reconciled splits

-- Whether a split is the same part of a transaction as another: it has its number, its account and its quantity.
abbrev pub is_same_part : Split → Split → Bool
is_same_part split other =
    (other.id == split.id) && ((other.account == split.account) && int_eq other.quantity split.quantity)

-- Whether a reconciled split is none of these splits, or has another account or quantity among them.
abbrev pub loses_reconciliation : List Split → Split → Bool
loses_reconciliation later split = is_reconciled split.mark && not (list_any (is_same_part split) later)

-- Without force a reconciled split is neither removed nor moved to another account or quantity (GnuCash Manual,
-- changing a reconciled split). The first by place is reported.
abbrev pub reconciled : Bool → List Split → List Split → Option Rule
reconciled true splits later = None
reconciled false splits later = option_map (λ split. Reconciled split.id) (find (loses_reconciliation later) splits)

-- ---- the edit

-- A book has at most 1,000,000 splits (a limit of this project), those of the transaction as it is after the edit.
abbrev pub too_many_after : Book → ℕ → Txn → Option Rule
too_many_after book number new =
    broken_where (nat_lt 1000000 (length (splits_of (with_entry number new book.transactions)))) (Limit Splits 1000000)

-- The rules of an edit: the numbers given are those of splits of the transaction, each once; the new transaction
-- breaks no rule of transactions; without force no reconciled split is lost; and the book has room for the splits.
abbrev pub edit_rules : Book → ℕ → Bool → GivenTxn → Txn → Txn → List (Option Rule)
edit_rules book number force given old new =
    number_rules old.splits [] given.splits
    ++ (broken_by book new ∷ reconciled force old.splits new.splits ∷ too_many_after book number new ∷ [])

-- An edit is answered with its transaction's number, which is not written in the answer's line, the numbers of the
-- splits by place, and for each the balance of its account after the edit.
abbrev pub edit_answer : Book → ℕ → Txn → Answer
edit_answer after number new =
    answer.Edit number (map (λ split. split.id) new.splits) (balances_at after.transactions (Some new))

-- The book with another transaction in the place of one: a statement's line that is matched with a split which is gone
-- then, or has another account or quantity, is dismissed.
abbrev pub book_with : Book → ℕ → Txn → Txn → Book
book_with book number old new = record book {
  transactions = with_entry number new book.transactions;
  lines = lines_after old.splits new.splits book.lines;
}

-- The edit of a transaction that is there and not voided. One that leaves the book as it is leaves the version too.
abbrev pub edit_of : State → ℕ → Bool → ℤ → GivenTxn → Txn → Outcome
edit_of state number force day given old =
    let new = edited_transaction old state.next day given in
    let rules = edit_rules state.book number force given old new in
    let book = book_with state.book number old new in
    if (same_transaction new old).is then leaving state rules (edit_answer state.book number new)
    else changing state rules book (drawn_by old.splits given.splits) (edit_answer book number new)

-- The edit of a transaction, if it is there and not voided.
abbrev pub edit_at : State → ℕ → Bool → ℤ → GivenTxn → Option Txn → Outcome
edit_at state number force day given None = Broken (Unknown kind.Transaction number)
edit_at state number force day given (Some old) =
    unless_broken (voided_transaction number old) (edit_of state number force day given old)

-- A transaction of the book is given anew.
abbrev pub edit_transaction : State → ℕ → Bool → ℤ → GivenTxn → Outcome
edit_transaction state number force day given =
    edit_at state number force day given (value_of number state.book.transactions)

-- ---- the deletion

-- The book without a transaction: the lines that are matched with its splits are dismissed.
abbrev pub book_without : Book → ℕ → Txn → Book
book_without book number old = record book {
  transactions = without_entry number book.transactions;
  lines = lines_after old.splits [] book.lines;
}

-- The deletion of a transaction, if it is there: it is not voided, and without force it has no reconciled split.
abbrev pub drop_at : State → ℕ → Bool → Option Txn → Outcome
drop_at state number force None = Broken (Unknown kind.Transaction number)
drop_at state number force (Some old) =
    changing state (voided_transaction number old ∷ reconciled force old.splits [] ∷ [])
    (book_without state.book number old) 0 answer.Drop

-- A transaction of the book is deleted.
abbrev pub drop_transaction : State → ℕ → Bool → Outcome
drop_transaction state number force = drop_at state number force (value_of number state.book.transactions)
