-- The command that posts a transaction for a line of a bank statement and matches the line with it.
use Rattle.std.specs.Prelude.{ℕ, ◌+◌, ◌==◌, not, List, [], ◌∷◌, ◌++◌, Option, Some, None, length, map, unwrap_or}
use Rattle.book_commodity.specs.Rules.{broken_where}
use Rattle.book_commodity.specs.Table.{value_of}
use Rattle.book_commodity.specs.declared.kind.Kind.TheVariants as kind
use Rattle.book_accounts.specs.declared.account.Account.{Account}
use Rattle.book_splits.specs.declared.split.Mark.TheVariants.{Cleared}
use Rattle.book_splits.specs.declared.split.Split.{Split}
use Rattle.book_splits.specs.declared.transaction.Txn.{Txn}
use Rattle.book_statement.specs.declared.line.Line.{Line}
use Rattle.book_statement.specs.declared.line_state.LineState.TheVariants.{Matched}
use Rattle.book_undo.specs.Book.{Book, with_thing}
use Rattle.book_undo.specs.declared.edit.Edit.{Edit, All, Put}
use Rattle.book_undo.specs.declared.thing.Thing.TheVariants as thing
use Rattle.book_step.specs.Accounts.{unknown_account}
use Rattle.book_step.specs.BankLines.{line_taken}
use Rattle.book_step.specs.Outcome.{Outcome, Broken, changing}
use Rattle.book_step.specs.Posting.{new_splits, post_rules}
use Rattle.book_step.specs.State.{State}
use Rattle.book_command.specs.declared.answer.Answer.{Answer}
use Rattle.book_command.specs.declared.answer.Answer.TheVariants as answer
use Rattle.book_command.specs.declared.command.GivenOther.{GivenOther}
use Rattle.book_command.specs.declared.command.GivenSplit.{GivenSplit}
use Rattle.book_command.specs.declared.rule.Rule.{Rule}
use Rattle.book_command.specs.declared.rule.Rule.TheVariants.{Unknown, WrongCurrency}

-- ---- the transaction of a line

-- The split on the line's account has the line's amount. It is cleared, since the bank has booked it (GnuCash Manual,
-- reconciling).
abbrev pub own_split : ℕ → Line → Split
own_split number line = record {
  id = number;
  account = line.account;
  memo = [];
  action = [];
  mark = Cleared;
  recon = None;
  value = line.body.amount;
  quantity = line.body.amount;
}

-- What stands against it, as a post gives a split: its quantity is its value, and it has no action.
abbrev pub given_split : GivenOther → GivenSplit
given_split other = record {
  account = other.account;
  value = other.value;
  quantity = other.value;
  memo = other.memo;
  action = [];
  id = None;
}

-- The splits of a line's transaction: the one on its account, then the others, as a post has them. They draw their
-- numbers in this order.
abbrev pub line_splits : ℕ → Line → List GivenOther → List Split
line_splits number line others = own_split number line ∷ new_splits (number + 1) (map given_split others)

-- The transaction of a line draws its number, the next for its first split, and so on. It stands on the line's day, and
-- its num is the line's own reference (GnuCash SQL schema, column num of table transactions). Its description is the
-- one given, which may be empty, or, where none is given, the line's text (a rule of this project).
abbrev pub line_transaction : ℕ → ℕ → Line → List GivenOther → Option (List ℕ) → Txn
line_transaction number currency line others description = record {
  currency = currency;
  day = line.body.day;
  num = line.body.ref_own;
  description = unwrap_or description line.body.text;
  splits = line_splits (number + 1) line others;
  voided = None;
}

-- The currency of the transaction is the commodity of the line's account, which is there in every sound book.
abbrev pub commodity_of : Option Account → ℕ
commodity_of None = 0
commodity_of (Some account) = account.commodity

-- ---- the rules

-- Another account is in another commodity than the line's account: the amounts of a line are all in one (a rule of this
-- project).
abbrev pub other_commodity : ℕ → Option Account → Option Rule
other_commodity commodity None = None
other_commodity commodity (Some account) =
    broken_where (not (account.commodity == commodity)) (WrongCurrency account.commodity)

-- The rules of a line and of what is given for it: the line is open; each account is one of the book's; and then each
-- is in the commodity.
abbrev pub given_rules : List (ℕ × Account) → ℕ → Line → ℕ → List GivenOther → List (Option Rule)
given_rules accounts number line commodity others =
    line_taken number line
    ∷ map (λ other. unknown_account accounts other.account) others
    ++ map (λ other. other_commodity commodity (value_of other.account accounts)) others

-- ---- the command

-- The line, matched with a split.
abbrev pub matched_with : ℕ → Line → Line
matched_with split line = record line { state = Matched split }

-- The book with the transaction under a number, and with the line matched with its first split, which has the next
-- number.
abbrev pub book_matched : Book → ℕ → Txn → ℕ → Line → Book
book_matched book number transaction line_number line =
    with_thing line_number (thing.Line (matched_with (number + 1) line))
    (with_thing number (thing.Txn transaction) book)

-- The edit that does so.
abbrev pub matching_edit : ℕ → Txn → ℕ → Line → Edit
matching_edit number transaction line_number line =
    All (Put number (thing.Txn transaction) ∷ Put line_number (thing.Line (matched_with (number + 1) line)) ∷ [])

-- The answer has the numbers that the transaction and its splits draw.
abbrev pub matched_answer : ℕ → Txn → Answer
matched_answer number transaction = answer.LineAdd number (map (λ split. split.id) transaction.splits)

-- A transaction is put under the next number, and the line is matched with its first split.
abbrev pub line_matched : State → List (Option Rule) → ℕ → Line → Txn → Outcome
line_matched state rules number line transaction =
    changing state rules (book_matched state.book state.next transaction number line) (1 + length transaction.splits)
    (matched_answer state.next transaction)

-- The command on a line of the book: its own rules come first, then those of a post of the transaction.
abbrev pub line_add_of : State → ℕ → Line → List GivenOther → Option (List ℕ) → Outcome
line_add_of state number line others description =
    let accounts = state.book.accounts in
    let commodity = commodity_of (value_of line.account accounts) in
    let transaction = line_transaction state.next commodity line others description in
    line_matched state (given_rules accounts number line commodity others ++ post_rules state.book transaction)
    number line transaction

-- The command on a line, if it is there.
abbrev pub line_add_at : State → ℕ → List GivenOther → Option (List ℕ) → Option Line → Outcome
line_add_at state number others description None = Broken (Unknown kind.Line number)
line_add_at state number others description (Some line) = line_add_of state number line others description

-- A transaction is posted for a line of the book.
abbrev pub line_add : State → ℕ → List GivenOther → Option (List ℕ) → Outcome
line_add state number others description =
    line_add_at state number others description (value_of number state.book.lines)
