-- Changes whose answers are known, from the fresh state on.
use Rattle.std.proofs.Common.{◌≡◌, ℕ, ℤ, pos, negsuc, List, [], ◌∷◌, Option, Some, None, true, false, codes, refl}
use Rattle.book_commodity.specs.declared.counted.Counted.TheVariants.{Amount}
use Rattle.book_commodity.specs.declared.kind.Kind.TheVariants as kind
use Rattle.book_accounts.specs.Tree.{nearest_parents}
use Rattle.book_accounts.specs.declared.kind.AccountKind.{AccountKind}
use Rattle.book_accounts.specs.declared.kind.AccountKind.TheVariants.{Bank, Income, Stock}
use Rattle.book_splits.specs.declared.split.Mark.{Mark}
use Rattle.book_splits.specs.declared.split.Mark.TheVariants.{New, Reconciled}
use Rattle.book_splits.specs.declared.split.Mark.TheVariants.{Cleared}
use Rattle.book_splits.specs.declared.split.Split.{Split}
use Rattle.book_splits.specs.declared.transaction.Txn.{Txn}
use Rattle.book_statement.specs.declared.line.Line.{Line}
use Rattle.book_statement.specs.declared.line_state.LineState.{LineState}
use Rattle.book_statement.specs.declared.binding.Binding.{Binding}
use Rattle.book_statement.specs.declared.line_state.LineState.TheVariants.{Dismissed, Matched, Open}
use Rattle.book_undo.specs.Book.{Book}
use Rattle.book_step.specs.BankLines as shown
use Rattle.book_step.specs.Editing.{reconciled}
use Rattle.book_step.specs.Outcome.{Outcome, Broken, Done}
use Rattle.book_step.specs.State.{State, fresh_state}
use Rattle.book_step.specs.Step.{outcome, stale}
use Rattle.book_command.specs.declared.answer.Answer.{Answer}
use Rattle.book_command.specs.declared.answer.Answer.TheVariants as answer
use Rattle.book_command.specs.declared.command.GivenAccount.{GivenAccount}
use Rattle.book_command.specs.declared.command.GivenOther.{GivenOther}
use Rattle.book_command.specs.declared.command.GivenSplit.{GivenSplit}
use Rattle.book_command.specs.declared.command.Update.{Update}
use Rattle.book_command.specs.declared.command.Update.TheVariants.{BookCurrency, CommodityAdd, AccountAdd}
use Rattle.book_command.specs.declared.command.Update.TheVariants.{AccountEdit, AccountDrop, Post, Edit, Drop}
use Rattle.book_command.specs.declared.command.Update.TheVariants.{LineAdd}
use Rattle.book_command.specs.declared.command.Update.TheVariants.{Bind, LineDismiss, LineReopen}
use Rattle.book_command.specs.declared.rule.Rule.{Rule}
use Rattle.book_command.specs.declared.rule.Rule.TheVariants.{Stale, NameTaken, Root, Cycle, SplitCount, Unbalanced}
use Rattle.book_command.specs.declared.rule.Rule.TheVariants.{Limit, Unknown}
use Rattle.book_command.specs.declared.rule.Rule.TheVariants as rule

-- what an outcome says: a rule, or an answer with the version after
data Reply : Type 0 where
  Refused : Rule → Reply
  Answered : Answer → ℕ → Reply

abbrev reply : Outcome → Reply
reply (Broken rule) = Refused rule
reply (Done state answer) = Answered answer state.version

abbrev after : State → Outcome → State
after state (Broken rule) = state
after state (Done new answer) = new

abbrev run : State → List Update → State
run state [] = state
run state (update ∷ more) = run (after state (outcome state update)) more

-- what the last change comes to after the others
abbrev last : List Update → Update → Reply
last before update = reply (outcome (run fresh_state before) update)

abbrev account : List ℕ → AccountKind → Option ℕ → Update
account name kind basis = AccountAdd (record {
  name = name;
  kind = kind;
  commodity = 1;
  parent = Some 2;
  code = [];
  note = [];
  hidden = false;
  placeholder = false;
  basis = basis;
})

abbrev broker : Update
broker = AccountAdd (record {
  name = codes "Broker";
  kind = Stock;
  commodity = 3;
  parent = Some 2;
  code = [];
  note = [];
  hidden = false;
  placeholder = false;
  basis = Some 1;
})

abbrev given : ℕ → ℤ → ℤ → GivenSplit
given account value quantity = record
    { account = account; value = value; quantity = quantity; memo = []; action = []; id = None }

abbrev paid : ℤ → ℤ → Update
paid to from = Post (pos 19727)
    (record { currency = 1; num = []; description = codes "Pay"; splits = given 3 to to ∷ given 4 from from ∷ [] })

abbrev two_accounts : List Update
two_accounts = account (codes "Bank") Bank None ∷ account (codes "Salary") Income None ∷ []

salary :
    last two_accounts (paid (pos 250000) (negsuc 249999))
    ≡ Answered (answer.Post 5 (6 ∷ 7 ∷ []) (pos 250000 ∷ negsuc 249999 ∷ [])) 3
salary = refl

unbalanced_post : last two_accounts (paid (pos 100) (negsuc 98)) ≡ Refused (Unbalanced (pos 1))
unbalanced_post = refl

largest_amounts :
    last two_accounts (paid (pos 10000000000000) (negsuc 9999999999999))
    ≡ Answered (answer.Post 5 (6 ∷ 7 ∷ []) (pos 10000000000000 ∷ negsuc 9999999999999 ∷ [])) 3
largest_amounts = refl

amount_limit : last two_accounts (paid (pos 10000000000001) (negsuc 10000000000000))
    ≡ Refused (Limit Amount 10000000000000)
amount_limit = refl

abbrev acme : Update
acme = CommodityAdd (record { space = codes "NYSE"; name = codes "ACME"; full_name = []; fraction = 1 })

abbrev security : List Update
security = acme ∷ broker ∷ account (codes "Cash") Bank None ∷ []

stock_split :
    last security (Post (pos 19727)
    (record { currency = 1; num = []; description = []; splits = given 4 (pos 0) (pos 50) ∷ [] }))
    ≡ Answered (answer.Post 6 (7 ∷ []) (pos 50 ∷ [])) 4
stock_split = refl

no_split : last security (Post (pos 19727) (record { currency = 1; num = []; description = []; splits = [] }))
    ≡ Refused (SplitCount 0)
no_split = refl

root_stays : last [] (AccountDrop 2) ≡ Refused Root
root_stays = refl

abbrev under_itself : GivenAccount
under_itself = record { name = None; parent = Some 3; code = None; note = None; hidden = None; placeholder = None }

cycle : last two_accounts (AccountEdit 3 under_itself) ≡ Refused Cycle
cycle = refl

abbrev nothing : GivenAccount
nothing = record {
  name = Some (codes "Bank");
  parent = Some 2;
  code = None;
  note = None;
  hidden = Some false;
  placeholder = None;
}

-- an edit without a change leaves the version
as_before : last two_accounts (AccountEdit 3 nothing) ≡ Answered answer.AccountEdit 2
unfolding nearest_parents
as_before = refl

same_currency : last [] (BookCurrency 1) ≡ Answered answer.BookCurrency 0
same_currency = refl

name_taken : last two_accounts (account (codes "Bank") Bank None) ≡ Refused (NameTaken 3)
name_taken = refl

earlier_version : stale 2 (Some 1) ≡ Some (Stale 2)
earlier_version = refl

later_version : stale 2 (Some 3) ≡ Some (Stale 2)
later_version = refl

present_version : stale 2 (Some 2) ≡ None
present_version = refl

-- the book after the salary, with transaction 5 and its splits 6 and 7
abbrev paid_book : List Update
paid_book = account (codes "Bank") Bank None ∷ account (codes "Salary") Income None
    ∷ paid (pos 250000) (negsuc 249999) ∷ []

abbrev given_with : Option ℕ → ℕ → ℤ → GivenSplit
given_with number account value = record
    { account = account; value = value; quantity = value; memo = []; action = []; id = number }

abbrev given_anew : List GivenSplit → Update
given_anew splits = Edit 5 false (pos 19728)
    (record { currency = 1; num = []; description = []; splits = splits })

abbrev corrected : Update
corrected = given_anew (given_with (Some 6) 3 (pos 100) ∷ given_with None 4 (negsuc 99) ∷ [])

-- one split stays and one comes
edited : last paid_book corrected ≡ Answered (answer.Edit 5 (6 ∷ 8 ∷ []) (pos 100 ∷ negsuc 99 ∷ [])) 4
edited = refl

-- a number that stands a second time
number_twice :
    last paid_book (given_anew (given_with (Some 6) 3 (pos 100) ∷ given_with (Some 6) 4 (negsuc 99) ∷ []))
    ≡ Refused (Unknown kind.Split 6)
number_twice = refl

-- a number of no split, before the values are summed
other_number : last paid_book (given_anew (given_with (Some 5) 3 (pos 100) ∷ [])) ≡ Refused (Unknown kind.Split 5)
other_number = refl

-- given as it is, it stays, and so does the version
given_again :
    last paid_book (Edit 5 false (pos 19727) (record {
      currency = 1;
      num = [];
      description = codes "Pay";
      splits = given_with (Some 6) 3 (pos 250000) ∷ given_with (Some 7) 4 (negsuc 249999) ∷ [];
    }))
    ≡ Answered (answer.Edit 5 (6 ∷ 7 ∷ []) (pos 250000 ∷ negsuc 249999 ∷ [])) 3
given_again = refl

abbrev edited_book : List Update
edited_book = account (codes "Bank") Bank None ∷ account (codes "Salary") Income None
    ∷ paid (pos 250000) (negsuc 249999) ∷ corrected ∷ []

transaction_dropped : last edited_book (Drop 5 false) ≡ Answered answer.Drop 5
transaction_dropped = refl

no_transaction : last two_accounts (Drop 5 false) ≡ Refused (Unknown kind.Transaction 5)
no_transaction = refl

-- a reconciled split that is lost is reported, the first by place
abbrev marked : ℕ → Mark → Split
marked number mark = record {
  id = number;
  account = 3;
  memo = [];
  action = [];
  mark = mark;
  recon = None;
  value = pos 1;
  quantity = pos 1;
}

lost : reconciled false (marked 6 New ∷ marked 7 Reconciled ∷ marked 8 Reconciled ∷ []) (marked 8 Reconciled ∷ [])
    ≡ Some (rule.Reconciled 7)
lost = refl

lost_with_force : reconciled true (marked 7 Reconciled ∷ []) [] ≡ None
lost_with_force = refl

dropped : last two_accounts (AccountDrop 3) ≡ Answered answer.AccountDrop 3
dropped = refl

-- ---- what names an account, and a line that is matched with a split

abbrev matched : LineState → Line
matched state = record {
  account = 3;
  statement = 9;
  ordinal = 0;
  body = record {
    day = pos 19728;
    value_day = pos 19728;
    amount = pos 250000;
    kind = [];
    ref_own = [];
    ref_bank = [];
    text = codes "Pay";
    category = [];
    parts = [];
  };
  state = state;
}

abbrev lined : LineState → Book → Book
lined state book = record book { lines = (8, matched state) ∷ [] }

-- the state with one line, in this state of a line
abbrev with_line : LineState → State → State
with_line state old = record { book = lined state old.book; next = old.next; version = old.version }

-- what the last change comes to after the others, with a line of account 3 that is matched with split 6
abbrev last_lined : List Update → Update → Outcome
last_lined before update = outcome (with_line (Matched 6) (run fresh_state before)) update

abbrev lines_of : Outcome → List (ℕ × Line)
lines_of (Broken rule) = []
lines_of (Done state answer) = state.book.lines

named_account : reply (last_lined two_accounts (AccountDrop 3)) ≡ Refused (rule.InUse kind.Line 8)
named_account = refl

abbrev holding : GivenAccount
holding = record
    { name = None; parent = None; code = None; note = None; hidden = None; placeholder = Some true }

named_placeholder : reply (last_lined two_accounts (AccountEdit 3 holding)) ≡ Refused (rule.InUse kind.Line 8)
unfolding nearest_parents
named_placeholder = refl

-- the line of a transaction that is deleted is dismissed
line_dismissed : lines_of (last_lined paid_book (Drop 5 false)) ≡ (8, matched Dismissed) ∷ []
line_dismissed = refl

-- and so is one whose split gets another quantity, but not one whose split is given as it was
line_lost : lines_of (last_lined paid_book corrected) ≡ (8, matched Dismissed) ∷ []
line_lost = refl

line_kept :
    lines_of (last_lined paid_book
    (given_anew (given_with (Some 6) 3 (pos 250000) ∷ given_with None 4 (negsuc 249999) ∷ [])))
    ≡ (8, matched (Matched 6)) ∷ []
line_kept = refl

-- ---- a transaction for a line

-- the state after some changes, with line 8 of account 3 and with 10 as the next number
abbrev for_line : LineState → List Update → State
for_line state before =
    let old = run fresh_state before in
    record { book = lined state old.book; next = 10; version = old.version }

abbrev other : ℕ → ℤ → GivenOther
other account value = record { account = account; value = value; memo = codes "May" }

abbrev added : LineState → List Update → List GivenOther → Outcome
added state before others = outcome (for_line state before) (LineAdd 8 others None)

abbrev transactions_of : Outcome → List (ℕ × Txn)
transactions_of (Broken rule) = []
transactions_of (Done state answer) = state.book.transactions

abbrev pay : List GivenOther
pay = other 4 (negsuc 199999) ∷ other 4 (negsuc 49999) ∷ []

line_added : reply (added Open two_accounts pay) ≡ Answered (answer.LineAdd 10 (11 ∷ 12 ∷ 13 ∷ [])) 3
line_added = refl

-- the line is matched with the first split,
line_of_added : lines_of (added Open two_accounts pay) ≡ (8, matched (Matched 11)) ∷ []
line_of_added = refl

-- which is cleared; the others are new
abbrev made_of : List ℕ → List (ℕ × Txn)
made_of description = (
  10,
  record {
    currency = 1;
    day = pos 19728;
    num = [];
    description = description;
    voided = None;
    splits = record {
      id = 11;
      account = 3;
      memo = [];
      action = [];
      mark = Cleared;
      recon = None;
      value = pos 250000;
      quantity = pos 250000;
    } ∷ record {
      id = 12;
      account = 4;
      memo = codes "May";
      action = [];
      mark = New;
      recon = None;
      value = negsuc 199999;
      quantity = negsuc 199999;
    } ∷ record {
      id = 13;
      account = 4;
      memo = codes "May";
      action = [];
      mark = New;
      recon = None;
      value = negsuc 49999;
      quantity = negsuc 49999;
    } ∷ [];
  },
) ∷ []

transaction_of_added : transactions_of (added Open two_accounts pay) ≡ made_of (codes "Pay")
transaction_of_added = refl

-- an empty description that is given stays empty
described_empty :
    transactions_of (outcome (for_line Open two_accounts) (LineAdd 8 pay (Some []))) ≡ made_of []
described_empty = refl

-- a line that is matched is taken, which is asked before the accounts
line_taken : reply (added (Matched 6) paid_book (other 9 (negsuc 249999) ∷ [])) ≡ Refused (rule.LineTaken 8)
line_taken = refl

line_dismissed_before : reply (added Dismissed two_accounts pay) ≡ Refused (rule.LineTaken 8)
line_dismissed_before = refl

no_line : reply (outcome (for_line Open two_accounts) (LineAdd 7 pay None)) ≡ Refused (Unknown kind.Line 7)
no_line = refl

-- a security account of commodity 5 is account 6
abbrev with_shares : List Update
with_shares = account (codes "Bank") Bank None ∷ account (codes "Salary") Income None ∷ acme
    ∷ AccountAdd (record {
      name = codes "Broker";
      kind = Stock;
      commodity = 5;
      parent = Some 2;
      code = [];
      note = [];
      hidden = false;
      placeholder = false;
      basis = Some 1;
    }) ∷ []

other_commodity : reply (added Open with_shares (other 4 (pos 0) ∷ other 6 (negsuc 249999) ∷ []))
    ≡ Refused (rule.WrongCurrency 5)
other_commodity = refl

-- all accounts are asked for before the commodity of one is
no_account : reply (added Open with_shares (other 6 (negsuc 249999) ∷ other 9 (pos 0) ∷ []))
    ≡ Refused (Unknown kind.Account 9)
no_account = refl

line_unbalanced : reply (added Open two_accounts (other 4 (negsuc 249998) ∷ [])) ≡ Refused (Unbalanced (pos 1))
line_unbalanced = refl

-- ---- bindings, and the states of a line

abbrev bound : ℕ → Update
bound number = Bind (record { text = codes "NL01BANK0123456789"; account = number })

bind_new : last two_accounts (bound 3) ≡ Answered answer.Bind 3
bind_new = refl

abbrev bound_book : List Update
bound_book = account (codes "Bank") Bank None ∷ account (codes "Salary") Income None ∷ bound 3 ∷ []

abbrev bindings_after : List Update → Update → List (ℕ × Binding)
bindings_after before update = (after (run fresh_state before) (outcome (run fresh_state before) update)).book.bindings

-- a text that is bound already keeps its number
bind_again : bindings_after bound_book (bound 4)
    ≡ (5, record { text = codes "NL01BANK0123456789"; account = 4 }) ∷ []
bind_again = refl

bind_other : bindings_after bound_book (Bind (record { text = codes "NL02"; account = 3 }))
    ≡ (5, record { text = codes "NL01BANK0123456789"; account = 3 }) ∷ (6, record { text = codes "NL02"; account = 3 })
    ∷ []
bind_other = refl

bind_as_before : last bound_book (bound 3) ≡ Answered answer.Bind 3
bind_as_before = refl

bind_placeholder : last bound_book (bound 2) ≡ Refused (rule.Placeholder 2)
bind_placeholder = refl

bind_unknown : last bound_book (bound 9) ≡ Refused (Unknown kind.Account 9)
bind_unknown = refl

-- a line that is matched isn't dismissed, and is open after it is reopened
matched_stays : reply (last_lined two_accounts (LineDismiss 8)) ≡ Refused (rule.LineTaken 8)
matched_stays = refl

line_reopened : lines_of (last_lined two_accounts (LineReopen 8)) ≡ (8, matched Open) ∷ []
line_reopened = refl

abbrev last_open : Update → Outcome
last_open update = outcome (with_line Open (run fresh_state two_accounts)) update

open_dismissed : lines_of (last_open (LineDismiss 8)) ≡ (8, matched Dismissed) ∷ []
open_dismissed = refl

open_as_before : reply (last_open (LineReopen 8)) ≡ Answered answer.LineReopen 2
open_as_before = refl

no_line_to_dismiss : reply (last_open (LineDismiss 9)) ≡ Refused (Unknown kind.Line 9)
no_line_to_dismiss = refl

no_line_to_reopen : reply (last_open (LineReopen 9)) ≡ Refused (Unknown kind.Line 9)
no_line_to_reopen = refl

-- ---- the questions for lines

lines_shown : shown.lines_of 3 ((8, matched Open) ∷ []) ≡ record { id = 8; line = matched Open } ∷ []
lines_shown = refl

no_lines_shown : shown.lines_of 4 ((8, matched Open) ∷ []) ≡ []
no_lines_shown = refl
