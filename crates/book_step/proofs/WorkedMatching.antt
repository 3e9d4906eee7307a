-- Lines of an account 3 that are matched at once with its splits: the steps are known.
use Rattle.std.proofs.Common.{◌≡◌, ℕ, ℤ, pos, negsuc, List, [], ◌∷◌, ◌++◌, Some, None, false, codes, map, refl}
use Rattle.book_commodity.specs.declared.counted.Counted.TheVariants.{Window}
use Rattle.book_commodity.specs.declared.kind.Kind.TheVariants as kind
use Rattle.book_accounts.specs.declared.account.Account.{Account}
use Rattle.book_accounts.specs.declared.kind.AccountKind.TheVariants.{Bank}
use Rattle.book_splits.specs.Balance.{splits_of}
use Rattle.book_splits.specs.declared.split.Mark.{Mark}
use Rattle.book_splits.specs.declared.split.Mark.TheVariants.{New, Cleared, Reconciled}
use Rattle.book_splits.specs.declared.split.Split.{Split}
use Rattle.book_splits.specs.declared.transaction.Txn.{Txn}
use Rattle.book_statement.specs.declared.line.Line.{Line}
use Rattle.book_statement.specs.declared.line_state.LineState.{LineState}
use Rattle.book_statement.specs.declared.line_state.LineState.TheVariants.{Open, Matched as MatchedWith, Dismissed}
use Rattle.book_match.specs.declared.views.Matched.{Matched}
use Rattle.book_command.specs.declared.answer.Answer.{Answer}
use Rattle.book_command.specs.declared.answer.Answer.TheVariants as answer
use Rattle.book_command.specs.declared.command.Update.TheVariants.{MatchAuto}
use Rattle.book_command.specs.declared.rule.Rule.{Rule}
use Rattle.book_command.specs.declared.rule.Rule.TheVariants.{Limit, Unknown}
use Rattle.book_step.specs.Outcome.{Outcome, Broken, Done}
use Rattle.book_step.specs.State.{State, fresh_book}
use Rattle.book_step.specs.Step.{outcome}

-- what an outcome says: a rule, or an answer with the version after
data Reply : Type 0 where
  Refused : Rule → Reply
  Answered : Answer → ℕ → Reply

abbrev reply : Outcome → Reply
reply (Broken rule) = Refused rule
reply (Done state answer) = Answered answer state.version

abbrev after : State → Outcome → State
after state (Broken rule) = state
after state (Done new answer) = new

abbrev giro : Account
giro = record {
  name = codes "Giro";
  kind = Bank;
  commodity = 1;
  parent = Some 2;
  code = [];
  note = [];
  hidden = false;
  placeholder = false;
  basis = None;
}

-- a split of 200.00 out of the account
abbrev rent : ℕ → Mark → Split
rent number mark = record {
  id = number;
  account = 3;
  memo = [];
  action = [];
  mark = mark;
  recon = None;
  value = negsuc 19999;
  quantity = negsuc 19999;
}

-- a transaction of one such split, on the day
abbrev paid : ℤ → Split → Txn
paid day split = record { currency = 1; day = day; num = []; description = []; splits = split ∷ []; voided = None }

-- a line of 200.00 out of the account on 2024-01-05, in a state
abbrev booked : LineState → Line
booked state = record {
  account = 3;
  statement = 4;
  ordinal = 0;
  body = record {
    day = pos 19727;
    value_day = pos 19727;
    amount = negsuc 19999;
    kind = codes "NTRF";
    ref_own = [];
    ref_bank = [];
    text = codes "Rent";
    category = [];
    parts = [];
  };
  state = state;
}

abbrev state_with : List (ℕ × Txn) → List (ℕ × Line) → State
state_with transactions lines = record {
  book = record fresh_book {
    accounts = fresh_book.accounts ++ (3, giro) ∷ [];
    transactions = transactions;
    lines = lines;
  };
  next = 20;
  version = 7;
}

-- two splits, of 2024-01-05 and a day later, the second of which is cleared, and two open lines
abbrev open_book : State
open_book = state_with
    ((10, paid (pos 19727) (rent 11 New)) ∷ (12, paid (pos 19728) (rent 13 Cleared)) ∷ [])
    ((5, booked Open) ∷ (6, booked Open) ∷ [])

abbrev with : ℕ → ℕ → Matched
with number other = record { line = number; split = other }

-- what becomes of the marks of splits, and of the states of lines
abbrev marks : State → List Mark
marks state = map (λ split. split.mark) (splits_of state.book.transactions)

abbrev states : State → List LineState
states state = map (λ entry. entry.1.state) state.book.lines

unknown_account : reply (outcome open_book (MatchAuto 9 5)) ≡ Refused (Unknown kind.Account 9)
unknown_account = refl

-- a window of 366 days is accepted, and one of 367 refused
wide_window : reply (outcome open_book (MatchAuto 3 367)) ≡ Refused (Limit Window 366)
wide_window = refl

widest_window : reply (outcome open_book (MatchAuto 3 366)) ≡ Answered (answer.MatchAuto (with 5 11 ∷ with 6 13 ∷ [])) 8
widest_window = refl

-- only the split of the same day is in a window of no days; it becomes cleared
same_day : reply (outcome open_book (MatchAuto 3 0)) ≡ Answered (answer.MatchAuto (with 5 11 ∷ [])) 8
same_day = refl

marks_after : marks (after open_book (outcome open_book (MatchAuto 3 0))) ≡ Cleared ∷ Cleared ∷ []
marks_after = refl

states_after : states (after open_book (outcome open_book (MatchAuto 3 0))) ≡ MatchedWith 11 ∷ Open ∷ []
states_after = refl

-- a second time there is nothing to match, and the book stays as it is
nothing_again :
    reply (outcome (after open_book (outcome open_book (MatchAuto 3 0))) (MatchAuto 3 0))
    ≡ Answered (answer.MatchAuto []) 8
nothing_again = refl

-- a reconciled split isn't proposed, nor one that a line has, nor for a dismissed line
reconciled_split :
    reply (outcome (state_with ((10, paid (pos 19727) (rent 11 Reconciled)) ∷ []) ((5, booked Open) ∷ []))
    (MatchAuto 3 5))
    ≡ Answered (answer.MatchAuto []) 7
reconciled_split = refl

split_of_a_line :
    reply (outcome (state_with ((10, paid (pos 19727) (rent 11 Cleared)) ∷ [])
    ((5, booked Open) ∷ (6, booked (MatchedWith 11)) ∷ []))
    (MatchAuto 3 5))
    ≡ Answered (answer.MatchAuto []) 7
split_of_a_line = refl

dismissed_line :
    reply (outcome (state_with ((10, paid (pos 19727) (rent 11 New)) ∷ []) ((5, booked Dismissed) ∷ []))
    (MatchAuto 3 5))
    ≡ Answered (answer.MatchAuto []) 7
dismissed_line = refl
