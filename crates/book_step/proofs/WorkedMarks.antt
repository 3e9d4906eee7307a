-- Marks and matches whose answers are known, in a book with a transaction 5, whose splits are 6 and 7.
use Rattle.std.proofs.Common.{◌≡◌, ℕ, ℤ, pos, negsuc, List, [], ◌∷◌, Option, Some, None, Bool, true, false, codes, refl}
use Rattle.book_commodity.specs.declared.kind.Kind.TheVariants as kind
use Rattle.book_splits.specs.declared.split.Mark.{Mark as MarkOf}
use Rattle.book_splits.specs.declared.split.Mark.TheVariants.{New, Cleared, Reconciled}
use Rattle.book_splits.specs.declared.split.Split.{Split}
use Rattle.book_splits.specs.declared.transaction.Txn.{Txn}
use Rattle.book_statement.specs.declared.line.Line.{Line}
use Rattle.book_statement.specs.declared.line_state.LineState.{LineState}
use Rattle.book_statement.specs.declared.line_state.LineState.TheVariants.{Dismissed, Matched, Open}
use Rattle.book_command.specs.declared.answer.Answer.{Answer}
use Rattle.book_command.specs.declared.answer.Answer.TheVariants as answer
use Rattle.book_command.specs.declared.command.Update.TheVariants.{LineMatch, Mark}
use Rattle.book_command.specs.declared.rule.Rule.{Rule}
use Rattle.book_command.specs.declared.rule.Rule.TheVariants.{LineAmount, LineTaken, Unknown}
use Rattle.book_command.specs.declared.rule.Rule.TheVariants as rule
use Rattle.book_step.specs.Outcome.{Outcome, Broken, Done}
use Rattle.book_step.specs.State.{State, fresh_book}
use Rattle.book_step.specs.Step.{outcome}

-- what an outcome says: a rule, or an answer with the version after
data Reply : Type 0 where
  Refused : Rule → Reply
  Answered : Answer → ℕ → Reply

abbrev reply : Outcome → Reply
reply (Broken rule) = Refused rule
reply (Done state answer) = Answered answer state.version

abbrev transactions_of : Outcome → List (ℕ × Txn)
transactions_of (Broken rule) = []
transactions_of (Done state answer) = state.book.transactions

abbrev lines_of : Outcome → List (ℕ × Line)
lines_of (Broken rule) = []
lines_of (Done state answer) = state.book.lines

-- 200 euros go out of account 3 into account 4; the split of the first has this mark and this reconciliation
abbrev out_of : MarkOf → Option ℕ → Split
out_of mark recon = record {
  id = 6;
  account = 3;
  memo = codes "Rent";
  action = [];
  mark = mark;
  recon = recon;
  value = negsuc 19999;
  quantity = negsuc 19999;
}

abbrev into : Split
into = record {
  id = 7;
  account = 4;
  memo = [];
  action = [];
  mark = New;
  recon = None;
  value = pos 20000;
  quantity = pos 20000;
}

abbrev paid : MarkOf → Option ℕ → List (ℕ × Txn)
paid mark recon = (
  5,
  record {
    currency = 1;
    day = pos 19727;
    num = [];
    description = codes "Rent";
    splits = out_of mark recon ∷ into ∷ [];
    voided = None;
  },
) ∷ []

-- a line of account 3 of this amount
abbrev line : ℤ → LineState → Line
line amount state = record {
  account = 3;
  statement = 8;
  ordinal = 0;
  body = record {
    day = pos 19727;
    value_day = pos 19727;
    amount = amount;
    kind = codes "NTRF";
    ref_own = [];
    ref_bank = [];
    text = codes "Rent";
    category = [];
    parts = [];
  };
  state = state;
}

abbrev state_with : List (ℕ × Txn) → List (ℕ × Line) → State
state_with transactions lines = record {
  book = record fresh_book { transactions = transactions; lines = lines };
  next = 20;
  version = 2;
}

-- ---- marks

abbrev marked : List (ℕ × Txn) → Bool → Bool → Outcome
marked transactions cleared force = outcome (state_with transactions []) (Mark 6 cleared force)

-- a new split becomes cleared, and the other stays as it is
cleared : transactions_of (marked (paid New None) true false) ≡ paid Cleared None
cleared = refl

-- that is one change more
cleared_once : reply (marked (paid New None) true false) ≡ Answered answer.Mark 3
cleared_once = refl

-- one that is cleared leaves the book
cleared_again : reply (marked (paid Cleared None) true false) ≡ Answered answer.Mark 2
cleared_again = refl

-- without force a reconciled split keeps its mark
reconciled_stays : reply (marked (paid Reconciled (Some 9)) false false) ≡ Refused (rule.Reconciled 6)
reconciled_stays = refl

-- with force it becomes new, and names no reconciliation then
forced : transactions_of (marked (paid Reconciled (Some 9)) false true) ≡ paid New None
forced = refl

no_split : reply (outcome (state_with (paid New None) []) (Mark 5 true false)) ≡ Refused (Unknown kind.Split 5)
no_split = refl

-- ---- matches

-- line 10 is matched with the split, where the book has line 9 too
abbrev matched : MarkOf → LineState → LineState → ℤ → Outcome
matched mark first second amount =
    outcome (state_with (paid mark None) ((9, line (negsuc 19999) first) ∷ (10, line amount second) ∷ []))
    (LineMatch 10 6)

-- the line has the split, and that is cleared
matched_line : lines_of (matched New Open Open (negsuc 19999))
    ≡ (9, line (negsuc 19999) Open) ∷ (10, line (negsuc 19999) (Matched 6)) ∷ []
matched_line = refl

matched_split : transactions_of (matched New Open Open (negsuc 19999)) ≡ paid Cleared None
matched_split = refl

-- a reconciled split stays as it is
reconciled_split : transactions_of (matched Reconciled Open Open (negsuc 19999)) ≡ paid Reconciled None
reconciled_split = refl

-- another amount
other_amount : reply (matched New Open Open (negsuc 19998)) ≡ Refused (LineAmount 10)
other_amount = refl

-- another line has the split: that is asked before the amount
taken_split : reply (matched New (Matched 6) Open (negsuc 19998)) ≡ Refused (LineTaken 9)
taken_split = refl

-- the line itself has one, or is dismissed: that is asked first
taken_line : reply (matched New (Matched 6) (Matched 7) (negsuc 19999)) ≡ Refused (LineTaken 10)
taken_line = refl

dismissed_line : reply (matched New Open Dismissed (negsuc 19999)) ≡ Refused (LineTaken 10)
dismissed_line = refl

no_line : reply (outcome (state_with (paid New None) []) (LineMatch 10 5)) ≡ Refused (Unknown kind.Line 10)
no_line = refl

-- the line is there, and the split isn't
no_split_to_match :
    reply (outcome (state_with (paid New None) ((10, line (negsuc 19999) Dismissed) ∷ [])) (LineMatch 10 5))
    ≡ Refused (Unknown kind.Split 5)
no_split_to_match = refl
