-- Reconciliations whose steps are known, in a book with two accounts in euros. Days count from 1970-01-01, so that
-- 19723 is 2024-01-01, 19753 is 2024-01-31 and 19760 is 2024-02-07.
use Rattle.std.proofs.Common.{◌≡◌, ℕ, ℤ, pos, negsuc, true, false, Bool, List, [], ◌∷◌, ◌++◌, Option, Some, None, codes}
use Rattle.std.proofs.Common.{refl}
use Rattle.book_commodity.specs.declared.kind.Kind.TheVariants as kind
use Rattle.book_accounts.specs.declared.account.Account.{Account}
use Rattle.book_accounts.specs.declared.kind.AccountKind.TheVariants.{Bank}
use Rattle.book_commodity.specs.Table.{value_of}
use Rattle.book_splits.specs.Balance.{balance}
use Rattle.book_splits.specs.declared.split.Mark.{Mark}
use Rattle.book_splits.specs.declared.split.Mark.TheVariants.{New, Cleared, Reconciled}
use Rattle.book_splits.specs.declared.split.Split.{Split}
use Rattle.book_splits.specs.declared.transaction.Txn.{Txn}
use Rattle.book_statement.specs.declared.held.Held.{Held}
use Rattle.book_command.specs.declared.answer.Answer.{Answer}
use Rattle.book_command.specs.declared.answer.Answer.TheVariants as answer
use Rattle.book_command.specs.declared.answer.ReconShown.{ReconShown}
use Rattle.book_command.specs.declared.command.GivenSplit.{GivenSplit}
use Rattle.book_command.specs.declared.command.Update.{Update}
use Rattle.book_command.specs.declared.command.Update.TheVariants.{Drop, Edit, Mark as MarkSplit, Reconcile}
use Rattle.book_command.specs.declared.command.Update.TheVariants.{ReconcileStatement, Unvoid, Void}
use Rattle.book_command.specs.declared.rule.Rule.{Rule}
use Rattle.book_command.specs.declared.rule.Rule.TheVariants as rule
use Rattle.book_command.specs.declared.rule.Rule.TheVariants.{Difference, NoClosing, Unknown}
use Rattle.book_step.specs.Outcome.{Outcome, Broken, Done}
use Rattle.book_step.specs.Reconciling.{recons_of}
use Rattle.book_step.specs.State.{State, fresh_state}
use Rattle.book_step.specs.Step.{outcome}
use Rattle.book_step.specs.Voiding.{voided_of}

-- what an outcome says: a rule, or an answer with the version after
data Reply : Type 0 where
  Refused : Rule → Reply
  Answered : Answer → ℕ → Reply

abbrev reply : Outcome → Reply
reply (Broken rule) = Refused rule
reply (Done state answer) = Answered answer state.version

abbrev after : State → Outcome → State
after state (Broken rule) = state
after state (Done new answer) = new

abbrev bank : List ℕ → Account
bank name = record {
  name = name;
  kind = Bank;
  commodity = 1;
  parent = Some 2;
  code = [];
  note = [];
  hidden = false;
  placeholder = false;
  basis = None;
}

abbrev split : ℕ → ℕ → Mark → Option ℕ → ℤ → Split
split id account mark recon amount = record {
  id = id;
  account = account;
  memo = [];
  action = [];
  mark = mark;
  recon = recon;
  value = amount;
  quantity = amount;
}

abbrev on : ℕ → ℤ → List Split → ℕ × Txn
on number day splits =
    (number, record { currency = 1; day = day; num = []; description = []; splits = splits; voided = None })

-- 1000.00 come, 200.00 go, and in February 50.00 come; those of account 3 have one mark
abbrev winter : Mark → Mark → Option ℕ → List (ℕ × Txn)
winter january february recon =
    on 10 (pos 19723) (split 11 3 january recon (pos 100000) ∷ split 12 4 New None (negsuc 99999) ∷ [])
    ∷ on 13 (pos 19753) (split 14 3 january recon (negsuc 19999) ∷ split 15 4 New None (pos 20000) ∷ [])
    ∷ on 16 (pos 19760) (split 17 3 february None (pos 5000) ∷ split 18 4 New None (negsuc 4999) ∷ [])
    ∷ []

abbrev statement : Option ℤ → Held
statement closing = record {
  account = 3;
  account_text = codes "NL01";
  number = codes "1";
  opening = None;
  closing = closing;
  day = pos 19753;
  ties = None;
}

abbrev with : List (ℕ × Txn) → State
with transactions = record {
  book = record fresh_state.book {
    accounts = fresh_state.book.accounts ++ (3, bank (codes "Giro")) ∷ (4, bank (codes "Savings")) ∷ [];
    transactions = transactions;
    statements = (5, statement (Some (pos 80000))) ∷ (6, statement None) ∷ [];
  };
  next = 20;
  version = 4;
}

abbrev cleared : State
cleared = with (winter Cleared Cleared None)

-- January closes at 800.00
finishes :
    reply (outcome cleared (Reconcile 3 (pos 19753) (pos 80000))) ≡ Answered (answer.Reconcile 20 (11 ∷ 14 ∷ [])) 5
finishes = refl

abbrev reconciled : State
reconciled = after cleared (outcome cleared (Reconcile 3 (pos 19753) (pos 80000)))

-- the splits up to the day are reconciled under the number; the later one stays cleared
marks_them : reconciled.book.transactions ≡ winter Reconciled Cleared (Some 20)
marks_them = refl

-- what the bank says is a cent more, or the day is one before the second split's
one_cent_more : reply (outcome cleared (Reconcile 3 (pos 19753) (pos 80001))) ≡ Refused (Difference (pos 1))
one_cent_more = refl

a_day_before : reply (outcome cleared (Reconcile 3 (pos 19752) (pos 80000))) ≡ Refused (Difference (negsuc 19999))
a_day_before = refl

no_account : reply (outcome cleared (Reconcile 7 (pos 19753) (pos 0))) ≡ Refused (Unknown kind.Account 7)
no_account = refl

-- nothing is cleared or reconciled: the account closes at 0, and nothing is marked
nothing_cleared :
    reply (outcome (with (winter New New None)) (Reconcile 3 (pos 19753) (pos 0)))
    ≡ Answered (answer.Reconcile 20 []) 5
nothing_cleared = refl

nothing_more : reply (outcome reconciled (Reconcile 3 (pos 19753) (pos 80000))) ≡ Answered (answer.Reconcile 21 []) 6
nothing_more = refl

-- the next one begins where the last one closed
next_month :
    reply (outcome reconciled (Reconcile 3 (pos 19782) (pos 85000))) ≡ Answered (answer.Reconcile 21 (17 ∷ [])) 6
next_month = refl

-- ---- by a statement

by_statement :
    reply (outcome cleared (ReconcileStatement 5)) ≡ Answered (answer.ReconcileStatement 20 (11 ∷ 14 ∷ [])) 5
by_statement = refl

same_book : (after cleared (outcome cleared (ReconcileStatement 5))).book ≡ reconciled.book
same_book = refl

no_statement : reply (outcome cleared (ReconcileStatement 7)) ≡ Refused (Unknown kind.Statement 7)
no_statement = refl

no_closing : reply (outcome cleared (ReconcileStatement 6)) ≡ Refused (NoClosing 6)
no_closing = refl

not_cleared : reply (outcome (with (winter New New None)) (ReconcileStatement 5)) ≡ Refused (Difference (pos 80000))
not_cleared = refl

-- ---- what is shown

abbrev shown : Bool → ReconShown
shown intact = record {
  id = 20;
  day = pos 19753;
  opening = pos 0;
  closing = pos 80000;
  marked = 2;
  intact = intact;
}

shown_intact : recons_of 3 reconciled.book ≡ shown true ∷ []
shown_intact = refl

none_of_another : recons_of 4 reconciled.book ≡ []
none_of_another = refl

abbrev given : ℕ → ℕ → ℤ → GivenSplit
given id account amount =
    record { account = account; value = amount; quantity = amount; memo = []; action = []; id = Some id }

-- 1000.01 came, by force
abbrev a_cent_more : Update
a_cent_more = Edit 10 true (pos 19723) (record {
  currency = 1;
  num = [];
  description = [];
  splits = given 11 3 (pos 100001) ∷ given 12 4 (negsuc 100000) ∷ [];
})

shown_not_intact : recons_of 3 (after reconciled (outcome reconciled a_cent_more)).book ≡ shown false ∷ []
shown_not_intact = refl

-- ---- a reconciled transaction that is voided

abbrev voiding : ℕ → Bool → Update
voiding number force = Void number (codes "wrong") force

not_without_force : reply (outcome reconciled (voiding 13 false)) ≡ Refused (rule.Reconciled 14)
not_without_force = refl

voids : reply (outcome reconciled (voiding 13 true)) ≡ Answered answer.Void 6
voids = refl

-- no number is issued
no_number_issued : (after reconciled (outcome reconciled (voiding 13 true))).next ≡ reconciled.next
no_number_issued = refl

abbrev voided : State
voided = after reconciled (outcome reconciled (voiding 13 true))

voided_not_intact : recons_of 3 voided.book ≡ shown false ∷ []
voided_not_intact = refl

voided_listed :
    voided_of 3 voided.book.transactions
    ≡ record { transaction = 13; split = 14; value = negsuc 19999; quantity = negsuc 19999; reason = codes "wrong" } ∷ []
voided_listed = refl

voided_leaves : balance voided.book.transactions 3 ≡ pos 105000
voided_leaves = refl

not_twice : reply (outcome voided (voiding 13 true)) ≡ Refused (rule.Voided 13)
not_twice = refl

voided_stays : reply (outcome voided (Drop 13 true)) ≡ Refused (rule.Voided 13)
voided_stays = refl

-- that it is voided is asked before its splits are looked at
voided_before_its_splits :
    reply (outcome voided (Edit 13 true (pos 19753) (record {
      currency = 1;
      num = [];
      description = [];
      splits = given 99 3 (pos 1) ∷ given 15 4 (negsuc 0) ∷ [];
    })))
    ≡ Refused (rule.Voided 13)
voided_before_its_splits = refl

voided_mark_stays : reply (outcome voided (MarkSplit 14 true true)) ≡ Refused (rule.Voided 13)
voided_mark_stays = refl

no_transaction_to_void : reply (outcome voided (voiding 14 true)) ≡ Refused (Unknown kind.Transaction 14)
no_transaction_to_void = refl

comes_back : reply (outcome voided (Unvoid 13)) ≡ Answered answer.Unvoid 7
comes_back = refl

-- its split is new, and the reconciliation is not intact
abbrev restored : State
restored = after voided (outcome voided (Unvoid 13))

new_again :
    value_of 13 restored.book.transactions
    ≡ value_of 13 (on 13 (pos 19753) (split 14 3 New None (negsuc 19999) ∷ split 15 4 New None (pos 20000) ∷ []) ∷ [])
new_again = refl

restored_not_intact : recons_of 3 restored.book ≡ shown false ∷ []
restored_not_intact = refl

not_voided : reply (outcome restored (Unvoid 13)) ≡ Refused (rule.NotVoided 13)
not_voided = refl
