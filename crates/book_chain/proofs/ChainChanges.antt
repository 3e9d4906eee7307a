-- What a change leaves of the reconciliations, whatever command it is of.
use Rattle.std.proofs.Common.{◌≡◌, ◌⊎◌, ℕ, ℤ, pos, Bool, true, false, if◌then◌else◌, List, Option, refl, subst}
use Rattle.book_undo.specs.Book.{Book}
use Rattle.book_reconcile.specs.Reconciliation.{difference}
use Rattle.book_command.specs.declared.answer.Answer.{Answer}
use Rattle.book_command.specs.declared.command.Update.{Update}
use Rattle.book_command.specs.declared.rule.Rule.{Rule}
use Rattle.book_step.specs.Outcome.{Done, changing, leaving}
use Rattle.book_step.specs.Reconciling.{book_reconciled, finished}
use Rattle.book_step.specs.State.{State}
use Rattle.book_step.proofs.SoundOutcome.{changing_done, leaving_done}
use Rattle.book_chain.specs.Chain.{is_reconciling}
use Rattle.book_chain.proofs.KeptSplits.{MakesNone, none-same}

-- A change leaves the reconciliations, and makes no split one that they marked.
pub record Leaves (next : ℕ) (old new : Book) : Type 0 where
  pub transactions : MakesNone next old.transactions new.transactions
  pub reconciliations : new.reconciliations ≡ old.reconciliations

-- A change is a reconciliation of an account at a day with a closing balance, of which there is no difference.
pub record Finishes (state : State) (update : Update) (new : Book) : Type 0 where
  pub account : ℕ
  pub day : ℤ
  pub closing : ℤ
  pub reconciles : is_reconciling update ≡ true
  pub none : difference account day closing state.book.transactions ≡ pos 0
  pub is : book_reconciled state.book state.next (finished state.book account day closing) ≡ new

-- A change is one of the two.
abbrev pub Change : State → Update → Book → Type 0
Change state update new =
    ((is_reconciling update ≡ false) × Leaves state.next state.book new) ⊎ Finishes state update new

pub same-tables :
    (next : ℕ) (old new : Book) → old.transactions ≡ new.transactions → new.reconciliations ≡ old.reconciliations
    → Leaves next old new
same-tables next old new transactions reconciliations = record {
  transactions = subst (MakesNone next old.transactions) transactions (none-same next old.transactions);
  reconciliations = reconciliations;
}

-- ---- what a command comes to

pub after-change :
    (state : State) (rules : List (Option Rule)) (book : Book) (drawn : ℕ) (given : Answer) (new : State)
    (answered : Answer) → Leaves state.next state.book book → changing state rules book drawn given ≡ Done new answered
    → Leaves state.next state.book new.book
after-change state rules book drawn given new answered leaves e =
    subst (λ (s : State). Leaves state.next state.book s.book)
    (changing_done state rules book drawn given new answered e).is leaves

pub after-leaving :
    (state : State) (rules : List (Option Rule)) (given : Answer) (new : State) (answered : Answer)
    → leaving state rules given ≡ Done new answered → Leaves state.next state.book new.book
after-leaving state rules given new answered e =
    subst (λ (s : State). Leaves state.next state.book s.book) (leaving_done state rules given new answered e)
    (same-tables state.next state.book state.book refl refl)

pub after-either :
    (stay : Bool) (state : State) (rules more : List (Option Rule)) (book : Book) (drawn : ℕ) (left made : Answer)
    (new : State) (answered : Answer) → Leaves state.next state.book book
    → (if stay then leaving state rules left else changing state more book drawn made) ≡ Done new answered
    → Leaves state.next state.book new.book
after-either true state rules more book drawn left made new answered leaves e =
    after-leaving state rules left new answered e
after-either false state rules more book drawn left made new answered leaves e =
    after-change state more book drawn made new answered leaves e
