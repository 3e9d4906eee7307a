-- Voiding a transaction and bringing one back lead from sound states to sound states.
use Rattle.std.proofs.Common.{◌≡◌, ℕ, ◌+◌, ◌<◌, Bool, false, All, List, [], ◌∷◌, Option, Some, None, is_none, map, refl}
use Rattle.std.proofs.Common.{sym, subst, arith}
use Rattle.std.proofs.lemmas.List.Elements.{All-cons, All-head, All-map, All-nil, All-tail}
use Rattle.book_commodity.specs.Table.{value_of, with_entry}
use Rattle.book_commodity.proofs.DrawnLemmas.{drawn_below}
use Rattle.book_commodity.proofs.RuleLemmas.{not-broken}
use Rattle.book_splits.specs.declared.split.Mark.TheVariants.{New}
use Rattle.book_splits.specs.declared.split.Split.{Split}
use Rattle.book_splits.specs.declared.transaction.Txn.{Txn}
use Rattle.book_splits.specs.declared.void.KeptSplit.{KeptSplit}
use Rattle.book_splits.specs.declared.void.Void.{Void}
use Rattle.book_splits.proofs.ReplacedLemmas.{all_of_one}
use Rattle.book_void.specs.Voiding.{restored, restored_splits, restored_with, voided_for, voided_split}
use Rattle.book_undo.specs.Book.{Book}
use Rattle.book_sound.specs.Dismissal.{loses_split}
use Rattle.book_sound.proofs.DrawnFrames.{dismissed_lines_drawn, drawn_later, transaction_drawn}
use Rattle.book_sound.proofs.VoidedSound.{transaction_restored, transaction_voided}
use Rattle.book_command.specs.declared.answer.Answer.{Answer}
use Rattle.book_command.specs.declared.answer.Answer.TheVariants as answer
use Rattle.book_step.specs.Editing.{book_with, reconciled}
use Rattle.book_step.specs.Outcome.{Done}
use Rattle.book_step.specs.Soundness.{IsSoundBook, AreDrawn, IsSound}
use Rattle.book_step.specs.State.{State}
use Rattle.book_step.specs.VoidRules.{voided_transaction, not_voided}
use Rattle.book_step.specs.Voiding.{book_restored, unvoid_at, unvoid_transaction, void_at, void_transaction}
use Rattle.book_step.proofs.SoundOutcome.{changing_done, sound_after}
use Rattle.book_step.proofs.VoidRuleLemmas.{unvoided_of}

-- ---- voiding

void_at-sound :
    (state : State) (n : ℕ) (reason : List ℕ) (force : Bool) (found : Option Txn) (new : State) (answered : Answer)
    → value_of n state.book.transactions ≡ found → IsSound state
    → void_at state n reason force found ≡ Done new answered
    → IsSound new
void_at-sound state n reason force None new answered there is e = absurd cc
void_at-sound state n reason force (Some old) new answered there is e =
    let book = state.book in
    let next = state.next + 0 in
    let voided = voided_for reason old in
    let later = book_with book n old voided in
    let rules = voided_transaction n old ∷ reconciled force old.splits [] ∷ [] in
    let change = changing_done state rules later 0 answer.Void new answered e in
    let are = drawn_later book state.next next (omega arith) is.drawn in
    let Below : Split → Type 0 = λ split. split.id < next in
    let ids = all_of_one Below n old book.transactions there are.splits in
    let own = drawn_below n next old book.transactions are.transactions there in
    sound_after state rules later 0 new change
    (transaction_voided book n next reason old there are (unvoided_of n old change.kept.0) is.book)
    (dismissed_lines_drawn (record book { transactions = with_entry n voided book.transactions })
    (loses_split old.splits voided.splits) next
    (transaction_drawn book n next voided own (All-map Below voided_split old.splits ids) are))

pub void_transaction-sound :
    (state : State) (n : ℕ) (reason : List ℕ) (force : Bool) (new : State) (answered : Answer) → IsSound state
    → void_transaction state n reason force ≡ Done new answered
    → IsSound new
void_transaction-sound state n reason force new answered is e =
    void_at-sound state n reason force (value_of n state.book.transactions) new answered refl is e

-- ---- bringing back

ids_of_restored :
    (next : ℕ) (splits : List Split) (kept : List KeptSplit) → All (λ (s : Split). s.id < next) splits
    → All (λ (s : Split). s.id < next) (restored_splits splits kept)
ids_of_restored next [] kept all = all
ids_of_restored next (s ∷ splits) [] all = All-nil (λ (s : Split). s.id < next)
ids_of_restored next (s ∷ splits) (k ∷ kept) all =
    let Below : Split → Type 0 = λ s. s.id < next in
    All-cons Below (record s { mark = New; recon = None; value = k.value; quantity = k.quantity })
    (restored_splits splits kept) (All-head Below s splits all)
    (ids_of_restored next splits kept (All-tail Below s splits all))

ids_with :
    (next : ℕ) (t : Txn) (voided : Option Void) → All (λ (s : Split). s.id < next) t.splits
    → All (λ (s : Split). s.id < next) (restored_with t voided).splits
ids_with next t None all = all
ids_with next t (Some void) all = ids_of_restored next t.splits void.kept all

unvoid_at-sound :
    (state : State) (n : ℕ) (found : Option Txn) (new : State) (answered : Answer)
    → value_of n state.book.transactions ≡ found → IsSound state → unvoid_at state n found ≡ Done new answered
    → IsSound new
unvoid_at-sound state n None new answered there is e = absurd cc
unvoid_at-sound state n (Some old) new answered there is e =
    let book = state.book in
    let next = state.next + 0 in
    let later = book_restored book n old in
    let rules = not_voided n old ∷ [] in
    let change = changing_done state rules later 0 answer.Unvoid new answered e in
    let are = drawn_later book state.next next (omega arith) is.drawn in
    let ids = all_of_one (λ (s : Split). s.id < next) n old book.transactions there are.splits in
    let own = drawn_below n next old book.transactions are.transactions there in
    sound_after state rules later 0 new change
    (transaction_restored book n next old there are (not-broken _ _ change.kept.0) is.book)
    (transaction_drawn book n next (restored old) own (ids_with next old old.voided ids) are)

pub unvoid_transaction-sound :
    (state : State) (n : ℕ) (new : State) (answered : Answer) → IsSound state
    → unvoid_transaction state n ≡ Done new answered
    → IsSound new
unvoid_transaction-sound state n new answered is e =
    unvoid_at-sound state n (value_of n state.book.transactions) new answered refl is e
