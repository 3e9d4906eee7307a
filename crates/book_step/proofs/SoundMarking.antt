-- The command that marks a split leads from sound states to sound states.
use Rattle.std.proofs.Common.{◌≡◌, ℕ, ◌+◌, Bool, true, false, [], ◌∷◌, Option, Some, None, refl, arith}
use Rattle.book_splits.specs.declared.split.Split.{Split}
use Rattle.book_sound.specs.LineRules.{split_at}
use Rattle.book_splits.specs.TransactionRules.{is_voided}
use Rattle.book_sound.specs.MarkedTransactionRules.{is_reconciled}
use Rattle.book_sound.proofs.DrawnFrames.{drawn_later}
use Rattle.book_command.specs.declared.answer.Answer.{Answer}
use Rattle.book_command.specs.declared.answer.Answer.TheVariants as answer
use Rattle.book_step.specs.Marking.{book_marked, keeps_mark, mark, mark_asked, mark_at, mark_of}
use Rattle.book_step.specs.Outcome.{Done}
use Rattle.book_step.specs.SameTransaction.{is_mark}
use Rattle.book_step.specs.Soundness.{IsSound}
use Rattle.book_step.specs.State.{State}
use Rattle.book_step.specs.VoidRules.{voided_transaction_of}
use Rattle.book_step.proofs.RemarkLemmas.{held_of, marked-sound}
use Rattle.book_step.proofs.SoundOutcome.{either_sound, sound_after, unless_done}
use Rattle.book_step.proofs.VoidRuleLemmas.{unvoided_held}

asked_unreconciled : (cleared : Bool) → is_reconciled (mark_asked cleared) ≡ false
asked_unreconciled true = refl
asked_unreconciled false = refl

asked_unvoided : (cleared : Bool) → is_voided (mark_asked cleared) ≡ false
asked_unvoided true = refl
asked_unvoided false = refl

mark_at-sound :
    (state : State) (number : ℕ) (cleared force : Bool) (found : Option Split) (new : State) (answered : Answer)
    → split_at number state.book.transactions ≡ found → IsSound state
    → mark_at state number (mark_asked cleared) force found ≡ Done new answered
    → IsSound new
mark_at-sound state number cleared force None new answered there is e = absurd cc
mark_at-sound state number cleared force (Some split) new answered there is e =
    let book = state.book in
    let to = mark_asked cleared in
    let rules = keeps_mark force number split ∷ [] in
    let later = book_marked number to book in
    let held = held_of number split book.transactions is.book.transactions.rise there in
    let done = unless_done (voided_transaction_of book.transactions number) (mark_of state number to force split) new answered e in
    let unvoided = unvoided_held book number held.held is.book held.has done.0 in
    let sound = marked-sound book number (state.next + 0) to held.held held.has unvoided (asked_unreconciled cleared)
    (asked_unvoided cleared) (drawn_later book state.next (state.next + 0) (omega arith) is.drawn) is.book in
    either_sound (is_mark split.mark to) state new rules later 0 answer.Mark answer.Mark answered is
    (λ change. sound_after state rules later 0 new change sound.0 sound.1) done.1

pub mark-sound :
    (state : State) (number : ℕ) (cleared force : Bool) (new : State) (answered : Answer) → IsSound state
    → mark state number cleared force ≡ Done new answered
    → IsSound new
mark-sound state number cleared force new answered is e =
    mark_at-sound state number cleared force (split_at number state.book.transactions) new answered refl is e
