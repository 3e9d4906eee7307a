-- The command that matches the open lines of an account leads from sound states to sound states.
use Rattle.std.proofs.Common.{◌≡◌, ℕ, ◌+◌, ◌==◌, Bool, true, false, if◌then◌else◌, List, [], ◌∷◌, length, map}
use Rattle.std.proofs.Common.{◌&&◌, ap, refl, arith}
use Rattle.std.specs.List.{list_all}
use Rattle.std.proofs.lemmas.Bool.{and_from, and_parts}
use Rattle.book_splits.specs.TransactionRules.{is_new, is_voided}
use Rattle.book_splits.specs.declared.reconciliation.Recon.{Recon}
use Rattle.book_splits.specs.declared.split.Mark.{Mark}
use Rattle.book_splits.specs.declared.split.Mark.TheVariants.{Cleared, New, Reconciled, Voided}
use Rattle.book_splits.specs.declared.split.Split.{Split}
use Rattle.book_sound.specs.MarkedTransactionRules.{fits_mark, is_rightly_marked, is_rightly_voided}
use Rattle.book_sound.proofs.DrawnFrames.{drawn_later}
use Rattle.book_sound.proofs.VoidFrames.{marks_remarked, rightly_voided_is}
use Rattle.book_undo.specs.Book.{Book}
use Rattle.book_command.specs.declared.answer.Answer.{Answer}
use Rattle.book_command.specs.declared.answer.Answer.TheVariants as answer
use Rattle.book_step.specs.AutoMatching.{becomes_cleared, book_paired, cleared, clearing, has_pair, lines_paired}
use Rattle.book_step.specs.AutoMatching.{match_auto, match_rules, matches, split_of, split_paired}
use Rattle.book_step.specs.Outcome.{Done}
use Rattle.book_step.specs.Soundness.{IsSoundBook, AreDrawn, IsSound}
use Rattle.book_step.specs.State.{State}
use Rattle.book_step.proofs.PairLemmas.{pairs_free}
use Rattle.book_step.proofs.PairedEdits.{clearing_alone}
use Rattle.book_step.proofs.PairedLines.{paired-drawn, paired-sound}
use Rattle.book_step.proofs.RemarkTable.{all_remarked-drawn, all_remarked-sound}
use Rattle.book_step.proofs.SoundOutcome.{either_sound, sound_after}

-- ---- a split that becomes cleared is rightly marked

-- one that is new fits as it would if it were cleared
new_fits :
    (reconciliations : List (ℕ × Recon)) (split : Split) (mark : Mark) → is_new mark ≡ true
    → fits_mark reconciliations split mark ≡ true → fits_mark reconciliations split Cleared ≡ true
new_fits reconciliations split New e right = right
new_fits reconciliations split Cleared e right = absurd cc
new_fits reconciliations split Reconciled e right = absurd cc
new_fits reconciliations split Voided e right = absurd cc

rightly_still :
    (taken : ℕ → Bool) (reconciliations : List (ℕ × Recon)) (split : Split)
    → is_rightly_marked reconciliations split ≡ true
    → is_rightly_marked reconciliations (split_paired taken split) ≡ true
rightly_still taken reconciliations split right =
    let Marked : Bool → Type 0 = λ b. becomes_cleared taken split ≡ b
    → is_rightly_marked reconciliations (if b then cleared split else split) ≡ true in
    elim (becomes_cleared taken split) as Marked [
      | true ↦ λ new.
          let parts = and_parts (is_new split.mark) (taken split.id) new in
          new_fits reconciliations split split.mark parts.0 right
      | false ↦ λ stays. right
    ] refl

all_rightly :
    (taken : ℕ → Bool) (reconciliations : List (ℕ × Recon)) (splits : List Split)
    → list_all (is_rightly_marked reconciliations) splits ≡ true
    → list_all (is_rightly_marked reconciliations) (map (split_paired taken) splits) ≡ true
all_rightly taken reconciliations [] right = refl
all_rightly taken reconciliations (s ∷ splits) right =
    let parts = and_parts (is_rightly_marked reconciliations s) (list_all (is_rightly_marked reconciliations) splits)
    right in
    and_from _ _ (rightly_still taken reconciliations s parts.0)
    (all_rightly taken reconciliations splits parts.1)

-- a voided split is not new, and stays as it is
voided_not_new : (mark : Mark) → is_voided mark ≡ true → is_new mark ≡ false
voided_not_new New is = absurd cc
voided_not_new Cleared is = absurd cc
voided_not_new Reconciled is = absurd cc
voided_not_new Voided is = refl

voided_stays :
    (taken : ℕ → Bool) (split : Split) → is_rightly_voided split ≡ true → split_paired taken split ≡ split
voided_stays taken split voided =
    ap (λ (b : Bool). if b && taken split.id then cleared split else split)
    (voided_not_new split.mark (rightly_voided_is split voided).mark)

-- ---- the book

book_paired-sound :
    (book : Book) (account window next : ℕ) → AreDrawn book next → IsSoundBook book
    → IsSoundBook (book_paired (matches book account window) book)
book_paired-sound book account window next are is =
    let pairs = matches book account window in
    let rule = clearing (has_pair pairs) in
    let first : Book = record book { lines = lines_paired (split_of pairs) book.lines } in
    all_remarked-sound first rule next (clearing_alone (has_pair pairs)) (paired-drawn book (split_of pairs) next are)
    (λ n t there.
    marks_remarked book.reconciliations book.reconciliations (split_paired (has_pair pairs)) t.voided t.splits
    (voided_stays (has_pair pairs)) (all_rightly (has_pair pairs) book.reconciliations t.splits)
    (is.transactions.keep.each n t there).1.1.1.0)
    (paired-sound book (split_of pairs) (pairs_free book account window is) is)

book_paired-drawn :
    (book : Book) (account window next : ℕ) → AreDrawn book next
    → AreDrawn (book_paired (matches book account window) book) next
book_paired-drawn book account window next are =
    let pairs = matches book account window in
    let first : Book = record book { lines = lines_paired (split_of pairs) book.lines } in
    all_remarked-drawn first (clearing (has_pair pairs)) next (clearing_alone (has_pair pairs))
    (paired-drawn book (split_of pairs) next are)

-- ---- the command

pub match_auto-sound :
    (state : State) (account window : ℕ) (new : State) (answered : Answer) → IsSound state
    → match_auto state account window ≡ Done new answered → IsSound new
match_auto-sound state account window new answered is e =
    let book = state.book in
    let pairs = matches book account window in
    let rules = match_rules book account window in
    let later = book_paired pairs book in
    let drawn = drawn_later book state.next (state.next + 0) (omega arith) is.drawn in
    either_sound (length pairs == 0) state new rules later 0 (answer.MatchAuto pairs) (answer.MatchAuto pairs) answered
    is
    (λ change.
    sound_after state rules later 0 new change (book_paired-sound book account window state.next is.drawn is.book)
    (book_paired-drawn book account window (state.next + 0) drawn))
    e
