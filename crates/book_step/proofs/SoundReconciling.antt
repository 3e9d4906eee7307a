-- Each command that reconciles an account leads from a sound state to a sound one.
use Rattle.std.proofs.Common.{◌≡◌, ℕ, ◌+◌, ◌≤◌, ◌==◌, ℤ, pos, ◌+ℤ◌, int_le, Bool, true, false, if◌then◌else◌, List, []}
use Rattle.std.proofs.Common.{◌∷◌, ◌++◌, length, map, Option, Some, None, ◌&&◌, refl, sym, ap, ◌∙◌, arith}
use Rattle.std.specs.List.{list_all, list_any}
use Rattle.std.proofs.lemmas.Bool.{and_from, and_parts, and_right, eqb-true, not-false}
use Rattle.std.proofs.lemmas.Bool.Decides.{Decides-int_eq, nat_tests}
use Rattle.book_commodity.specs.Rules.{AllHold}
use Rattle.book_commodity.specs.Table.{value_of, with_entry}
use Rattle.book_commodity.proofs.DrawnLemmas.{length_drawn, value_here}
use Rattle.book_commodity.proofs.ListLemmas.{some_there}
use Rattle.book_commodity.proofs.RuleLemmas.{kept_back, not-broken}
use Rattle.book_splits.specs.declared.reconciliation.Recon.{Recon}
use Rattle.book_splits.specs.TransactionRules.{is_voided}
use Rattle.book_splits.specs.declared.split.Mark.{Mark}
use Rattle.book_splits.specs.declared.split.Mark.TheVariants.{New, Cleared, Reconciled, Voided}
use Rattle.book_splits.specs.declared.split.Split.{Split}
use Rattle.book_splits.specs.declared.transaction.Txn.{Txn}
use Rattle.book_statement.specs.declared.held.Held.{Held}
use Rattle.book_reconcile.specs.Reconciliation.{difference, has_mark, is_mark}
use Rattle.book_reconcile.proofs.OrderLemmas.{closes}
use Rattle.book_sound.specs.MarkedTransactionRules.{are_rightly_marked, is_marked_as, is_rightly_marked}
use Rattle.book_sound.specs.MarkedTransactionRules.{is_rightly_voided}
use Rattle.book_sound.specs.ReconciliationRules.{marked_numbers, marked_sum, reconciliation_rules}
use Rattle.book_sound.specs.Tests.{is_live}
use Rattle.book_sound.proofs.BookChanges.{reconciliation_put}
use Rattle.book_sound.proofs.DrawnChanges.{reconciliation_drawn}
use Rattle.book_sound.proofs.DrawnFrames.{drawn_later}
use Rattle.book_sound.proofs.MarkLemmas.{marked_is_right}
use Rattle.book_sound.proofs.VoidFrames.{marks_remarked, rightly_voided_is}
use Rattle.book_undo.specs.Book.{Book}
use Rattle.book_command.specs.declared.answer.Answer.{Answer}
use Rattle.book_command.specs.declared.answer.Answer.TheVariants as answer
use Rattle.book_command.specs.declared.rule.Rule.{Rule}
use Rattle.book_step.specs.Accounts.{unknown_account}
use Rattle.book_step.specs.Outcome.{Done}
use Rattle.book_step.specs.Reconciling.{book_reconciled, finish_rules, finished, is_to_mark, marked_under, reconcile}
use Rattle.book_step.specs.Reconciling.{reconcile_at, reconcile_closed, reconcile_of, reconcile_statement}
use Rattle.book_step.specs.Reconciling.{reconciled_under}
use Rattle.book_step.specs.Soundness.{AreDrawn, IsSound, IsSoundBook}
use Rattle.book_step.specs.State.{State}
use Rattle.book_step.proofs.ExactReconciling.{marks_alone}
use Rattle.book_step.proofs.ReconcileLemmas.{AreListed, cleared_are_listed, marked_below, marked_once}
use Rattle.book_step.proofs.RemarkTable.{all_remarked-drawn, all_remarked-sound}
use Rattle.book_step.proofs.SoundOutcome.{changing_done, sound_after}
use Rattle.book_free.proofs.SplitsOnce.{splits_once}

-- ---- the splits are rightly marked

-- A split that becomes reconciled is listed under its number; the others are marked as they were.
one_right :
    (reconciliations : List (ℕ × Recon)) (n account : ℕ) (upto day : ℤ) (recon : Recon) (s : Split)
    → value_of n reconciliations ≡ Some recon → recon.account ≡ account
    → (is_to_mark account upto day s ≡ true → list_any (is_marked_as s) recon.marked ≡ true)
    → is_rightly_marked reconciliations s ≡ true
    → is_rightly_marked reconciliations (marked_under n account upto day s) ≡ true
one_right reconciliations n account upto day recon s there same listed right =
    let Marked : Bool → Type 0 = λ b. is_to_mark account upto day s ≡ b
    → is_rightly_marked reconciliations (if b then reconciled_under n s else s) ≡ true in
    elim (is_to_mark account upto day s) as Marked [
      | true ↦ λ is.
          let has = (and_parts (has_mark Cleared account s) (int_le day upto) is).0 in
          let own = eqb-true s.account account (and_parts (s.account == account) (is_mark s.mark Cleared) has).0 in
          marked_is_right reconciliations (reconciled_under n s) n recon refl refl there (same ∙ sym own) (listed is)
      | false ↦ λ other. right
    ] refl

all_right :
    (reconciliations : List (ℕ × Recon)) (n account : ℕ) (upto day : ℤ) (recon : Recon) (splits : List Split)
    → value_of n reconciliations ≡ Some recon → recon.account ≡ account
    → (int_le day upto ≡ true → AreListed account recon.marked splits)
    → list_all (is_rightly_marked reconciliations) splits ≡ true
    → list_all (is_rightly_marked reconciliations) (map (marked_under n account upto day) splits) ≡ true
all_right reconciliations n account upto day recon [] there same listed right = refl
all_right reconciliations n account upto day recon (s ∷ splits) there same listed right =
    let parts = and_parts (is_rightly_marked reconciliations s) (list_all (is_rightly_marked reconciliations) splits)
    right in
    and_from (is_rightly_marked reconciliations (marked_under n account upto day s)) _
    (one_right reconciliations n account upto day recon s there same
    (λ is.
    let both = and_parts (has_mark Cleared account s) (int_le day upto) is in (listed both.1).0 both.0) parts.0)
    (all_right reconciliations n account upto day recon splits there same (λ early. (listed early).1) parts.1)

-- a voided split is not cleared, and stays as it is
voided_uncleared : (mark : Mark) → is_voided mark ≡ true → is_mark mark Cleared ≡ false
voided_uncleared New is = absurd cc
voided_uncleared Cleared is = absurd cc
voided_uncleared Reconciled is = absurd cc
voided_uncleared Voided is = refl

voided_stays :
    (n account : ℕ) (upto day : ℤ) (split : Split) → is_rightly_voided split ≡ true
    → marked_under n account upto day split ≡ split
voided_stays n account upto day split voided =
    let other = voided_uncleared split.mark (rightly_voided_is split voided).mark in
    let unmarked : has_mark Cleared account split ≡ false = and_right (split.account == account) _ other in
    ap (λ (b : Bool). if b && int_le day upto then reconciled_under n split else split) unmarked

-- ---- the record

finish_keeps :
    (book : Book) (n account : ℕ) (day closing : ℤ) → IsSoundBook book → is_live book.accounts account ≡ true
    → difference account day closing book.transactions ≡ pos 0
    → AllHold (reconciliation_rules book.accounts n (finished book account day closing))
finish_keeps book n account day closing is live none =
    let recon = finished book account day closing in
    let once = marked_once account day book.transactions (splits_once book is) in
    let closed = (Decides-int_eq (recon.opening +ℤ marked_sum recon.marked) closing).1
    (closes account day closing book.transactions none) in
    (live, (once, (closed, tt)))

-- ---- the book

with_recon :
    (book : Book) (n account : ℕ) (day closing : ℤ) → IsSoundBook book → AreDrawn book n
    → is_live book.accounts account ≡ true → difference account day closing book.transactions ≡ pos 0
    → length book.reconciliations + 1 ≤ 100000
    → IsSoundBook (record book {
      reconciliations = with_entry n (finished book account day closing) book.reconciliations;
    })
with_recon book n account day closing is are live none few =
    let recon = finished book account day closing in
    let longer = length_drawn n recon book.reconciliations is.reconciliations.rise are.reconciliations in
    reconciliation_put book n recon are (finish_keeps book n account day closing is live none)
    (omega (arith, longer, few)) is

recon_drawn :
    (book : Book) (n account : ℕ) (day closing : ℤ) → AreDrawn book n
    → AreDrawn (record book {
      reconciliations = with_entry n (finished book account day closing) book.reconciliations;
    }) (n + 1)
recon_drawn book n account day closing are =
    let later = drawn_later book n (n + 1) (omega arith) are in
    reconciliation_drawn book n (n + 1) (finished book account day closing) (omega arith)
    (marked_below account day (n + 1) book.transactions later.splits) later

reconciled_right :
    (book : Book) (n account : ℕ) (day closing : ℤ)
    → IsSoundBook (record book {
      reconciliations = with_entry n (finished book account day closing) book.reconciliations;
    })
    → (k : ℕ) (t : Txn) → value_of k book.transactions ≡ Some t
    → are_rightly_marked (with_entry n (finished book account day closing) book.reconciliations) t.voided
    (map (marked_under n account day t.day) t.splits) ≡ true
reconciled_right book n account day closing is k t there =
    let recon = finished book account day closing in
    let later = with_entry n recon book.reconciliations in
    marks_remarked later later (marked_under n account day t.day) t.voided t.splits
    (voided_stays n account day t.day)
    (all_right later n account day t.day recon t.splits (value_here n n recon book.reconciliations refl) refl
    (cleared_are_listed account day k t book.transactions there))
    (is.transactions.keep.each k t there).1.1.1.0

pub reconcile_of-sound :
    (state : State) (rules : List (Option Rule)) (answered : ℕ → List ℕ → Answer) (account : ℕ) (day closing : ℤ)
    (new : State) (reply : Answer) → is_live state.book.accounts account ≡ true → IsSound state
    → reconcile_of state rules answered account day closing ≡ Done new reply → IsSound new
reconcile_of-sound state rules answered account day closing new reply live is e =
    let book = state.book in
    let n = state.next in
    let recon = finished book account day closing in
    let more = finish_rules book account day closing in
    let change = changing_done state (rules ++ more) (book_reconciled book n recon) 1
    (answered n (marked_numbers recon.marked)) new reply e in
    let kept = kept_back rules more change.kept in
    let by = difference account day closing book.transactions in
    let none = (Decides-int_eq by (pos 0)).0 (not-false _ (not-broken _ _ kept.0)) in
    let few = not-broken _ _ kept.1.0 in
    let rule = marked_under n account day in
    let later = record book { reconciliations = with_entry n recon book.reconciliations } in
    let sound = with_recon book n account day closing is.book is.drawn live none (grind (arith, nat_tests, few)) in
    let drawn = recon_drawn book n account day closing is.drawn in
    let alone = marks_alone n account day in
    sound_after state (rules ++ more) (book_reconciled book n recon) 1 new change
    (all_remarked-sound later rule (n + 1) alone drawn (reconciled_right book n account day closing sound) sound)
    (all_remarked-drawn later rule (n + 1) alone drawn)

-- ---- the commands

pub reconcile-sound :
    (state : State) (account : ℕ) (day closing : ℤ) (new : State) (answered : Answer) → IsSound state
    → reconcile state account day closing ≡ Done new answered → IsSound new
reconcile-sound state account day closing new answered is e =
    let book = state.book in
    let recon = finished book account day closing in
    let rules = unknown_account book.accounts account ∷ [] in
    let change = changing_done state (rules ++ finish_rules book account day closing)
    (book_reconciled book state.next recon) 1 (answer.Reconcile state.next (marked_numbers recon.marked)) new answered
    e in
    let live = some_there (value_of account book.accounts) (not-broken _ _ change.kept.0) in
    reconcile_of-sound state rules (λ number marked. answer.Reconcile number marked) account day closing new answered
    live is e

closed-sound :
    (state : State) (n : ℕ) (held : Held) (closing : Option ℤ) (new : State) (answered : Answer)
    → value_of n state.book.statements ≡ Some held → IsSound state
    → reconcile_closed state n held closing ≡ Done new answered → IsSound new
closed-sound state n held None new answered there is e = absurd cc
closed-sound state n held (Some closing) new answered there is e =
    reconcile_of-sound state [] (λ number marked. answer.ReconcileStatement number marked) held.account held.day closing
    new answered (is.book.statements.keep.each n held there).0 is e

at-sound :
    (state : State) (n : ℕ) (found : Option Held) (new : State) (answered : Answer)
    → value_of n state.book.statements ≡ found → IsSound state → reconcile_at state n found ≡ Done new answered
    → IsSound new
at-sound state n None new answered there is e = absurd cc
at-sound state n (Some held) new answered there is e = closed-sound state n held held.closing new answered there is e

pub reconcile_statement-sound :
    (state : State) (n : ℕ) (new : State) (answered : Answer) → IsSound state
    → reconcile_statement state n ≡ Done new answered → IsSound new
reconcile_statement-sound state n new answered is e =
    at-sound state n (value_of n state.book.statements) new answered refl is e
