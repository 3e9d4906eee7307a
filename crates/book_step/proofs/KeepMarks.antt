-- The commands on marks, matches and reconciliations keep the lines and the statements of a book.
use Rattle.std.proofs.Common.{◌≡◌, ℕ, ℤ, ◌==◌, Bool, true, false, if◌then◌else◌, List, [], ◌∷◌, ◌++◌, length, Option}
use Rattle.std.proofs.Common.{Some, None, refl}
use Rattle.book_commodity.specs.Table.{value_of}
use Rattle.book_splits.specs.declared.split.Mark.{Mark}
use Rattle.book_splits.specs.declared.split.Mark.TheVariants.{New, Cleared}
use Rattle.book_splits.specs.declared.split.Split.{Split}
use Rattle.book_statement.specs.declared.held.Held.{Held}
use Rattle.book_statement.specs.declared.line.Line.{Line}
use Rattle.book_statement.specs.declared.line_state.LineState.TheVariants.{Matched}
use Rattle.book_match.specs.declared.views.Matched.{Matched as Pair}
use Rattle.book_sound.specs.LineRules.{split_at}
use Rattle.book_sound.specs.ReconciliationRules.{marked_numbers}
use Rattle.book_undo.specs.Book.{Book}
use Rattle.book_command.specs.declared.answer.Answer.{Answer}
use Rattle.book_command.specs.declared.answer.Answer.TheVariants as answer
use Rattle.book_command.specs.declared.rule.Rule.{Rule}
use Rattle.book_step.specs.AutoMatching as auto
use Rattle.book_step.specs.Laws.{SaysSame}
use Rattle.book_step.specs.LineMatching as matching
use Rattle.book_step.specs.Marking as marking
use Rattle.book_step.specs.Outcome.{Done, changing}
use Rattle.book_step.specs.Reconciling as reconciling
use Rattle.book_step.specs.SameTransaction.{is_mark}
use Rattle.book_step.specs.State.{State}
use Rattle.book_step.specs.VoidRules.{voided_transaction_of}
use Rattle.book_step.proofs.KeepLemmas.{Keeps, after-change, after-either, keeps-through, line-in-state, lines-each}
use Rattle.book_step.proofs.KeepLemmas.{says-same, untouched}
use Rattle.book_step.proofs.SoundOutcome.{unless_done}

pub mark-keeps :
    (state : State) (n : ℕ) (mark : Mark) (force : Bool) (found : Option Split) (new : State) (answered : Answer)
    → marking.mark_at state n mark force found ≡ Done new answered → Keeps state.book new.book
mark-keeps state n mark force None new answered e = absurd cc
mark-keeps state n mark force (Some split) new answered e =
    let rules = marking.keeps_mark force n split ∷ [] in
    let later = marking.book_marked n mark state.book in
    let done = unless_done (voided_transaction_of state.book.transactions n) (marking.mark_of state n mark force split) new answered
    e in
    after-either (is_mark split.mark mark) state rules rules later 0 answer.Mark answer.Mark new answered
    (untouched state.book later refl refl) done.1

-- a book in which a split is cleared, or not
cleared-keeps :
    (clears : Bool) (wanted : ℕ) (book : Book)
    → Keeps book (if clears then marking.book_marked wanted Cleared book else book)
cleared-keeps true wanted book = untouched book (marking.book_marked wanted Cleared book) refl refl
cleared-keeps false wanted book = untouched book book refl refl

cleared-line :
    (clears : Bool) (wanted : ℕ) (book : Book) (n : ℕ) (line : Line) → value_of n book.lines ≡ Some line
    → value_of n (if clears then marking.book_marked wanted Cleared book else book).lines ≡ Some line
cleared-line true wanted book n line there = there
cleared-line false wanted book n line there = there

pair-keeps :
    (state : State) (n : ℕ) (line : Line) (wanted : ℕ) (found : Option Split) (new : State) (answered : Answer)
    → value_of n state.book.lines ≡ Some line → matching.line_match_of state n line wanted found ≡ Done new answered
    → Keeps state.book new.book
pair-keeps state n line wanted None new answered there e = absurd cc
pair-keeps state n line wanted (Some split) new answered there e =
    let clears = is_mark split.mark New in
    let cleared = matching.book_cleared wanted split state.book in
    let later = matching.book_paired n line wanted split state.book in
    let rules = matching.match_rules state.book.lines n line wanted split in
    let done = unless_done (voided_transaction_of state.book.transactions wanted)
    (changing state rules later 0 answer.LineMatch) new answered e in
    after-change state rules later 0 answer.LineMatch new answered
    (keeps-through state.book cleared later (cleared-keeps clears wanted state.book)
    (line-in-state cleared n line (Matched wanted) (cleared-line clears wanted state.book n line there))) done.1

pub line_match-keeps :
    (state : State) (n wanted : ℕ) (found : Option Line) (new : State) (answered : Answer)
    → value_of n state.book.lines ≡ found → matching.line_match_at state n wanted found ≡ Done new answered
    → Keeps state.book new.book
line_match-keeps state n wanted None new answered there e = absurd cc
line_match-keeps state n wanted (Some line) new answered there e =
    pair-keeps state n line wanted (split_at wanted state.book.transactions) new answered there e

says-paired : (takes : Option ℕ) (line : Line) → SaysSame line (auto.line_paired takes line)
says-paired None line = says-same line
says-paired (Some split) line = record { account = refl; statement = refl; ordinal = refl; body = refl }

pub match_pairs-keeps :
    (state : State) (rules : List (Option Rule)) (pairs : List Pair) (new : State) (answered : Answer)
    → auto.match_pairs state rules pairs ≡ Done new answered → Keeps state.book new.book
match_pairs-keeps state rules pairs new answered e =
    let later = auto.book_paired pairs state.book in
    after-either (length pairs == 0) state rules rules later 0 (answer.MatchAuto pairs) (answer.MatchAuto pairs) new
    answered
    (lines-each state.book later (λ n. auto.line_paired (auto.split_of pairs n))
    (λ n line. says-paired (auto.split_of pairs n) line) refl refl) e

pub reconcile-keeps :
    (state : State) (rules : List (Option Rule)) (made : ℕ → List ℕ → Answer) (account : ℕ) (day closing : ℤ)
    (new : State) (answered : Answer)
    → reconciling.reconcile_of state rules made account day closing ≡ Done new answered → Keeps state.book new.book
reconcile-keeps state rules made account day closing new answered e =
    let recon = reconciling.finished state.book account day closing in
    let later = reconciling.book_reconciled state.book state.next recon in
    after-change state (rules ++ reconciling.finish_rules state.book account day closing) later 1
    (made state.next (marked_numbers recon.marked)) new answered (untouched state.book later refl refl) e

reconcile_closed-keeps :
    (state : State) (n : ℕ) (statement : Held) (found : Option ℤ) (new : State) (answered : Answer)
    → reconciling.reconcile_closed state n statement found ≡ Done new answered → Keeps state.book new.book
reconcile_closed-keeps state n statement None new answered e = absurd cc
reconcile_closed-keeps state n statement (Some closing) new answered e =
    reconcile-keeps state [] (λ number marked. answer.ReconcileStatement number marked) statement.account statement.day
    closing new answered e

pub reconcile_statement-keeps :
    (state : State) (n : ℕ) (found : Option Held) (new : State) (answered : Answer)
    → reconciling.reconcile_at state n found ≡ Done new answered → Keeps state.book new.book
reconcile_statement-keeps state n None new answered e = absurd cc
reconcile_statement-keeps state n (Some statement) new answered e =
    reconcile_closed-keeps state n statement statement.closing new answered e
