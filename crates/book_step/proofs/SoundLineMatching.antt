-- The command that matches a line with a split leads from sound states to sound states: the line fits the split, which
-- no other line has.
use Rattle.std.proofs.Common.{◌≡◌, ◌≢◌, ℕ, ◌+◌, ◌==◌, nat_eq, not, Bool, true, false, if◌then◌else◌, List, [], ◌∷◌, Option}
use Rattle.std.proofs.Common.{Some, None, option_map, refl, sym, ap, ◌∙◌, eq-eqb, arith}
use Rattle.std.specs.Option.{option_eq}
use Rattle.std.specs.Ordering.{int_eq}
use Rattle.std.proofs.lemmas.Bool.{and_parts, eqb-true, not-false, not-true}
use Rattle.std.proofs.lemmas.Bool.Decides.{Decides-int_eq}
use Rattle.book_commodity.specs.Table.{value_of}
use Rattle.book_commodity.proofs.DrawnLemmas.{drawn_below}
use Rattle.book_commodity.proofs.ListLemmas.{mapped_none}
use Rattle.book_commodity.proofs.RuleLemmas.{not-broken}
use Rattle.book_splits.specs.TransactionRules.{is_voided}
use Rattle.book_splits.specs.declared.split.Mark.TheVariants.{New, Cleared}
use Rattle.book_splits.specs.declared.split.Split.{Split}
use Rattle.book_statement.specs.declared.line.Line.{Line}
use Rattle.book_statement.specs.declared.line_state.LineState.{LineState}
use Rattle.book_statement.specs.declared.line_state.LineState.TheVariants.{Matched}
use Rattle.book_undo.specs.Book.{Book}
use Rattle.book_sound.specs.LineRules.{fits_line, matched_split, split_at}
use Rattle.book_sound.proofs.DrawnChanges.{line_drawn}
use Rattle.book_sound.proofs.DrawnFrames.{drawn_later}
use Rattle.book_command.specs.declared.answer.Answer.{Answer}
use Rattle.book_command.specs.declared.answer.Answer.TheVariants as answer
use Rattle.book_command.specs.declared.rule.Rule.TheVariants.{LineTaken}
use Rattle.book_step.specs.LineAdding.{matched_with}
use Rattle.book_step.specs.LineMatching.{book_cleared, book_paired, is_matched_with, line_match, line_match_at}
use Rattle.book_step.specs.LineMatching.{line_match_of, line_of_split, match_rules}
use Rattle.book_step.specs.Marking.{book_marked, marked_as}
use Rattle.book_step.specs.Outcome.{Done, changing}
use Rattle.book_step.specs.SameTransaction.{is_mark}
use Rattle.book_step.specs.Soundness.{IsSoundBook, AreDrawn, IsSound}
use Rattle.book_step.specs.State.{State}
use Rattle.book_step.specs.VoidRules.{voided_transaction_of}
use Rattle.book_step.proofs.LineLemmas.{Fits, matched-sound}
use Rattle.book_step.proofs.RemarkLemmas.{held_of, marked-sound, split_marked}
use Rattle.book_step.proofs.SoundOutcome.{changing_done, sound_after, unless_done}
use Rattle.book_step.proofs.VoidRuleLemmas.{unvoided_held}

-- ---- no line has the split

-- none of the lines that are looked through has it
none_matched :
    (wanted k : ℕ) (x : Line) (lines : List (ℕ × Line)) → line_of_split wanted lines ≡ None
    → value_of k lines ≡ Some x → is_matched_with wanted x ≡ false
none_matched wanted k x [] none there = absurd cc
none_matched wanted k x (e ∷ lines) none there =
    let First : Bool → Type 0 = λ b. is_matched_with wanted e.1 ≡ b
    → (if b then Some e else line_of_split wanted lines) ≡ None → is_matched_with wanted x ≡ false in
    let Here : Bool → Type 0 = λ b. (if b then Some e.1 else value_of k lines) ≡ Some x
    → is_matched_with wanted x ≡ false in
    elim (is_matched_with wanted e.1) as First [
      | true ↦ λ has some. absurd cc
      | false ↦ λ lacks rest. (elim (k == e.0) as Here [
        | true ↦ λ here.
            let one : e.1 ≡ x = cc in
            ap (is_matched_with wanted) (sym one) ∙ lacks
        | false ↦ λ more. none_matched wanted k x lines rest more
      ]) there
    ] refl none

not_matched : (wanted : ℕ) (x : Line) → is_matched_with wanted x ≡ false → x.state ≢ Matched wanted
not_matched wanted x lacks matched =
    absurd (
    let has : is_matched_with wanted x ≡ true =
    ap (λ (s : LineState). option_eq nat_eq (matched_split s) (Some wanted)) matched ∙ eq-eqb wanted wanted refl in
    let both = sym has ∙ lacks in
    cc)

-- ---- the book in which the split is cleared where it is new

-- the split fits the line in it
fits_cleared :
    (book : Book) (line : Line) (wanted : ℕ) (split : Split) → split_at wanted book.transactions ≡ Some split
    → fits_line line (Some split) ≡ true
    → Fits (book_cleared wanted split book) line wanted
fits_cleared book line wanted split there fits = go (is_mark split.mark New)
  where
    parts : (split.account ≡ line.account) × (split.quantity ≡ line.body.amount) × (is_voided split.mark ≡ false)
    parts =
        let both = and_parts (split.account == line.account) _ fits in
        let more = and_parts (int_eq split.quantity line.body.amount) (not (is_voided split.mark)) both.1 in (
          eqb-true split.account line.account both.0,
          (Decides-int_eq split.quantity line.body.amount).0 more.0,
          not-true _ more.1,
        )

    go : (new : Bool) → Fits (if new then book_marked wanted Cleared book else book) line wanted
    go true = record {
      split = marked_as Cleared split;
      there = split_marked wanted Cleared book ∙ ap (option_map (marked_as Cleared)) there;
      account = parts.0;
      quantity = parts.1;
      unvoided = refl;
    }
    go false = record { split = split; there = there; account = parts.0; quantity = parts.1; unvoided = parts.2 }

-- it is sound, and its lines are those of the book
record Clears (book later : Book) (limit : ℕ) : Type 0 where
  pub sound : IsSoundBook later
  pub drawn : AreDrawn later limit
  pub lines : later.lines ≡ book.lines

cleared-sound :
    (book : Book) (wanted limit : ℕ) (split : Split) → split_at wanted book.transactions ≡ Some split
    → voided_transaction_of book.transactions wanted ≡ None → AreDrawn book limit → IsSoundBook book
    → Clears book (book_cleared wanted split book) limit
cleared-sound book wanted limit split there unvoided are is = go (is_mark split.mark New)
  where
    go : (new : Bool) → Clears book (if new then book_marked wanted Cleared book else book) limit
    go true =
        let found = held_of wanted split book.transactions is.transactions.rise there in
        let alive = unvoided_held book wanted found.held is found.has unvoided in
        let both = marked-sound book wanted limit Cleared found.held found.has alive refl refl are is in
        record { sound = both.0; drawn = both.1; lines = refl }
    go false = record { sound = is; drawn = are; lines = refl }

-- ---- the command

match_of-sound :
    (state : State) (n : ℕ) (line : Line) (wanted : ℕ) (found : Option Split) (new : State) (answered : Answer)
    → value_of n state.book.lines ≡ Some line → split_at wanted state.book.transactions ≡ found → IsSound state
    → line_match_of state n line wanted found ≡ Done new answered
    → IsSound new
match_of-sound state n line wanted None new answered there at is e = absurd cc
match_of-sound state n line wanted (Some split) new answered there at is e =
    let book = state.book in
    let rules = match_rules book.lines n line wanted split in
    let cleared = book_cleared wanted split book in
    let later = book_paired n line wanted split book in
    let next = state.next + 0 in
    let done = unless_done (voided_transaction_of book.transactions wanted) (changing state rules later 0 answer.LineMatch) new
    answered e in
    let change = changing_done state rules later 0 answer.LineMatch new answered done.1 in
    let free = mapped_none (λ (e : ℕ × Line). LineTaken e.0) (line_of_split wanted book.lines) change.kept.1.0 in
    let fits = not-false (fits_line line (Some split)) (not-broken _ _ change.kept.1.1.0) in
    let clears = cleared-sound book wanted next split at done.0
    (drawn_later book state.next next (omega arith) is.drawn) is.book in
    let stands = ap (value_of n) clears.lines ∙ there in
    let own = drawn_below n next line cleared.lines clears.drawn.lines stands in
    sound_after state rules later 0 new change
    (matched-sound cleared n wanted line stands (fits_cleared book line wanted split at fits)
    (record {
      each = λ k x other has.
          not_matched wanted x (none_matched wanted k x book.lines free (sym (ap (value_of k) clears.lines) ∙ has));
    }) clears.sound)
    (line_drawn cleared n next (matched_with wanted line) own clears.drawn)

match_at-sound :
    (state : State) (n wanted : ℕ) (found : Option Line) (new : State) (answered : Answer)
    → value_of n state.book.lines ≡ found → IsSound state → line_match_at state n wanted found ≡ Done new answered
    → IsSound new
match_at-sound state n wanted None new answered there is e = absurd cc
match_at-sound state n wanted (Some line) new answered there is e =
    match_of-sound state n line wanted (split_at wanted state.book.transactions) new answered there refl is e

pub line_match-sound :
    (state : State) (n wanted : ℕ) (new : State) (answered : Answer) → IsSound state
    → line_match state n wanted ≡ Done new answered
    → IsSound new
line_match-sound state n wanted new answered is e =
    match_at-sound state n wanted (value_of n state.book.lines) new answered refl is e
