-- The matching of an account step by step: which rule is broken first, and what the pairs come to.
use Rattle.std.proofs.Common.{◌≡◌, ◌≢◌, ℕ, ◌==◌, false, List, [], ◌∷◌, length, Option, Some, None, Result, refl, ap}
use Rattle.std.proofs.Common.{subst, arith}
use Rattle.std.proofs.lemmas.Bool.Decides.{nat_tests}
use Rattle.book_commodity.specs.Rules.{first_broken}
use Rattle.book_match.specs.declared.views.Matched.{Matched}
use Rattle.book_undo.specs.Book.{Book}
use Rattle.book_undo.specs.Edit.{edited, is_nothing}
use Rattle.book_undo.specs.Exact.{IsExact}
use Rattle.book_undo.specs.declared.edit.Edit.{Edit}
use Rattle.book_sound.proofs.SoundFacts.{tables_rise}
use Rattle.book_command.specs.declared.answer.Answer.TheVariants as answer
use Rattle.book_command.specs.declared.refusal.Refusal.{Refusal}
use Rattle.book_command.specs.declared.rule.Rule.{Rule}
use Rattle.book_step.specs.AutoMatching.{book_paired, match_pairs, matches, pairing_edit}
use Rattle.book_step.specs.Outcome.{Broken, StepsTo, changing, leaving}
use Rattle.book_step.specs.Soundness.{IsSoundBook}
use Rattle.book_step.specs.State.{State}
use Rattle.book_step.specs.declared.step.Step.{Step}
use Rattle.book_step.proofs.OutcomeLemmas.{either-broken, either-changed, either-left}
use Rattle.book_step.proofs.PairLemmas.{first_takes, pairs_open}
use Rattle.book_step.proofs.PairedEdits.{pairing_exact, pairing_something}

pub match-broken :
    (state : State) (rules : List (Option Rule)) (pairs : List Matched) (rule : Rule)
    → first_broken rules ≡ Some rule → match_pairs state rules pairs ≡ Broken rule
match-broken state rules pairs rule broken =
    either-broken state (length pairs == 0) rules (book_paired pairs state.book) 0 (answer.MatchAuto pairs)
    (answer.MatchAuto pairs) rule broken

pub match-left :
    (state : State) (rules : List (Option Rule)) (pairs : List Matched) (result : Result Step Refusal)
    → first_broken rules ≡ None → pairs ≡ []
    → StepsTo state (leaving state [] (answer.MatchAuto pairs)) result
    → StepsTo state (match_pairs state rules pairs) result
match-left state rules pairs result none empty left =
    either-left state (length pairs == 0) rules (book_paired pairs state.book) 0 (answer.MatchAuto pairs)
    (answer.MatchAuto pairs) result none (ap (λ (ps : List Matched). length ps == 0) empty) left

not_empty : (pairs : List Matched) → pairs ≢ [] → (length pairs == 0) ≡ false
not_empty [] some = absurd (some refl)
not_empty (pair ∷ more) some = grind (arith, nat_tests)

pub match-changed :
    (state : State) (rules : List (Option Rule)) (pairs : List Matched) (edit : Edit) (result : Result Step Refusal)
    → first_broken rules ≡ None → pairs ≢ [] → edited edit state.book ≡ book_paired pairs state.book
    → StepsTo state (changing state [] (edited edit state.book) 0 (answer.MatchAuto pairs)) result
    → StepsTo state (match_pairs state rules pairs) result
match-changed state rules pairs edit result none some leads changed =
    either-changed state (length pairs == 0) rules (book_paired pairs state.book) 0 (answer.MatchAuto pairs)
    (answer.MatchAuto pairs) result none (not_empty pairs some)
    (subst (λ (b : Book). StepsTo state (changing state [] b 0 (answer.MatchAuto pairs)) result) leads changed)

-- The edit of the pairs that are proposed for an account changes something where there is a pair, and is exact.
pub matching-something :
    (book : Book) (account window : ℕ) → IsSoundBook book → matches book account window ≢ []
    → is_nothing (pairing_edit (matches book account window) book) ≡ false
matching-something book account window is some = go (matches book account window) refl some
  where
    go : (pairs : List Matched) → matches book account window ≡ pairs → pairs ≢ []
        → is_nothing (pairing_edit (matches book account window) book) ≡ false
    go [] are some = absurd (some refl)
    go (pair ∷ more) are some =
        let first = first_takes book account window pair more is are in
        pairing_something (matches book account window) book pair.line pair.split first.0 first.1 first.2

pub matching-exact :
    (book : Book) (account window : ℕ) → IsSoundBook book
    → IsExact book (pairing_edit (matches book account window) book)
matching-exact book account window is =
    pairing_exact (matches book account window) book (tables_rise book is) (pairs_open book account window is)
