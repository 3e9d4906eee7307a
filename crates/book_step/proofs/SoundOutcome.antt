-- What a step that is done says: no rule is broken, and the state is the one after the edit.
use Rattle.std.proofs.Common.{◌≡◌, ℕ, ◌+◌, ◌^◌, ◌<◌, Bool, true, false, if◌then◌else◌, List, [], ◌∷◌}
use Rattle.std.proofs.Common.{◌++◌, Option, Some, None, refl, subst, arith}
use Rattle.std.proofs.lemmas.Bool.Decides.{nat_tests}
use Rattle.book_commodity.specs.Rules.{AllKept, first_broken}
use Rattle.book_commodity.proofs.RuleLemmas.{kept_back, kept_front, kept_of, not-broken}
use Rattle.book_undo.specs.Book.{Book}
use Rattle.book_step.specs.Outcome.{Outcome, Done, changed, changing, leaving, numbers, unless_broken}
use Rattle.book_step.specs.Soundness.{IsSoundBook, AreDrawn, IsSound}
use Rattle.book_step.specs.State.{State}
use Rattle.book_command.specs.declared.answer.Answer.{Answer}
use Rattle.book_command.specs.declared.rule.Rule.{Rule}

pub unless_done :
    (rule : Option Rule) (outcome : Outcome) (new : State) (answer : Answer)
    → unless_broken rule outcome ≡ Done new answer
    → (rule ≡ None) × (outcome ≡ Done new answer)
unless_done None outcome new answer e = (refl, e)
unless_done (Some rule) outcome new answer e = absurd cc

-- The command broke no rule, and led to the new state with the book.
pub record IsChange (state : State) (rules : List (Option Rule)) (book : Book) (drawn : ℕ) (new : State) : Type 0 where
  pub kept : AllKept rules
  pub is : changed state book drawn ≡ new
  pub next : state.next + drawn < 2 ^ 62
  pub version : state.version + 1 < 2 ^ 62

pub changing_done :
    (state : State) (rules : List (Option Rule)) (book : Book) (drawn : ℕ) (given : Answer) (new : State)
    (answer : Answer)
    → changing state rules book drawn given ≡ Done new answer → IsChange state rules book drawn new
changing_done state rules book drawn given new answer e =
    let last = numbers state drawn ∷ [] in
    let done = unless_done (first_broken (rules ++ last)) (Done (changed state book drawn) given) new answer e in
    let kept = kept_of (rules ++ last) done.0 in
    let few = not-broken _ _ (kept_back rules last kept).0 in
    record {
      kept = kept_front rules last kept;
      is = let both = done.1 in cc;
      next = grind (arith, nat_tests, few);
      version = grind (arith, nat_tests, few);
    }

pub leaving_done :
    (state : State) (rules : List (Option Rule)) (given : Answer) (new : State) (answer : Answer)
    → leaving state rules given ≡ Done new answer → state ≡ new
leaving_done state rules given new answer e =
    let both = (unless_done (first_broken rules) (Done state given) new answer e).1 in cc

-- A state that a command changes is sound where the book is then, and its numbers are drawn.
pub sound_after :
    (state : State) (rules : List (Option Rule)) (book : Book) (drawn : ℕ) (new : State)
    → IsChange state rules book drawn new → IsSoundBook book → AreDrawn book (state.next + drawn) → IsSound new
sound_after state rules book drawn new change sound are =
    subst (λ (s : State). IsSound s) change.is
    (record { book = sound; drawn = are; next = change.next; version = change.version })

-- A command that leaves the state or changes it leads to a sound state where the change does.
pub either_sound :
    (stay : Bool) (state new : State) (rules : List (Option Rule)) (book : Book) (drawn : ℕ)
    (left made answered : Answer)
    → IsSound state → (IsChange state rules book drawn new → IsSound new)
    → (if stay then leaving state rules left else changing state rules book drawn made) ≡ Done new answered
    → IsSound new
either_sound true state new rules book drawn left made answered is sound e =
    subst (λ (s : State). IsSound s) (leaving_done state rules left new answered e) is
either_sound false state new rules book drawn left made answered is sound e =
    sound (changing_done state rules book drawn made new answered e)
