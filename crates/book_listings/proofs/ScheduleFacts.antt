-- The schedules of a sound book have recurrences that step on.
use Rattle.std.proofs.Common.{◌≡◌, ℕ, true, List, [], ◌∷◌, Some, arith}
use Rattle.std.specs.Prelude.{All}
use Rattle.std.specs.Int.{IsInRange}
use Rattle.std.specs.List.{list_all}
use Rattle.std.proofs.lemmas.Bool.{and_parts}
use Rattle.std.proofs.lemmas.Bool.Decides.{nat_tests}
use Rattle.std.proofs.lemmas.List.Elements.{All-cons, All-nil}
use Rattle.book_commodity.specs.Table.{Rises, value_of}
use Rattle.book_schedule.specs.declared.recurrence.Recurrence.{Recurrence}
use Rattle.book_sound.specs.ScheduleRules.{has_multiplier}
use Rattle.book_sound.specs.Soundness.{IsSoundBook}
use Rattle.book_sound.proofs.SplitFrames.{above_there}
use Rattle.book_undo.specs.Book.{Book}
use Rattle.book_undo.specs.declared.schedule.Schedule.{Schedule}
use Rattle.book_listings.specs.Schedules.{AreTimed}

step_on : (rs : List Recurrence) → list_all has_multiplier rs ≡ true → All (λ r. IsInRange 1 10000 r.every) rs
step_on [] all = All-nil (λ (r : Recurrence). IsInRange 1 10000 r.every)
step_on (r ∷ more) all =
    let both = and_parts (has_multiplier r) (list_all has_multiplier more) all in
    let first = both.0 in
    All-cons (λ (r : Recurrence). IsInRange 1 10000 r.every) r more
    (grind (arith, nat_tests, first), grind (arith, nat_tests, first)) (step_on more both.1)

timed_by :
    (es : List (ℕ × Schedule)) → Rises es
    → ((k : ℕ) (x : Schedule) → value_of k es ≡ Some x → list_all has_multiplier x.timing.recurrences ≡ true)
    → AreTimed es
timed_by [] r kept = All-nil (λ (e : ℕ × Schedule). All (λ r. IsInRange 1 10000 r.every) e.1.timing.recurrences)
timed_by (e ∷ more) r kept =
    let first : value_of e.0 (e ∷ more) ≡ Some e.1 = grind (arith, nat_tests) in
    All-cons (λ (e : ℕ × Schedule). All (λ r. IsInRange 1 10000 r.every) e.1.timing.recurrences) e more
    (step_on e.1.timing.recurrences (kept e.0 e.1 first))
    (timed_by more r.1
    (λ k x found.
    let past = above_there e.0 k x more r.0 found in
    let later : value_of k (e ∷ more) ≡ Some x = grind (arith, nat_tests, past, found) in
    kept k x later))

pub are_timed : (book : Book) → IsSoundBook book → AreTimed book.schedules
are_timed book is = timed_by book.schedules is.schedules.rise (λ k x found. (is.schedules.keep.each k x found).0)
