-- What all tables have in common where one of their own things is put or taken.
use Rattle.std.proofs.Common.{◌≡◌, ◌≢◌, ℕ, ◌<◌, ◌≤◌, ◌&&◌, nat_lt, Bool, true, false, if◌then◌else◌, All, List, []}
use Rattle.std.proofs.Common.{◌∷◌, length, Some, None, find, refl, sym, ap, subst, ◌∙◌, eq-eqb, arith}
use Rattle.std.proofs.lemmas.Bool.Decides.{nat_tests}
use Rattle.std.proofs.lemmas.List.Elements.{All-cons, All-nil}
use Rattle.std.proofs.lemmas.List.Folds.{list_any_none}
use Rattle.book_commodity.specs.Rules.{AllHold, IsSoundTable, stands_before}
use Rattle.book_commodity.specs.Table.{Rises, value_of, with_entry, without_entry}
use Rattle.book_commodity.proofs.DrawnLemmas.{drawn_below, length_left, value_without}
use Rattle.book_commodity.proofs.RuleLemmas.{each_with, fails_before, none_before, none_before_with}
use Rattle.book_commodity.proofs.RuleLemmas.{none_before_without}
use Rattle.book_commodity.proofs.TableLemmas.{rises_with, rises_without}
use Rattle.book_sound.proofs.SplitFrames.{above_there}

-- a table stays sound where a thing is put that keeps its rules, and the others keep theirs
pub sound_with :
    {T : Type 0} (rules later : ℕ → T → List Bool) (most n : ℕ) (new : T) (es : List (ℕ × T))
    → AllHold (later n new)
    → ((k : ℕ) (x : T) → k ≢ n → value_of k es ≡ Some x → AllHold (rules k x) → AllHold (later k x))
    → length (with_entry n new es) ≤ most
    → IsSoundTable rules most es → IsSoundTable later most (with_entry n new es)
sound_with rules later most n new es own others few is = record {
  rise = rises_with n new es is.rise;
  keep = each_with rules later n new es own others is.keep;
  few = few;
}

-- a table stays sound where one is taken, and the others keep their rules
pub sound_without :
    {T : Type 0} (rules later : ℕ → T → List Bool) (most n : ℕ) (es : List (ℕ × T))
    → ((k : ℕ) (x : T) → value_of k es ≡ Some x → AllHold (rules k x) → AllHold (later k x))
    → IsSoundTable rules most es → IsSoundTable later most (without_entry n es)
sound_without rules later most n es others is = record {
  rise = rises_without n es is.rise;
  keep = record {
    each = λ k x left.
        let there = value_without k n x es is.rise left in
        others k x there (is.keep.each k x there);
  };
  few = omega (arith, is.few, length_left n es);
}

-- ---- what stands once

-- what holds of each thing under its number holds of all entries
pub all_of_each :
    {T : Type 0} (P : ℕ × T → Type 0) (es : List (ℕ × T)) → Rises es
    → ((k : ℕ) (x : T) → value_of k es ≡ Some x → P (k, x)) → All P es
all_of_each P [] r each = All-nil P
all_of_each {T} P (e ∷ es) r each =
    let first = each e.0 e.1
    (ap (λ (b : Bool). if b then Some e.1 else value_of e.0 es) (eq-eqb e.0 e.0 refl)) in
    All-cons P e es first
    (all_of_each P es r.1
    (λ k x there. each k x
    (let past = above_there e.0 k x es r.0 there in grind (arith, nat_tests, past, there))))

-- nothing before a number passes a test that no other thing passes
pub none_of_others :
    {T : Type 0} (test : T → Bool) (n : ℕ) (es : List (ℕ × T)) → Rises es
    → ((k : ℕ) (x : T) → k ≢ n → value_of k es ≡ Some x → test x ≡ false) → stands_before test n es ≡ false
none_of_others {T} test n es r others =
    list_any_none (λ (e : ℕ × T). nat_lt e.0 n && test e.1) es
    (all_of_each (λ (e : ℕ × T). (nat_lt e.0 n && test e.1) ≡ false) es r
    (λ k x there.
    let Before : Bool → Type 0 = λ b. nat_lt k n ≡ b → (b && test x) ≡ false in
    elim (nat_lt k n) as Before [
      | true ↦ λ less. others k x (λ same. absurd (grind (arith, nat_tests, less, same))) there
      | false ↦ λ more. refl
    ] refl))

-- a thing that is put under a drawn number has none before it, where none is found that is as it,
pub own_once :
    {T : Type 0} (alike : T → T → Bool) (n : ℕ) (new : T) (es : List (ℕ × T))
    → find (λ (e : ℕ × T). alike new e.1) es ≡ None
    → stands_before (alike new) n (with_entry n new es) ≡ false
own_once {T} alike n new es free =
    none_before_with (alike new) n n new es (λ before. absurd (omega (arith, before)))
    (none_before (λ (e : ℕ × T). alike new e.1) (alike new) n es (λ e before other. other) free)

-- and the others don't come behind it
pub others_once :
    {T : Type 0} (alike : T → T → Bool) (n k : ℕ) (new x : T) (es : List (ℕ × T))
    → All (λ (e : ℕ × T). e.0 < n) es → value_of k es ≡ Some x → stands_before (alike x) k es ≡ false
    → stands_before (alike x) k (with_entry n new es) ≡ false
others_once alike n k new x es below there free =
    let drawn = drawn_below k n x es below there in
    none_before_with (alike x) k n new es (λ before. absurd (omega (arith, before, drawn))) free

-- one that stands in the place of another, which was as it, has none before it,
pub own_again :
    {T : Type 0} (alike : T → T → Bool) (n : ℕ) (old new : T) (es : List (ℕ × T)) → alike new ≡ alike old
    → stands_before (alike old) n es ≡ false → stands_before (alike new) n (with_entry n new es) ≡ false
own_again {T} alike n old new es same free =
    none_before_with (alike new) n n new es (λ before. absurd (omega (arith, before)))
    (subst (λ (test : T → Bool). stands_before test n es ≡ false) (sym same) free)

-- and isn't before the others
pub others_again :
    {T : Type 0} (alike : T → T → Bool) (n k : ℕ) (old new x : T) (es : List (ℕ × T)) → alike x new ≡ alike x old
    → value_of n es ≡ Some old → stands_before (alike x) k es ≡ false
    → stands_before (alike x) k (with_entry n new es) ≡ false
others_again alike n k old new x es same there free =
    none_before_with (alike x) k n new es (λ before. same ∙ fails_before (alike x) k n old es free before there) free

-- the others still have none before them where one is taken
pub others_left :
    {T : Type 0} (alike : T → T → Bool) (n k : ℕ) (x : T) (es : List (ℕ × T)) → stands_before (alike x) k es ≡ false
    → stands_before (alike x) k (without_entry n es) ≡ false
others_left alike n k x es free = none_before_without (alike x) k n es free
