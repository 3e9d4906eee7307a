-- A table keeps its rules where a walk over it finds that each of its things does.
use Rattle.std.proofs.Common.{◌≡◌, ℕ, ◌==◌, Bool, true, false, if◌then◌else◌, List, [], ◌∷◌, Some, refl, sym, ap, ◌∙◌}
use Rattle.std.specs.List.{list_all}
use Rattle.std.proofs.lemmas.Bool.{and_parts, eqb-true}
use Rattle.book_commodity.specs.Rules.{AllHold, EachKeeps}
use Rattle.book_commodity.specs.Table.{value_of}

-- Whether each test of a list holds.
abbrev pub all_true : List Bool → Bool
all_true tests = list_all (λ test. test) tests

pub hold_of : (tests : List Bool) → all_true tests ≡ true → AllHold tests
hold_of [] all = tt
hold_of (test ∷ more) all = let parts = and_parts test (all_true more) all in (parts.0, hold_of more parts.1)

-- what each entry passes, each thing does that is found under its number
pub passes_there :
    {T : Type 0} (test : ℕ × T → Bool) (k : ℕ) (x : T) (es : List (ℕ × T)) → list_all test es ≡ true
    → value_of k es ≡ Some x → test (k, x) ≡ true
passes_there test k x [] all there = absurd cc
passes_there {T} test k x (e ∷ es) all there =
    let parts = and_parts (test e) (list_all test es) all in
    let Here : Bool → Type 0 = λ b. (k == e.0) ≡ b → (if b then Some e.1 else value_of k es) ≡ Some x
    → test (k, x) ≡ true in
    elim (k == e.0) as Here [
      | true ↦ λ same here.
          let one : e.1 ≡ x = cc in
          ap (λ (n : ℕ). test (n, x)) (eqb-true k e.0 same) ∙ ap (λ (y : T). test (e.0, y)) (sym one) ∙ parts.0
      | false ↦ λ other rest. passes_there test k x es parts.1 rest
    ] refl there

pub each_of :
    {T : Type 0} (rules : ℕ → T → List Bool) (es : List (ℕ × T))
    → list_all (λ (e : ℕ × T). all_true (rules e.0 e.1)) es ≡ true → EachKeeps rules es
each_of {T} rules es all = record {
  each = λ k x there. hold_of (rules k x) (passes_there (λ (e : ℕ × T). all_true (rules e.0 e.1)) k x es all there);
}
