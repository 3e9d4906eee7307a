-- The split that a number names: the first of some splits that has it.
use Rattle.std.proofs.Common.{◌≡◌, ℕ, ◌==◌, ◌||◌, Bool, true, false, if◌then◌else◌, find, All, List, [], ◌∷◌}
use Rattle.std.proofs.Common.{Option, Some, refl, ap, subst, eq-eqb}
use Rattle.std.specs.List.{list_all, list_any}
use Rattle.std.proofs.lemmas.Bool.{eqb-true, or_left, or_right, and_parts}
use Rattle.std.proofs.lemmas.List.Elements.{All-head, All-tail}
use Rattle.book_splits.specs.TransactionRules.{is_among, numbers_of}
use Rattle.book_splits.specs.declared.split.Split.{Split}

-- The split with a number.
abbrev pub named : ℕ → List Split → Option Split
named id splits = find (λ split. split.id == id) splits

-- what holds of all splits holds of it
pub named_holds :
    (P : Split → Type 0) (id : ℕ) (splits : List Split) (s : Split) → All P splits → named id splits ≡ Some s → P s
named_holds P id [] s all there = absurd cc
named_holds P id (x ∷ splits) s all there =
    let Here : Bool → Type 0 = λ b. (if b then Some x else named id splits) ≡ Some s → P s in
    elim (x.id == id) as Here [
      | true ↦ λ same. let one : x ≡ s = cc in subst P one (All-head P x splits all)
      | false ↦ λ more. named_holds P id splits s (All-tail P x splits all) more
    ] there

-- it has that number
pub named_number : (id : ℕ) (splits : List Split) (s : Split) → named id splits ≡ Some s → s.id ≡ id
named_number id [] s there = absurd cc
named_number id (x ∷ splits) s there =
    let Here : Bool → Type 0 = λ b. (x.id == id) ≡ b → (if b then Some x else named id splits) ≡ Some s → s.id ≡ id in
    elim (x.id == id) as Here [
      | true ↦ λ same found. let one : x ≡ s = cc in subst (λ (y : Split). y.id ≡ id) one (eqb-true x.id id same)
      | false ↦ λ other more. named_number id splits s more
    ] refl there

-- and is one of the splits
pub named_among :
    (id : ℕ) (splits : List Split) (s : Split) → named id splits ≡ Some s → is_among (numbers_of splits) s.id ≡ true
named_among id [] s there = absurd cc
named_among id (x ∷ splits) s there =
    let Here : Bool → Type 0 = λ b. (if b then Some x else named id splits) ≡ Some s
    → is_among (x.id ∷ numbers_of splits) s.id ≡ true in
    elim (x.id == id) as Here [
      | true ↦ λ same. let one : x ≡ s = cc in or_left _ _ (eq-eqb x.id s.id (ap (λ (y : Split). y.id) one))
      | false ↦ λ more. or_right (x.id == s.id) _ (named_among id splits s more)
    ] there

-- what all splits pass, it does
pub named_passes :
    (test : Split → Bool) (id : ℕ) (splits : List Split) (s : Split) → list_all test splits ≡ true
    → named id splits ≡ Some s → test s ≡ true
named_passes test id [] s all there = absurd cc
named_passes test id (x ∷ splits) s all there =
    let Here : Bool → Type 0 = λ b. (if b then Some x else named id splits) ≡ Some s → test s ≡ true in
    let parts = and_parts (test x) (list_all test splits) all in
    elim (x.id == id) as Here [
      | true ↦ λ same. let one : x ≡ s = cc in subst (λ (y : Split). test y ≡ true) one parts.0
      | false ↦ λ more. named_passes test id splits s parts.1 more
    ] there

-- a number is one of the splits' where a split has it
pub among-numbers :
    (splits : List Split) (id : ℕ) → is_among (numbers_of splits) id ≡ list_any (λ split. split.id == id) splits
among-numbers [] id = refl
among-numbers (x ∷ splits) id = ap (λ t. (x.id == id) || t) (among-numbers splits id)
