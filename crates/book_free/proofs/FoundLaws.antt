-- The one entry of a table that passes a test, in a table and in another that differs from it at some numbers.
use Rattle.std.proofs.Common.{◌≡◌, ℕ, ◌<◌, ◌==◌, ◌||◌, Bool, true, false, cond, if◌then◌else◌, List, [], ◌∷◌, find}
use Rattle.std.proofs.Common.{Option, Some, None, is_some, option_map, refl, sym, ap, subst, ◌∙◌, arith, eq-eqb}
use Rattle.std.specs.List.{list_any}
use Rattle.std.proofs.lemmas.Bool.{or_parts}
use Rattle.std.proofs.lemmas.Bool.Decides.{nat_tests}
use Rattle.book_commodity.specs.Table.{Rises, value_of}
use Rattle.book_sound.proofs.SplitFrames.{above_there}

-- The first entry that passes a test.
abbrev pub found : {X : Type 0} → (X → Bool) → List (ℕ × X) → Option (ℕ × X)
found has es = find (λ e. has e.1) es

-- At most one entry of a table passes a test.
pub record IsOne {X : Type 0} (has : X → Bool) (es : List (ℕ × X)) : Type 0 where
  pub same :
      (n m : ℕ) (x y : X) → value_of n es ≡ Some x → has x ≡ true → value_of m es ≡ Some y → has y ≡ true → n ≡ m

-- A table differs from another at most where a test tells.
pub record DiffersAt {X : Type 0} (touched : ℕ → Bool) (old new : List (ℕ × X)) : Type 0 where
  pub old_rise : Rises old
  pub new_rise : Rises new
  pub same : (n : ℕ) → touched n ≡ false → value_of n new ≡ value_of n old

-- No entry of a table where a test tells passes another test.
abbrev pub NoneAt : {X : Type 0} → (ℕ → Bool) → (X → Bool) → List (ℕ × X) → Type 0
NoneAt {X} touched has es = (m : ℕ) (y : X) → touched m ≡ true → value_of m es ≡ Some y → has y ≡ false

pub turned : {X : Type 0} (touched : ℕ → Bool) (old new : List (ℕ × X)) → DiffersAt touched old new
    → DiffersAt touched new old
turned touched old new d = record {
  old_rise = d.new_rise;
  new_rise = d.old_rise;
  same = λ n e. sym (d.same n e);
}

-- ---- what is found

-- what is found stands there and passes the test
pub found_there : {X : Type 0} (has : X → Bool) (es : List (ℕ × X)) (e : ℕ × X) → Rises es → found has es ≡ Some e
    → (value_of e.0 es ≡ Some e.1) × (has e.1 ≡ true)
found_there has [] e r is = absurd cc
found_there {X} has (x ∷ es) e r is =
    let There : ℕ × X → Type 0 = λ y. (value_of y.0 (x ∷ es) ≡ Some y.1) × (has y.1 ≡ true) in
    elim (has x.1) as (λ (t : Bool). has x.1 ≡ t → cond t (Some x) (found has es) ≡ Some e → There e) [
      | true ↦ λ h here.
          let one : x ≡ e = cc in
          subst There one (ap (λ (b : Bool). if b then Some x.1 else value_of x.0 es) (eq-eqb x.0 x.0 refl), h)
      | false ↦ λ h rest.
          let more = found_there has es e r.1 rest in
          let past : x.0 < e.0 = above_there x.0 e.0 e.1 es r.0 more.0 in
          let there = more.0 in
          (grind (arith, nat_tests, past, there), more.1)
    ] refl is

-- an entry that stands there doesn't pass a test that none passes
pub any_there : {X : Type 0} (test : ℕ × X → Bool) (n : ℕ) (x : X) (es : List (ℕ × X)) → value_of n es ≡ Some x
    → list_any test es ≡ false → test (n, x) ≡ false
any_there test n x [] there none = absurd cc
any_there {X} test n x (e ∷ es) there none =
    let parts = or_parts (test e) (list_any test es) none in
    elim (n == e.0) as (λ (t : Bool). (n == e.0) ≡ t → (if t then Some e.1 else value_of n es) ≡ Some x
    → test (n, x) ≡ false) [
      | true ↦ λ same here.
          let number : n ≡ e.0 = grind (arith, nat_tests, same) in
          let value : e.1 ≡ x = cc in
          ap (λ (m : ℕ). test (m, x)) number ∙ ap (λ (y : X). test (e.0, y)) (sym value) ∙ parts.0
      | false ↦ λ other rest. any_there test n x es rest parts.1
    ] refl there

-- where none is found no entry passes the test
pub found_none : {X : Type 0} (has : X → Bool) (es : List (ℕ × X)) (n : ℕ) (x : X) → found has es ≡ None
    → value_of n es ≡ Some x → has x ≡ false
found_none has [] n x is there = absurd cc
found_none {X} has (e ∷ es) n x is there =
    elim (has e.1) as (λ (t : Bool). has e.1 ≡ t → cond t (Some e) (found has es) ≡ None → has x ≡ false) [
      | true ↦ λ h here. absurd cc
      | false ↦ λ h rest.
          elim (n == e.0) as (λ (t : Bool). (if t then Some e.1 else value_of n es) ≡ Some x → has x ≡ false) [
            | true ↦ λ first. let value : e.1 ≡ x = cc in ap has (sym value) ∙ h
            | false ↦ λ later. found_none has es n x rest later
          ] there
    ] refl is

abbrev at : {X : Type 0} → ℕ → X → ℕ × X
at n x = (n, x)

same_some : {X : Type 0} (n m : ℕ) (x y : X) (es : List (ℕ × X)) → n ≡ m → value_of n es ≡ Some x
    → value_of m es ≡ Some y → at m y ≡ at n x
same_some {X} n m x y es is one other =
    let both : value_of m es ≡ Some x = ap (λ (k : ℕ). value_of k es) (sym is) ∙ one in
    let value : y ≡ x = cc in
    ap (λ (k : ℕ). at k y) (sym is) ∙ ap (at n) value

-- the one that passes the test is found
pub found_is : {X : Type 0} (has : X → Bool) (es : List (ℕ × X)) (n : ℕ) (x : X) → Rises es → IsOne has es
    → value_of n es ≡ Some x → has x ≡ true → found has es ≡ Some (n, x)
found_is {X} has es n x r one there passes = by_found (found has es) refl
  where
    by_found : (o : Option (ℕ × X)) → found has es ≡ o → o ≡ Some (n, x)
    by_found None e = absurd (let fails = found_none has es n x e there in cc)
    by_found (Some y) e =
        let other = found_there has es y r e in
        let is : n ≡ y.0 = one.same n y.0 x y.1 there passes other.0 other.1 in
        ap (λ (z : ℕ × X). Some z) (same_some n y.0 x y.1 es is there other.0)

-- whether one is found is whether any passes the test
pub found_any : {X : Type 0} (has : X → Bool) (es : List (ℕ × X))
    → is_some (option_map (λ (e : ℕ × X). e.0) (found has es)) ≡ list_any (λ (e : ℕ × X). has e.1) es
found_any has [] = refl
found_any {X} has (e ∷ es) =
    elim (has e.1) as (λ (t : Bool). is_some (option_map (λ (e : ℕ × X). e.0) (cond t (Some e) (found has es)))
    ≡ (t || list_any (λ (e : ℕ × X). has e.1) es)) [ true ↦ refl | false ↦ found_any has es ]

-- ---- what is found in another table

-- what passes the test in the first where they may differ, and nowhere there in the other, is not found in the other
pub found_lost : {X : Type 0} (has : X → Bool) (touched : ℕ → Bool) (old new : List (ℕ × X)) (n : ℕ) (x : X)
    → DiffersAt touched old new → IsOne has old → value_of n old ≡ Some x → has x ≡ true → touched n ≡ true
    → NoneAt touched has new → found has new ≡ None
found_lost {X} has touched old new n x d one there passes here none = by_found (found has new) refl
  where
    by_found : (o : Option (ℕ × X)) → found has new ≡ o → o ≡ None
    by_found None e = refl
    by_found (Some y) e =
        let other = found_there has new y d.new_rise e in
        absurd (elim (touched y.0) as (λ (t : Bool). touched y.0 ≡ t → ⊥) [
          | true ↦ λ at. let fails = none y.0 y.1 at other.0 in let passed = other.1 in cc
          | false ↦ λ beside.
              let is : n ≡ y.0 = one.same n y.0 x y.1 there passes (sym (d.same y.0 beside) ∙ other.0) other.1 in
              let at : touched y.0 ≡ true = ap touched (sym is) ∙ here in cc
        ] refl)

-- where nothing passes the test in either where they may differ, the same is found in both
pub found_same : {X : Type 0} (has : X → Bool) (touched : ℕ → Bool) (old new : List (ℕ × X))
    → DiffersAt touched old new → IsOne has new → NoneAt touched has old → NoneAt touched has new
    → found has new ≡ found has old
found_same {X} has touched old new d one none_old none_new = by_old (found has old) refl
  where
    by_new : (o : Option (ℕ × X)) → found has old ≡ None → found has new ≡ o → o ≡ None
    by_new None e f = refl
    by_new (Some y) e f =
        let there = found_there has new y d.new_rise f in
        absurd (elim (touched y.0) as (λ (t : Bool). touched y.0 ≡ t → ⊥) [
          | true ↦ λ at. let fails = none_new y.0 y.1 at there.0 in let passed = there.1 in cc
          | false ↦ λ beside.
              let fails = found_none has old y.0 y.1 e (sym (d.same y.0 beside) ∙ there.0) in
              let passed = there.1 in cc
        ] refl)

    by_old : (o : Option (ℕ × X)) → found has old ≡ o → found has new ≡ o
    by_old None e = by_new (found has new) e refl
    by_old (Some y) e =
        let there = found_there has old y d.old_rise e in
        elim (touched y.0) as (λ (t : Bool). touched y.0 ≡ t → found has new ≡ Some y) [
          | true ↦ λ at.
              absurd (let fails = none_old y.0 y.1 at there.0 in let passed = there.1 in cc)
          | false ↦ λ beside.
              found_is has new y.0 y.1 d.new_rise one (d.same y.0 beside ∙ there.0) there.1
        ] refl
