-- Laws of rules: of which the first counts, all of which are kept, and those that the things of a table keep.
use Rattle.std.proofs.Common.{◌≡◌, ◌≢◌, ℕ, ◌<◌, ◌==◌, nat_lt, if◌then◌else◌, ◌&&◌, Bool, true, false, List, [], ◌∷◌}
use Rattle.std.proofs.Common.{◌++◌, Option, Some, None, Result, Ok, Err, cond, find, inl, inr, refl, sym, ap, subst}
use Rattle.std.proofs.Common.{◌∙◌, arith}
use Rattle.std.proofs.lemmas.Bool.{eqb-true, or_parts}
use Rattle.std.proofs.lemmas.Bool.Decides.{nat_tests}
use Rattle.book_commodity.specs.Rules.{ReportsFirst, AllHold, AllKept, EachKeeps, broken_where, first_broken}
use Rattle.book_commodity.specs.Rules.{stands_before}
use Rattle.book_commodity.specs.Table.{value_of, with_entry, without_entry}
use Rattle.book_commodity.proofs.DrawnLemmas.{value_with}

-- ---- the first broken rule

-- where the first rules aren't broken, the first broken one is among those behind them
pub first-past :
    {R : Type 0} (xs ys : List (Option R)) → first_broken xs ≡ None → first_broken (xs ++ ys) ≡ first_broken ys
first-past [] ys e = refl
first-past (None ∷ xs) ys e = first-past xs ys e
first-past (Some rule ∷ xs) ys e = absurd cc

-- a rule that is the first broken one stays it, whatever rules stand behind
pub first-here :
    {R : Type 0} (xs ys : List (Option R)) (rule : R) → first_broken xs ≡ Some rule
    → first_broken (xs ++ ys) ≡ Some rule
first-here [] ys rule e = absurd cc
first-here (None ∷ xs) ys rule e = first-here xs ys rule e
first-here (Some other ∷ xs) ys rule e = e

-- what is reported of the rules behind unbroken ones is reported of all
pub reports-past :
    {T R : Type 0} (xs ys : List (Option R)) (result : Result T R) → first_broken xs ≡ None → ReportsFirst ys result
    → ReportsFirst (xs ++ ys) result
reports-past xs ys (Ok x) e h = first-past xs ys e ∙ h
reports-past xs ys (Err rule) e h = first-past xs ys e ∙ h

-- ---- rules that are all kept

-- where no rule is the first that is broken, each is kept
pub kept_of : {R : Type 0} (rules : List (Option R)) → first_broken rules ≡ None → AllKept rules
kept_of [] e = tt
kept_of (None ∷ more) e = (refl, kept_of more e)
kept_of (Some rule ∷ more) e = absurd cc

-- and the other way round
pub none_broken : {R : Type 0} (rules : List (Option R)) → AllKept rules → first_broken rules ≡ None
none_broken [] kept = refl
none_broken (None ∷ more) kept = none_broken more kept.1
none_broken (Some rule ∷ more) kept = absurd (let broken = kept.0 in cc)

-- the first of them are kept, and those behind, and both lists together
pub kept_front : {R : Type 0} (xs ys : List (Option R)) → AllKept (xs ++ ys) → AllKept xs
kept_front [] ys kept = tt
kept_front (x ∷ xs) ys kept = (kept.0, kept_front xs ys kept.1)

pub kept_back : {R : Type 0} (xs ys : List (Option R)) → AllKept (xs ++ ys) → AllKept ys
kept_back [] ys kept = kept
kept_back (x ∷ xs) ys kept = kept_back xs ys kept.1

pub kept_both : {R : Type 0} (xs ys : List (Option R)) → AllKept xs → AllKept ys → AllKept (xs ++ ys)
kept_both [] ys front back = back
kept_both (x ∷ xs) ys front back = (front.0, kept_both xs ys front.1 back)

-- a rule isn't broken only where its condition doesn't hold
pub not-broken : {R : Type 0} (condition : Bool) (rule : R) → broken_where condition rule ≡ None → condition ≡ false
not-broken true rule e = absurd cc
not-broken false rule e = refl

-- ---- what stands once

-- nothing stands before a number that passes the test, where nothing is found that would
pub none_before :
    {T : Type 0} (taken : ℕ × T → Bool) (test : T → Bool) (k : ℕ) (es : List (ℕ × T))
    → ((e : ℕ × T) → e.0 < k → taken e ≡ false → test e.1 ≡ false) → find taken es ≡ None
    → stands_before test k es ≡ false
none_before taken test k [] weaker none = refl
none_before {T} taken test k (e ∷ es) weaker none =
    let Found : Bool → Type 0 = λ t. taken e ≡ t → cond t (Some e) (find taken es) ≡ None
    → stands_before test k (e ∷ es) ≡ false in
    elim (taken e) as Found [
      | true ↦ λ here some. absurd cc
      | false ↦ λ other rest.
          let more = none_before taken test k es weaker rest in
          let first : e.0 < k → test e.1 ≡ false = λ below. weaker e below other in
          grind (arith, nat_tests, first, more)
    ] refl none

-- nor after a thing is put that doesn't pass it or stands behind
pub none_before_with :
    {T : Type 0} (test : T → Bool) (k n : ℕ) (v : T) (es : List (ℕ × T)) → (n < k → test v ≡ false)
    → stands_before test k es ≡ false → stands_before test k (with_entry n v es) ≡ false
none_before_with test k n v [] free none = grind (arith, nat_tests, free)
none_before_with test k n v (e ∷ es) free none =
    let parts = or_parts (nat_lt e.0 k && test e.1) (stands_before test k es) none in
    let rest = none_before_with test k n v es free parts.1 in
    grind (arith, nat_tests, free, parts.0, parts.1, rest)

-- nor after one is taken
pub none_before_without :
    {T : Type 0} (test : T → Bool) (k n : ℕ) (es : List (ℕ × T)) → stands_before test k es ≡ false
    → stands_before test k (without_entry n es) ≡ false
none_before_without test k n [] none = none
none_before_without test k n (e ∷ es) none =
    let parts = or_parts (nat_lt e.0 k && test e.1) (stands_before test k es) none in
    let rest = none_before_without test k n es parts.1 in
    grind (arith, nat_tests, parts.0, parts.1, rest)

-- what stands before a number doesn't pass the test, where nothing before passes it
pub fails_before :
    {T : Type 0} (test : T → Bool) (k n : ℕ) (x : T) (es : List (ℕ × T)) → stands_before test k es ≡ false → n < k
    → value_of n es ≡ Some x → test x ≡ false
fails_before test k n x [] none less there = absurd cc
fails_before test k n x (e ∷ es) none less there =
    let parts = or_parts (nat_lt e.0 k && test e.1) (stands_before test k es) none in
    let Here : Bool → Type 0 = λ t. (n == e.0) ≡ t → (if t then Some e.1 else value_of n es) ≡ Some x
    → test x ≡ false in
    elim (n == e.0) as Here [
      | true ↦ λ same here.
          let one : e.1 ≡ x = cc in
          let number : n ≡ e.0 = eqb-true n e.0 same in
          let below : nat_lt e.0 k ≡ true = grind (arith, nat_tests, number, less) in
          ap test (sym one) ∙ sym (ap (λ (t : Bool). t && test e.1) below) ∙ parts.0
      | false ↦ λ other more. fails_before test k n x es parts.1 less more
    ] refl there

-- ---- the first that passes a test

-- it is the same after a thing is put that doesn't pass it, where none stood that passed it
pub find_with :
    {T : Type 0} (test : ℕ × T → Bool) (n : ℕ) (v : T) (es : List (ℕ × T)) → test (n, v) ≡ false
    → ((x : T) → value_of n es ≡ Some x → test (n, x) ≡ false) → find test (with_entry n v es) ≡ find test es
find_with test n v [] new old = ap (λ (t : Bool). cond t (Some (n, v)) None) new
find_with {T} test n v (e ∷ es) new old =
    let skip : List (ℕ × T) → Type 0 = λ l. find test ((n, v) ∷ l) ≡ find test l in
    let skips : (l : List (ℕ × T)) → skip l = λ l. ap (λ (t : Bool). cond t (Some (n, v)) (find test l)) new in
    let Less : Bool → Type 0 =
    λ t. find test (if t then (n, v) ∷ e ∷ es else (if n == e.0 then (n, v) ∷ es else e ∷ with_entry n v es)) ≡ find
    test (e ∷ es) in
    let Same : Bool → Type 0 = λ t. (n == e.0) ≡ t
    → ((x : T) → (if t then Some e.1 else value_of n es) ≡ Some x → test (n, x) ≡ false)
    → find test (if t then (n, v) ∷ es else e ∷ with_entry n v es) ≡ find test (e ∷ es) in
    elim (nat_lt n e.0) as Less [
      | true ↦ skips (e ∷ es)
      | false ↦ elim (n == e.0) as Same [
        | true ↦ λ here gone.
            let was : test e ≡ false = ap (λ (k : ℕ). test (k, e.1)) (sym (eqb-true n e.0 here)) ∙ gone e.1 refl in
            skips es ∙ sym (ap (λ (t : Bool). cond t (Some e) (find test es)) was)
        | false ↦ λ other gone. ap (λ (o : Option (ℕ × T)). cond (test e) (Some e) o) (find_with test n v es new gone)
      ] refl old
    ]

-- and after one is taken that doesn't pass it
pub find_without :
    {T : Type 0} (test : ℕ × T → Bool) (n : ℕ) (es : List (ℕ × T))
    → ((x : T) → value_of n es ≡ Some x → test (n, x) ≡ false)
    → find test (without_entry n es) ≡ find test es
find_without test n [] old = refl
find_without {T} test n (e ∷ es) old =
    let Same : Bool → Type 0 = λ t. (n == e.0) ≡ t
    → ((x : T) → (if t then Some e.1 else value_of n es) ≡ Some x → test (n, x) ≡ false)
    → find test (if t then es else e ∷ without_entry n es) ≡ find test (e ∷ es) in
    elim (n == e.0) as Same [
      | true ↦ λ here gone.
          let was : test e ≡ false = ap (λ (k : ℕ). test (k, e.1)) (sym (eqb-true n e.0 here)) ∙ gone e.1 refl in
          sym (ap (λ (t : Bool). cond t (Some e) (find test es)) was)
      | false ↦ λ other gone. ap (λ (o : Option (ℕ × T)). cond (test e) (Some e) o) (find_without test n es gone)
    ] refl old

-- ---- what holds of each thing of a table

-- after a thing is put: of that thing, and of each other one that was there
pub every_with :
    {T : Type 0} (P Q : ℕ → T → Type 0) (n : ℕ) (v : T) (es : List (ℕ × T)) → Q n v
    → ((k : ℕ) (x : T) → k ≢ n → value_of k es ≡ Some x → P k x → Q k x)
    → ((k : ℕ) (x : T) → value_of k es ≡ Some x → P k x)
    → (k : ℕ) (x : T) → value_of k (with_entry n v es) ≡ Some x → Q k x
every_with {T} P Q n v es here others is k x there = elim (value_with k n v x es there) [
  | inl put ↦ subst (λ (m : ℕ). Q m x) (sym put.0) (subst (λ (y : T). Q n y) put.1 here)
  | inr old ↦ others k x old.0 old.1 (is k x old.1)
]

pub each_with :
    {T : Type 0} (rules later : ℕ → T → List Bool) (n : ℕ) (v : T) (es : List (ℕ × T)) → AllHold (later n v)
    → ((k : ℕ) (x : T) → k ≢ n → value_of k es ≡ Some x → AllHold (rules k x) → AllHold (later k x))
    → EachKeeps rules es → EachKeeps later (with_entry n v es)
each_with {T} rules later n v es here others is =
    record { each = every_with (λ k x. AllHold (rules k x)) (λ k x. AllHold (later k x)) n v es here others is.each }

-- where the table stays and another changes, at which its rules look
pub each_still :
    {T : Type 0} (rules later : ℕ → T → List Bool) (es : List (ℕ × T))
    → ((k : ℕ) (x : T) → value_of k es ≡ Some x → AllHold (rules k x) → AllHold (later k x))
    → EachKeeps rules es → EachKeeps later es
each_still rules later es others is = record { each = λ k x there. others k x there (is.each k x there) }

-- ---- which of two things a comparison of numbers chooses

pub chosen-same : {T : Type 0} (m n : ℕ) (same other : T) → m ≡ n → (if m == n then same else other) ≡ same
chosen-same m n same other e = grind (arith, nat_tests)

pub chosen-other : {T : Type 0} (m n : ℕ) (same other : T) → (m ≡ n → ⊥) → (if m == n then same else other) ≡ other
chosen-other m n same other e = grind (arith, nat_tests)
