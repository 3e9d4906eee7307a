-- Keys that a walk has seen, against the entries that it has come by.
use Rattle.std.proofs.Common.{◌≡◌, ℕ, zero, suc, ◌+◌, ◌<◌, nat_lt, Bool, true, false, not, ◌&&◌, ◌||◌, List, []}
use Rattle.std.proofs.Common.{◌∷◌, take, Option, Some, None, option_map, slice_get, refl, sym, ap, subst, ◌∙◌, arith}
use Rattle.std.specs.Bool.{OnTrue}
use Rattle.std.specs.List.{list_any}
use Rattle.std.proofs.lemmas.Bool.Decides.{nat_tests}
use Rattle.book_commodity.proofs.ListLemmas.{mapped_some}
use Rattle.book_commodity.specs.Rules.{stands_before}
use Rattle.book_commodity.specs.Table.{AllAbove, Rises}
use Rattle.book_check.specs.FirstUnsound.{all_hold}
use Rattle.book_check.specs.Seen.{Adds, is_seen}
use Rattle.book_check.specs.Walk.{HasKeys, Keying, Ties}
use Rattle.book_check.proofs.AnyLemmas.{any_next, or_swap}

entry_of :
    {T : Type 0} (o : Option (ℕ × T)) (n : ℕ) (v : T) → option_map (λ e. e.0) o ≡ Some n
    → option_map (λ e. e.1) o ≡ Some v → o ≡ Some (n, v)
entry_of None n v number value = absurd cc
entry_of {T} (Some (m, w)) n v number value =
    let first : m ≡ n = cc in
    let second : w ≡ v = cc in
    ap (λ (k : ℕ). Some (k, w)) first ∙ ap (λ (x : T). Some (n, x)) second

-- an entry by its number and its value
pub entry_at :
    {T : Type 0} (es : List (ℕ × T)) (i n : ℕ) (v : T) → option_map (λ e. e.0) (slice_get es i) ≡ Some n
    → option_map (λ e. e.1) (slice_get es i) ≡ Some v → slice_get es i ≡ Some (n, v)
entry_at es i n v number value = entry_of (slice_get es i) n v number value

none_before :
    {T : Type 0} (test : T → Bool) (n : ℕ) (es : List (ℕ × T)) → AllAbove n es → stands_before test n es ≡ false
none_before test n [] above = refl
none_before test n (e ∷ es) above = grind (arith, nat_tests, above.0, none_before test n es above.1)

number_above :
    {T : Type 0} (m n : ℕ) (v : T) (es : List (ℕ × T)) (i : ℕ) → AllAbove m es → slice_get es i ≡ Some (n, v) → m < n
number_above m n v [] i above e = absurd cc
number_above m n v (x ∷ es) zero above e = let same : x ≡ (n, v) = cc in subst (λ y. m < y.0) same above.0
number_above m n v (x ∷ es) (suc i) above e = number_above m n v es i above.1 e

-- where numbers rise, the entries with smaller numbers than that of a place are those before the place
pub before_place :
    {T : Type 0} (test : T → Bool) (es : List (ℕ × T)) (i n : ℕ) (v : T) → Rises es → slice_get es i ≡ Some (n, v)
    → stands_before test n es ≡ list_any (λ e. test e.1) (take i es)
before_place test [] i n v rise e = absurd cc
before_place {T} test (x ∷ es) zero n v rise e =
    let same : x ≡ (n, v) = cc in
    let here : x.0 ≡ n = ap (λ (y : ℕ × T). y.0) same in
    let past : stands_before test n es ≡ false = rw (← here) (none_before test x.0 es rise.0) in
    let least : nat_lt x.0 n ≡ false = grind (arith, nat_tests) in
    ap (λ t. (t && test x.1) || stands_before test n es) least ∙ past
before_place test (x ∷ es) (suc i) n v rise e =
    let below = number_above x.0 n v es i rise.0 e in
    grind (arith, nat_tests, below, before_place test es i n v rise.1 e)

-- a test of the value at a place
pub value_test :
    {T : Type 0} (test : T → Bool) (es : List (ℕ × T)) (i : ℕ) (v : T)
    → option_map (λ e. e.1) (slice_get es i) ≡ Some v
    → option_map (λ e. test e.1) (slice_get es i) ≡ Some (test v)
value_test {T} test es i v value =
    let r = mapped_some (λ (e : ℕ × T). e.1) (slice_get es i) v value in
    ap (option_map (λ (e : ℕ × T). test e.1)) r.1 ∙ ap (λ (w : T). Some (test w)) r.2

-- a thing keeps its rules, whatever its number
pub kept_alone :
    {T : Type 0} (rules : ℕ → T → List Bool) (es : List (ℕ × T)) (i : ℕ) (t : T) (kept : Bool)
    → option_map (λ e. e.1) (slice_get es i) ≡ Some t
    → ((n : ℕ) → slice_get es i ≡ Some (n, t) → kept ≡ all_hold (rules n t))
    → option_map (λ e. all_hold (rules e.0 e.1)) (slice_get es i) ≡ Some kept
kept_alone {T} rules es i t kept value is =
    let at = mapped_some (λ (e : ℕ × T). e.1) (slice_get es i) t value in
    let there = at.1 ∙ ap (λ (v : T). Some (at.0.0, v)) at.2 in
    ap (option_map (λ (e : ℕ × T). all_hold (rules e.0 e.1))) there ∙ ap Some (sym (is at.0.0 there))

-- ---- keys of things that may stand once
-- the key of one thing more
keys_next :
    {K P T : Type 0} (keying : Keying K P T) → Ties keying → (es : List (ℕ × T)) (i : ℕ) (e : ℕ × T) (k : K)
    (old new : List K) → slice_get es i ≡ Some e → keying.shown k ≡ keying.parts e.1
    → HasKeys keying old (take i es) → Adds keying.cmp old k new → HasKeys keying new (take (i + 1) es)
keys_next {K} {P} {T} keying ties es i e k old new there is has adds = λ key.
    let test = λ (x : ℕ × T). keying.same (keying.parts x.1) (keying.shown key) in
    adds key
    ∙ ap (λ b. b || is_seen keying.cmp old key)
    (ties k key ∙ ap (λ (p : P). keying.same p (keying.shown key)) is)
    ∙ ap (λ b. test e || b) (has key)
    ∙ or_swap (test e) (list_any test (take i es)) ∙ sym (any_next test es i e there)

-- A thing keeps its rules where those that ask for no other are kept, and its key was not seen; then its key is.
pub once :
    {K P T : Type 0} (keying : Keying K P T) → Ties keying → (rules : ℕ → T → List Bool) (es : List (ℕ × T)) (i : ℕ)
    (t : T) (k : K) (old new : List K) (own before : Bool) → Rises es
    → option_map (λ e. e.1) (slice_get es i) ≡ Some t → keying.shown k ≡ keying.parts t
    → HasKeys keying old (take i es) → own ≡ true
    → ((n : ℕ) → slice_get es i ≡ Some (n, t) → all_hold (rules n t)
    ≡ (own && not (stands_before (λ other. keying.same (keying.parts other) (keying.parts t)) n es)))
    → before ≡ is_seen keying.cmp old k → Adds keying.cmp old k new
    → (option_map (λ e. all_hold (rules e.0 e.1)) (slice_get es i) ≡ Some (not before))
    × OnTrue (not before) (HasKeys keying new (take (i + 1) es))
once {K} {P} {T} keying ties rules es i t k old new own before rise value is has holds asked seen adds = (
  kept_alone rules es i t (not before) value (λ n there.
      ap not (before_is n there)
      ∙ ap (λ b. b && not (stands_before same n es)) (sym holds) ∙ sym (asked n there)),
  on_true (not before) (let at = mapped_some (λ (e : ℕ × T). e.1) (slice_get es i) t value in
      keys_next keying ties es i at.0 k old new at.1 (is ∙ ap keying.parts (sym at.2)) has adds),
)
  where
    same : T → Bool
    same other = keying.same (keying.parts other) (keying.parts t)

    before_is : (n : ℕ) → slice_get es i ≡ Some (n, t) → before ≡ stands_before same n es
    before_is n there =
        seen ∙ has k ∙ ap (λ (p : P). list_any (λ (e : ℕ × T). keying.same (keying.parts e.1) p) (take i es)) is
        ∙ sym (before_place same es i n t rise there)

    on_true : {A : Type 0} (b : Bool) → A → OnTrue b A
    on_true true a = a
    on_true false a = tt
