-- A number that is drawn is above all numbers before, so nothing stands under it, and what is put there comes behind
-- all.
use Rattle.std.proofs.Common.{◌≡◌, ◌≢◌, ◌⊎◌, inl, inr, ◌==◌, nat_lt, true, false, ℕ, ◌<◌, ◌≤◌, ◌+◌, All, List, [], ◌∷◌}
use Rattle.std.proofs.Common.{◌++◌}
use Rattle.std.proofs.Common.{length, is_none, is_some, if◌then◌else◌, Bool, Option, Some, None, refl, sym, ap, ◌∙◌}
use Rattle.std.proofs.Common.{arith}
use Rattle.std.proofs.lemmas.Bool.Decides.{nat_tests}
use Rattle.std.proofs.lemmas.List.Elements.{All-head, All-tail, All-cons, All-weaker}
use Rattle.book_commodity.specs.Table.{value_of, with_entry, without_entry, Rises}
use Rattle.book_commodity.proofs.TableLemmas.{length_with, length_without, value_of_with, value_of_without}

-- what is put under a number above all others stands at the end
pub with_last :
    {T : Type 0} (n : ℕ) (v : T) (es : List (ℕ × T)) → All (λ (e : ℕ × T). e.0 < n) es → with_entry n v es ≡ es
    ++ (n, v) ∷ []
with_last n v [] h = refl
with_last {T} n v (e ∷ es) h =
    let below : e.0 < n = All-head (λ (x : ℕ × T). x.0 < n) e es h in
    let more = with_last n v es (All-tail (λ (x : ℕ × T). x.0 < n) e es h) in
    grind (arith, nat_tests, below, more)

-- nothing stands under it before
pub drawn_free : {T : Type 0} (n : ℕ) (es : List (ℕ × T)) → All (λ (e : ℕ × T). e.0 < n) es → value_of n es ≡ None
drawn_free n [] h = refl
drawn_free {T} n (e ∷ es) h =
    let below : e.0 < n = All-head (λ (x : ℕ × T). x.0 < n) e es h in
    let more = drawn_free n es (All-tail (λ (x : ℕ × T). x.0 < n) e es h) in
    grind (arith, nat_tests, below, more)

-- so the entries are longer by one
pub length_drawn :
    {T : Type 0} (n : ℕ) (v : T) (es : List (ℕ × T)) → Rises es → All (λ (e : ℕ × T). e.0 < n) es
    → length (with_entry n v es) ≡ length es + 1
length_drawn {T} n v es r h =
    length_with n v es r ∙ ap (λ (o : Option T). length es + (if is_none o then 1 else 0)) (drawn_free n es h)

-- numbers below one are below each greater one
pub drawn_before :
    {T : Type 0} (n m : ℕ) (es : List (ℕ × T)) → n ≤ m → All (λ (e : ℕ × T). e.0 < n) es
    → All (λ (e : ℕ × T). e.0 < m) es
drawn_before {T} n m es le h =
    All-weaker (λ (e : ℕ × T). e.0 < n) (λ (e : ℕ × T). e.0 < m) (λ e below. omega (arith, below, le)) es h

all_either :
    {X : Type 0} (P : X → Type 0) (test : Bool) (xs ys : List X) → All P xs → All P ys → All P (if test then xs else ys)
all_either P true xs ys h k = h
all_either P false xs ys h k = k

-- what holds of all entries holds of them with one put, where it holds of that
pub all_with :
    {T : Type 0} (P : ℕ × T → Type 0) (n : ℕ) (v : T) (es : List (ℕ × T)) → P (n, v) → All P es
    → All P (with_entry n v es)
all_with P n v [] here h = All-cons P (n, v) [] here h
all_with {T} P n v (e ∷ es) here h =
    let first = All-head P e es h in
    let rest = All-tail P e es h in
    let past : List (ℕ × T) = e ∷ with_entry n v es in
    all_either P (nat_lt n e.0) ((n, v) ∷ e ∷ es) (if n == e.0 then (n, v) ∷ es else past)
    (All-cons P (n, v) (e ∷ es) here h)
    (all_either P (n == e.0) ((n, v) ∷ es) past (All-cons P (n, v) es here rest)
    (All-cons P e (with_entry n v es) first (all_with P n v es here rest)))

-- and of them without one
pub all_without : {T : Type 0} (P : ℕ × T → Type 0) (n : ℕ) (es : List (ℕ × T)) → All P es → All P (without_entry n es)
all_without P n [] h = h
all_without P n (e ∷ es) h =
    let first = All-head P e es h in
    let rest = All-tail P e es h in
    all_either P (n == e.0) es (e ∷ without_entry n es) rest
    (All-cons P e (without_entry n es) first (all_without P n es rest))

-- a value that stands with one put is that one, or stood there before
pub value_with :
    {T : Type 0} (m n : ℕ) (v x : T) (es : List (ℕ × T)) → value_of m (with_entry n v es) ≡ Some x
    → ((m ≡ n) × (v ≡ x)) ⊎ ((m ≢ n) × (value_of m es ≡ Some x))
value_with m n v x es e = let there_is = sym (value_of_with m n v es) ∙ e in grind (arith, nat_tests, there_is)

-- the others stay
pub value_beside :
    {T : Type 0} (m n : ℕ) (v x : T) (es : List (ℕ × T)) → m ≢ n → value_of m es ≡ Some x
    → value_of m (with_entry n v es) ≡ Some x
value_beside m n v x es other e = let there_is = value_of_with m n v es in grind (arith, nat_tests, there_is)

-- where nothing stood under the number, all stay
pub value_kept :
    {T : Type 0} (m n : ℕ) (v x : T) (es : List (ℕ × T)) → value_of n es ≡ None → value_of m es ≡ Some x
    → value_of m (with_entry n v es) ≡ Some x
value_kept m n v x es free e =
    value_beside m n v x es (λ same. let one = ap (λ (k : ℕ). value_of k es) same in absurd cc) e

-- What stood under a number still stands under it.
pub record Stays {T : Type 0} (old new : List (ℕ × T)) : Type 0 where
  pub each : (number : ℕ) (value : T) → value_of number old ≡ Some value → value_of number new ≡ Some value

-- where a thing is put under a free number
pub stays_with : {T : Type 0} (n : ℕ) (v : T) (es : List (ℕ × T)) → value_of n es ≡ None → Stays es (with_entry n v es)
stays_with n v es free = record { each = λ m x there. value_kept m n v x es free there }

-- so a thing that is there still is
pub some_stays :
    {T : Type 0} (found later : Option T) → ((x : T) → found ≡ Some x → later ≡ Some x) → is_some found ≡ true
    → is_some later ≡ true
some_stays None later same e = absurd cc
some_stays (Some x) later same e = ap is_some (same x refl)

-- a value that stands with one taken stood there before
pub value_without :
    {T : Type 0} (m n : ℕ) (x : T) (es : List (ℕ × T)) → Rises es → value_of m (without_entry n es) ≡ Some x
    → value_of m es ≡ Some x
value_without m n x es r e = let there_is = sym (value_of_without m n es r) ∙ e in grind (arith, nat_tests, there_is)

-- the others stay
pub value_left :
    {T : Type 0} (m n : ℕ) (x : T) (es : List (ℕ × T)) → Rises es → m ≢ n → value_of m es ≡ Some x
    → value_of m (without_entry n es) ≡ Some x
value_left m n x es r other e = let there_is = value_of_without m n es r in grind (arith, nat_tests, there_is)

-- what stands there has a number that was drawn
pub drawn_below :
    {T : Type 0} (n next : ℕ) (x : T) (es : List (ℕ × T)) → All (λ (e : ℕ × T). e.0 < next) es
    → value_of n es ≡ Some x → n < next
drawn_below n next x [] h e = absurd cc
drawn_below {T} n next x (entry ∷ es) h e =
    let first : entry.0 < next = All-head (λ (x : ℕ × T). x.0 < next) entry es h in
    let more = drawn_below n next x es (All-tail (λ (x : ℕ × T). x.0 < next) entry es h) in
    grind (arith, nat_tests, first, more, e)

-- in place of a value that is there comes another, and there are as many entries
pub length_changed :
    {T : Type 0} (n : ℕ) (v x : T) (es : List (ℕ × T)) → Rises es → value_of n es ≡ Some x
    → length (with_entry n v es) ≡ length es
length_changed {T} n v x es r e =
    let there_is = length_with n v es r ∙ ap (λ (o : Option T). length es + (if is_none o then 1 else 0)) e in
    omega (arith, there_is)

-- with one taken there are no more
pub length_left : {T : Type 0} (n : ℕ) (es : List (ℕ × T)) → length (without_entry n es) ≤ length es
length_left n es = omega (arith, length_without n es)

-- what is put is found under its number
pub value_here : {T : Type 0} (m n : ℕ) (v : T) (es : List (ℕ × T)) → m ≡ n → value_of m (with_entry n v es) ≡ Some v
value_here m n v es same = let there_is = value_of_with m n v es in grind (arith, nat_tests, there_is, same)

-- what stands in a table of one thing
pub value_alone : {T : Type 0} (n k : ℕ) (x v : T) → value_of k ((n, v) ∷ []) ≡ Some x → (k ≡ n) × (v ≡ x)
value_alone n k x v there =
    elim (value_with k n v x [] there) [ inl here ↦ here | inr old ↦ absurd (let none = old.1 in cc) ]
