-- The first number that entries have outside of bounds or haven't within them, entry by entry.
use Rattle.std.proofs.Common.{◌≡◌, ℕ, suc, ◌+◌, ◌<◌, ◌≤◌, ◌==◌, nat_lt, not, ◌&&◌, Bool, true, false}
use Rattle.std.proofs.Common.{List, [], ◌∷◌, Option, Some, None, is_some, inl, inr, ◌⊎◌, refl, sym, ap, ◌∙◌, subst}
use Rattle.std.proofs.Common.{arith, drop, zero}
use Rattle.std.proofs.lemmas.Bool.Decides.{nat_tests}
use Rattle.book_commodity.specs.Table.{AllAbove, Rises, value_of}
use Rattle.book_opening.specs.FirstOdd.{Agrees, IsFirstOff, is_within}

none_above :
    {T : Type 0} (n m : ℕ) (es : List (ℕ × T)) → AllAbove m es → n ≤ m → is_some (value_of n es) ≡ false
none_above n m [] above low = refl
none_above n m (e ∷ es) above low =
    let past = above.0 in
    let rest = none_above n m es above.1 low in
    grind (arith, nat_tests, past, rest)

outside : (from end n : ℕ) → n < from → is_within from end n ≡ false
outside from end n low = grind (arith, nat_tests)

beyond : (from end n : ℕ) → end ≤ from → is_within from end n ≡ false
beyond from end n low = within_by from end n (nat_lt n from) refl low
  where
    within_by : (from end n : ℕ) (t : Bool) → nat_lt n from ≡ t → end ≤ from → (not t && nat_lt n end) ≡ false
    within_by from end n true e low = refl
    within_by from end n false e low = grind (arith, nat_tests)

inside : (from end n : ℕ) → from ≤ n → n < end → is_within from end n ≡ true
inside from end n low high = grind (arith, nat_tests)

-- one entry at the first number
own_some :
    {T : Type 0} (e : ℕ × T) (es : List (ℕ × T)) → is_some (value_of e.0 (e ∷ es)) ≡ true
own_some e es = grind (arith, nat_tests)

other_some :
    {T : Type 0} (n : ℕ) (e : ℕ × T) (es : List (ℕ × T)) → (n == e.0) ≡ false
    → is_some (value_of n (e ∷ es)) ≡ is_some (value_of n es)
other_some n e es other = grind (arith, nat_tests)

other_within : (from end n : ℕ) → (n == from) ≡ false → is_within (from + 1) end n ≡ is_within from end n
other_within from end n other = within_by from end n (nat_lt n from) refl other
  where
    within_by : (from end n : ℕ) (t : Bool) → nat_lt n from ≡ t → (n == from) ≡ false
        → is_within (from + 1) end n ≡ (not t && nat_lt n end)
    within_by from end n true e other = outside (from + 1) end n (grind (arith, nat_tests))
    within_by from end n false e other = grind (arith, nat_tests)

agrees_by :
    {T : Type 0} (t : Bool) (n from end : ℕ) (e : ℕ × T) (es : List (ℕ × T)) → (n == e.0) ≡ t → e.0 ≡ from
    → from < end → Agrees es (from + 1) end n → Agrees (e ∷ es) from end n
agrees_by true n from end e es test is low more =
    let same : n ≡ e.0 = grind (arith, nat_tests) in
    subst (λ (m : ℕ). Agrees (e ∷ es) from end m) (sym same)
    (own_some e es ∙ sym (inside from end e.0 (omega (arith, is)) (omega (arith, is, low))))
agrees_by false n from end e es test is low more =
    let other : (n == from) ≡ false = ap (λ (m : ℕ). n == m) (sym is) ∙ test in
    other_some n e es test ∙ more ∙ other_within from end n other

-- Where the first entry is at the first number, the rest tells what is first.
pub off_next :
    {T : Type 0} (e : ℕ × T) (es : List (ℕ × T)) (from end : ℕ) (off : Option ℕ) → Rises (e ∷ es) → e.0 ≡ from
    → from < end → IsFirstOff es (from + 1) end off → IsFirstOff (e ∷ es) from end off
off_next e es from end None rise is low more =
    λ n. agrees_by (n == e.0) n from end e es refl is low (more n)
off_next {T} e es from end (Some off) rise is low more = (
  (λ same. more.0 (differs_by (off == e.0) refl same)),
  (λ n less. agrees_by (n == e.0) n from end e es refl is low (more.1 n less)),
)
  where
    differs_by : (t : Bool) → (off == e.0) ≡ t → is_some (value_of off (e ∷ es)) ≡ is_within from end off
        → is_some (value_of off es) ≡ is_within (from + 1) end off
    differs_by true test same =
        let own : off ≡ e.0 = grind (arith, nat_tests) in
        none_above off e.0 es rise.0 (omega (arith, own)) ∙ sym (outside (from + 1) end off (omega (arith, own, is)))
    differs_by false test same =
        let other : (off == from) ≡ false = ap (λ (m : ℕ). off == m) (sym is) ∙ test in
        sym (other_some off e es test) ∙ same ∙ sym (other_within from end off other)

not_true : (a b : Bool) → a ≡ false → b ≡ true → a ≡ b → ⊥
not_true a b p q r = cc

not_false : (a b : Bool) → a ≡ true → b ≡ false → a ≡ b → ⊥
not_false a b p q r = cc

-- Where the first entry is above the first number, that is missing.
pub off_missing :
    {T : Type 0} (e : ℕ × T) (es : List (ℕ × T)) (from end : ℕ) → Rises (e ∷ es) → from < e.0 → from < end
    → IsFirstOff (e ∷ es) from end (Some from)
off_missing e es from end rise past low =
    let none : (n : ℕ) → n ≤ from → is_some (value_of n (e ∷ es)) ≡ false =
    (λ n le. none_before n e es rise (omega (arith, past, le))) in (
      not_true (is_some (value_of from (e ∷ es))) (is_within from end from) (none from (omega arith))
          (inside from end from (omega arith) low),
      (λ n less. none n (omega (arith, less)) ∙ sym (outside from end n less)),
    )
  where
    none_before :
        {T : Type 0} (n : ℕ) (e : ℕ × T) (es : List (ℕ × T)) → Rises (e ∷ es) → n < e.0
        → is_some (value_of n (e ∷ es)) ≡ false
    none_before n e es rise low =
        other_some n e es (grind (arith, nat_tests)) ∙ none_above n e.0 es rise.0 (omega (arith, low))

-- Where no number is left, or the first entry is below the first number, that entry is outside.
pub off_extra :
    {T : Type 0} (e : ℕ × T) (es : List (ℕ × T)) (from end : ℕ) → Rises (e ∷ es)
    → ((n : ℕ) → n ≤ e.0 → is_within from end n ≡ false) → IsFirstOff (e ∷ es) from end (Some e.0)
off_extra e es from end rise none = (
  not_false (is_some (value_of e.0 (e ∷ es))) (is_within from end e.0) (own_some e es) (none e.0 (omega arith)),
  (λ n less.
      other_some n e es (grind (arith, nat_tests, less)) ∙ none_above n e.0 es rise.0 (omega (arith, less))
      ∙ sym (none n (omega (arith, less)))),
)

pub none_within : (from end m : ℕ) → (end ≡ from) ⊎ (m < from) → (n : ℕ) → n ≤ m → is_within from end n ≡ false
none_within from end m (inl is) n le = beyond from end n (omega (arith, is))
none_within from end m (inr low) n le = outside from end n (omega (arith, low, le))

-- Without entries the first number is missing, where there is one.
pub off_end_missing :
    (T : Type 0) (from end : ℕ) → from < end → IsFirstOff {T = T} [] from end (Some from)
off_end_missing T from end low = (
  not_true false (is_within from end from) refl (inside from end from (omega arith) low),
  (λ n less. sym (outside from end n less)),
)

pub off_end : (T : Type 0) (from end : ℕ) → end ≤ from → IsFirstOff {T = T} [] from end None
off_end T from end low = λ n. sym (beyond from end n low)

-- The numbers of the entries that are left rise.
pub rises_left : {T : Type 0} (i : ℕ) (es : List (ℕ × T)) → Rises es → Rises (drop i es)
rises_left zero es rise = rise
rises_left (suc i) [] rise = rise
rises_left (suc i) (e ∷ es) rise = rises_left i es rise.1

less_by : (n m : ℕ) (t : Bool) → nat_lt n m ≡ t → n ≤ m → (n ≡ m → ⊥) → n < m
less_by n m true e le other = grind (arith, nat_tests)
less_by n m false e le other = absurd (other (grind (arith, nat_tests)))

-- At most a number and not that is less.
pub less_of : (n m : ℕ) → n ≤ m → (n ≡ m → ⊥) → n < m
less_of n m le other = less_by n m (nat_lt n m) refl le other
