-- One price more: how the last price of a pair follows.
use Rattle.std.proofs.Common.{◌≡◌, ℕ, ◌+◌, ◌<◌, ℤ, ◌≤ℤ◌, Bool, true, false, nat_lt, ◌==◌, if◌then◌else◌, List, [], ◌∷◌}
use Rattle.std.proofs.Common.{◌++◌, All, Contains, Option, None, Some, map, take, length, option_map, refl, sym, ap}
use Rattle.std.proofs.Common.{subst, ◌∙◌, arith, lit<}
use Rattle.std.specs.List.{slice_get}
use Rattle.std.proofs.lemmas.Int.{ints}
use Rattle.std.proofs.lemmas.Bool.Decides.{nat_tests}
use Rattle.std.proofs.lemmas.List.{map-append, take_more}
use Rattle.std.proofs.lemmas.List.Elements.{All-push, All-weaker, All-map, All-get_or, All-cons, All-head, All-tail}
use Rattle.std.proofs.lemmas.List.Elements.{Contains-append_left, Contains-append_right}
use Rattle.std.proofs.lemmas.Option.{get_or_from_slice_get, slice_get_within}
use Rattle.book_commodity.specs.Table.{Rises, value_of, with_entry}
use Rattle.book_commodity.proofs.DrawnLemmas.{all_with}
use Rattle.book_commodity.proofs.TableLemmas.{value_of_place}
use Rattle.book_prices.specs.Rate.{AreOnce, IsOf, IsLast, HasNone, IsBest, IsSound, is_same}
use Rattle.book_prices.specs.declared.price.Price.{Price}

there_still :
    (prices : List (ℕ × Price)) (entry : ℕ × Price) (price : Price) → Contains (map (λ e. e.1) prices) price
    → Contains (map (λ e. e.1) (prices ++ entry ∷ [])) price
there_still prices entry price h =
    subst (λ (ps : List Price). Contains ps price) (sym (map-append (λ e. e.1) prices (entry ∷ [])))
    (Contains-append_left (map (λ e. e.1) prices) (entry.1 ∷ []) price h)

there_now : (prices : List (ℕ × Price)) (entry : ℕ × Price) → Contains (map (λ e. e.1) (prices ++ entry ∷ [])) entry.1
there_now prices entry =
    subst (λ (ps : List Price). Contains ps entry.1) (sym (map-append (λ e. e.1) prices (entry ∷ [])))
    (Contains-append_right (map (λ e. e.1) prices) (entry.1 ∷ []) entry.1 (0, lit< tt, refl))

same_day : (a : ℤ) → a ≤ℤ a
same_day a = omega (arith, ints)

-- an entry that is no price of the pair
abbrev NotOf : ℕ → ℕ → ℤ → ℕ × Price → Type 0
NotOf commodity currency day entry = IsOf commodity currency day entry.1 → ⊥

-- an entry that is no later price of the pair
abbrev NotAfter : ℕ → ℕ → ℤ → Price → ℕ × Price → Type 0
NotAfter commodity currency day price entry = IsOf commodity currency day entry.1 → entry.1.day ≤ℤ price.day

later_than : (a b c : ℤ) → a ≤ℤ b → b ≤ℤ c → a ≤ℤ c
later_than a b c p q = omega (arith, ints)

-- a price that is not of the pair, or is later, leaves the best
pub IsBest-other :
    (prices : List (ℕ × Price)) (entry : ℕ × Price) (commodity currency : ℕ) (day : ℤ) (best : Option Price)
    → (IsOf commodity currency day entry.1 → ⊥) → IsBest prices commodity currency day best
    → IsBest (prices ++ entry ∷ []) commodity currency day best
IsBest-other prices entry commodity currency day None other h =
    All-push (NotOf commodity currency day) prices entry h other
IsBest-other prices entry commodity currency day (Some price) other h = record {
  of_pair = h.of_pair;
  there = there_still prices entry price h.there;
  last = All-push (NotAfter commodity currency day price) prices entry h.last (λ is. absurd (other is));
}

-- the first price of the pair is the best
pub IsBest-first : (prices : List (ℕ × Price)) (entry : ℕ × Price) (commodity currency : ℕ) (day : ℤ)
    → IsOf commodity currency day entry.1 → HasNone prices commodity currency day
    → IsBest (prices ++ entry ∷ []) commodity currency day (Some entry.1)
IsBest-first prices entry commodity currency day is none = record {
  of_pair = is;
  there = there_now prices entry;
  last = All-push (NotAfter commodity currency day entry.1) prices entry
      (All-weaker (NotOf commodity currency day) (NotAfter commodity currency day entry.1)
      (λ other not_one is_one. absurd (not_one is_one)) prices none) (λ is_one. same_day entry.1.day);
}

-- a price that is not earlier than the best takes its place
pub IsBest-later : (prices : List (ℕ × Price)) (entry : ℕ × Price) (commodity currency : ℕ) (day : ℤ) (found : Price)
    → IsOf commodity currency day entry.1 → found.day ≤ℤ entry.1.day → IsLast prices commodity currency day found
    → IsBest (prices ++ entry ∷ []) commodity currency day (Some entry.1)
IsBest-later prices entry commodity currency day found is later h = record {
  of_pair = is;
  there = there_now prices entry;
  last = All-push (NotAfter commodity currency day entry.1) prices entry
      (All-weaker (NotAfter commodity currency day found) (NotAfter commodity currency day entry.1)
      (λ other before is_one. later_than _ _ _ (before is_one) later) prices h.last) (λ is_one. same_day entry.1.day);
}

-- a price that is earlier than the best leaves it
pub IsBest-earlier : (prices : List (ℕ × Price)) (entry : ℕ × Price) (commodity currency : ℕ) (day : ℤ) (found : Price)
    → entry.1.day ≤ℤ found.day → IsLast prices commodity currency day found
    → IsBest (prices ++ entry ∷ []) commodity currency day (Some found)
IsBest-earlier prices entry commodity currency day found earlier h = record {
  of_pair = h.of_pair;
  there = there_still prices entry found h.there;
  last = All-push (NotAfter commodity currency day found) prices entry h.last (λ is_one. earlier);
}

some-entry :
    (price : Price) (o : Option (ℕ × Price)) → option_map (λ (entry : ℕ × Price). entry.1) o ≡ Some price
    → (x : ℕ × Price) × (o ≡ Some x) × (x.1 ≡ price)
some-entry price None e = cc
some-entry price (Some x) e = (x, refl, cc)

-- one entry more, as the loop reads its price
pub take-price :
    (entries : List (ℕ × Price)) (place : ℕ) (price : Price) → option_map (λ (entry : ℕ × Price). entry.1)
    (slice_get entries place) ≡ Some price
    → (number : ℕ) × (take (place + 1) entries ≡ take place entries ++ (number, price) ∷ [])
take-price entries place price e =
    let x : (x : ℕ × Price) × (slice_get entries place ≡ Some x) × (x.1 ≡ price) =
    some-entry price (slice_get entries place) e in
    let below : place < length entries = slice_get_within entries place x.0 x.1 in (
      x.0.0,
      take_more entries place x.0 below
          ∙ ap (λ (y : ℕ × Price). take place entries ++ y ∷ []) (get_or_from_slice_get entries place x.0 x.0 x.1)
          ∙ ap (λ (q : Price). take place entries ++ (x.0.0, q) ∷ []) x.2,
    )

-- the best price behind one entry more
pub IsBest-take :
    (entries : List (ℕ × Price)) (place : ℕ) (price : Price) (commodity currency : ℕ) (day : ℤ) (best : Option Price)
    → option_map (λ (entry : ℕ × Price). entry.1) (slice_get entries place) ≡ Some price
    → ((number : ℕ) → IsBest (take place entries ++ (number, price) ∷ []) commodity currency day best)
    → IsBest (take (place + 1) entries) commodity currency day best
IsBest-take entries place price commodity currency day best e h =
    let more : (number : ℕ) × (take (place + 1) entries ≡ take place entries ++ (number, price) ∷ []) =
    take-price entries place price e in
    subst (λ (es : List (ℕ × Price)). IsBest es commodity currency day best) (sym more.1) (h more.0)

-- what holds of all prices holds of the last
pub IsSound-last : (prices : List (ℕ × Price)) (commodity currency : ℕ) (day : ℤ) (price : Price)
    → All (λ entry. IsSound entry.1) prices → IsLast prices commodity currency day price → IsSound price
IsSound-last prices commodity currency day price sound h =
    let all : All IsSound (map (λ (e : ℕ × Price). e.1) prices) =
    All-map IsSound (λ (e : ℕ × Price). e.1) prices sound in
    subst (λ (p : Price). IsSound p) h.there.2
    (All-get_or IsSound (map (λ (e : ℕ × Price). e.1) prices) h.there.0 price h.there.1 all)

-- what holds of the prices so far and of the next holds of one more
pub All-take : (P : Price → Type 0) (entries : List (ℕ × Price)) (place : ℕ) (price : Price)
    → option_map (λ (entry : ℕ × Price). entry.1) (slice_get entries place) ≡ Some price
    → All (λ entry. P entry.1) (take place entries) → P price → All (λ entry. P entry.1) (take (place + 1) entries)
All-take P entries place price e all here =
    let more : (number : ℕ) × (take (place + 1) entries ≡ take place entries ++ (number, price) ∷ []) =
    take-price entries place price e in
    subst (λ (es : List (ℕ × Price)). All (λ entry. P entry.1) es) (sym more.1)
    (All-push (λ entry. P entry.1) (take place entries) (more.0, price) all here)

some-number :
    (number : ℕ) (x : ℕ × Price) → option_map (λ (entry : ℕ × Price). entry.0) (Some x) ≡ Some number → x.0 ≡ number
some-number number x e = cc

-- the price at a place stands under the number at that place
pub value_of-place : (entries : List (ℕ × Price)) (place number : ℕ) (price : Price) → Rises entries
    → option_map (λ (entry : ℕ × Price). entry.1) (slice_get entries place) ≡ Some price
    → option_map (λ (entry : ℕ × Price). entry.0) (slice_get entries place) ≡ Some number
    → value_of number entries ≡ Some price
value_of-place entries place number price rises e n =
    let x : (x : ℕ × Price) × (slice_get entries place ≡ Some x) × (x.1 ≡ price) =
    some-entry price (slice_get entries place) e in
    let is : x.0.0 ≡ number = some-number number x.0 (sym (ap (option_map (λ (entry : ℕ × Price). entry.0)) x.1) ∙ n) in
    ap (λ m. value_of m entries) (sym is) ∙ value_of_place entries place x.0 rises x.1 ∙ ap (λ (q : Price). Some q) x.2

-- what holds of all prices, and of one that is put among them, holds of all then
-- which of two prices stands first does not matter
same_turned : (one other : Price) → is_same one other ≡ is_same other one
same_turned one other = grind (arith, ints, nat_tests)

one_with :
    (n : ℕ) (price : Price) (e : ℕ × Price) (es : List (ℕ × Price)) (less same : Bool)
    → All (λ entry. is_same entry.1 price ≡ false) (e ∷ es)
    → AreOnce (e ∷ es)
    → AreOnce (with_entry n price es)
    → AreOnce (if less then (n, price) ∷ e ∷ es else (if same then (n, price) ∷ es else e ∷ with_entry n price es))
one_with n price e es true same new once more = (new, once)
one_with n price e es false true new once more = (All-tail (λ entry. is_same entry.1 price ≡ false) e es new, once.1)
one_with n price e es false false new once more =
    let here = same_turned price e.1 ∙ All-head (λ entry. is_same entry.1 price ≡ false) e es new in
    (all_with (λ entry. is_same entry.1 e.1 ≡ false) n price es here once.0, more)

-- beside prices of which none is the same, a new one may stand
pub once_with :
    (n : ℕ) (price : Price) (es : List (ℕ × Price))
    → All (λ entry. is_same entry.1 price ≡ false) es
    → AreOnce es
    → AreOnce (with_entry n price es)
once_with n price [] new once = (new, once)
once_with n price (e ∷ es) new once =
    one_with n price e es (nat_lt n e.0) (n == e.0) new once
    (once_with n price es (All-tail (λ entry. is_same entry.1 price ≡ false) e es new) once.1)
