-- Prices that are alike, and the rate on a day: the one that a sound table gives is the one that answers have.
use Rattle.std.proofs.Common.{◌≡◌, ℕ, zero, suc, ◌==◌, ℤ, ◌≤ℤ◌, Bool, true, false, not, ◌&&◌, ◌||◌, int_le}
use Rattle.std.proofs.Common.{if◌then◌else◌, List, [], ◌∷◌, All, Contains, map, find, Option, Some, None}
use Rattle.std.proofs.Common.{option_map, inl, inr, refl, sym, ap, subst, ◌∙◌, arith}
use Rattle.std.specs.Prelude.{IsNone, IsSomeAnd, MatchBool}
use Rattle.std.specs.List.{list_all}
use Rattle.std.specs.Ordering.{int_eq}
use Rattle.std.specs.Cmp.{nat_eq_equiv, int_eq_equiv}
use Rattle.std.proofs.lemmas.Bool.{and_parts, eqb-true}
use Rattle.std.proofs.lemmas.Bool.Decides.{Decides-int_eq, nat_tests}
use Rattle.std.proofs.lemmas.Int.{ints}
use Rattle.std.proofs.lemmas.List.Elements.{All-head, All-map, All-tail}
use Rattle.book_commodity.specs.declared.rate.Rate.{Rate}
use Rattle.book_prices.specs.Rate.{AreOnce, HasNone, IsBest, IsOf, IsPairRate, IsRate, IsRatio, is_same}
use Rattle.book_prices.specs.declared.price.Price.{Price}
use Rattle.book_command.specs.declared.answer.Ratio.{Ratio}
use Rattle.book_command.specs.Rates.{is_last_price, is_price_of, last_price, pair_rate, rate_on, turned_rate}

-- ---- two prices of one day

-- what the test tells
pub record AreAlike (one other : Price) : Type 0 where
  pub commodity : one.commodity ≡ other.commodity
  pub currency : one.currency ≡ other.currency
  pub day : one.day ≡ other.day

pub alike_of : (one other : Price) → is_same one other ≡ true → AreAlike one other
alike_of one other e =
    let first = and_parts (one.commodity == other.commodity)
    ((one.currency == other.currency) && int_eq one.day other.day) e in
    let more = and_parts (one.currency == other.currency) (int_eq one.day other.day) first.1 in
    let days = Decides-int_eq one.day other.day in
    record { commodity = eqb-true _ _ first.0; currency = eqb-true _ _ more.0; day = days.0 more.1 }

pub same_turned : (one other : Price) → is_same one other ≡ is_same other one
same_turned one other =
    ap (λ (t : Bool). t && ((one.currency == other.currency) && int_eq one.day other.day))
    (nat_eq_equiv.symm one.commodity other.commodity)
    ∙ ap (λ (t : Bool). (other.commodity == one.commodity) && (t && int_eq one.day other.day))
    (nat_eq_equiv.symm one.currency other.currency)
    ∙ ap (λ (t : Bool). (other.commodity == one.commodity) && ((other.currency == one.currency) && t))
    (int_eq_equiv.symm one.day other.day)

-- two that are alike a third are alike
pub alike_both : (one other third : Price) → is_same one third ≡ true → is_same other third ≡ true
    → is_same one other ≡ true
alike_both one other third e f =
    let a = alike_of one third e in
    let b = alike_of other third f in
    let days = Decides-int_eq one.day other.day in
    let day = days.1 (a.day ∙ sym b.day) in
    grind (arith, nat_tests, a.commodity, a.currency, b.commodity, b.currency, day)

alike_same : (p q : Price) → p.commodity ≡ q.commodity → p.currency ≡ q.currency → p.day ≡ q.day
    → is_same p q ≡ true
alike_same p q commodity currency same_day =
    let days = Decides-int_eq p.day q.day in
    let day = days.1 same_day in
    grind (arith, nat_tests, commodity, currency, day)

-- ---- the last price of a pair

of_test : (c d : ℕ) (day : ℤ) (price : Price) → is_price_of c d day price ≡ true → IsOf c d day price
of_test c d day price e =
    let first = and_parts (price.commodity == c) ((price.currency == d) && int_le price.day day) e in
    let more = and_parts (price.currency == d) (int_le price.day day) first.1 in
    let before = more.1 in
    (eqb-true _ _ first.0, eqb-true _ _ more.0, omega (arith, ints, before))

test_of : (c d : ℕ) (day : ℤ) (price : Price) → IsOf c d day price → is_price_of c d day price ≡ true
test_of c d day price of =
    let commodity = of.0 in
    let currency = of.1 in
    let before = of.2 in
    grind (arith, ints, nat_tests, commodity, currency, before)

not_of : (c d : ℕ) (day : ℤ) (price : Price) → (IsOf c d day price → ⊥) → is_price_of c d day price ≡ false
not_of c d day price other =
    let At : Bool → Type 0 = λ t. is_price_of c d day price ≡ t → t ≡ false in
    elim (is_price_of c d day price) as At [
      | true ↦ λ is. absurd (other (of_test c d day price is))
      | false ↦ λ is. refl
    ] refl

-- no price of the pair, so none is the last
none_last :
    (all prices : List (ℕ × Price)) (c d : ℕ) (day : ℤ) → HasNone prices c d day
    → find (λ (e : ℕ × Price). is_last_price all c d day e.1) prices ≡ None
none_last all [] c d day none = refl
none_last all (e ∷ more) c d day none =
    let Not : ℕ × Price → Type 0 = λ x. IsOf c d day x.1 → ⊥ in
    let here = not_of c d day e.1 (All-head Not e more none) in
    ap (λ (t : Bool). if (t && list_all (λ (x : ℕ × Price). not (is_price_of c d day x.1) || int_le x.1.day e.1.day) all)
    then Some e else find (λ (x : ℕ × Price). is_last_price all c d day x.1) more) here
    ∙ none_last all more c d day (All-tail Not e more none)

-- no price of the pair is later than the last
none_later :
    (prices : List (ℕ × Price)) (c d : ℕ) (day : ℤ) (last : ℤ)
    → All (λ (e : ℕ × Price). IsOf c d day e.1 → e.1.day ≤ℤ last) prices
    → list_all (λ (e : ℕ × Price). not (is_price_of c d day e.1) || int_le e.1.day last) prices ≡ true
none_later [] c d day last all = refl
none_later (e ∷ more) c d day last all =
    let Up : ℕ × Price → Type 0 = λ x. IsOf c d day x.1 → x.1.day ≤ℤ last in
    let first = All-head Up e more all in
    let At : Bool → Type 0 = λ t. is_price_of c d day e.1 ≡ t
    → ((not t || int_le e.1.day last) && list_all (λ (x : ℕ × Price). not (is_price_of c d day x.1)
    || int_le x.1.day last) more) ≡ true in
    let rest = none_later more c d day last (All-tail Up e more all) in
    elim (is_price_of c d day e.1) as At [
      | true ↦ λ is.
          let before = first (of_test c d day e.1 is) in
          let passes : int_le e.1.day last ≡ true = grind (arith, ints, before) in
          rw passes rest
      | false ↦ λ is. rest
    ] refl

-- of an entry of the list the test holds
all_test :
    (test : Price → Bool) (prices : List (ℕ × Price)) (p : Price) → list_all (λ (e : ℕ × Price). test e.1) prices ≡ true
    → Contains (map (λ e. e.1) prices) p → test p ≡ true
all_test test [] p all there = absurd (let below = there.1 in omega (arith, below))
all_test test (e ∷ more) p all (zero, below, is) =
    subst (λ (q : Price). test q ≡ true) is (and_parts (test e.1) (list_all (λ (x : ℕ × Price). test x.1) more) all).0
all_test test (e ∷ more) p all (suc k, below, is) =
    all_test test more p (and_parts (test e.1) (list_all (λ (x : ℕ × Price). test x.1) more) all).1
    (k, omega (arith, below), is)

-- the first that passes a test, where one does
record IsFirst (test : Price → Bool) (prices : List (ℕ × Price)) : Type 0 where
  pub entry : ℕ × Price
  pub found : find (λ (e : ℕ × Price). test e.1) prices ≡ Some entry
  pub passes : test entry.1 ≡ true
  pub there : Contains (map (λ e. e.1) prices) entry.1

first_behind :
    (test : Price → Bool) (e : ℕ × Price) (more : List (ℕ × Price)) → test e.1 ≡ false → IsFirst test more
    → IsFirst test (e ∷ more)
first_behind test e more other first = record {
  entry = first.entry;
  found = ap (λ (t : Bool). if t then Some e else find (λ (x : ℕ × Price). test x.1) more) other ∙ first.found;
  passes = first.passes;
  there = (suc first.there.0, omega (arith, first.there.1), first.there.2);
}

first_that :
    (test : Price → Bool) (prices : List (ℕ × Price)) (p : Price) → Contains (map (λ e. e.1) prices) p → test p ≡ true
    → IsFirst test prices
first_that test [] p there passes = absurd (let below = there.1 in omega (arith, below))
first_that test (e ∷ more) p there passes =
    let At : Bool → Type 0 = λ t. test e.1 ≡ t → IsFirst test (e ∷ more) in
    let behind : test e.1 ≡ false → Contains (map (λ x. x.1) more) p = left_behind test e more p there passes in
    elim (test e.1) as At [
      | true ↦ λ is. record {
        entry = e;
        found = ap (λ (t : Bool). if t then Some e else find (λ (x : ℕ × Price). test x.1) more) is;
        passes = is;
        there = (0, omega arith, refl);
      }
      | false ↦ λ other. first_behind test e more other (first_that test more p (behind other) passes)
    ] refl
  where
    left_behind :
        (test : Price → Bool) (e : ℕ × Price) (more : List (ℕ × Price)) (p : Price)
        → Contains (e.1 ∷ map (λ (x : ℕ × Price). x.1) more) p → test p ≡ true → test e.1 ≡ false
        → Contains (map (λ (x : ℕ × Price). x.1) more) p
    left_behind test e more p (zero, below, is) passes other =
        absurd (let no = sym (ap test is ∙ passes) ∙ other in cc)
    left_behind test e more p (suc k, below, is) passes other = (k, omega (arith, below), is)

-- a price behind the first is not alike it
unlike_first :
    (e : ℕ × Price) (more : List (ℕ × Price)) (q : Price) → All (λ (x : ℕ × Price). is_same x.1 e.1 ≡ false) more
    → Contains (map (λ (x : ℕ × Price). x.1) more) q → is_same q e.1 ≡ false
unlike_first e more q apart there =
    let all = All-map (λ (p : Price). is_same p e.1 ≡ false) (λ (x : ℕ × Price). x.1) more apart in
    subst (λ (p : Price). is_same p e.1 ≡ false) there.2 (all there.0 q there.1)

-- each price of a commodity, a currency and a day is there once
once_there :
    (prices : List (ℕ × Price)) (p q : Price) → AreOnce prices → Contains (map (λ e. e.1) prices) p
    → Contains (map (λ e. e.1) prices) q → is_same p q ≡ true → p ≡ q
once_there [] p q once here there same = absurd (let below = here.1 in omega (arith, below))
once_there (e ∷ more) p q once (zero, first, is) (zero, second, at) same = sym is ∙ at
once_there (e ∷ more) p q once (zero, first, is) (suc l, second, at) same =
    absurd (
    let apart = unlike_first e more q once.0 (l, omega (arith, second), at) in
    let alike = same_turned q e.1 ∙ ap (λ (x : Price). is_same x q) is ∙ same in
    let no = sym alike ∙ apart in cc)
once_there (e ∷ more) p q once (suc k, first, is) (zero, second, at) same =
    absurd (
    let apart = unlike_first e more p once.0 (k, omega (arith, first), is) in
    let alike = ap (λ (x : Price). is_same p x) at ∙ same in
    let no = sym alike ∙ apart in cc)
once_there (e ∷ more) p q once (suc k, first, is) (suc l, second, at) same =
    once_there more p q once.1 (k, omega (arith, first), is) (l, omega (arith, second), at) same

-- two days of which none is after the other
same_days : (a b : ℤ) → a ≤ℤ b → b ≤ℤ a → a ≡ b
same_days a b p q = omega (arith, ints, p, q)

not_after :
    (prices : List (ℕ × Price)) (c d : ℕ) (day last : ℤ) (p : Price)
    → list_all (λ (e : ℕ × Price). not (is_price_of c d day e.1) || int_le e.1.day last) prices ≡ true
    → Contains (map (λ e. e.1) prices) p → is_price_of c d day p ≡ true → p.day ≤ℤ last
not_after prices c d day last p all there is =
    let at = all_test (λ (x : Price). not (is_price_of c d day x) || int_le x.day last) prices p all there in
    let before : int_le p.day last ≡ true = ap (λ (t : Bool). not t || int_le p.day last) (sym is) ∙ at in
    omega (arith, ints, before)

-- The last price of the pair is the one that is found.
pub last_is :
    (prices : List (ℕ × Price)) (c d : ℕ) (day : ℤ) (best : Option Price) → AreOnce prices → IsBest prices c d day best
    → option_map (λ (e : ℕ × Price). e.1) (last_price prices c d day) ≡ best
last_is prices c d day None once none =
    ap (option_map (λ (e : ℕ × Price). e.1)) (none_last prices prices c d day none)
last_is prices c d day (Some p) once last =
    let is = test_of c d day p last.of_pair in
    let later = none_later prices c d day p.day last.last in
    let passes : is_last_price prices c d day p ≡ true =
    ap (λ (t : Bool). t && list_all (λ (e : ℕ × Price). not (is_price_of c d day e.1) || int_le e.1.day p.day) prices) is
    ∙ later in
    let first = first_that (is_last_price prices c d day) prices p last.there passes in
    let q = first.entry.1 in
    let parts = and_parts (is_price_of c d day q)
    (list_all (λ (e : ℕ × Price). not (is_price_of c d day e.1) || int_le e.1.day q.day) prices) first.passes in
    let other = of_test c d day q parts.0 in
    let days = same_days p.day q.day (not_after prices c d day q.day p parts.1 last.there is)
    (not_after prices c d day p.day q later first.there parts.0) in
    let alike = alike_same p q (last.of_pair.0 ∙ sym other.0) (last.of_pair.1 ∙ sym other.1) days in
    let one = once_there prices p q once last.there first.there alike in
    ap (option_map (λ (e : ℕ × Price). e.1)) first.found ∙ ap (λ (x : Price). Some x) (sym one)

-- ---- the rate on a day

abbrev ratio_of : Option Rate → Option Ratio
ratio_of None = None
ratio_of (Some rate) = Some (record { num = rate.num; denom = rate.denom })

ratio_is : (num denom : ℕ) (rate : Option Rate) → IsSomeAnd rate (IsRatio num denom)
    → ratio_of rate ≡ Some (record { num = num; denom = denom })
ratio_is num denom None is = absurd is
ratio_is num denom (Some rate) is =
    ap (λ (n : ℕ). Some (record { num = n; denom = rate.denom })) is.0
    ∙ ap (λ (n : ℕ). Some (record { num = num; denom = n })) is.1

no_ratio : (rate : Option Rate) → IsNone rate → ratio_of rate ≡ None
no_ratio None none = refl
no_ratio (Some rate) none = absurd cc

-- what is found has the price
found_price :
    (found : Option (ℕ × Price)) (p : Price) → option_map (λ (e : ℕ × Price). e.1) found ≡ Some p
    → (n : ℕ) × (found ≡ Some (n, p))
found_price None p e = absurd cc
found_price (Some x) p e = let one : x.1 ≡ p = cc in (x.0, ap (λ (q : Price). Some (x.0, q)) one)

found_none : (found : Option (ℕ × Price)) → option_map (λ (e : ℕ × Price). e.1) found ≡ None → found ≡ None
found_none None e = refl
found_none (Some x) e = absurd cc

pair_is :
    (prices : List (ℕ × Price)) (c d : ℕ) (day : ℤ) (rate : Option Rate) → AreOnce prices
    → IsPairRate prices c d day rate
    → ratio_of rate ≡ pair_rate (last_price prices c d day) (last_price prices d c day)
pair_is prices c d day rate once (inl (p, last, is)) =
    let f = found_price (last_price prices c d day) p (last_is prices c d day (Some p) once last) in
    ratio_is p.num p.denom rate is
    ∙ sym (ap (λ (o : Option (ℕ × Price)). pair_rate o (last_price prices d c day)) f.1)
pair_is prices c d day rate once (inr (inl (p, none, last, is))) =
    let f = found_price (last_price prices d c day) p (last_is prices d c day (Some p) once last) in
    let n = found_none (last_price prices c d day) (last_is prices c d day None once none) in
    ratio_is p.denom p.num rate is
    ∙ sym (ap (λ (o : Option (ℕ × Price)). pair_rate o (last_price prices d c day)) n ∙ ap turned_rate f.1)
pair_is prices c d day rate once (inr (inr (none, other, is))) =
    let n = found_none (last_price prices c d day) (last_is prices c d day None once none) in
    let m = found_none (last_price prices d c day) (last_is prices d c day None once other) in
    no_ratio rate is
    ∙ sym (ap (λ (o : Option (ℕ × Price)). pair_rate o (last_price prices d c day)) n ∙ ap turned_rate m)

-- The rate that a sound table of prices gives is the one that answers have.
pub rate_is :
    (prices : List (ℕ × Price)) (c d : ℕ) (day : ℤ) (rate : Option Rate) → AreOnce prices
    → IsRate prices c d day rate → ratio_of rate ≡ rate_on prices c d day
rate_is prices c d day rate once is =
    let At : Bool → Type 0 = λ t. MatchBool t (IsSomeAnd rate (IsRatio 1 1)) (IsPairRate prices c d day rate)
    → ratio_of rate
    ≡ (if t then Some (record { num = 1; denom = 1 })
    else pair_rate (last_price prices c d day) (last_price prices d c day)) in
    elim (c == d) as At [
      | true ↦ λ same. ratio_is 1 1 rate same
      | false ↦ λ pair. pair_is prices c d day rate once pair
    ] is
