-- How large gains, costs and adjustments are, so that their sums fit.
use Rattle.std.proofs.Common.{◌≡◌, ℕ, zero, suc, ◌+◌, ◌-◌, ◌*◌, ◌/◌, ◌<◌, ◌≤◌, max, Bool, true, false, cond, ℤ}
use Rattle.std.proofs.Common.{pos, negsuc, neg_ℤ, ◌-ℤ◌, ◌≤ℤ◌, List, [], ◌∷◌, ◌++◌, length, map, take, sym}
use Rattle.std.proofs.Common.{ap, subst, arith, unsigned_abs, ⊎_elim}
use Rattle.std.specs.Prelude.{⊤}
use Rattle.std.specs.List.{All, filter}
use Rattle.std.proofs.lemmas.Bool.{cases_lt}
use Rattle.std.proofs.lemmas.Int.{ints}
use Rattle.std.proofs.lemmas.Nat.{div_below, mul-le}
use Rattle.std.proofs.lemmas.List.Elements.{All-head, All-tail}
use Rattle.book_limits.specs.Limits.{largest_split_amount}
use Rattle.book_register.specs.declared.entry.Entry.{Entry}
use Rattle.book_lots.specs.Lots.{IsSmall, adjustments_of, bought_in, common_from, common_to, cost_of, end_of, gain_of}
use Rattle.book_lots.specs.Lots.{lot_past, lots_of, lots_past, numbered, pair_of_two, pairs_between, pairs_of}
use Rattle.book_lots.specs.Lots.{pairs_with, share_of, sold_in, units_of, value_of, value_of_first}
use Rattle.book_lots.specs.declared.open_lot.OpenLot.{OpenLot}
use Rattle.book_lots.specs.declared.pair.Pair.{Pair}
use Rattle.book_lots.specs.declared.stretch.Stretch.{Stretch}
use Rattle.book_lots.proofs.EntryLemmas.{buys, either, has_none, numbered_no, numbered_yes, plus_any, minus_any, sells}
use Rattle.book_lots.proofs.LineLemmas.{open_here, open_not}
use Rattle.book_lots.proofs.PairLemmas.{with_here, with_not}

-- an amount is at most so large
abbrev pub IsUpTo : ℕ → ℤ → Type 0
IsUpTo k z = ((pos 0 -ℤ pos k) ≤ℤ z) × (z ≤ℤ pos k)

up_to_abs : (k : ℕ) (z : ℤ) → unsigned_abs z ≤ k → IsUpTo k z
up_to_abs k (pos n) le = (omega (arith, ints, le), omega (arith, ints, le))
up_to_abs k (negsuc n) le = (omega (arith, ints, le), omega (arith, ints, le))

-- ---- shares
quotient : (v units count : ℕ) → 1 ≤ units → count ≤ units → v * count / units ≤ v
quotient v units count some le =
    let most = mul-le v count v units (omega arith) le in
    let less = div_below (v * count) units (suc v) (omega (arith, some)) (omega (arith, most, some)) in
    omega (arith, less)

part_size : (value : ℤ) (units count : ℕ) → 1 ≤ units → count ≤ units → unsigned_abs value ≤ largest_split_amount
    → IsUpTo largest_split_amount (value_of_first value units count)
part_size (pos v) units count some le small =
    let less = quotient v units count some le in
    (omega (arith, ints), omega (arith, ints, less, small))
part_size (negsuc v) units count some le small =
    let less = quotient (suc v) units count some le in
    negative (suc v * count / units) (omega (arith, less, small))
  where
    negative : (n : ℕ) → n ≤ largest_split_amount → IsUpTo largest_split_amount (neg_ℤ (pos n))
    negative zero le = (omega (arith, ints), omega (arith, ints))
    negative (suc n) le = (omega (arith, ints, le), omega (arith, ints, le))

-- a split with units and a small value
abbrev IsValued : Stretch → Type 0
IsValued s = (1 ≤ unsigned_abs s.quantity) × (unsigned_abs s.value ≤ largest_split_amount)

abbrev AreValued : List Stretch → Type 0
AreValued [] = ⊤
AreValued (s ∷ more) = IsValued s × AreValued more

share_size : (s : Stretch) (from to : ℕ) → IsValued s → from ≤ end_of s → to ≤ end_of s
    → IsUpTo (2 * largest_split_amount) (share_of s from to)
share_size s from to valued le le' =
    let one = part_size s.value (unsigned_abs s.quantity) (to - s.first) valued.0 (omega (arith, le')) valued.1 in
    let two = part_size s.value (unsigned_abs s.quantity) (from - s.first) valued.0 (omega (arith, le)) valued.1 in
    (omega (arith, ints, one.0, one.1, two.0, two.1), omega (arith, ints, one.0, one.1, two.0, two.1))

-- ---- gains of pairs
abbrev pub AreGains : List Pair → Type 0
AreGains [] = ⊤
AreGains (pair ∷ more) = IsUpTo (4 * largest_split_amount) pair.gain × AreGains more

gain_size : (p m : Stretch) → IsValued p → IsValued m → common_from p m < common_to p m
    → IsUpTo (4 * largest_split_amount) (pair_of_two p m).gain
gain_size p m one two lt =
    let first = share_size p (common_from p m) (common_to p m) one (omega (arith, lt)) (omega arith) in
    let second = share_size m (common_from p m) (common_to p m) two (omega (arith, lt)) (omega arith) in
    (omega (arith, ints, first.0, first.1, second.0, second.1), omega (arith, ints, first.0, first.1, second.0, second.1))

gains_with : (p : Stretch) (ms : List Stretch) → IsValued p → AreValued ms → AreGains (pairs_with ms p)
gains_with p [] valued all = tt
gains_with p (m ∷ ms) valued all =
    let rest = gains_with p ms valued all.1 in
    ⊎_elim
    (λ lt. subst AreGains (sym (with_here p m ms lt)) (gain_size p m valued all.0 lt, rest))
    (λ le. subst AreGains (sym (with_not p m ms le)) rest)
    (cases_lt (common_from p m) (common_to p m))

gains-append : (one other : List Pair) → AreGains one → AreGains other → AreGains (one ++ other)
gains-append [] other a b = b
gains-append (pair ∷ more) other a b = (a.0, gains-append more other a.1 b)

gains_between : (ps ms : List Stretch) → AreValued ps → AreValued ms → AreGains (pairs_between ps ms)
gains_between [] ms one two = tt
gains_between (p ∷ ps) ms one two =
    gains-append (pairs_with ms p) (pairs_between ps ms) (gains_with p ms one.0 two) (gains_between ps ms one.1 two)

valued : (picks : Entry → Bool) (any : (e : Entry) → picks e ≡ true → 1 ≤ unsigned_abs e.quantity) (k a : ℕ)
    (es : List Entry) → All IsSmall es → AreValued (numbered picks k a es)
valued picks any k a [] small = tt
valued picks any k a (e ∷ es) small =
    let rest = All-tail IsSmall e es small in
    ⊎_elim
    (λ is. subst AreValued (sym (numbered_yes picks k a e es is))
    ((any e is, (All-head IsSmall e es small).value), valued picks any (k + 1) (a + unsigned_abs e.quantity) es rest))
    (λ is. subst AreValued (sym (numbered_no picks k a e es is)) (valued picks any (k + 1) a es rest))
    (either (picks e))

bought_valued : (es : List Entry) → All IsSmall es → AreValued (bought_in es)
unfolding bought_in
bought_valued es small = valued buys (λ e is. plus_any e.quantity is) 0 0 es small

sold_valued : (es : List Entry) → All IsSmall es → AreValued (sold_in es)
unfolding sold_in
sold_valued es small = valued sells (λ e is. minus_any e.quantity is) 0 0 es small

pub gains_small : (es : List Entry) → All IsSmall es → AreGains (pairs_of es)
unfolding pairs_of
gains_small es small = gains_between (bought_in es) (sold_in es) (bought_valued es small) (sold_valued es small)

-- the sum of the gains of some of the first so many
pub some_gains : (test : Pair → Bool) (i : ℕ) (all : List Pair) → AreGains all
    → IsUpTo (4 * largest_split_amount * i) (gain_of (filter test (take i all)))
some_gains test zero all gains = (omega (arith, ints), omega (arith, ints))
some_gains test (suc i) [] gains = (omega (arith, ints), omega (arith, ints))
some_gains test (suc i) (pair ∷ more) gains =
    let rest = some_gains test i more gains.1 in
    elim (test pair) as (λ t. IsUpTo (4 * largest_split_amount * suc i)
    (gain_of (cond t (pair ∷ filter test (take i more)) (filter test (take i more))))) [
      | true ↦ (omega (arith, ints, rest.0, rest.1, gains.0.0, gains.0.1), omega (arith, ints, rest.0, rest.1, gains.0.0, gains.0.1))
      | false ↦ (omega (arith, ints, rest.0, rest.1), omega (arith, ints, rest.0, rest.1))
    ]

-- ---- costs of lots
abbrev pub AreCosts : List OpenLot → Type 0
AreCosts [] = ⊤
AreCosts (lot ∷ more) = IsUpTo (2 * largest_split_amount) lot.cost × AreCosts more

costs_past : (n : ℕ) (all : List Stretch) → AreValued all → AreCosts (lots_past n all)
costs_past n [] one = tt
costs_past n (s ∷ more) one =
    let rest = costs_past n more one.1 in
    ⊎_elim
    (λ lt. subst AreCosts (ap (map (lot_past n)) (sym (open_here n s more lt)))
    (share_size s (max n s.first) (end_of s) one.0 (omega (arith, lt)) (omega arith), rest))
    (λ past. subst AreCosts (ap (map (lot_past n)) (sym (open_not n s more past))) rest)
    (cases_lt n (end_of s))

costs-append : (one other : List OpenLot) → AreCosts one → AreCosts other → AreCosts (one ++ other)
costs-append [] other a b = b
costs-append (lot ∷ more) other a b = (a.0, costs-append more other a.1 b)

pub costs_small : (es : List Entry) → All IsSmall es → AreCosts (lots_of es)
unfolding lots_of
costs_small es small =
    costs-append (lots_past (units_of (sold_in es)) (bought_in es)) (lots_past (units_of (bought_in es)) (sold_in es))
    (costs_past (units_of (sold_in es)) (bought_in es) (bought_valued es small))
    (costs_past (units_of (bought_in es)) (sold_in es) (sold_valued es small))

pub some_costs : (i : ℕ) (all : List OpenLot) → AreCosts all
    → IsUpTo (2 * largest_split_amount * i) (cost_of (take i all))
some_costs zero all costs = (omega (arith, ints), omega (arith, ints))
some_costs (suc i) [] costs = (omega (arith, ints), omega (arith, ints))
some_costs (suc i) (lot ∷ more) costs =
    let rest = some_costs i more costs.1 in
    (omega (arith, ints, rest.0, rest.1, costs.0.0, costs.0.1), omega (arith, ints, rest.0, rest.1, costs.0.0, costs.0.1))

-- ---- adjustments
pub adjustments_small : (es : List Entry) → All IsSmall es
    → IsUpTo (largest_split_amount * length es) (adjustments_of es)
adjustments_small [] small = (omega (arith, ints), omega (arith, ints))
adjustments_small (e ∷ es) small =
    let rest = adjustments_small es (All-tail IsSmall e es small) in
    let one = up_to_abs largest_split_amount e.value (All-head IsSmall e es small).value in
    elim (has_none e) as (λ t. IsUpTo (largest_split_amount * length (e ∷ es))
    (value_of (cond t (e ∷ filter has_none es) (filter has_none es)))) [
      | true ↦ (omega (arith, ints, rest.0, rest.1, one.0, one.1), omega (arith, ints, rest.0, rest.1, one.0, one.1))
      | false ↦ (omega (arith, ints, rest.0, rest.1), omega (arith, ints, rest.0, rest.1))
    ]
