-- Shares of values: the parts of a split that are paired or open add up to its value.
use Rattle.std.proofs.Common.{◌≡◌, ℕ, suc, ◌+◌, ◌-◌, ◌/◌, ◌<◌, ◌≤◌, min, max, ℤ, pos, negsuc, neg_ℤ}
use Rattle.std.proofs.Common.{◌+ℤ◌, ◌-ℤ◌, List, [], ◌∷◌, ◌++◌, map, refl, sym, ap, ◌∙◌, arith, unsigned_abs}
use Rattle.std.proofs.Common.{⊎_elim}
use Rattle.std.specs.Prelude.{if◌then◌else◌}
use Rattle.std.proofs.Math.Nat.{mul-div_cancel, mul-zero, zero-div}
use Rattle.std.proofs.lemmas.Bool.{cases_lt, cond-false, cond-true, le-ltb, lt-ltb}
use Rattle.std.proofs.lemmas.Int.{ints}
use Rattle.book_lots.specs.Lots.{common_from, common_to, cost_of, end_of, gain_of, lot_past, lots_past, overlap}
use Rattle.book_lots.specs.Lots.{pairs_between, pairs_with, share_below, share_of, units_of, value_of_first}
use Rattle.book_lots.specs.Sides.{AreInLine}
use Rattle.book_lots.specs.declared.open_lot.OpenLot.{OpenLot}
use Rattle.book_lots.specs.declared.pair.Pair.{Pair}
use Rattle.book_lots.specs.declared.stretch.Stretch.{Stretch}
use Rattle.book_lots.proofs.LineLemmas.{open_here, open_not}
use Rattle.book_lots.proofs.PairLemmas.{with_here, with_not}

-- ---- the share of no unit and of all units
part_of_none : (value : ℤ) (units : ℕ) → value_of_first value units 0 ≡ pos 0
part_of_none (pos v) units = ap (λ n. pos (n / units)) (mul-zero v) ∙ ap pos (zero-div units)
part_of_none (negsuc v) units = ap (λ n. neg_ℤ (pos (n / units))) (mul-zero (suc v)) ∙ ap (λ n. neg_ℤ (pos n)) (zero-div units)

part_of_all : (value : ℤ) (units : ℕ) → 1 ≤ units → value_of_first value units units ≡ value
part_of_all (pos v) units some = ap pos (mul-div_cancel v some)
part_of_all (negsuc v) units some = ap (λ n. neg_ℤ (pos n)) (mul-div_cancel (suc v) some)

-- the share below a number where that lies before all units, or behind all
below_first : (s : Stretch) (n : ℕ) → n ≤ s.first → share_below s n ≡ pos 0
below_first s n le =
    ap (value_of_first s.value (unsigned_abs s.quantity)) (let none : n - s.first ≡ 0 = omega arith in none)
    ∙ part_of_none s.value (unsigned_abs s.quantity)

below_end : (s : Stretch) → 1 ≤ unsigned_abs s.quantity → share_below s (end_of s) ≡ s.value
below_end s some =
    ap (value_of_first s.value (unsigned_abs s.quantity))
    (let all : end_of s - s.first ≡ unsigned_abs s.quantity = omega arith in all)
    ∙ part_of_all s.value (unsigned_abs s.quantity) some

-- the share of what is paired below a number
abbrev pub paired_share : Stretch → ℕ → ℤ
paired_share s n = share_below s (min n (end_of s))

-- what is paired, and what is open, are the whole value
abbrev cost_past : ℕ → Stretch → ℤ
cost_past n s = cost_of (lots_past n (s ∷ []))

open_and_paired : (s : Stretch) (n : ℕ) → 1 ≤ unsigned_abs s.quantity
    → (cost_past n s +ℤ paired_share s n) ≡ s.value
open_and_paired s n some =
    ⊎_elim
    (λ lt. ap (λ l. cost_of (map (lot_past n) l) +ℤ paired_share s n) (open_here n s [] lt)
    ∙ ap (λ (z : ℤ). ((z -ℤ share_below s (max n s.first)) +ℤ pos 0) +ℤ paired_share s n) (below_end s some)
    ∙ ap (λ (z : ℤ). ((s.value -ℤ share_below s (max n s.first)) +ℤ pos 0) +ℤ z) (same lt)
    ∙ omega (arith, ints))
    (λ past. ap (λ l. cost_of (map (lot_past n) l) +ℤ paired_share s n) (open_not n s [] past)
    ∙ ap (λ (k : ℕ). pos 0 +ℤ share_below s k) (let all : min n (end_of s) ≡ end_of s = omega arith in all)
    ∙ ap (λ (z : ℤ). pos 0 +ℤ z) (below_end s some) ∙ omega (arith, ints))
    (cases_lt n (end_of s))
  where
    same : n < end_of s → paired_share s n ≡ share_below s (max n s.first)
    same lt = ap (value_of_first s.value (unsigned_abs s.quantity))
        (let is : min n (end_of s) - s.first ≡ max n s.first - s.first = omega arith in is)

-- ---- a split against splits of the other sign that are in line
-- the share of what two splits have in common, which is none where they don't overlap
abbrev common_share : Stretch → Stretch → ℤ
common_share s other =
    if overlap s other then share_of s (common_from s other) (common_to s other) else pos 0

abbrev common_shares : Stretch → List Stretch → ℤ
common_shares s [] = pos 0
common_shares s (other ∷ more) = common_share s other +ℤ common_shares s more

one_common : (s other : Stretch) → s.first < end_of s → other.first < end_of other
    → (common_share s other +ℤ paired_share s other.first) ≡ paired_share s (end_of other)
one_common s other some any =
    ⊎_elim
    (λ lt. ap (λ (z : ℤ). z +ℤ paired_share s other.first)
    (cond-true (overlap s other) _ (pos 0) (lt-ltb (common_from s other) (common_to s other) lt))
    ∙ ap (λ (z : ℤ). (z -ℤ share_below s (common_from s other)) +ℤ paired_share s other.first) (to lt)
    ∙ ap (λ (z : ℤ). (paired_share s (end_of other) -ℤ share_below s (common_from s other)) +ℤ z) (from lt)
    ∙ omega (arith, ints))
    (λ le. ap (λ (z : ℤ). z +ℤ paired_share s other.first)
    (cond-false (overlap s other) _ (pos 0) (le-ltb (common_from s other) (common_to s other) le))
    ∙ ap (λ (z : ℤ). pos 0 +ℤ z) (apart le) ∙ omega (arith, ints))
    (cases_lt (common_from s other) (common_to s other))
  where
    to : common_from s other < common_to s other → share_below s (common_to s other) ≡ paired_share s (end_of other)
    to lt = ap (value_of_first s.value (unsigned_abs s.quantity))
        (let is : common_to s other - s.first ≡ min (end_of other) (end_of s) - s.first = omega arith in is)

    from : common_from s other < common_to s other
        → paired_share s other.first ≡ share_below s (common_from s other)
    from lt = ap (value_of_first s.value (unsigned_abs s.quantity))
        (let is : min other.first (end_of s) - s.first ≡ common_from s other - s.first = omega arith in is)

    apart : common_to s other ≤ common_from s other → paired_share s other.first ≡ paired_share s (end_of other)
    apart le = ap (value_of_first s.value (unsigned_abs s.quantity))
        (let is : min other.first (end_of s) - s.first ≡ min (end_of other) (end_of s) - s.first = omega arith in is)

commons : (s : Stretch) (a : ℕ) (others : List Stretch) → s.first < end_of s → AreInLine a others
    → (common_shares s others +ℤ paired_share s a) ≡ paired_share s (a + units_of others)
commons s a [] some line =
    ap (λ (k : ℕ). pos 0 +ℤ paired_share s k) (let is : a ≡ a + 0 = omega arith in is) ∙ omega (arith, ints)
commons s a (other ∷ more) some line =
    let first : paired_share s a ≡ paired_share s other.first = ap (paired_share s) (sym line.0) in
    let one = one_common s other some (omega (arith, line.1.0)) in
    let rest = commons s (end_of other) more some line.1.1 in
    let last : paired_share s (end_of other + units_of more) ≡ paired_share s (a + units_of (other ∷ more)) =
    ap (paired_share s) (omega (arith, line.0)) in
    omega (arith, ints, first, one, rest, last)

-- all that a split has in common with the others, and what it has past them, is its value
pub whole_value : (s : Stretch) (others : List Stretch) → 1 ≤ unsigned_abs s.quantity → AreInLine 0 others
    → (cost_past (units_of others) s +ℤ common_shares s others) ≡ s.value
whole_value s others some line =
    let all = commons s 0 others (omega (arith, some)) line in
    let none : paired_share s 0 ≡ pos 0 = below_first s (min 0 (end_of s)) (omega arith) in
    let same : paired_share s (0 + units_of others) ≡ paired_share s (units_of others) =
    ap (paired_share s) (omega arith) in
    let rest = open_and_paired s (units_of others) some in
    omega (arith, ints, all, none, same, rest)

-- ---- sums over all
pub gain_of-append : (one other : List Pair) → gain_of (one ++ other) ≡ gain_of one +ℤ gain_of other
gain_of-append [] other = omega (arith, ints)
gain_of-append (pair ∷ more) other = (let rest = gain_of-append more other in omega (arith, ints, rest))

abbrev back_shares : Stretch → List Stretch → ℤ
back_shares p [] = pos 0
back_shares p (m ∷ ms) = common_share m p +ℤ back_shares p ms

abbrev all_shares : List Stretch → List Stretch → ℤ
all_shares [] ms = pos 0
all_shares (p ∷ ps) ms = common_shares p ms +ℤ all_shares ps ms

abbrev all_back : List Stretch → List Stretch → ℤ
all_back [] ms = pos 0
all_back (p ∷ ps) ms = back_shares p ms +ℤ all_back ps ms

-- of two splits each has the same in common with the other
turned : (p m : Stretch) → common_from p m < common_to p m
    → common_share m p ≡ share_of m (common_from p m) (common_to p m)
turned p m lt =
    let from : common_from m p ≡ common_from p m = omega arith in
    let to : common_to m p ≡ common_to p m = omega arith in
    cond-true (overlap m p) _ (pos 0) (lt-ltb (common_from m p) (common_to m p) (omega (arith, lt, from, to)))
    ∙ ap (λ k. share_of m k (common_to m p)) from ∙ ap (share_of m (common_from p m)) to

turned_none : (p m : Stretch) → common_to p m ≤ common_from p m → common_share m p ≡ pos 0
turned_none p m le =
    cond-false (overlap m p) _ (pos 0) (le-ltb (common_from m p) (common_to m p) (omega (arith, le)))

gains_with : (p : Stretch) (ms : List Stretch)
    → (gain_of (pairs_with ms p) +ℤ (common_shares p ms +ℤ back_shares p ms)) ≡ pos 0
gains_with p [] = refl
gains_with p (m ∷ ms) =
    let rest = gains_with p ms in
    ⊎_elim
    (λ lt. (let is = ap gain_of (with_here p m ms lt) in
    let one : common_share p m ≡ share_of p (common_from p m) (common_to p m) =
    cond-true (overlap p m) _ (pos 0) (lt-ltb (common_from p m) (common_to p m) lt) in
    let two = turned p m lt in omega (arith, ints, rest, is, one, two)))
    (λ le. (let is = ap gain_of (with_not p m ms le) in
    let one : common_share p m ≡ pos 0 =
    cond-false (overlap p m) _ (pos 0) (le-ltb (common_from p m) (common_to p m) le) in
    let two = turned_none p m le in omega (arith, ints, rest, is, one, two)))
    (cases_lt (common_from p m) (common_to p m))

gains_between : (ps ms : List Stretch)
    → (gain_of (pairs_between ps ms) +ℤ (all_shares ps ms +ℤ all_back ps ms)) ≡ pos 0
gains_between [] ms = refl
gains_between (p ∷ ps) ms =
    let one = gains_with p ms in
    let rest = gains_between ps ms in
    let both = gain_of-append (pairs_with ms p) (pairs_between ps ms) in
    omega (arith, ints, one, rest, both)

no_shares : (ms : List Stretch) → all_shares ms [] ≡ pos 0
no_shares [] = refl
no_shares (m ∷ ms) = (let rest = no_shares ms in omega (arith, ints, rest))

one_more : (p : Stretch) (ps ms : List Stretch)
    → all_shares ms (p ∷ ps) ≡ back_shares p ms +ℤ all_shares ms ps
one_more p ps [] = refl
one_more p ps (m ∷ ms) = (let rest = one_more p ps ms in omega (arith, ints, rest))

-- the sum over all pairs in either order
in_other_order : (ps ms : List Stretch) → all_back ps ms ≡ all_shares ms ps
in_other_order [] ms = sym (no_shares ms)
in_other_order (p ∷ ps) ms =
    let rest = in_other_order ps ms in let is = one_more p ps ms in omega (arith, ints, rest, is)

-- the sum of the values of splits
abbrev pub values_of : List Stretch → ℤ
values_of [] = pos 0
values_of (s ∷ more) = s.value +ℤ values_of more

cost_more : (n : ℕ) (s : Stretch) (more : List Stretch)
    → cost_of (lots_past n (s ∷ more)) ≡ cost_past n s +ℤ cost_of (lots_past n more)
cost_more n s more =
    ⊎_elim
    (λ lt. (let one = ap (λ l. cost_of (map (lot_past n) l)) (open_here n s more lt) in
    let two = ap (λ l. cost_of (map (lot_past n) l)) (open_here n s [] lt) in omega (arith, ints, one, two)))
    (λ past. (let one = ap (λ l. cost_of (map (lot_past n) l)) (open_not n s more past) in
    let two = ap (λ l. cost_of (map (lot_past n) l)) (open_not n s [] past) in omega (arith, ints, one, two)))
    (cases_lt n (end_of s))

whole_values : (a : ℕ) (all others : List Stretch) → AreInLine a all → AreInLine 0 others
    → (cost_of (lots_past (units_of others) all) +ℤ all_shares all others) ≡ values_of all
whole_values a [] others line other = refl
whole_values a (s ∷ more) others line other =
    let one = whole_value s others line.1.0 other in
    let rest = whole_values (end_of s) more others line.1.1 other in
    let cost = cost_more (units_of others) s more in
    omega (arith, ints, one, rest, cost)

-- what is open on both sides, less the gains, is the sum of all values
pub values_between : (ps ms : List Stretch) → AreInLine 0 ps → AreInLine 0 ms
    → (values_of ps +ℤ values_of ms)
    ≡ ((cost_of (lots_past (units_of ms) ps) +ℤ cost_of (lots_past (units_of ps) ms)) -ℤ gain_of (pairs_between ps ms))
values_between ps ms line other =
    let one = whole_values 0 ps ms line other in
    let two = whole_values 0 ms ps other line in
    let gains = gains_between ps ms in
    let order = in_other_order ps ms in
    omega (arith, ints, one, two, gains, order)

pub cost_of-append : (one other : List OpenLot) → cost_of (one ++ other) ≡ cost_of one +ℤ cost_of other
cost_of-append [] other = omega (arith, ints)
cost_of-append (lot ∷ more) other = (let rest = cost_of-append more other in omega (arith, ints, rest))
