-- Sums of small quantities are small, and the rows up to the last row's day are all.
use Rattle.std.proofs.Common.{◌≡◌, ℕ, suc, ◌-◌, ◌*◌, ◌<◌, ◌≤◌, ℤ, pos, negsuc, ◌-ℤ◌, ◌≤ℤ◌, int_le, Bool}
use Rattle.std.proofs.Common.{true, false, if◌then◌else◌, unsigned_abs, List, [], ◌∷◌, All, length, filter, Some, slice_get}
use Rattle.std.proofs.Common.{ap, subst, ◌∙◌, arith}
use Rattle.std.proofs.lemmas.Bool.Decides.{nat_tests}
use Rattle.std.proofs.lemmas.Int.{ints}
use Rattle.std.proofs.lemmas.List.Elements.{All-filter, All-head, All-tail}
use Rattle.book_commodity.proofs.DayLemmas.{test_of_le}
use Rattle.book_limits.specs.Limits.{largest_split_amount, largest_sum}
use Rattle.book_register.specs.Register.{IsSorted, balance, key_of, precedes, rows_until}
use Rattle.book_register.specs.declared.entry.Entry.{Entry}
use Rattle.book_finish.specs.Kept.{AreWithinLimits, IsSmall}

-- ---- sums

-- An amount is at most so many times the largest amount of a split in size.
abbrev IsUpTo : ℕ → ℤ → Type 0
IsUpTo count amount =
    ((pos 0 -ℤ pos (largest_split_amount * count)) ≤ℤ amount) × (amount ≤ℤ pos (largest_split_amount * count))

one-small : (amount : ℤ) → unsigned_abs amount ≤ largest_split_amount → IsUpTo 1 amount
one-small (pos n) small = (omega (arith, ints, small), omega (arith, ints, small))
one-small (negsuc n) small = (omega (arith, ints, small), omega (arith, ints, small))

sum-small : (test : Entry → Bool) (rows : List Entry) → All IsSmall rows
    → IsUpTo (length rows) (balance (filter test rows))
sum-small test [] small = (omega (arith, ints), omega (arith, ints))
sum-small test (row ∷ rows) small =
    let first = one-small row.quantity (All-head IsSmall row rows small) in
    let rest = sum-small test rows (All-tail IsSmall row rows small) in
    elim (test row) as
    (λ t. IsUpTo (suc (length rows)) (balance (if t then row ∷ filter test rows else filter test rows))) [
      | true ↦ (omega (arith, ints, first.0, rest.0), omega (arith, ints, first.1, rest.1))
      | false ↦ (omega (arith, ints, rest.0), omega (arith, ints, rest.1))
    ]

until-few : (day : ℤ) (rows : List Entry) → length (rows_until day rows) ≤ length rows
until-few day [] = omega arith
until-few day (row ∷ rows) =
    let rest = until-few day rows in
    elim (int_le row.day day) as
    (λ t. length (if t then row ∷ rows_until day rows else rows_until day rows) ≤ suc (length rows)) [
      | true ↦ omega (arith, rest)
      | false ↦ omega (arith, rest)
    ]

-- A sum is at most the largest sum in size.
abbrev pub IsSmallSum : ℤ → Type 0
IsSmallSum sum = ((pos 0 -ℤ pos largest_sum) ≤ℤ sum) × (sum ≤ℤ pos largest_sum)

pub small-until : (test : Entry → Bool) (day : ℤ) (rows : List Entry) → AreWithinLimits rows
    → IsSmallSum (balance (filter test (rows_until day rows)))
small-until test day rows limits =
    let few = until-few day rows in
    let sum = sum-small test (rows_until day rows)
    (All-filter (λ (row : Entry). int_le row.day day) IsSmall rows limits.small) in
    (omega (arith, ints, sum.0, few, limits.few), omega (arith, ints, sum.1, few, limits.few))

pub small-all : (test : Entry → Bool) (rows : List Entry) → AreWithinLimits rows
    → IsSmallSum (balance (filter test rows))
small-all test rows limits =
    let sum = sum-small test rows limits.small in
    (omega (arith, ints, sum.0, limits.few), omega (arith, ints, sum.1, limits.few))

-- ---- the last row's day

day-before : (x y : Entry) → precedes (key_of x) (key_of y) ≡ true → x.day ≤ℤ y.day
day-before x y before = grind (arith, ints, nat_tests, before)

some-same : (x y : Entry) → Some x ≡ Some y → x ≡ y
some-same x y same = cc

first-day : (row : Entry) (rows : List Entry) (last : Entry) → IsSorted (row ∷ rows)
    → slice_get (row ∷ rows) (length rows) ≡ Some last → row.day ≤ℤ last.day
first-day row [] last in_order is =
    let same = ap (λ (x : Entry). x.day) (some-same row last is) in omega (arith, ints, same)
first-day row (next ∷ rows) last in_order is =
    let before = day-before row next in_order.0.0 in
    let rest = first-day next rows last in_order.1 is in
    omega (arith, ints, before, rest)

pub until-last : (row : Entry) (rows : List Entry) (last : Entry) → IsSorted (row ∷ rows)
    → slice_get (row ∷ rows) (length rows) ≡ Some last → rows_until last.day (row ∷ rows) ≡ row ∷ rows
until-last row [] last in_order is =
    ap (λ (b : Bool). if b then row ∷ [] else []) (test_of_le row.day last.day (first-day row [] last in_order is))
until-last row (next ∷ rows) last in_order is =
    ap (λ (b : Bool). if b then row ∷ rows_until last.day (next ∷ rows) else rows_until last.day (next ∷ rows))
    (test_of_le row.day last.day (first-day row (next ∷ rows) last in_order is))
    ∙ ap (λ (l : List Entry). row ∷ l) (until-last next rows last in_order.1 is)

-- of rows that there are
pub until-end : (rows : List Entry) (last : Entry) → 0 < length rows → IsSorted rows
    → slice_get rows (length rows - 1) ≡ Some last → rows_until last.day rows ≡ rows
until-end [] last some in_order is = absurd (omega (arith, some))
until-end (row ∷ rows) last some in_order is =
    let less : length (row ∷ rows) - 1 ≡ length rows = omega arith in
    until-last row rows last in_order (subst (λ (k : ℕ). slice_get (row ∷ rows) k ≡ Some last) less is)
