-- Worked rows: what lots are of registers of two to five entries. Days count from 2024-01-01, values are in cents.
use Rattle.std.proofs.Common.{◌≡◌, ℕ, List, [], ◌∷◌, refl}
use Rattle.std.specs.Prelude.{ℤ, pos, negsuc, ◌+ℤ◌, ◌-ℤ◌}
use Rattle.book_register.specs.declared.entry.Entry.{Entry}
use Rattle.book_register.specs.declared.entry.Mark2.TheVariants.{Plain}
use Rattle.book_lots.specs.Lots.{adjustments_of, all_gains, bought_in, cost_of, gains_within, left_before, lots_of}
use Rattle.book_lots.specs.Lots.{pairs_of, sold_in, value_of}
use Rattle.book_lots.specs.declared.open_lot.OpenLot.{OpenLot}
use Rattle.book_lots.specs.declared.pair.Pair.{Pair}

abbrev trade : ℕ → ℤ → ℤ → ℤ → Entry
trade split day quantity value = record {
  day = day;
  txn = split;
  place = 0;
  split = split;
  currency = 1;
  quantity = quantity;
  value = value;
  mark = Plain;
}

abbrev pair : ℕ → ℕ → ℤ → ℤ → ℤ → Pair
pair plus minus units day gain =
    record { plus = plus; minus = minus; units = units; day = day; gain = gain }

abbrev lot : ℕ → ℤ → ℤ → OpenLot
lot split units cost = record { split = split; units = units; cost = cost }

-- 10 bought for 10.00, 5 bought for 7.00, 12 sold for 18.00
abbrev bought_and_sold : List Entry
bought_and_sold =
    trade 7 (pos 9) (pos 10) (pos 1000) ∷ trade 10 (pos 40) (pos 5) (pos 700)
    ∷ trade 13 (pos 69) (negsuc 11) (negsuc 1799) ∷ []

first_in_first_out : pairs_of bought_and_sold
    ≡ pair 7 13 (pos 10) (pos 69) (pos 500) ∷ pair 10 13 (pos 2) (pos 69) (pos 20) ∷ []
unfolding pairs_of bought_in sold_in
first_in_first_out = refl

rest_open : lots_of bought_and_sold ≡ lot 10 (pos 3) (pos 420) ∷ []
unfolding lots_of bought_in sold_in
rest_open = refl

gain_of_the_year : gains_within (pos 0) (pos 365) bought_and_sold ≡ pos 520
unfolding pairs_of bought_in sold_in
gain_of_the_year = refl

gain_before : gains_within (pos 0) (pos 68) bought_and_sold ≡ pos 0
unfolding pairs_of bought_in sold_in
gain_before = refl

-- the values sum to -1.00, which is 4.20 - 5.20 + 0
values_again : value_of bought_and_sold
    ≡ (cost_of (lots_of bought_and_sold) -ℤ all_gains bought_and_sold) +ℤ adjustments_of bought_and_sold
unfolding pairs_of lots_of bought_in sold_in
values_again = refl

-- 3 bought for 1.00, and each sold for 0.50: the costs are 33, 33 and 34
by_ones : pairs_of
    (trade 1 (pos 1) (pos 3) (pos 100) ∷ trade 2 (pos 2) (negsuc 0) (negsuc 49) ∷ trade 3 (pos 3) (negsuc 0) (negsuc 49)
    ∷ trade 4 (pos 4) (negsuc 0) (negsuc 49) ∷ [])
    ≡ pair 1 2 (pos 1) (pos 2) (pos 17) ∷ pair 1 3 (pos 1) (pos 3) (pos 17) ∷ pair 1 4 (pos 1) (pos 4) (pos 16) ∷ []
unfolding pairs_of bought_in sold_in
by_ones = refl

-- 4 sold for 4.00 before they are bought for 3.00
abbrev short : List Entry
short = trade 1 (pos 9) (negsuc 3) (negsuc 399) ∷ trade 2 (pos 40) (pos 4) (pos 300) ∷ []

bought_back : pairs_of short ≡ pair 2 1 (pos 4) (pos 40) (pos 100) ∷ []
unfolding pairs_of bought_in sold_in
bought_back = refl

nothing_open : lots_of short ≡ []
unfolding lots_of bought_in sold_in
nothing_open = refl

-- before that the lot is open, with units below 0
short_lot : lots_of (trade 1 (pos 9) (negsuc 3) (negsuc 399) ∷ []) ≡ lot 1 (negsuc 3) (negsuc 399) ∷ []
unfolding lots_of bought_in sold_in
short_lot = refl

-- 1 bought for 0.90 before all others
abbrev in_front : List Entry
in_front = trade 15 (pos 1) (pos 1) (pos 90) ∷ bought_and_sold

other_pairs : pairs_of in_front
    ≡ pair 15 13 (pos 1) (pos 69) (pos 60) ∷ pair 7 13 (pos 10) (pos 69) (pos 500)
    ∷ pair 10 13 (pos 1) (pos 69) (pos 10) ∷ []
unfolding pairs_of bought_in sold_in
other_pairs = refl

other_gain : gains_within (pos 0) (pos 365) in_front ≡ pos 570
unfolding pairs_of bought_in sold_in
other_gain = refl

other_rest : lots_of in_front ≡ lot 10 (pos 4) (pos 560) ∷ []
unfolding lots_of bought_in sold_in
other_rest = refl

-- a split with a value and no units
adjusted : adjustments_of (trade 1 (pos 1) (pos 3) (pos 100) ∷ trade 2 (pos 2) (pos 0) (negsuc 6) ∷ []) ≡ negsuc 6
adjusted = refl

-- of 600 entries all are left where the 600th and later ones are forgotten, and 256 where the 300th and later ones are
all_left : left_before 600 600 ≡ 600
all_left = refl

pub some_left : left_before 300 600 ≡ 256
some_left = refl
