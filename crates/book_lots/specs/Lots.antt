-- Lots of a security account, first in first out: units that are bought are paired with units that are sold in the
-- order of the register, whichever come first (GnuCash Concepts Guide, selling securities; that a split's value is cut
-- by units, with each part the difference of two that are cut toward zero, is this project's own).
use Rattle.std.specs.Prelude.{ℕ, ◌+◌, ◌-◌, ◌*◌, ◌/◌, ◌≤◌, nat_lt, min, max, ℤ, pos, ◌+ℤ◌, ◌-ℤ◌}
use Rattle.std.specs.Prelude.{int_lt, int_le, Bool, ◌&&◌, if◌then◌else◌, unsigned_abs, List, [], ◌∷◌, ◌++◌, filter, map}
use Rattle.std.specs.List.{flat_map}
use Rattle.std.specs.Ordering.{int_eq}
use Rattle.book_commodity.specs.Amount.{with_sign_of}
use Rattle.book_limits.specs.Limits.{largest_split_amount}
use Rattle.book_register.specs.declared.entry.Entry.{Entry}
use Rattle.book_lots.specs.declared.open_lot.OpenLot.{OpenLot}
use Rattle.book_lots.specs.declared.pair.Pair.{Pair}
use Rattle.book_lots.specs.declared.stretch.Stretch.{Stretch}

-- What contracts see of lots: the entries of the register that were reckoned, and how many were reckoned so far, those
-- that were reckoned again included. All that lots tell is a function of these entries.
pub record Reckoned : Type 0 where
  pub entries : List Entry
  pub work : ℕ

-- An entry whose quantity and value are at most as large as those of a split.
pub record IsSmall (entry : Entry) : Type 0 where
  pub quantity : unsigned_abs entry.quantity ≤ largest_split_amount
  pub value : unsigned_abs entry.value ≤ largest_split_amount

-- ---- Units: the splits that a test picks, in the order of the register, with their units numbered one after another.

-- A split at a place of the register, with the number of its first unit.
abbrev pub stretch_at : ℕ → ℕ → Entry → Stretch
stretch_at place first entry = record {
  place = place;
  first = first;
  split = entry.split;
  day = entry.day;
  quantity = entry.quantity;
  value = entry.value;
}

-- The number past that of a split's last unit. A split has as many units as its quantity without sign.
abbrev pub end_of : Stretch → ℕ
end_of stretch = stretch.first + unsigned_abs stretch.quantity

-- The picked splits among entries that begin at a place, with units numbered from a number on.
abbrev pub numbered : (Entry → Bool) → ℕ → ℕ → List Entry → List Stretch
numbered picks place first [] = []
numbered picks place first (entry ∷ more) =
    if picks entry then stretch_at place first entry
    ∷ numbered picks (place + 1) (first + unsigned_abs entry.quantity) more
    else numbered picks (place + 1) first more

-- The splits that buy, with their units.
unfoldable pub bought_in : List Entry → List Stretch
bought_in entries = numbered (λ entry. int_lt (pos 0) entry.quantity) 0 0 entries

-- The splits that sell, with their units.
unfoldable pub sold_in : List Entry → List Stretch
sold_in entries = numbered (λ entry. int_lt entry.quantity (pos 0)) 0 0 entries

-- How many units splits have.
abbrev pub units_of : List Stretch → ℕ
units_of [] = 0
units_of (stretch ∷ more) = unsigned_abs stretch.quantity + units_of more

-- ---- Shares of a split's value.

-- The part of a value that falls to so many first units of all units: value * count / units, cut toward zero.
abbrev pub value_of_first : ℤ → ℕ → ℕ → ℤ
value_of_first value units count = with_sign_of value (unsigned_abs value * count / units)

-- The part of a split's value that falls to its units below a number.
abbrev pub share_below : Stretch → ℕ → ℤ
share_below stretch number =
    value_of_first stretch.value (unsigned_abs stretch.quantity) (number - stretch.first)

-- The part of a split's value that falls to its units from one number up to another.
abbrev pub share_of : Stretch → ℕ → ℕ → ℤ
share_of stretch from to = share_below stretch to -ℤ share_below stretch from

-- ---- Pairs: a split that buys and one that sells are paired on the numbers that units of both have.

-- The first number that both may have, and the number past the last.
abbrev pub common_from : Stretch → Stretch → ℕ
common_from plus minus = max plus.first minus.first

abbrev pub common_to : Stretch → Stretch → ℕ
common_to plus minus = min (end_of plus) (end_of minus)

-- Whether two splits have a number in common.
abbrev pub overlap : Stretch → Stretch → Bool
overlap plus minus = nat_lt (common_from plus minus) (common_to plus minus)

-- The day of the one that stands later in the register.
abbrev pub day_of_later : Stretch → Stretch → ℤ
day_of_later plus minus = if nat_lt plus.place minus.place then minus.day else plus.day

-- The gain on the units from one number up to another: minus the sum of the two shares.
abbrev pub gain_from : Stretch → Stretch → ℕ → ℕ → ℤ
gain_from plus minus from to = pos 0 -ℤ (share_of plus from to +ℤ share_of minus from to)

-- The pair of two splits.
abbrev pub pair_of_two : Stretch → Stretch → Pair
pair_of_two plus minus = record {
  plus = plus.split;
  minus = minus.split;
  units = pos (common_to plus minus - common_from plus minus);
  day = day_of_later plus minus;
  gain = gain_from plus minus (common_from plus minus) (common_to plus minus);
}

-- The pairs of one split that buys with those that sell.
abbrev pub pairs_with : List Stretch → Stretch → List Pair
pairs_with minuses plus = map (pair_of_two plus) (filter (overlap plus) minuses)

-- All pairs of splits that buy with splits that sell. As the units of both are numbered in the order of the register,
-- the pairs stand in the order of their units.
abbrev pub pairs_between : List Stretch → List Stretch → List Pair
pairs_between pluses minuses = flat_map (pairs_with minuses) pluses

-- The pairs of a register's entries.
unfoldable pub pairs_of : List Entry → List Pair
pairs_of entries = pairs_between (bought_in entries) (sold_in entries)

-- ---- Open lots: the units whose numbers no unit of the other sign has.

-- The splits with units at or past a number.
abbrev pub open_past : ℕ → List Stretch → List Stretch
open_past number stretches = filter (λ stretch. nat_lt number (end_of stretch)) stretches

-- A split's units at or past a number. They count as negative where the split sells.
abbrev pub lot_past : ℕ → Stretch → OpenLot
lot_past number stretch = record {
  split = stretch.split;
  units = with_sign_of stretch.quantity (end_of stretch - max number stretch.first);
  cost = share_of stretch (max number stretch.first) (end_of stretch);
}

abbrev pub lots_past : ℕ → List Stretch → List OpenLot
lots_past number stretches = map (lot_past number) (open_past number stretches)

-- The open lots: what is bought past all units that are sold, and what is sold past all that are bought. Never are
-- there both, so the lots stand in the order of the register.
unfoldable pub lots_of : List Entry → List OpenLot
lots_of entries =
    lots_past (units_of (sold_in entries)) (bought_in entries)
    ++ lots_past (units_of (bought_in entries)) (sold_in entries)

-- ---- Sums.

-- The sum of the gains of pairs.
abbrev pub gain_of : List Pair → ℤ
gain_of [] = pos 0
gain_of (pair ∷ more) = pair.gain +ℤ gain_of more

-- The gains of all days.
abbrev pub all_gains : List Entry → ℤ
all_gains entries = gain_of (pairs_of entries)

-- Whether a pair's day lies from one day to another, both included.
abbrev pub is_within : ℤ → ℤ → Pair → Bool
is_within from to pair = int_le from pair.day && int_le pair.day to

-- The gains of the days from one to another.
abbrev pub gains_within : ℤ → ℤ → List Entry → ℤ
gains_within from to entries = gain_of (filter (is_within from to) (pairs_of entries))

-- The sum of the costs of lots.
abbrev pub cost_of : List OpenLot → ℤ
cost_of [] = pos 0
cost_of (lot ∷ more) = lot.cost +ℤ cost_of more

-- The sum of the values of entries.
abbrev pub value_of : List Entry → ℤ
value_of [] = pos 0
value_of (entry ∷ more) = entry.value +ℤ value_of more

-- The adjustments: the values of the splits without units.
abbrev pub adjustments_of : List Entry → ℤ
adjustments_of entries = value_of (filter (λ entry. int_eq entry.quantity (pos 0)) entries)

-- ---- Checkpoints.

-- How many of the reckoned entries are left where those from a place of the register on are forgotten: all where the
-- place lies behind them, else the greatest multiple of 256 that is at most the place.
abbrev pub left_before : ℕ → ℕ → ℕ
left_before place reckoned = if nat_lt place reckoned then 256 * (place / 256) else reckoned
