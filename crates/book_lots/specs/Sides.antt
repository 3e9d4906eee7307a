-- What is kept to reckon lots: the splits of each sign with how many of their units are paired, and what has to be
-- known of so many first entries to come back to them.
use Rattle.std.specs.Prelude.{◌≡◌, ℕ, ◌+◌, ◌-◌, ◌*◌, ◌/◌, ◌%◌, ◌<◌, ◌≤◌, ◌==◌, min, ℤ, unsigned_abs, ⊤, if◌then◌else◌}
use Rattle.std.specs.Prelude.{List, [], ◌∷◌, ◌++◌, length, map, take, drop, slice_index_or}
use Rattle.std.specs.List.{All}
use Rattle.book_limits.specs.Limits.{largest_split_amount, largest_sum}
use Rattle.book_register.specs.declared.entry.Entry.{Entry}
use Rattle.book_lots.specs.declared.mark.Mark.{Mark}
use Rattle.book_lots.specs.declared.mark.SideMark.{SideMark}
use Rattle.book_lots.specs.declared.open_lot.OpenLot.{OpenLot}
use Rattle.book_lots.specs.declared.pair.Pair.{Pair}
use Rattle.book_lots.specs.declared.stretch.Stretch.{Stretch}
use Rattle.book_lots.specs.Lots.{IsSmall, adjustments_of, bought_in, end_of, lot_past, open_past, pairs_of, sold_in}
use Rattle.book_lots.specs.Lots.{units_of}

-- What contracts see of a side: its splits, and how many of their units are paired.
pub record Paired : Type 0 where
  pub stretches : List Stretch
  pub paired : ℕ

-- Each split has units, and they are numbered one after another from a number on.
abbrev pub AreInLine : ℕ → List Stretch → Type 0
AreInLine first [] = ⊤
AreInLine first (stretch ∷ more) =
    (stretch.first ≡ first) × ((1 ≤ unsigned_abs stretch.quantity) × AreInLine (end_of stretch) more)

-- The numbers of a split are small enough to be multiplied.
pub record IsBounded (stretch : Stretch) : Type 0 where
  pub first : stretch.first ≤ largest_sum
  pub some : 1 ≤ unsigned_abs stretch.quantity
  pub quantity : unsigned_abs stretch.quantity ≤ largest_split_amount
  pub value : unsigned_abs stretch.value ≤ largest_split_amount

-- The splits of a side are numbered from 0, and no more units are paired than there are.
pub record IsSound (side : Paired) : Type 0 where
  pub in_line : AreInLine 0 side.stretches
  pub bounded : All IsBounded side.stretches
  pub within : side.paired ≤ units_of side.stretches

-- The queue of a side: the splits before its head are paired in full, those from there on are open. There is a lot for
-- each split, for the open ones of the units that aren't paired, and for the others of all units.
pub record IsQueue (stretches : List Stretch) (lots : List OpenLot) (head paired : ℕ) : Type 0 where
  pub within : head ≤ length stretches
  pub closed : open_past paired (take head stretches) ≡ []
  pub open_from : open_past paired (drop head stretches) ≡ drop head stretches
  pub lots_are : lots ≡ map (lot_past 0) (take head stretches) ++ map (lot_past paired) (drop head stretches)

-- What is kept of a side.
pub record IsKept (stretches : List Stretch) (lots : List OpenLot) (head units paired : ℕ) : Type 0 where
  pub sound : IsSound (record { stretches = stretches; paired = paired })
  pub queue : IsQueue stretches lots head paired
  pub counted : units ≡ units_of stretches

-- The first open split of a side has units up to a number, and this number isn't paired before.
pub record IsFrontTo (side : Paired) (number : ℕ) : Type 0 where
  pub front : Stretch
  pub more : List Stretch
  pub is_front : open_past side.paired side.stretches ≡ front ∷ more
  pub least : side.paired ≤ number
  pub most : number ≤ end_of front

-- What has to be known to come back to a side.
abbrev pub mark_of_side : Paired → SideMark
mark_of_side side = record {
  len = length side.stretches;
  head = length side.stretches - length (open_past side.paired side.stretches);
  units = units_of side.stretches;
  paired = side.paired;
}

-- How many units of each sign are paired: as many as both have.
abbrev pub paired_in : List Entry → ℕ
paired_in entries = min (units_of (bought_in entries)) (units_of (sold_in entries))

-- The two sides of a register's entries.
abbrev pub bought_side : List Entry → Paired
bought_side entries = record { stretches = bought_in entries; paired = paired_in entries }

abbrev pub sold_side : List Entry → Paired
sold_side entries = record { stretches = sold_in entries; paired = paired_in entries }

-- What has to be known to come back to so many first entries.
abbrev pub mark_of : List Entry → Mark
mark_of entries = record {
  entries = length entries;
  bought = mark_of_side (bought_side entries);
  sold = mark_of_side (sold_side entries);
  pairs = length (pairs_of entries);
  adjustments = adjustments_of entries;
}

-- The sides and the pairs are those of these entries, which are few and small enough for all sums.
pub record AreSides (entries : List Entry) (bought sold : Paired) (pairs : List Pair) : Type 0 where
  pub few : length entries ≤ 1_000_000
  pub small : All IsSmall entries
  pub bought_is : bought ≡ bought_side entries
  pub sold_is : sold ≡ sold_side entries
  pub pairs_are : pairs ≡ pairs_of entries

-- What is kept is that of these entries.
pub record IsReckoned (entries : List Entry) (bought sold : Paired) (pairs : List Pair) (adjustments : ℤ)
    : Type 0 where
  pub sides : AreSides entries bought sold pairs
  pub adjustments_are : adjustments ≡ adjustments_of entries

-- There is a mark for each multiple of 256 entries but 0.
pub record AreCheckpoints (entries : List Entry) (marks : List Mark) : Type 0 where
  pub count : length marks ≡ length entries / 256
  pub each : (k : ℕ) (d : Mark) → k < length marks
      → slice_index_or marks k d ≡ mark_of (take (256 * (k + 1)) entries)

-- The marks where the number of entries may be a multiple of 256.
abbrev pub with_checkpoint : List Entry → List Mark → List Mark
with_checkpoint entries marks = if length entries % 256 == 0 then marks ++ mark_of entries ∷ [] else marks

-- One list stands at the begin of another.
pub record Begins {X : Type 0} (one other : List X) : Type 0 where
  pub rest : List X
  pub is_longer : other ≡ one ++ rest
