-- A list in chunks: how many entries a chunk may have, and for how many more entries there is memory.
use Rattle.std.specs.Prelude.{◌≡◌, ℕ, ◌+◌, ◌-◌, ◌*◌, ◌^◌, ◌<◌, ◌≤◌, nat_le, min, max, if◌then◌else◌, ⊤}
use Rattle.std.specs.Prelude.{List, [], ◌∷◌, ◌++◌, length}
use Rattle.std.specs.List.{flat_map}
use Rattle.book_seq.specs.declared.spot.Spot.{Spot}

-- What contracts see of a list in chunks: its entries, how many chunks it has, and how many entries may be put in
-- before memory is asked for again.
pub record Listed (E : Type 0) : Type 0 where
  pub list : List E
  pub chunks : ℕ
  pub spare : ℕ

-- A chunk: its entries, and how many its memory can hold.
pub record Piece (E : Type 0) : Type 0 where
  pub entries : List E
  pub room : ℕ

-- The list that the chunks hold: their entries one after another.
abbrev pub list_of : {E : Type 0} → List (Piece E) → List E
list_of pieces = flat_map (λ piece. piece.entries) pieces

-- Each chunk has at most 512 entries, and each but the last has at least 256.
abbrev pub ArePacked : {E : Type 0} → List (Piece E) → Type 0
ArePacked [] = ⊤
ArePacked (piece ∷ []) = length piece.entries ≤ 512
ArePacked (piece ∷ next ∷ more) =
    (256 ≤ length piece.entries) × ((length piece.entries ≤ 512) × ArePacked (next ∷ more))

-- Each chunk has memory for 512 entries.
abbrev pub AreRoomy : {E : Type 0} → List (Piece E) → Type 0
AreRoomy [] = ⊤
AreRoomy (piece ∷ more) = (512 ≤ piece.room) × AreRoomy more

-- No chunk has an entry.
abbrev pub AreEmpty : {E : Type 0} → List (Piece E) → Type 0
AreEmpty [] = ⊤
AreEmpty (piece ∷ more) = (piece.entries ≡ []) × AreEmpty more

-- How many entries the memory of the first chunk can hold.
abbrev pub first_room : {E : Type 0} → List (Piece E) → ℕ
first_room [] = 0
first_room (piece ∷ more) = piece.room

-- For how many more entries there is memory. One chunk alone grows with its entries up to 512. Where there are more,
-- in use or free, an entry takes at most one free chunk; and as each chunk in use but the last has 256 entries, so
-- many chunks in all are enough for 256 times as many entries.
abbrev pub spare_of : ℕ → ℕ → ℕ → ℕ → ℕ
spare_of used free room len =
    if nat_le (used + free) 1 then min 512 room - len else max free (256 * (used + free) - len)

-- What holds of the chunks in use, the free chunks and the count of entries.
pub record AreSound {E : Type 0} (used free : List (Piece E)) (len : ℕ) : Type 0 where
  pub packed : ArePacked used
  pub roomy : 2 ≤ length used + length free → AreRoomy used × AreRoomy free
  pub empty : AreEmpty free
  pub first : length used ≡ 0 → length free ≡ 0
  pub few : length used + length free ≤ 2 ^ 54
  pub counted : len ≡ length (list_of used)

-- A place of the list, by the chunk where it is and how many entries of the chunk stand before it.
pub record IsAt {E : Type 0} (pieces : List (Piece E)) (place : ℕ) (spot : Spot) : Type 0 where
  pub before : List (Piece E)
  pub here : Piece E
  pub after : List (Piece E)
  pub parts : pieces ≡ before ++ here ∷ after
  pub chunk : spot.chunk ≡ length before
  pub place_is : place ≡ length (list_of before) + spot.offset
  pub within : spot.offset ≤ length here.entries
  pub below : place < length (list_of pieces) → spot.offset < length here.entries

-- Each chunk has 256 to 512 entries.
abbrev pub AreFull : {E : Type 0} → List (Piece E) → Type 0
AreFull [] = ⊤
AreFull (piece ∷ more) = (256 ≤ length piece.entries) × ((length piece.entries ≤ 512) × AreFull more)

-- The chunk at a place has one entry too few, and all else is as it should be.
pub record IsShort {E : Type 0} (pieces : List (Piece E)) (place : ℕ) : Type 0 where
  pub before : List (Piece E)
  pub here : Piece E
  pub next : Piece E
  pub after : List (Piece E)
  pub parts : pieces ≡ before ++ here ∷ next ∷ after
  pub place_is : place ≡ length before
  pub full : AreFull before
  pub low : length here.entries ≡ 255
  pub packed : ArePacked (next ∷ after)
