-- Worked rows: sums of a few entries, and the room of lists of a few sizes.
use Rattle.std.proofs.Common.{◌≡◌, ℕ, [], ◌∷◌, pos, negsuc, ◌-ℤ◌, take, refl}
use Rattle.book_seq.specs.Chunks.{spare_of}
use Rattle.book_seq.specs.Sums.{listed, no_sums, sums_of}
use Rattle.book_seq.specs.declared.sums.Sums.{Sums}

-- an entry n weighs n, nothing and minus n
abbrev weights : ℕ → Sums
weights n = record { first = pos n; second = pos 0; third = pos 0 -ℤ pos n }

-- of 5, 7 and 2 the first two weigh 12, nothing and minus 12
two_of_three : listed (sums_of weights (take 2 (5 ∷ 7 ∷ 2 ∷ []))) ≡ pos 12 ∷ pos 0 ∷ negsuc 11 ∷ []
two_of_three = refl

none_of_three : sums_of weights (take 0 (5 ∷ 7 ∷ 2 ∷ [])) ≡ no_sums
none_of_three = refl

-- no chunk: no room
room_of_new : spare_of 0 0 0 0 ≡ 0
room_of_new = refl

-- a chunk alone of 3 entries with memory for 8 has room for 5; full with 512 it has none
room_of_one : spare_of 1 0 8 3 ≡ 5
room_of_one = refl

room_of_full : spare_of 1 0 1024 512 ≡ 0
room_of_full = refl

-- two full chunks and a free one: one entry may come; with three free ones 256 may come
room_of_two : spare_of 2 1 512 1024 ≡ 1
room_of_two = refl

room_of_many : spare_of 2 3 512 1024 ≡ 256
room_of_many = refl
