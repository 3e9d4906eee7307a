-- The text of a day is plain text, so it is UTF-8.
use Rattle.std.proofs.Common.{ℕ, zero, suc, All, List, [], ◌∷◌, inl, inr, arith}
use Rattle.std.specs.Str.{IsAscii}
use Rattle.std.proofs.lemmas.List.Elements.{All-head, All-tail}
use Rattle.book_commodity.specs.Day.{IsDayByte}

pub day_bytes_are_ascii : (bytes : List ℕ) → All IsDayByte bytes → IsAscii bytes
day_bytes_are_ascii [] all i = omega arith
day_bytes_are_ascii (byte ∷ more) all zero =
    elim (All-head IsDayByte byte more all) [ inl digit ↦ omega (arith, digit) | inr hyphen ↦ omega (arith, hyphen) ]
day_bytes_are_ascii (byte ∷ more) all (suc i) = day_bytes_are_ascii more (All-tail IsDayByte byte more all) i
