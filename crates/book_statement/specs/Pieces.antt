-- Pieces of a text by their places, counted in characters (UTF-8, RFC 3629).
use Rattle.std.specs.Prelude.{
  ℕ,
  zero,
  suc,
  ◌-◌,
  nat_le,
  nat_lt,
  Bool,
  ◌&&◌,
  List,
  [],
  ◌∷◌,
  length,
  take,
  if◌then◌else◌,
}

-- a byte that goes on with a character, which an earlier byte has begun
abbrev pub is_continuation : ℕ → Bool
is_continuation byte = nat_le 128 byte && nat_lt byte 192

-- the bytes from the next character on
abbrev pub past_continuations : List ℕ → List ℕ
past_continuations [] = []
past_continuations (b ∷ bs) = if is_continuation b then past_continuations bs else b ∷ bs

-- what stands behind the first n characters
abbrev pub after_chars : ℕ → List ℕ → List ℕ
after_chars zero text = text
after_chars (suc n) [] = []
after_chars (suc n) (b ∷ bs) = after_chars n (past_continuations bs)

-- the first n characters
abbrev pub first_chars : ℕ → List ℕ → List ℕ
first_chars n text = take (length text - length (after_chars n text)) text
