-- The words of a row's bytes.
use Rattle.std.specs.Prelude.{ℕ, ◌/◌, ◌%◌, ◌^◌, ℤ, Bool, true, false, List, [], ◌∷◌, ◌++◌, length, Option, None, Some}
use Rattle.std.specs.Int.{w64, w128, to_be_bytes, cast_unsigned}
use Rattle.std.specs.List.{flat_map}

-- A number below 2 ^ 64 as eight bytes, the most significant first.
unfoldable pub number : ℕ → List ℕ
number n = to_be_bytes w64 n

-- A signed number of 64 bits as eight bytes in two's complement, the most significant first.
unfoldable pub signed : ℤ → List ℕ
signed z = to_be_bytes w64 (cast_unsigned w64 z)

-- A signed number of 128 bits as sixteen bytes in two's complement: the upper eight and then the lower eight, the most
-- significant first.
unfoldable pub wide : ℤ → List ℕ
wide z = number (cast_unsigned w128 z / 2 ^ 64) ++ number (cast_unsigned w128 z % 2 ^ 64)

-- A truth value as one byte, 1 or 0.
unfoldable pub flag : Bool → List ℕ
flag true = 1 ∷ []
flag false = 0 ∷ []

-- A text as the number of its bytes and its bytes.
unfoldable pub string : List ℕ → List ℕ
string bytes = number (length bytes) ++ bytes

-- What may be absent: the byte 0, or the byte 1 and then the value.
unfoldable pub optional : {T : Type 0} → (T → List ℕ) → Option T → List ℕ
optional spelling None = 0 ∷ []
optional spelling (Some value) = 1 ∷ spelling value

-- A list as the number of its items and then the items.
unfoldable pub listed : {T : Type 0} → (T → List ℕ) → List T → List ℕ
listed spelling items = number (length items) ++ flat_map spelling items
