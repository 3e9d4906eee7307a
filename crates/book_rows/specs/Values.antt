-- The values that have a spelling, by the words of a row.
use Rattle.std.specs.Prelude.{ℕ, ◌^◌, ◌<◌, ℤ, Bool, List, length, FitsSigned}
use Rattle.std.specs.Int.{w64, w128}
use Rattle.std.specs.Str.{IsUtf8}
use Rattle.std.specs.List.{AllByRecursion}

-- A number of 64 bits.
abbrev pub IsNumber : ℕ → Type 0
IsNumber n = n < 2 ^ 64

-- A number of 32 bits.
abbrev pub IsShort : ℕ → Type 0
IsShort n = n < 2 ^ 32

-- A signed number of 64 bits.
abbrev pub IsSigned : ℤ → Type 0
IsSigned = FitsSigned w64

-- A signed number of 128 bits.
abbrev pub IsWide : ℤ → Type 0
IsWide = FitsSigned w128

-- Each truth value.
abbrev pub IsFlag : Bool → Type 0
IsFlag b = Unit {0}

-- A text in UTF-8.
abbrev pub IsString : List ℕ → Type 0
IsString bytes = IsUtf8 bytes × (length bytes < 2 ^ 64)

-- A list of values that have a spelling.
abbrev pub AreItems : {T : Type 0} → (T → Type 0) → List T → Type 0
AreItems IsItem items = (length items < 2 ^ 64) × AllByRecursion IsItem items
