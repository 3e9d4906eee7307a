-- What reading gives.
use Rattle.std.specs.Prelude.{◌≡◌, Result, Ok, Err, ⊤}
use Rattle.book_codec.specs.declared.error.DecodeError.{DecodeError}
use Rattle.book_codec.specs.declared.error.DecodeError.TheVariants.{Bad, OutOfMemory}

-- The program is out of memory, and the bytes are not bad.
abbrev pub IsMemory : DecodeError → Type 0
IsMemory Bad = ⊥
IsMemory OutOfMemory = ⊤

-- The result is Ok with this value, as far as it is seen, unless the program is out of memory. In no case is it Bad.
abbrev pub Gives : {X Y : Type 0} → (X → Y) → Result X DecodeError → Y → Type 0
Gives view (Ok x) y = view x ≡ y
Gives view (Err error) y = IsMemory error
