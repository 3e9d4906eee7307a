-- The bytes of commodities.
use Rattle.std.specs.Prelude.{ℕ, List, ◌++◌}
use Rattle.book_codec.specs.Words.{number, string}
use Rattle.book_rows.specs.Values.{IsNumber, IsString}
use Rattle.book_commodity.specs.declared.commodity.Commodity.{Commodity}

-- A commodity: its space, its name, its full name and its fraction.
abbrev pub commodity_bytes : Commodity → List ℕ
commodity_bytes it =
    string it.space ++ (string it.name ++ (string it.full_name ++ number it.fraction))

-- A commodity that has a spelling: its three texts are UTF-8, and its fraction is a number of 64 bits.
abbrev pub IsCommodity : Commodity → Type 0
IsCommodity it =
    IsString it.space × (IsString it.name × (IsString it.full_name × IsNumber it.fraction))

-- The commodity whose fields these are, in the order of its bytes.
abbrev pub commodity_made : (List ℕ × (List ℕ × (List ℕ × ℕ))) → Commodity
commodity_made fields =
    record { space = fields.0; name = fields.1.0; full_name = fields.1.1.0; fraction = fields.1.1.1 }
