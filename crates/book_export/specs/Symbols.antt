-- Commodities as the journal has them: their symbols, their amounts, and the lines that say how many decimals they have
-- (ledger 3 manual, commodities; hledger manual, commodity directive).
use Rattle.std.specs.Prelude.{ℕ, ◌*◌, nat_le, Bool, true, ◌&&◌, if◌then◌else◌, List, [], ◌∷◌, ◌++◌, ℤ, pos, codes}
use Rattle.std.specs.Prelude.{is_some, position}
use Rattle.std.specs.Prelude.{◌==◌, ◌≡◌, Option, Some}
use Rattle.std.specs.Int.{IsInRange}
use Rattle.std.specs.Fmt.{decimal}
use Rattle.std.specs.List.{list_all}
use Rattle.std.specs.Option.{option_map_or}
use Rattle.book_commodity.specs.Amount.{amount_text, powers_of_ten}
use Rattle.book_commodity.specs.Currency.{is_currency}
use Rattle.book_commodity.specs.Table.{value_of}
use Rattle.book_commodity.specs.declared.commodity.Commodity.{Commodity}
use Rattle.book_export.specs.Names.{written}

-- The exponent of a power of ten, and none of another number.
unfoldable pub exponent_of : ℕ → Option ℕ
exponent_of fraction = position (λ power. power == fraction) powers_of_ten

-- Whether amounts with this fraction are decimal numbers of whole units: the fraction is a power of ten.
abbrev pub is_decimal : ℕ → Bool
is_decimal fraction = is_some (exponent_of fraction)

-- How many smallest units make one of the units that the journal counts: those of a fraction that is no power of ten
-- are counted themselves (rule of this project).
abbrev pub counted : ℕ → ℕ
counted fraction = if is_decimal fraction then fraction else 1

-- How many of the units that the journal counts make one whole unit.
abbrev pub units : ℕ → ℕ
units fraction = if is_decimal fraction then 1 else fraction

-- Whether a byte is a capital letter of ASCII.
abbrev pub is_capital : ℕ → Bool
is_capital byte = nat_le 65 byte && nat_le byte 90

-- A text between quotation marks (34).
abbrev pub quoted : List ℕ → List ℕ
quoted text = 34 ∷ (text ++ 34 ∷ [])

-- The symbol of a currency: its name, between quotation marks unless it has capital letters alone.
abbrev pub currency_symbol : List ℕ → List ℕ
currency_symbol name = if list_all is_capital name then name else quoted (written true name)

-- What the units of the journal are of a whole unit, where they aren't that: one of so many parts.
abbrev pub part_of_unit : ℕ → List ℕ
part_of_unit fraction = if is_decimal fraction then [] else codes ":1/" ++ decimal fraction

-- The symbol of another commodity: its space and its name with a colon between them, and the part of a unit that is
-- counted.
abbrev pub long_symbol : Commodity → List ℕ
long_symbol commodity =
    quoted (written true commodity.space ++ 58 ∷ written true commodity.name ++ part_of_unit commodity.fraction)

-- The symbol of a commodity. A currency whose smallest units are no decimals has the long form as well.
abbrev pub symbol : Commodity → List ℕ
symbol commodity =
    if is_decimal commodity.fraction && is_currency commodity then currency_symbol commodity.name
    else long_symbol commodity

-- An amount of a commodity with its symbol behind it.
abbrev pub amount_of : Commodity → ℤ → List ℕ
amount_of commodity amount = amount_text amount (counted commodity.fraction) ++ 32 ∷ symbol commodity

-- The same of the commodity with a number; empty, where there is no such commodity.
unfoldable pub amount_in : List (ℕ × Commodity) → ℕ → ℤ → List ℕ
amount_in commodities number amount =
    option_map_or (λ commodity. amount_of commodity amount) (value_of number commodities) []

-- The line that says how amounts of a commodity are written, by the amount of a thousand units. It is left out where
-- there are no decimals: no such line is read by both programs.
abbrev pub format_line : Commodity → List ℕ
format_line commodity =
    if counted commodity.fraction == 1 then []
    else codes "  format " ++ amount_of commodity (pos (1000 * commodity.fraction)) ++ 10 ∷ []

-- The directive of a commodity.
unfoldable pub commodity_lines : Commodity → List ℕ
commodity_lines commodity =
    codes "commodity " ++ symbol commodity ++ 10 ∷ format_line commodity

-- Each fraction of the commodities is from 1 to 10^9.
abbrev pub AreInRange : List (ℕ × Commodity) → Type 0
AreInRange commodities =
    (number : ℕ) (commodity : Commodity) → value_of number commodities ≡ Some commodity
    → IsInRange 1 1_000_000_000 commodity.fraction
