-- The bytes of prices.
use Rattle.std.specs.Prelude.{ℕ, ℤ, List, ◌++◌}
use Rattle.book_commodity.specs.Day.{IsDay}
use Rattle.book_codec.specs.Words.{number, signed}
use Rattle.book_rows.specs.Values.{IsNumber}
use Rattle.book_prices.specs.declared.price.Price.{Price}

-- A price: its commodity, its currency, its day, and its two numbers.
abbrev pub price_bytes : Price → List ℕ
price_bytes it =
    number it.commodity ++ (number it.currency ++ (signed it.day ++ (number it.num ++ number it.denom)))

-- A price that has a spelling: its day is one of 1900 to 2199, and its numbers are of 64 bits.
abbrev pub IsPrice : Price → Type 0
IsPrice it =
    IsNumber it.commodity × (IsNumber it.currency × (IsDay it.day × (IsNumber it.num × IsNumber it.denom)))

-- The price whose fields these are, in the order of its bytes.
abbrev pub price_made : (ℕ × (ℕ × (ℤ × (ℕ × ℕ)))) → Price
price_made fields =
    record {
      commodity = fields.0;
      currency = fields.1.0;
      day = fields.1.1.0;
      num = fields.1.1.1.0;
      denom = fields.1.1.1.1;
    }
