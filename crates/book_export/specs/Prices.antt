-- Prices as the journal has them (ledger 3 manual, price database; hledger manual, P directive).
use Rattle.std.specs.Prelude.{ℕ, ◌*◌, ◌/◌, ◌%◌, ◌==◌, List, [], ◌∷◌, ◌++◌, ℤ, pos, codes, find, Option, Some, None}
use Rattle.std.specs.Fmt.{decimal}
use Rattle.book_commodity.specs.Amount.{amount_text, powers_of_ten}
use Rattle.book_commodity.specs.Day.{day_text}
use Rattle.book_commodity.specs.Table.{value_of}
use Rattle.book_commodity.specs.declared.commodity.Commodity.{Commodity}
use Rattle.book_prices.specs.declared.price.Price.{Price}
use Rattle.book_export.specs.Symbols.{symbol, units}

-- The least power of ten that makes a quotient whole, if it has at most 19 decimals.
unfoldable pub power_for : ℕ → ℕ → Option ℕ
power_for num denom = find (λ power. num * power % denom == 0) powers_of_ten

-- How the line of a price begins: where no decimal number is exact it is a comment, since both programs take a decimal
-- number alone.
abbrev pub price_start : Option ℕ → List ℕ
price_start (Some _) = codes "P "
price_start None = codes "; P "

-- What one unit is worth: the exact decimal number, or the quotient where there is none.
abbrev pub price_number : Option ℕ → ℕ → ℕ → List ℕ
price_number (Some power) num denom = amount_text (pos (num * power / denom)) power
price_number None num denom = decimal num ++ 47 ∷ decimal denom

-- The quotient of a price, in the units that the journal counts of its currency and of its commodity.
abbrev pub num_of : Commodity → Price → ℕ
num_of currency price = price.num * units currency.fraction

abbrev pub denom_of : Commodity → Price → ℕ
denom_of commodity price = price.denom * units commodity.fraction

-- The line with a quotient: the day, the commodity, and what one unit of it is worth in the currency.
abbrev pub quotient_line : Commodity → Commodity → ℤ → ℕ → ℕ → List ℕ
quotient_line commodity currency day num denom =
    price_start (power_for num denom) ++ day_text day ++ 32 ∷ symbol commodity ++ 32
    ∷ price_number (power_for num denom) num denom ++ 32 ∷ symbol currency ++ 10 ∷ []

-- The line of a price of a commodity in a currency.
abbrev pub price_of : Commodity → Commodity → Price → List ℕ
price_of commodity currency price =
    quotient_line commodity currency price.day (num_of currency price) (denom_of commodity price)

-- The same of a price that is given, if both are in the book.
abbrev pub price_between : Option Commodity → Option Commodity → Price → List ℕ
price_between (Some commodity) (Some currency) price = price_of commodity currency price
price_between _ _ price = []

unfoldable pub price_line : List (ℕ × Commodity) → Price → List ℕ
price_line commodities price =
    price_between (value_of price.commodity commodities) (value_of price.currency commodities) price
