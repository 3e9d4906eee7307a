-- The rules that each price of a book keeps.
use Rattle.std.specs.Prelude.{ℕ, ◌^◌, ◌==◌, not, Bool, ◌&&◌, List, [], ◌∷◌}
use Rattle.book_commodity.specs.Currency.{is_currency_of}
use Rattle.book_commodity.specs.Rules.{stands_before}
use Rattle.book_commodity.specs.Table.{value_of}
use Rattle.book_commodity.specs.declared.commodity.Commodity.{Commodity}
use Rattle.book_prices.specs.Rate.{is_same}
use Rattle.book_prices.specs.declared.price.Price.{Price}
use Rattle.book_sound.specs.Tests.{is_live, is_within}

-- Whether both numbers of a price are from 1 to 10^9 (a limit of this project).
abbrev pub has_ratio : Price → Bool
has_ratio price = is_within 1 (10 ^ 9) price.num && is_within 1 (10 ^ 9) price.denom

-- Whether a price is of two commodities: what one is worth in itself needs no price.
abbrev pub has_pair : Price → Bool
has_pair price = not (price.commodity == price.currency)

-- The rules of a price: its commodity is in the book; its currency is, and is one; its numbers are in range; it is of
-- two commodities; and no price before it is of the same commodity, currency and day (GnuCash SQL schema, table
-- prices; GnuCash Concepts Guide, the price database).
abbrev pub price_rules : List (ℕ × Commodity) → List (ℕ × Price) → ℕ → Price → List Bool
price_rules commodities prices number price =
    is_live commodities price.commodity
    ∷ is_currency_of (value_of price.currency commodities)
    ∷ has_ratio price
    ∷ has_pair price
    ∷ not (stands_before (is_same price) number prices)
    ∷ []
