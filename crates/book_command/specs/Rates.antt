-- The rate on a day, as an answer has it: a search of all prices.
use Rattle.std.specs.Prelude.{ℕ, ◌==◌, ◌&&◌, ◌||◌, not, ℤ, int_le, Bool, if◌then◌else◌, List, find, Option, Some, None}
use Rattle.std.specs.List.{list_all}
use Rattle.book_prices.specs.declared.price.Price.{Price}
use Rattle.book_command.specs.declared.answer.Ratio.{Ratio}

-- Whether a price is of the pair, and on or before the day.
abbrev pub is_price_of : ℕ → ℕ → ℤ → Price → Bool
is_price_of commodity currency day price =
    (price.commodity == commodity) && ((price.currency == currency) && int_le price.day day)

-- Whether it is, and none of these prices which is so too is later.
abbrev pub is_last_price : List (ℕ × Price) → ℕ → ℕ → ℤ → Price → Bool
is_last_price prices commodity currency day price =
    is_price_of commodity currency day price
    && list_all (λ entry. not (is_price_of commodity currency day entry.1) || int_le entry.1.day price.day) prices

-- The last price of the pair on or before the day, if it has one.
abbrev pub last_price : List (ℕ × Price) → ℕ → ℕ → ℤ → Option (ℕ × Price)
last_price prices commodity currency day =
    find (λ entry. is_last_price prices commodity currency day entry.1) prices

-- The rate of a last price of the swapped pair, turned over.
abbrev pub turned_rate : Option (ℕ × Price) → Option Ratio
turned_rate None = None
turned_rate (Some entry) = Some (record { num = entry.1.denom; denom = entry.1.num })

-- The rate of a last price of the pair, or else that of the swapped pair.
abbrev pub pair_rate : Option (ℕ × Price) → Option (ℕ × Price) → Option Ratio
pair_rate (Some entry) swapped = Some (record { num = entry.1.num; denom = entry.1.denom })
pair_rate None swapped = turned_rate swapped

-- What one unit of a commodity is worth in a currency on a day: one to one in itself; else by the last price of the
-- pair; else by the last price of the swapped pair, turned over; else there is no rate (GnuCash Concepts Guide, the
-- price database).
abbrev pub rate_on : List (ℕ × Price) → ℕ → ℕ → ℤ → Option Ratio
rate_on prices commodity currency day =
    if commodity == currency then Some (record { num = 1; denom = 1 })
    else pair_rate (last_price prices commodity currency day) (last_price prices currency commodity day)
