-- What a balance is worth in another commodity (GnuCash Concepts Guide, the price database).
use Rattle.std.specs.Prelude.{ℕ, ◌^◌, nat_le, ℤ, pos, unsigned_abs, Option, Some, None, if◌then◌else◌}
use Rattle.std.specs.Ordering.{int_eq}
use Rattle.book_commodity.specs.Amount.{scaled}
use Rattle.book_commodity.specs.declared.rate.Rate.{Rate}
use Rattle.book_prices.specs.declared.valuation.Valuation.{Valuation}
use Rattle.book_prices.specs.declared.valuation.Valuation.TheVariants.{Amount, NoPrice, Over}

-- An amount that is at most 10 ^ 30 in size can be shown.
abbrev pub shown : ℤ → Valuation
shown amount = if nat_le (unsigned_abs amount) (10 ^ 30) then Amount amount else Over

-- The worth of a balance that is not zero: scaled by the rate, where there is one.
abbrev pub worth_at : ℤ → Option Rate → ℕ → ℕ → Valuation
worth_at balance None from_fraction to_fraction = NoPrice
worth_at balance (Some rate) from_fraction to_fraction =
    shown (scaled balance rate.num rate.denom from_fraction to_fraction)

-- The worth of a balance: a balance of zero is worth zero, also without a price.
abbrev pub worth_of : ℤ → Option Rate → ℕ → ℕ → Valuation
worth_of balance rate from_fraction to_fraction =
    if int_eq balance (pos 0) then Amount (pos 0) else worth_at balance rate from_fraction to_fraction
