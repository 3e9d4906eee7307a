-- What a report measures: the sum of an account over a period, and what it is worth in the currency of the book.
use Rattle.std.specs.Prelude.{ℕ, ◌&&◌, ◌==◌, ℤ, pos, int_le, Bool, true, if◌then◌else◌, List, [], filter, map}
use Rattle.std.specs.Prelude.{◌≤◌, unsigned_abs, length, All, Option, Some, None}
use Rattle.std.specs.Option.{option_map_or}
use Rattle.std.specs.Ordering.{int_eq}
use Rattle.book_commodity.specs.Amount.{scaled}
use Rattle.book_commodity.specs.Table.{value_of}
use Rattle.book_commodity.specs.declared.commodity.Commodity.{Commodity}
use Rattle.book_command.specs.declared.answer.Ratio.{Ratio}
use Rattle.book_ledger.specs.Ledger.{register_of}
use Rattle.book_prices.specs.Worth.{shown}
use Rattle.book_prices.specs.declared.valuation.Valuation.{Valuation}
use Rattle.book_prices.specs.declared.valuation.Valuation.TheVariants.{Amount, NoPrice}
use Rattle.book_register.specs.Register.{balance}
use Rattle.book_register.specs.declared.entry.Entry.{Entry}
use Rattle.book_splits.specs.Balance.{total}
use Rattle.book_command.specs.Rates.{rate_on}
use Rattle.book_undo.specs.Book.{Book}
use Rattle.book_limits.specs.Limits.{largest_split_amount}
use Rattle.book_reports.specs.declared.period.Period.{Period}

-- How many smallest units make one unit of the commodity with a number; 1, where there is no such commodity.
abbrev pub fraction_of : List (ℕ × Commodity) → ℕ → ℕ
fraction_of commodities number = option_map_or (λ commodity. commodity.fraction) (value_of number commodities) 1

-- The name of the commodity with a number; empty, where there is no such commodity.
abbrev pub name_of : List (ℕ × Commodity) → ℕ → List ℕ
name_of commodities number = option_map_or (λ commodity. commodity.name) (value_of number commodities) []

-- The commodity of the account with a number; 0, where there is no such account.
abbrev pub commodity_of : Book → ℕ → ℕ
commodity_of book account = option_map_or (λ a. a.commodity) (value_of account book.accounts) 0

-- Whether a day is on or after the first day of a period, if the period has one.
abbrev pub is_begun : Option ℤ → ℤ → Bool
is_begun None day = true
is_begun (Some first) day = int_le first day

-- Whether a day lies in a period: on or after its first day, and on or before its last.
abbrev pub is_in : Period → ℤ → Bool
is_in period day = is_begun period.from day && int_le day period.to

-- The rows of a register that lie in a period.
abbrev pub rows_in : Period → List Entry → List Entry
rows_in period rows = filter (λ row. is_in period row.day) rows

-- The rows of a register are so few, and their amounts so small, that they can be added up.
pub record CanBeSummed (rows : List Entry) : Type 0 where
  pub few : length rows ≤ 1000000
  pub small : All (λ row. (unsigned_abs row.value ≤ largest_split_amount)
      × (unsigned_abs row.quantity ≤ largest_split_amount)) rows

-- What an account changes by in a period, which without a first day is its balance at the last: the sum of the
-- quantities of its rows (GnuCash Concepts Guide, account registers).
unfoldable pub sum_in : Book → Period → ℕ → ℤ
sum_in book period account = balance (rows_in period (register_of account book.transactions))

-- The sum of the values of those rows that stand in a currency of transactions.
abbrev pub value_of_rows : ℕ → List Entry → ℤ
value_of_rows currency rows = total (map (λ row. row.value) (filter (λ row. row.currency == currency) rows))

-- What an account changes by in a period in one currency of transactions.
unfoldable pub value_in : Book → Period → ℕ → ℕ → ℤ
value_in book period currency account =
    value_of_rows currency (rows_in period (register_of account book.transactions))

-- What an amount is worth at a rate; without one there is no price for it.
abbrev pub worth_by : ℤ → Option Ratio → ℕ → ℕ → Valuation
worth_by amount None from_fraction to_fraction = NoPrice
worth_by amount (Some rate) from_fraction to_fraction =
    shown (scaled amount rate.num rate.denom from_fraction to_fraction)

-- What an amount of a commodity is worth on a day in the currency of the book; zero is worth zero, also without a price
-- (GnuCash Concepts Guide, the price database).
unfoldable pub worth : Book → ℤ → ℕ → ℤ → Valuation
worth book day commodity amount =
    if int_eq amount (pos 0) then Amount (pos 0)
    else worth_by amount (rate_on book.prices commodity book.currency day) (fraction_of book.commodities commodity)
    (fraction_of book.commodities book.currency)
