-- The sums of an account by currency, as a trial balance keeps them while it goes through the currencies.
use Rattle.std.specs.Prelude.{◌≡◌, ℕ, ◌==◌, ◌≤◌, ℤ, pos, ◌+ℤ◌, unsigned_abs, if◌then◌else◌, List, Option, IsSome}
use Rattle.std.specs.Prelude.{unwrap_or}
use Rattle.book_accounts.specs.Path.{path}
use Rattle.book_commodity.specs.Table.{value_of}
use Rattle.book_register.specs.declared.entry.Entry.{Entry}
use Rattle.book_undo.specs.Book.{Book}
use Rattle.book_limits.specs.Limits.{largest_sum}
use Rattle.book_reports.specs.Measure.{value_in, value_of_rows}
use Rattle.book_reports.specs.declared.period.Period.{Period}
use Rattle.book_reports.specs.Trial.{line_with}
use Rattle.book_reports.specs.declared.sums.AccountSums.{AccountSums}
use Rattle.book_reports.specs.declared.trial_balance.TrialLine.{TrialLine}

-- The sum that is kept for a currency; zero where there is none.
abbrev pub sum_at : ℕ → List (ℕ × ℤ) → ℤ
sum_at currency sums = unwrap_or (value_of currency sums) (pos 0)

-- The sums are those of the values of these rows, in each currency.
pub record AreSums (rows : List Entry) (sums : List (ℕ × ℤ)) : Type 0 where
  pub each : (currency : ℕ) → sum_at currency sums ≡ value_of_rows currency rows

-- A value is added to the sum in its currency, and the others stay.
pub record IsAdded (currency : ℕ) (value : ℤ) (old new : List (ℕ × ℤ)) : Type 0 where
  pub each : (other : ℕ) → sum_at other new ≡ sum_at other old +ℤ (if currency == other then value else pos 0)

-- The sums of an account of the book are what it changes by in a period, in each currency.
pub record IsSummed (book : Book) (period : Period) (sums : AccountSums) : Type 0 where
  pub there : IsSome (value_of sums.account book.accounts)
  pub small : (currency : ℕ) → unsigned_abs (sum_at currency sums.by_currency.entries) ≤ largest_sum
  pub each : (currency : ℕ) → sum_at currency sums.by_currency.entries ≡ value_in book period currency sums.account

-- The line of an account in a currency, by the sum that is kept for it.
abbrev pub line_by : Book → ℕ → AccountSums → Option TrialLine
line_by book currency sums =
    line_with (path book.accounts sums.account) (sum_at currency sums.by_currency.entries)
