-- Currencies among the commodities of a book.
use Rattle.std.specs.Prelude.{ℕ, ◌≤◌, ◌^◌, nat_eq, Bool, ◌&&◌, List, [], ◌∷◌, Option, Some, None, if◌then◌else◌, All}
use Rattle.std.specs.Option.{option_or}
use lib.Pointwise.{pointwise}
use Rattle.book_commodity.specs.declared.commodity.Commodity.{Commodity}
use Rattle.book_commodity.specs.Currency.{is_currency}

-- whether a commodity is the currency with this code
abbrev pub is_currency_named : List ℕ → Commodity → Bool
is_currency_named code commodity = is_currency commodity && pointwise nat_eq commodity.name code

-- the fraction of a commodity, where it is the currency with this code
abbrev pub fraction_if : List ℕ → ℕ × Commodity → Option ℕ
fraction_if code entry = if is_currency_named code entry.1 then Some entry.1.fraction else None

-- how many smallest units make one unit of the currency with this code; none where the book has no such currency
unfoldable pub fraction_of : List ℕ → List (ℕ × Commodity) → Option ℕ
fraction_of code [] = None
fraction_of code (e ∷ es) = option_or (fraction_if code e) (fraction_of code es)

-- a fraction is from 1 to 10^9
abbrev pub IsFraction : ℕ → Type 0
IsFraction fraction = (1 ≤ fraction) × (fraction ≤ 10 ^ 9)

-- each commodity has such a fraction
abbrev pub HaveFractions : List (ℕ × Commodity) → Type 0
HaveFractions entries = All (λ e. IsFraction e.1.fraction) entries
