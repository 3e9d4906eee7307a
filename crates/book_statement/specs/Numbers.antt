-- Digits and amounts in statement files.
use Rattle.std.specs.Prelude.{
  ℕ,
  ◌+◌,
  ◌-◌,
  ◌*◌,
  ◌/◌,
  ◌%◌,
  ◌^◌,
  ◌==◌,
  nat_le,
  Bool,
  ◌&&◌,
  List,
  [],
  ◌∷◌,
  ◌++◌,
  length,
}
use Rattle.std.specs.Char.{is_ascii_digit}
use Rattle.std.specs.List.{list_all}
use Rattle.book_statement.specs.declared.bad.Bad.TheVariants.{TooManyDecimals, AmountForm}
use Rattle.book_statement.specs.Checks.{Check, check}

-- only digits, from `least` to `most` of them
abbrev pub has_digits : ℕ → ℕ → List ℕ → Bool
has_digits least most text =
    nat_le least (length text) && nat_le (length text) most && list_all is_ascii_digit text

-- the number that digits spell: the sum of each digit times ten to the number of digits behind it
unfoldable pub number : List ℕ → ℕ
number [] = 0
number (digit ∷ digits) = (digit - 48) * 10 ^ length digits + number digits

-- the largest amount: 10^12 smallest units, a limit of this project
abbrev pub largest_amount : ℕ
largest_amount = 1_000_000_000_000

-- how many 10^k-th parts of a smallest unit a decimal number with k decimals is
abbrev pub fine_units : List ℕ → List ℕ → ℕ → ℕ
fine_units whole decimals fraction = number (whole ++ decimals) * fraction

-- a decimal number in smallest units of a commodity with this fraction
unfoldable pub units : List ℕ → List ℕ → ℕ → ℕ
units whole decimals fraction = fine_units whole decimals fraction / 10 ^ length decimals

-- it has to be a whole number of smallest units, and not above the largest amount
unfoldable pub unit_checks : List ℕ → List ℕ → ℕ → List Check
unit_checks whole decimals fraction =
    check (fine_units whole decimals fraction % 10 ^ length decimals == 0) TooManyDecimals
    ∷ check (nat_le (units whole decimals fraction) largest_amount) AmountForm ∷ []
