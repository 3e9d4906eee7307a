-- The rate between two commodities on a day, from all prices (GnuCash Concepts Guide, the price database).
use Rattle.std.specs.Prelude.{◌≡◌, ℕ, ◌==◌, ◌&&◌, ℤ, ◌≤ℤ◌, Bool, true, false, List, [], ◌∷◌, All, ⊤, Contains, map}
use Rattle.std.specs.Prelude.{Option, Some, None, IsNone, IsSomeAnd, MatchBool, ◌⊎◌}
use Rattle.std.specs.Ordering.{int_eq}
use Rattle.std.specs.Int.{IsInRange}
use Rattle.book_commodity.specs.Table.{value_of}
use Rattle.book_commodity.specs.declared.rate.Rate.{Rate}
use Rattle.book_prices.specs.declared.price.Price.{Price}

-- A price of the pair, on or before the day.
abbrev pub IsOf : ℕ → ℕ → ℤ → Price → Type 0
IsOf commodity currency day price = (price.commodity ≡ commodity) × (price.currency ≡ currency) × (price.day ≤ℤ day)

-- The last price of the pair on or before the day: one of the prices, and none of them is later.
pub record IsLast (prices : List (ℕ × Price)) (commodity currency : ℕ) (day : ℤ) (price : Price) : Type 0 where
  pub of_pair : IsOf commodity currency day price
  pub there : Contains (map (λ entry. entry.1) prices) price
  pub last : All (λ entry. IsOf commodity currency day entry.1 → entry.1.day ≤ℤ price.day) prices

-- The pair has no price on or before the day.
abbrev pub HasNone : List (ℕ × Price) → ℕ → ℕ → ℤ → Type 0
HasNone prices commodity currency day = All (λ entry. IsOf commodity currency day entry.1 → ⊥) prices

-- The last price of the pair on or before the day, if it has one.
abbrev pub IsBest : List (ℕ × Price) → ℕ → ℕ → ℤ → Option Price → Type 0
IsBest prices commodity currency day None = HasNone prices commodity currency day
IsBest prices commodity currency day (Some price) = IsLast prices commodity currency day price

-- A rate of num to denom.
abbrev pub IsRatio : ℕ → ℕ → Rate → Type 0
IsRatio num denom rate = (rate.num ≡ num) × (rate.denom ≡ denom)

-- The rate of two commodities that differ: the last price of the pair; else the last price of the swapped pair,
-- turned over; else none.
abbrev pub IsPairRate : List (ℕ × Price) → ℕ → ℕ → ℤ → Option Rate → Type 0
IsPairRate prices commodity currency day rate =
    ((price : Price) × IsLast prices commodity currency day price × IsSomeAnd rate (IsRatio price.num price.denom))
    ⊎ (((price : Price) × HasNone prices commodity currency day × IsLast prices currency commodity day price
    × IsSomeAnd rate (IsRatio price.denom price.num))
    ⊎ (HasNone prices commodity currency day × HasNone prices currency commodity day × IsNone rate))

-- The rate on a day: one to one between a commodity and itself, else that of the pair.
abbrev pub IsRate : List (ℕ × Price) → ℕ → ℕ → ℤ → Option Rate → Type 0
IsRate prices commodity currency day rate =
    MatchBool (commodity == currency) (IsSomeAnd rate (IsRatio 1 1)) (IsPairRate prices commodity currency day rate)

-- The numbers of a price are from 1 to 10 ^ 9.
abbrev pub IsSound : Price → Type 0
IsSound price = IsInRange 1 1_000_000_000 price.num × IsInRange 1 1_000_000_000 price.denom

-- Two prices of one commodity, one currency and one day.
abbrev pub is_same : Price → Price → Bool
is_same one other = (one.commodity == other.commodity) && ((one.currency == other.currency) && int_eq one.day other.day)

-- There is one price for each commodity, currency and day (GnuCash Concepts Guide, the price database).
abbrev pub AreOnce : List (ℕ × Price) → Type 0
AreOnce [] = ⊤
AreOnce (entry ∷ more) = All (λ other. is_same other.1 entry.1 ≡ false) more × AreOnce more

-- The prices of a book: each is sound, and there is one for each commodity, currency and day.
abbrev pub AreKept : List (ℕ × Price) → Type 0
AreKept prices = All (λ entry. IsSound entry.1) prices × AreOnce prices

-- The number under which a price of the same commodity, currency and day stands, if there is one.
abbrev pub IsSame : List (ℕ × Price) → Price → Option ℕ → Type 0
IsSame prices price None = All (λ entry. is_same entry.1 price ≡ false) prices
IsSame prices price (Some number) =
    (other : Price) × (value_of number prices ≡ Some other) × (is_same other price ≡ true)
