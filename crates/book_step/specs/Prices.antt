-- The commands on prices, and the rules of asking for a rate.
use Rattle.std.specs.Prelude.{ℕ, ◌+◌, ◌==◌, ◌&&◌, not, nat_lt, Bool, if◌then◌else◌}
use Rattle.std.specs.Prelude.{List, [], ◌∷◌, ◌++◌, find, length, Option, Some, None, is_none}
use Rattle.book_commodity.specs.Rules.{broken_where}
use Rattle.book_commodity.specs.Table.{value_of}
use Rattle.book_commodity.specs.declared.counted.Counted.TheVariants.{Prices}
use Rattle.book_commodity.specs.declared.kind.Kind.TheVariants as kind
use Rattle.book_prices.specs.Rate.{is_same}
use Rattle.book_prices.specs.declared.price.Price.{Price}
use Rattle.book_sound.specs.PriceRules.{has_pair, has_ratio}
use Rattle.book_undo.specs.Book.{Book, with_thing, without_thing}
use Rattle.book_undo.specs.declared.thing.Thing.TheVariants as thing
use Rattle.book_undo.specs.declared.thing.ThingKind.TheVariants as thing_kind
use Rattle.book_step.specs.Commodities.{unknown_commodity, wrong_currency}
use Rattle.book_step.specs.Outcome.{Outcome, changing, leaving}
use Rattle.book_step.specs.State.{State}
use Rattle.book_command.specs.declared.answer.Answer.TheVariants as answer
use Rattle.book_command.specs.declared.rule.Rule.{Rule}
use Rattle.book_command.specs.declared.rule.Rule.TheVariants.{Limit, PriceShape, Unknown}

-- A number of the price is not 1 to 10^9 (a limit of this project), or it is of one commodity alone.
abbrev pub price_shape : Price → Option Rule
price_shape price = broken_where (not (has_ratio price && has_pair price)) PriceShape

-- The rules of a price: its commodity and its currency are commodities of the book, its currency is one, and it has the
-- form of a price (GnuCash SQL schema, table prices).
abbrev pub price_rules : Book → Price → List (Option Rule)
price_rules book price =
    unknown_commodity book.commodities price.commodity
    ∷ unknown_commodity book.commodities price.currency
    ∷ wrong_currency book.commodities price.currency
    ∷ price_shape price
    ∷ []

-- A book has at most 1,000,000 prices (a limit of this project).
abbrev pub too_many_prices : List (ℕ × Price) → Option Rule
too_many_prices prices = broken_where (nat_lt 1000000 (length prices + 1)) (Limit Prices 1000000)

-- The price of the same commodity, currency and day, if there is one: it is the only one (GnuCash Concepts Guide, the
-- price database).
abbrev pub price_of_day : List (ℕ × Price) → Price → Option (ℕ × Price)
price_of_day prices price = find (λ entry. is_same price entry.1) prices

-- Whether two prices have the same two numbers.
abbrev pub has_numbers : Price → Price → Bool
has_numbers one other = (one.num == other.num) && (one.denom == other.denom)

-- A price where none of its commodity, currency and day is, under the next number; else in the place of that one, under
-- its number. One that is there already leaves the book as it is.
abbrev pub price_set_at : State → Price → Option (ℕ × Price) → Outcome
price_set_at state price None =
    changing state (price_rules state.book price ++ too_many_prices state.book.prices ∷ [])
    (with_thing state.next (thing.Price price) state.book) 1 (answer.PriceSet state.next)
price_set_at state price (Some old) =
    if has_numbers old.1 price then leaving state (price_rules state.book price) (answer.PriceSet old.0)
    else changing state (price_rules state.book price) (with_thing old.0 (thing.Price price) state.book) 0
    (answer.PriceSet old.0)

abbrev pub price_set : State → Price → Outcome
price_set state price = price_set_at state price (price_of_day state.book.prices price)

-- The book has no price of this number.
abbrev pub unknown_price : List (ℕ × Price) → ℕ → Option Rule
unknown_price prices number = broken_where (is_none (value_of number prices)) (Unknown kind.Price number)

-- The price of a number is deleted.
abbrev pub price_drop : State → ℕ → Outcome
price_drop state number =
    changing state (unknown_price state.book.prices number ∷ []) (without_thing thing_kind.Price number state.book) 0
    answer.PriceDrop

-- ---- the rate on a day

-- The rules of asking for a rate: both are commodities of the book.
abbrev pub rate_rules : Book → ℕ → ℕ → List (Option Rule)
rate_rules book commodity currency =
    unknown_commodity book.commodities commodity ∷ unknown_commodity book.commodities currency ∷ []
