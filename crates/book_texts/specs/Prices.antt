-- The answers of the commands on prices, each with the version after it.
use Rattle.std.specs.Prelude.{◌≡◌, ℕ, [], ◌∷◌, codes, Option, false, refl}
use Rattle.serde_json.specs.Data.{Data, Members}
use Rattle.serde_json.specs.Written.{has_float}
use Rattle.book_command.specs.declared.answer.Ratio.{Ratio}
use Rattle.book_command.specs.declared.word.Word.TheVariants.{Price, PriceDrop, PriceSet}
use Rattle.book_texts.specs.Fields.{answered}
use Rattle.book_texts.specs.Shown.{list_data, number_data, option_data}

-- `price_set`: the number of the price.
abbrev pub price_set : ℕ → ℕ → Members
price_set price = answered PriceSet ((codes "price", number_data price) ∷ [])

-- `price_drop` has no field of its own.
abbrev pub price_drop : ℕ → Members
price_drop = answered PriceDrop []

-- A rate: how many units of the currency so many units of the commodity are worth.
abbrev pub rate_data : Ratio → Data
rate_data rate = list_data number_data (rate.num ∷ rate.denom ∷ [])

-- No number of a rate has a fraction.
pub rate-plain : (rate : Ratio) → has_float (rate_data rate) ≡ false
rate-plain rate = refl

-- `price`: the rate; null where there is none.
abbrev pub price : Option Ratio → ℕ → Members
price rate = answered Price ((codes "rate", option_data rate_data rate) ∷ [])
