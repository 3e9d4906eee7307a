-- The answers of the commands on commodities, each with the version after it.
use Rattle.std.specs.Prelude.{ℕ, [], ◌∷◌, codes}
use Rattle.serde_json.specs.Data.{Members}
use Rattle.book_command.specs.declared.word.Word.TheVariants.{BookCurrency, CommodityAdd}
use Rattle.book_texts.specs.Fields.{answered}
use Rattle.book_texts.specs.Shown.{number_data}

-- `book_currency` has no field of its own.
abbrev pub book_currency : ℕ → Members
book_currency = answered BookCurrency []

-- `commodity_add`: the number of the new commodity.
abbrev pub commodity_add : ℕ → ℕ → Members
commodity_add commodity = answered CommodityAdd ((codes "commodity", number_data commodity) ∷ [])
