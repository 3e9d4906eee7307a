-- The commands on commodities.
use Rattle.std.specs.Prelude.{ℕ, ◌+◌, ◌==◌, nat_lt, not, Bool, if◌then◌else◌, List}
use Rattle.std.specs.Prelude.{[], ◌∷◌, length, Option, is_none, option_map, find}
use Rattle.book_commodity.specs.CommodityRules.{has_fraction, has_same_pair}
pub use Rattle.book_commodity.specs.Currency.{is_currency_of}
use Rattle.book_commodity.specs.Rules.{broken_where}
use Rattle.book_commodity.specs.Table.{value_of}
use Rattle.book_commodity.specs.declared.commodity.Commodity.{Commodity}
use Rattle.book_commodity.specs.declared.counted.Counted.TheVariants.{Commodities}
use Rattle.book_commodity.specs.declared.kind.Kind.TheVariants as kind
use Rattle.book_undo.specs.Book.{Book, with_currency, with_thing}
use Rattle.book_undo.specs.declared.thing.Thing.TheVariants as thing
use Rattle.book_step.specs.Outcome.{Outcome, changing, leaving}
use Rattle.book_step.specs.State.{State}
use Rattle.book_command.specs.declared.answer.Answer.TheVariants as answer
use Rattle.book_command.specs.declared.rule.Rule.{Rule}
use Rattle.book_command.specs.declared.rule.Rule.TheVariants.{Unknown, NameTaken, FractionShape, WrongCurrency, Limit}

-- The commodity isn't one of the book's (GnuCash SQL schema, table commodities).
abbrev pub unknown_commodity : List (ℕ × Commodity) → ℕ → Option Rule
unknown_commodity commodities number = broken_where (is_none (value_of number commodities))
    (Unknown kind.Commodity number)

-- The commodity isn't a currency, as the currency of a book must be (GnuCash Manual, book currency).
abbrev pub wrong_currency : List (ℕ × Commodity) → ℕ → Option Rule
wrong_currency commodities number = broken_where (not (is_currency_of (value_of number commodities)))
    (WrongCurrency number)

-- The rules of the book's currency: it is a commodity of the book, and a currency.
abbrev pub currency_rules : Book → ℕ → List (Option Rule)
currency_rules book commodity = unknown_commodity book.commodities commodity
    ∷ wrong_currency book.commodities commodity ∷ []

-- The book's currency becomes a commodity that it has, and that is a currency.
abbrev pub book_currency : State → ℕ → Outcome
book_currency state commodity =
    let rules = currency_rules state.book commodity in
    if commodity == state.book.currency then leaving state rules answer.BookCurrency
    else changing state rules (with_currency commodity state.book) 0 answer.BookCurrency

-- Whether a commodity has the space and the name of another.
abbrev pub is_namesake : Commodity → ℕ × Commodity → Bool
is_namesake commodity entry = has_same_pair commodity entry.1

-- A commodity of the book has the space and the name already (GnuCash SQL schema, commodities: namespace and mnemonic
-- are one commodity's); the rule names the least number of such.
abbrev pub name_taken : List (ℕ × Commodity) → Commodity → Option Rule
name_taken commodities commodity = option_map (λ entry. NameTaken entry.0) (find (is_namesake commodity) commodities)

-- One unit is made of 1 to 10^9 smallest units (a limit of this project).
abbrev pub fraction_shape : Commodity → Option Rule
fraction_shape commodity = broken_where (not (has_fraction commodity)) FractionShape

-- A book has at most 10,000 commodities (a limit of this project).
abbrev pub too_many_commodities : List (ℕ × Commodity) → Option Rule
too_many_commodities commodities = broken_where (nat_lt 10000 (length commodities + 1)) (Limit Commodities 10000)

-- The rules of a new commodity: no other has its space and its name, its fraction is within the limits, and the book
-- has room for it.
abbrev pub add_rules : Book → Commodity → List (Option Rule)
add_rules book commodity = name_taken book.commodities commodity ∷ fraction_shape commodity
    ∷ too_many_commodities book.commodities ∷ []

-- A new commodity, under the next number.
abbrev pub commodity_add : State → Commodity → Outcome
commodity_add state commodity =
    changing state (add_rules state.book commodity)
    (with_thing state.next (thing.Commodity commodity) state.book) 1 (answer.CommodityAdd state.next)
