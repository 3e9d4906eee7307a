-- The commodities and the prices of a book as tables, each with its number, by which commands name it (GnuCash Concepts
-- Guide, commodities and the price database).
use Rattle.std.specs.Prelude.{ℕ, ◌==◌, if◌then◌else◌, List, [], ◌∷◌, map, codes}
use Rattle.std.specs.Fmt.{decimal}
use Rattle.book_commodity.specs.Day.{day_text}
use Rattle.book_commodity.specs.declared.commodity.Commodity.{Commodity}
use Rattle.book_prices.specs.declared.price.Price.{Price}
use Rattle.book_reports.specs.Measure.{name_of}
use Rattle.book_reports.specs.declared.form.Form.{Form}
use Rattle.book_undo.specs.Book.{Book}
use Rattle.book_table.specs.Columns.{table_text}
use Rattle.book_table.specs.declared.columns.Side.{Side}
use Rattle.book_table.specs.declared.columns.Side.TheVariants.{Free, Left, Right}

-- The row of a commodity: its number, how many of its smallest units make one unit, the mark c of the currency of the
-- book, its space, its name and its full name.
abbrev pub commodity_row : Book → ℕ × Commodity → List (List ℕ)
commodity_row book entry =
    decimal entry.0
    ∷ decimal entry.1.fraction
    ∷ (if entry.0 == book.currency then codes "c" else [])
    ∷ entry.1.space
    ∷ entry.1.name
    ∷ entry.1.full_name
    ∷ []

abbrev pub commodity_columns : List (List ℕ)
commodity_columns =
    codes "number" ∷ codes "fraction" ∷ codes "marks" ∷ codes "space" ∷ codes "name" ∷ codes "full name" ∷ []

abbrev pub commodity_sides : List Side
commodity_sides = Right ∷ Right ∷ Left ∷ Left ∷ Left ∷ Free ∷ []

-- The commodities of a book, by number.
unfoldable pub commodities_text : Book → Form → List ℕ
commodities_text book form =
    table_text form commodity_sides (commodity_columns ∷ map (commodity_row book) book.commodities)

-- The row of a price: its number, its day, its commodity, what it is a price in, and its two numbers.
abbrev pub price_row : Book → ℕ × Price → List (List ℕ)
price_row book entry =
    decimal entry.0
    ∷ day_text entry.1.day
    ∷ name_of book.commodities entry.1.commodity
    ∷ name_of book.commodities entry.1.currency
    ∷ decimal entry.1.num
    ∷ decimal entry.1.denom
    ∷ []

abbrev pub price_columns : List (List ℕ)
price_columns =
    codes "number" ∷ codes "day" ∷ codes "commodity" ∷ codes "currency" ∷ codes "num" ∷ codes "denom" ∷ []

abbrev pub price_sides : List Side
price_sides = Right ∷ Left ∷ Left ∷ Left ∷ Right ∷ Right ∷ []

-- The prices of a book, by number.
unfoldable pub prices_text : Book → Form → List ℕ
prices_text book form = table_text form price_sides (price_columns ∷ map (price_row book) book.prices)
