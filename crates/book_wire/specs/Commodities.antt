-- The members of the commands on commodities, in the order in which they are read.
use Rattle.std.specs.Prelude.{codes}
use Rattle.book_json.specs.Members.{Reader, needed, text, gives, ◌>>=◌}
use Rattle.book_json.specs.Forms.{whole, filled}
use Rattle.book_command.specs.declared.command.Update.{Update}
use Rattle.book_command.specs.declared.command.Update.TheVariants as update

-- The commodity that becomes the book's currency.
abbrev pub book_currency : Reader Update
book_currency = do
  commodity ← needed whole (codes "commodity")
  gives (update.BookCurrency commodity)

-- A new commodity.
abbrev pub commodity_add : Reader Update
commodity_add = do
  space ← needed filled (codes "space")
  name ← needed filled (codes "name")
  full_name ← text (codes "full_name")
  fraction ← needed whole (codes "fraction")
  gives (update.CommodityAdd (record { space = space; name = name; full_name = full_name; fraction = fraction }))
