-- The members of the commands on prices, in the order in which they are read.
use Rattle.std.specs.Prelude.{codes}
use Rattle.book_json.specs.Members.{Reader, needed, gives, ◌>>=◌}
use Rattle.book_json.specs.Forms.{whole, day_form}
use Rattle.book_command.specs.declared.command.Update.TheVariants as update
use Rattle.book_command.specs.declared.command.What.{What}
use Rattle.book_command.specs.declared.command.What.TheVariants as what

-- The price of a commodity in a currency on a day.
abbrev pub price_set : Reader What
price_set = do
  commodity ← needed whole (codes "commodity")
  currency ← needed whole (codes "currency")
  day ← needed day_form (codes "day")
  num ← needed whole (codes "num")
  denom ← needed whole (codes "denom")
  gives (what.Update (update.PriceSet
      (record { commodity = commodity; currency = currency; day = day; num = num; denom = denom })))

-- The price that is deleted.
abbrev pub price_drop : Reader What
price_drop = do
  number ← needed whole (codes "price")
  gives (what.Update (update.PriceDrop number))

-- The pair and the day of which the rate is asked.
abbrev pub price : Reader What
price = do
  commodity ← needed whole (codes "commodity")
  currency ← needed whole (codes "currency")
  day ← needed day_form (codes "day")
  gives (what.Price commodity currency day)
