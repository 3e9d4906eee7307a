-- Currencies among the commodities.
use Rattle.std.specs.Prelude.{Bool, false, Option, Some, None, nat_eq, codes}
use lib.Pointwise.{pointwise}
use Rattle.book_commodity.specs.declared.commodity.Commodity.{Commodity}

-- Whether a commodity is a currency: it stands in the space CURRENCY (GnuCash, the namespaces of commodities).
abbrev pub is_currency : Commodity → Bool
is_currency commodity = pointwise nat_eq commodity.space (codes "CURRENCY")

-- Whether there is a commodity, and it is a currency.
abbrev pub is_currency_of : Option Commodity → Bool
is_currency_of None = false
is_currency_of (Some commodity) = is_currency commodity
