-- The rules that each commodity of a book keeps.
use Rattle.std.specs.Prelude.{ℕ, ◌^◌, nat_eq, nat_lt, not, Bool, ◌&&◌, ◌||◌, List, [], ◌∷◌}
use lib.Pointwise.{pointwise}
use Rattle.book_commodity.specs.Rules.{stands_before}
use Rattle.book_commodity.specs.declared.commodity.Commodity.{Commodity}

-- Whether another commodity has the same space and the same name, which are one commodity's (GnuCash SQL schema, table
-- commodities: namespace and mnemonic).
abbrev pub has_same_pair : Commodity → Commodity → Bool
has_same_pair commodity other =
    pointwise nat_eq other.space commodity.space && pointwise nat_eq other.name commodity.name

-- Whether one unit of it is made of 1 to 10^9 smallest units (a limit of this project).
abbrev pub has_fraction : Commodity → Bool
has_fraction commodity = not (nat_lt commodity.fraction 1 || nat_lt (10 ^ 9) commodity.fraction)

-- The rules of a commodity: no commodity before it has its space and its name, and its fraction is in range.
abbrev pub commodity_rules : List (ℕ × Commodity) → ℕ → Commodity → List Bool
commodity_rules commodities number commodity =
    not (stands_before (has_same_pair commodity) number commodities) ∷ has_fraction commodity ∷ []
