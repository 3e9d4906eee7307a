use Rattle.std.proofs.Common.{◌≡◌, ◌++◌, map, take}
use Rattle.book_listings.specs.Commodities.{commodity_row}
use Rattle.book_listings.proofs.commodities.add_commodities.Given as goal

-- the rows of the commodities so far were added
abbrev pub invariant-loop-entry : goal.invariant-loop-entry
invariant-loop-entry l = l.rows ≡ l.fn.rows ++ map (commodity_row l.book) (take l.entry-index l.commodities)
