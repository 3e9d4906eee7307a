use Rattle.std.proofs.Common.{◌≡◌, ◌++◌, map, take}
use Rattle.book_listings.specs.Commodities.{price_row}
use Rattle.book_listings.proofs.commodities.add_prices.Given as goal

-- the rows of the prices so far were added
abbrev pub invariant-loop-place : goal.invariant-loop-place
invariant-loop-place l = l.rows ≡ l.fn.rows ++ map (price_row l.book) (take l.place l.prices.entries)
