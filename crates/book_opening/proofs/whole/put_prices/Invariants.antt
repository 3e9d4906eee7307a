-- What is left is put behind what was.
use Rattle.std.proofs.Common.{◌≡◌, ◌++◌, map, drop}
use Rattle.std.specs.List.{AllByRecursion}
use Rattle.book_rows.specs.PriceBytes.{price_bytes, IsPrice}
use Rattle.book_opening.specs.Changes.{entry_put}
use Rattle.book_opening.proofs.whole.put_prices.Given as goal

abbrev pub invariant-loop-place : goal.invariant-loop-place
invariant-loop-place l = record {
  added : l.changes ++ map (entry_put 5 price_bytes) (drop l.place l.prices.entries)
      ≡ l.fn.changes ++ map (entry_put 5 price_bytes) l.prices.entries;
  fit : AllByRecursion (λ entry. IsPrice entry.1) (drop l.place l.prices.entries)
      → AllByRecursion (λ entry. IsPrice entry.1) l.prices.entries;
}
