use Rattle.std.proofs.Common.{take}
use Rattle.book_prices.specs.Rate.{IsBest}
use Rattle.book_prices.proofs.prices.Prices.last_prices.Given as goal

abbrev pub invariant-loop-place : goal.invariant-loop-place
invariant-loop-place l = record {
  direct : IsBest (take l.place l.self.entries) l.commodity l.currency l.day l.direct;
  swapped : IsBest (take l.place l.self.entries) l.currency l.commodity l.day l.swapped;
}
