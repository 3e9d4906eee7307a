-- None so far has a smaller number and is of the same commodity, currency and day.
use Rattle.std.proofs.Common.{◌≡◌, drop}
use Rattle.book_commodity.specs.Rules.{stands_before}
use Rattle.book_prices.specs.Rate.{is_same}
use Rattle.book_broken.proofs.prices.has_same_before.Given as goal

abbrev pub invariant-loop-place : goal.invariant-loop-place
invariant-loop-place l =
    stands_before (is_same l.price) l.number l.prices.entries
    ≡ stands_before (is_same l.price) l.number (drop l.place l.prices.entries)
