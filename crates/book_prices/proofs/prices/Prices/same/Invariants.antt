use Rattle.std.proofs.Common.{◌≡◌, false, All, take}
use Rattle.book_prices.specs.Rate.{is_same}
use Rattle.book_prices.proofs.prices.Prices.same.Given as goal

abbrev pub invariant-loop-place : goal.invariant-loop-place
invariant-loop-place l = All (λ entry. is_same entry.1 l.price ≡ false) (take l.place l.self.entries)
