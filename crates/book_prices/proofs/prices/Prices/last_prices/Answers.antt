use Rattle.std.proofs.Common.{◌≡◌, ℕ, List, Some, take, option_map, subst}
use Rattle.std.specs.List.{slice_get}
use Rattle.book_commodity.specs.Table.{Entries}
use Rattle.book_prices.specs.declared.price.Price.{Price}
use Rattle.book_prices.proofs.RateLemmas.{IsBest-take}
use Rattle.book_prices.proofs.prices.Prices.last_prices.Goals as goal

pub loop-place-preserved : goal.loop-place-preserved
loop-place-preserved c =
    let entries : List (ℕ × Price) = c.args.self.now.entries in
    let place : ℕ = c.loop-place.place in
    let price : Price = c.value_at-price.result.now in
    let there : option_map (λ (entry : ℕ × Price). entry.1) (slice_get entries place) ≡ Some price =
    subst (λ (table : Entries Price). option_map (λ (entry : ℕ × Price). entry.1)
    (slice_get table.entries place) ≡ Some price) c.self.view_is c.value_at-price.ensures in
    record {
      direct = IsBest-take entries place price c.args.commodity c.args.currency c.args.day c.last_of-direct.result there
          (λ number. c.last_of-direct.ensures (take place entries) number c.loop-place.invariant.direct);
      swapped = IsBest-take entries place price c.args.currency c.args.commodity c.args.day c.last_of-swapped.result
          there
          (λ number. c.last_of-swapped.ensures (take place entries) number c.loop-place.invariant.swapped);
    }
