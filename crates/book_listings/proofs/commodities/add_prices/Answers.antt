use Rattle.std.proofs.Common.{ℕ, arith}
use Rattle.book_prices.specs.declared.price.Price.{Price}
use Rattle.book_listings.specs.Commodities.{price_row}
use Rattle.book_listings.proofs.RowLemmas.{entry_at, map_next}
use Rattle.book_listings.proofs.commodities.add_prices.Goals as goal

pub loop-place-preserved : goal.loop-place-preserved
loop-place-preserved c =
    let entry : ℕ × Price = (c.number_at-number.result, c.value_at.result.now) in
    map_next (price_row c.args.book.now) c.args.prices.now.entries c.loop-place.place entry _ _ _ _
    (omega (arith, c.len-place-end.ensures.len))
    (entry_at c.args.prices.now.entries c.loop-place.place _ _ entry c.number_at-number.ensures c.value_at.ensures)
    c.in_ok-price_row.ensures c.loop-place.invariant c.in_ok-push.ensures.added
