use Rattle.std.proofs.Common.{◌≡◌, Some, sym, subst, ◌∙◌}
use Rattle.book_commodity.specs.Table.{value_of}
use Rattle.book_prices.specs.Rate.{is_same}
use Rattle.book_sound.proofs.SoundFacts.{prices_are_kept}
use Rattle.book_step.specs.State.{State}
use Rattle.book_step.proofs.PriceLemmas.{found_there}
use Rattle.book_step.proofs.prices.price_set.Goals as goal

pub price_of_day-requires : goal.price_of_day-requires
price_of_day-requires c =
    let plain = c.present.inside.plain.now in
    (prices_are_kept plain.commodities.entries 1000000 plain.prices.entries c.present.invariant.book.prices).1

pub price_again-requires : goal.price_again-requires
price_again-requires c =
    let prices = c.present.inside.plain.now.prices.entries in
    let found = found_there (λ entry. is_same c.args.price entry.1) prices (c.in-Some.number, c.in-Some.old)
    c.present.invariant.book.prices.rise
    (sym c.price_of_day.ensures ∙ c.in-Some.is) in
    subst (λ (state : State). value_of c.in-Some.number state.book.prices ≡ Some c.in-Some.old) c.present.view_is found.0
