use Rattle.std.proofs.Common.{Option, subst}
use Rattle.book_prices.specs.Rate.{IsLast, IsBest}
use Rattle.book_prices.specs.declared.price.Price.{Price}
use Rattle.book_prices.proofs.RateLemmas.{IsSound-last}
use Rattle.book_prices.proofs.prices.Prices.price_at.Goals as goal

pub rate_of-requires : goal.rate_of-requires
rate_of-requires c =
    let last : IsLast c.args.self.now.entries c.args.commodity c.args.currency c.args.day c.in-Some.price =
    subst (λ (o : Option Price). IsBest c.args.self.now.entries c.args.commodity c.args.currency c.args.day o)
    c.in-Some.is c.last_prices-direct.ensures.direct in
    IsSound-last _ _ _ _ _ c.requires.sound last

pub turned_rate_of-requires : goal.turned_rate_of-requires
turned_rate_of-requires c =
    let last : IsLast c.args.self.now.entries c.args.currency c.args.commodity c.args.day c.in-Some-swapped.price =
    subst (λ (o : Option Price). IsBest c.args.self.now.entries c.args.currency c.args.commodity c.args.day o)
    c.in-Some-swapped.is c.last_prices-direct.ensures.swapped in
    IsSound-last _ _ _ _ _ c.requires.sound last
