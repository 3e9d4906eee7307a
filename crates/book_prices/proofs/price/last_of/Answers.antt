use Rattle.std.proofs.Common.{Option, refl, subst, arith}
use Rattle.std.proofs.lemmas.Int.{ints}
use Rattle.book_prices.specs.Rate.{IsLast, IsBest}
use Rattle.book_prices.specs.declared.price.Price.{Price}
use Rattle.book_prices.proofs.RateLemmas.{IsBest-later}
use Rattle.book_prices.proofs.price.last_of.Goals as goal

pub returns : goal.returns
returns c = λ prices number best.
    let last : IsLast prices c.args.commodity c.args.currency c.args.day c.in-Some.found =
    subst (λ (o : Option Price). IsBest prices c.args.commodity c.args.currency c.args.day o) c.in-Some.is best in
    IsBest-later prices (number, c.args.price.now) c.args.commodity c.args.currency c.args.day c.in-Some.found
    (c.if-not-is_of.ensures.0 refl) (omega (arith, ints)) last
