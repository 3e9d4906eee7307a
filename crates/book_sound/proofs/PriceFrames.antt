-- What the rules of prices see of the commodities: those that are there.
use Rattle.std.proofs.Common.{ℕ, List}
use Rattle.book_commodity.specs.Rules.{IsSoundTable}
use Rattle.book_commodity.specs.Table.{value_of}
use Rattle.book_commodity.specs.declared.commodity.Commodity.{Commodity}
use Rattle.book_commodity.proofs.CommodityRuleLemmas.{currency_stays}
use Rattle.book_commodity.proofs.DrawnLemmas.{Stays, some_stays}
use Rattle.book_prices.specs.declared.price.Price.{Price}
use Rattle.book_sound.specs.PriceRules.{price_rules}
use Rattle.book_sound.proofs.TableFrames.{sound_still}

-- Prices stay sound where commodities are added.
pub prices_beside :
    (old new : List (ℕ × Commodity)) (most : ℕ) (prices : List (ℕ × Price)) → Stays old new
    → IsSoundTable (price_rules old prices) most prices → IsSoundTable (price_rules new prices) most prices
prices_beside old new most prices stays =
    sound_still (price_rules old prices) (price_rules new prices) most prices
    (λ k price there kept.
    let live = some_stays (value_of price.commodity old) (value_of price.commodity new) (stays.each price.commodity)
    kept.0 in
    let currency = currency_stays (value_of price.currency old) (value_of price.currency new)
    (stays.each price.currency) kept.1.0 in
    (live, (currency, kept.1.1)))
