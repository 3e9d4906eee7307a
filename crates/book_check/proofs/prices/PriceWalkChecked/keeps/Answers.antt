-- A price that is kept alone is kept where its key was not seen.
use Rattle.std.proofs.Common.{refl}
use Rattle.book_sound.specs.PriceRules.{price_rules}
use Rattle.book_check.specs.Keys.{price_keys}
use Rattle.book_check.proofs.KeyLemmas.{price_ties}
use Rattle.book_check.proofs.OnceLemmas.{price_asked}
use Rattle.book_check.proofs.SeenLemmas.{once}
use Rattle.book_check.proofs.prices.PriceWalkChecked.keeps.Goals as goal

pub returns : goal.returns
returns c =
    let commodities = c.args.self.now.commodities.now.entries in
    let prices = c.args.self.now.prices.now.entries in
    let price = c.value_at-price.result.now in
    let kept = once price_keys price_ties (price_rules commodities prices) prices c.args.place price
    c.key_of.result c.args.self.now.keys c.insert.new.self c.keeps_rules.result c.in_ok-is_taken.is_taken
    c.requires.rises c.value_at-price.ensures c.key_of.ensures c.requires.known c.if-not-keeps_rules.false
    (λ n there. price_asked commodities prices n price c.keeps_rules.result c.keeps_rules.ensures)
    c.in_ok-is_taken.ensures.before c.in_ok-is_taken.ensures.adds in
    record { kept = kept.0; known = kept.1; same_entries = refl; same_rules = refl }
