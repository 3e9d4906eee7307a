-- A commodity whose fraction is in range is kept where its key was not seen.
use Rattle.std.proofs.Common.{refl}
use Rattle.book_commodity.specs.CommodityRules.{commodity_rules}
use Rattle.book_check.specs.Keys.{commodity_keys}
use Rattle.book_check.proofs.KeyLemmas.{commodity_ties}
use Rattle.book_check.proofs.OnceLemmas.{commodity_asked}
use Rattle.book_check.proofs.SeenLemmas.{once}
use Rattle.book_check.proofs.commodities.CommodityWalkChecked.keeps.Goals as goal

pub returns : goal.returns
returns c =
    let commodities = c.args.self.now.commodities.now.entries in
    let commodity = c.value_at-commodity.result.now in
    let kept = once commodity_keys commodity_ties (commodity_rules commodities) commodities c.args.place commodity
    c.key_of.result c.args.self.now.keys c.insert.new.self c.has_fraction.result c.in_ok-is_taken.is_taken
    c.requires.rises c.value_at-commodity.ensures c.key_of.ensures c.requires.known c.if-not-has_fraction.false
    (λ n there. commodity_asked commodities n commodity c.has_fraction.result c.has_fraction.ensures)
    c.in_ok-is_taken.ensures.before c.in_ok-is_taken.ensures.adds in
    record { kept = kept.0; known = kept.1; same_entries = refl; same_rules = refl }
