use Rattle.std.proofs.Common.{◌^◌, ◌≤◌, sym, subst, to_z-of_z, unsigned_abs}
use Rattle.book_prices.specs.declared.valuation.Valuation.{Valuation}
use Rattle.book_undo.specs.Book.{book_of}
use Rattle.book_reports.specs.Sections.{amount_in}
use Rattle.book_reports.proofs.MeasureLemmas.{worth_of_view, worth_small}
use Rattle.book_sound.proofs.SoundFacts.{prices_are_kept}
use Rattle.book_reports.proofs.view.View.worth.Goals as goal

pub price_at-rate-requires-clause-once : goal.price_at-rate-requires-clause-once
price_at-rate-requires-clause-once c =
    let plain = c.self.inside.plain.now in
    (prices_are_kept plain.commodities.entries 1000000 plain.prices.entries c.self.invariant.0.prices).1

pub price_at-rate-requires-clause-sound : goal.price_at-rate-requires-clause-sound
price_at-rate-requires-clause-sound c =
    let plain = c.self.inside.plain.now in
    (prices_are_kept plain.commodities.entries 1000000 plain.prices.entries c.self.invariant.0.prices).0

pub returns-clause-worth : goal.returns-clause-worth
returns-clause-worth c =
    let plain = c.self.inside.plain.now in
    let told = simp (to_z-of_z, c.ranges.amount) at c.worth.ensures in
    worth_of_view c.args.self.now (book_of plain) c.args.day c.args.commodity c.args.amount _ c.fraction.result
    c.fraction-2.result c.worth.result c.self.view_is
    (prices_are_kept plain.commodities.entries 1000000 plain.prices.entries c.self.invariant.0.prices).1
    c.price_at-rate.ensures c.fraction.ensures.fraction c.fraction-2.ensures.fraction told

pub returns-clause-small : goal.returns-clause-small
returns-clause-small c =
    subst (λ (v : Valuation). unsigned_abs (amount_in v) ≤ 10 ^ 30) (sym (returns-clause-worth c))
    (worth_small c.args.self.now c.args.day c.args.commodity c.args.amount)
