use Rattle.std.proofs.Common.{ap, sym, ◌∙◌}
use Rattle.book_lots.specs.Lots.{lots_of, lots_past}
use Rattle.book_lots.specs.Sides.{Paired}
use Rattle.book_lots.proofs.SidesLemmas.{is_none, is_some, lots_none, lots_some}
use Rattle.book_lots.proofs.reckoning.Reckoning.lots.Goals as goal

pub returns-then-is_empty-clause-lots : goal.returns-then-is_empty-clause-lots
returns-then-is_empty-clause-lots c =
    let bought = c.open-open.ensures
    ∙ ap (λ (v : Paired). lots_past v.paired v.stretches) c.self.invariant.sides.bought_is in
    c.open.ensures ∙ ap (λ (v : Paired). lots_past v.paired v.stretches) c.self.invariant.sides.sold_is
    ∙ lots_none c.self.inside.entries.items
    (sym bought ∙ is_none c.open-open.result.now c.is_empty.result c.is_empty.ensures c.if-is_empty.true)
    ∙ ap lots_of c.self.view_is

pub returns-else-is_empty-clause-lots : goal.returns-else-is_empty-clause-lots
returns-else-is_empty-clause-lots c =
    let bought = c.open-open.ensures
    ∙ ap (λ (v : Paired). lots_past v.paired v.stretches) c.self.invariant.sides.bought_is in
    bought ∙ lots_some c.self.inside.entries.items
    (λ none. is_some c.open-open.result.now c.is_empty.result c.is_empty.ensures c.if-is_empty.false (bought ∙ none))
    ∙ ap lots_of c.self.view_is
