use Rattle.std.proofs.Common.{rules, ◌+◌, ◌+ℤ◌, ◌-ℤ◌, get_or, FitsSigned, pos, ap, sym, ◌∙◌, subst, arith}
use mir.Syntax.{w128}
use Rattle.std.specs.Prelude.{ℤ}
use Rattle.std.proofs.lemmas.Int.{ints}
use Rattle.std.proofs.lemmas.List.{take_all}
use Rattle.book_lots.specs.Lots.{Reckoned, adjustments_of, all_gains, cost_of, lots_of}
use Rattle.book_lots.specs.declared.open_lot.OpenLot.{OpenLot}
use Rattle.book_lots.proofs.BoundLemmas.{AreCosts, costs_small, some_costs}
use Rattle.book_lots.proofs.EntryLemmas.{law}
use Rattle.book_lots.proofs.LotsLemmas.{costs_more}
use Rattle.book_lots.proofs.lots.Lots.open_cost.Goals as goal

pub overflow_add-sum : goal.overflow_add-sum
overflow_add-sum c =
    let all = c.lots-lot-items.result.now in
    let i = c.loop-lot.lot-index in
    let d : OpenLot = record { split = 0; units = pos 0; cost = pos 0 } in
    let small : AreCosts all = subst AreCosts (sym c.lots-lot-items.ensures.lots)
    (costs_small c.self.inside.reckoning c.lots-lot-items.ensures.small) in
    let now = some_costs (i + 1) all small in
    let more = costs_more all i d c.loop-lot-test.true in
    let one : FitsSigned w128 (get_or all i d).cost = search rules in
    let is = c.loop-lot.invariant in
    omega (arith, ints, now.0, now.1, more, is, c.loop-lot.sum-is)

pub loop-lot-preserved : goal.loop-lot-preserved
loop-lot-preserved c =
    let all = c.lots-lot-items.result.now in
    let i = c.loop-lot.lot-index in
    let d : OpenLot = record { split = 0; units = pos 0; cost = pos 0 } in
    let small : AreCosts all = subst AreCosts (sym c.lots-lot-items.ensures.lots)
    (costs_small c.self.inside.reckoning c.lots-lot-items.ensures.small) in
    let now = some_costs (i + 1) all small in
    let more = costs_more all i d c.loop-lot-test.true in
    let one : FitsSigned w128 (get_or all i d).cost = search rules in
    let is = c.loop-lot.invariant in
    omega (arith, ints, now.0, now.1, more, is, c.loop-lot.sum-is)

pub returns-clause-law : goal.returns-clause-law
returns-clause-law c =
    let es = c.args.self.now.entries in
    let cost = c.loop-lot.invariant
    ∙ ap cost_of (take_all c.loop-lot.lot-index c.lots-lot-items.result.now c.loop-lot-test.false)
    ∙ ap cost_of c.lots-lot-items.ensures.lots ∙ ap (λ (v : Reckoned). cost_of (lots_of v.entries)) c.self.view_is in
    law es ∙ ap (λ (z : ℤ). (z -ℤ all_gains es) +ℤ adjustments_of es) (sym cost)
