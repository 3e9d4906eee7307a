use Rattle.std.proofs.Common.{◌≤◌, ◌<ℤ◌, pos, sym, subst, arith}
use Rattle.std.proofs.lemmas.Int.{ints}
use Rattle.book_limits.specs.Limits.{largest_sum}
use Rattle.book_lots.specs.Lots.{units_of}
use Rattle.book_lots.specs.Sides.{Paired}
use Rattle.book_lots.proofs.EntryLemmas.{bought_units, sold_units}
use Rattle.book_lots.proofs.SidesLemmas.{done_bought, done_sold, sides_same}
use Rattle.book_lots.proofs.reckoning.try_add.Goals as goal

pub push-requires-clause-few : goal.push-requires-clause-few
push-requires-clause-few c =
    subst (λ (v : Paired). units_of v.stretches ≤ largest_sum) (sym c.requires.sides.bought_is)
    (bought_units c.args.entries.now c.requires.sides.small c.requires.sides.few)

pub push-requires-then-entry-lt0-clause-few : goal.push-requires-then-entry-lt0-clause-few
push-requires-then-entry-lt0-clause-few c =
    subst (λ (v : Paired). units_of v.stretches ≤ largest_sum) (sym c.requires.sides.sold_is)
    (sold_units c.args.entries.now c.requires.sides.small c.requires.sides.few)

pub returns-then-entry-gt0-clause-sides : goal.returns-then-entry-gt0-clause-sides
returns-then-entry-gt0-clause-sides c =
    let plus : pos 0 <ℤ c.args.entry.now.quantity = omega (arith, ints, c.if-entry-gt0.true) in
    done_bought c.pair_up.result c.args.entries.now c.args.entry.now c.args.bought.now c.args.sold.now
    c.args.pairs.now.items c.requires.sides c.requires.few c.requires.small plus c.push.new.self c.pair_up.new.bought
    c.pair_up.new.sold c.pair_up.new.pairs.items c.in_ok-push.ensures.stretches c.in_ok-push.ensures.paired
    c.pair_up.ensures.bought c.pair_up.ensures.sold c.pair_up.ensures.pairs c.pair_up.ensures.paired
    c.pair_up.ensures.same

pub returns-then-entry-lt0-clause-sides : goal.returns-then-entry-lt0-clause-sides
returns-then-entry-lt0-clause-sides c =
    let call = c.pair_up-then-entry-lt0 in
    let minus : c.args.entry.now.quantity <ℤ pos 0 = omega (arith, ints, c.if-entry-lt0.true) in
    done_sold call.result c.args.entries.now c.args.entry.now c.args.bought.now c.args.sold.now c.args.pairs.now.items
    c.requires.sides c.requires.few c.requires.small minus c.push-then-entry-lt0.new.self call.new.bought call.new.sold
    call.new.pairs.items c.in_ok-push-2.ensures.stretches c.in_ok-push-2.ensures.paired call.ensures.bought
    call.ensures.sold call.ensures.pairs call.ensures.paired call.ensures.same

pub returns-clause-sides : goal.returns-clause-sides
returns-clause-sides c =
    sides_same c.args.entries.now c.args.entry.now c.args.bought.now c.args.sold.now c.args.pairs.now.items
    c.requires.sides c.requires.few c.requires.small (omega (arith, ints, c.if-entry-gt0.false, c.if-entry-lt0.false))
