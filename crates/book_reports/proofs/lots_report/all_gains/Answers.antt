use Rattle.std.proofs.Common.{rules, ◌+◌, ◌<◌, ◌∙◌, List, length, get_or, FitsSigned, ap, subst, arith}
use mir.Syntax.{w128}
use Rattle.std.proofs.lemmas.Int.{ints}
use Rattle.book_lots.specs.Lots.{pairs_of}
use Rattle.book_lots.specs.declared.pair.Pair.{Pair}
use Rattle.book_reports.proofs.LotsLemmas.{gain_more, gains_fit}
use Rattle.book_reports.proofs.lots_report.all_gains.Goals as goal

pub overflow_add-sum : goal.overflow_add-sum
overflow_add-sum c =
    let es = c.args.lots.now.entries in
    let i = c.loop-pair.pair-index in
    let d = c.pair-item.result in
    let now = gains_fit es (i + 1) c.requires in
    let lt = subst (λ (l : List Pair). i < length l) c.pairs-pair-items.ensures c.loop-pair-test.true in
    let more = gain_more (pairs_of es) i d lt in
    let same = ap (λ (p : Pair). p.gain)
    (c.pair-item.is ∙ ap (λ (l : List Pair). get_or l i d) c.pairs-pair-items.ensures) in
    let one : FitsSigned w128 c.pair-item.result.gain = search rules in
    let is = c.loop-pair.invariant in
    omega (arith, ints, now.0, now.1, more, same, is, c.loop-pair.sum-is)

pub loop-pair-preserved : goal.loop-pair-preserved
loop-pair-preserved c =
    let es = c.args.lots.now.entries in
    let i = c.loop-pair.pair-index in
    let d = c.pair-item.result in
    let now = gains_fit es (i + 1) c.requires in
    let lt = subst (λ (l : List Pair). i < length l) c.pairs-pair-items.ensures c.loop-pair-test.true in
    let more = gain_more (pairs_of es) i d lt in
    let same = ap (λ (p : Pair). p.gain)
    (c.pair-item.is ∙ ap (λ (l : List Pair). get_or l i d) c.pairs-pair-items.ensures) in
    let one : FitsSigned w128 c.pair-item.result.gain = search rules in
    let is = c.loop-pair.invariant in
    omega (arith, ints, now.0, now.1, more, same, is, c.loop-pair.sum-is)
