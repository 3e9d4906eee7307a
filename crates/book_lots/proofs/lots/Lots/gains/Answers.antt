use Rattle.std.proofs.Common.{rules, ◌+◌, FitsSigned, sym, subst, arith}
use mir.Syntax.{w128}
use Rattle.std.proofs.lemmas.Int.{ints}
use Rattle.book_lots.specs.Lots.{is_within}
use Rattle.book_lots.proofs.BoundLemmas.{AreGains, gains_small, some_gains}
use Rattle.book_lots.proofs.LotsLemmas.{gains_more}
use Rattle.book_lots.proofs.lots.Lots.gains.Goals as goal

pub overflow_add-sum : goal.overflow_add-sum
overflow_add-sum c =
    let all = c.pairs-pair-items.result.now in
    let i = c.loop-pair.pair-index in
    let small : AreGains all = subst AreGains (sym c.pairs-pair-items.ensures.pairs)
    (gains_small c.self.inside.reckoning c.pairs-pair-items.ensures.small) in
    let now = some_gains (is_within c.args.from c.args.to) (i + 1) all small in
    let more = gains_more (is_within c.args.from c.args.to) all i c.pair-item.result c.loop-pair-test.true
    c.pair-item.is in
    let one : FitsSigned w128 c.gain_on-sum.result = search rules in
    let is = c.loop-pair.invariant in
    let gain = c.gain_on-sum.ensures in
    omega (arith, ints, now.0, now.1, more, is, gain, c.loop-pair.sum-is)

pub loop-pair-preserved : goal.loop-pair-preserved
loop-pair-preserved c =
    let all = c.pairs-pair-items.result.now in
    let i = c.loop-pair.pair-index in
    let small : AreGains all = subst AreGains (sym c.pairs-pair-items.ensures.pairs)
    (gains_small c.self.inside.reckoning c.pairs-pair-items.ensures.small) in
    let now = some_gains (is_within c.args.from c.args.to) (i + 1) all small in
    let more = gains_more (is_within c.args.from c.args.to) all i c.pair-item.result c.loop-pair-test.true
    c.pair-item.is in
    let one : FitsSigned w128 c.gain_on-sum.result = search rules in
    let is = c.loop-pair.invariant in
    let gain = c.gain_on-sum.ensures in
    omega (arith, ints, now.0, now.1, more, is, gain, c.loop-pair.sum-is)
