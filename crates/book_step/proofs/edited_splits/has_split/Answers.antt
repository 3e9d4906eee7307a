use Rattle.std.proofs.Common.{◌≡◌, ◌==◌, true, false, sym, ◌∙◌, arith}
use Rattle.std.proofs.lemmas.Bool.Decides.{nat_tests}
use Rattle.book_commodity.proofs.ListLemmas.{any-here, any-later, any-end}
use Rattle.book_splits.proofs.NamedLemmas.{among-numbers}
use Rattle.book_step.proofs.edited_splits.has_split.Goals as goal

pub returns-then-split-id : goal.returns-then-split-id
returns-then-split-id c =
    let passes : (c.split-item.result.id == c.args.id) ≡ true = grind (arith, nat_tests, c.if-split-id.true) in
    sym (among-numbers c.args.splits.now c.args.id ∙ c.loop-split.invariant
    ∙ any-here (λ split. split.id == c.args.id) c.args.splits.now c.loop-split.split-index
    c.split-item.result c.loop-split-test.true c.split-item.is passes)

pub loop-split-preserved : goal.loop-split-preserved
loop-split-preserved c =
    let fails : (c.split-item.result.id == c.args.id) ≡ false = grind (arith, nat_tests, c.if-split-id.false) in
    c.loop-split.invariant
    ∙ any-later (λ split. split.id == c.args.id) c.args.splits.now c.loop-split.split-index
    c.split-item.result c.loop-split-test.true c.split-item.is fails

pub returns : goal.returns
returns c = sym (among-numbers c.args.splits.now c.args.id ∙ c.loop-split.invariant
    ∙ any-end (λ split. split.id == c.args.id) c.args.splits.now c.loop-split.split-index
    (omega (arith, c.loop-split-test.false)))
