use Rattle.std.proofs.Common.{◌≡◌, ◌==◌, true, false, sym, ◌∙◌, arith}
use Rattle.std.proofs.lemmas.Bool.Decides.{nat_tests}
use Rattle.book_commodity.proofs.ListLemmas.{any-here, any-later, any-end}
use Rattle.book_splits.proofs.account_splits.stand_on.Goals as goal

pub returns-then-split-account : goal.returns-then-split-account
returns-then-split-account c =
    let here : (c.split-item.result.account == c.args.account) ≡ true = grind (arith, nat_tests) in
    sym (c.loop-split.invariant
    ∙ any-here (λ split. split.account == c.args.account) c.args.splits.now c.loop-split.split-index
    c.split-item.result c.loop-split-test.true c.split-item.is here)

pub loop-split-preserved : goal.loop-split-preserved
loop-split-preserved c =
    let other : (c.split-item.result.account == c.args.account)
    ≡ false = grind (arith, nat_tests, c.if-split-account.false) in
    c.loop-split.invariant ∙ any-later
    (λ split. split.account == c.args.account) c.args.splits.now c.loop-split.split-index c.split-item.result
    c.loop-split-test.true c.split-item.is other

pub returns : goal.returns
returns c = sym (c.loop-split.invariant
    ∙ any-end (λ split. split.account == c.args.account) c.args.splits.now c.loop-split.split-index
    (omega (arith, c.loop-split-test.false)))
