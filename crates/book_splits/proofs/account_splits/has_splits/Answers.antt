use Rattle.std.proofs.Common.{◌==◌, sym, ap, ◌∙◌, arith}
use Rattle.std.specs.List.{list_any}
use Rattle.book_splits.specs.Balance.{splits_of}
use Rattle.book_splits.proofs.SplitLemmas.{any-splits-here, any-splits-later, any-splits-end}
use Rattle.book_splits.proofs.account_splits.has_splits.Goals as goal

pub loop-transaction-init : goal.loop-transaction-init
loop-transaction-init c = ap (λ ts. list_any (λ split. split.account == c.args.account) (splits_of ts))
    (sym c.as_slice-transaction-items.ensures.entries)

pub returns-then-stand_on : goal.returns-then-stand_on
returns-then-stand_on c =
    let passes = ap (list_any (λ split. split.account == c.args.account)) (sym c.as_slice.ensures)
    ∙ sym c.stand_on.ensures ∙ c.if-stand_on.true in
    sym (c.loop-transaction.invariant
    ∙ any-splits-here (λ split. split.account == c.args.account) c.as_slice-transaction-items.result.now
    c.loop-transaction.transaction-index c.loop-transaction-item.result c.loop-transaction-test.true
    c.loop-transaction-item.is passes)

pub loop-transaction-preserved : goal.loop-transaction-preserved
loop-transaction-preserved c =
    let fails = ap (list_any (λ split. split.account == c.args.account)) (sym c.as_slice.ensures)
    ∙ sym c.stand_on.ensures ∙ c.if-stand_on.false in
    c.loop-transaction.invariant
    ∙ any-splits-later (λ split. split.account == c.args.account) c.as_slice-transaction-items.result.now
    c.loop-transaction.transaction-index c.loop-transaction-item.result c.loop-transaction-test.true
    c.loop-transaction-item.is fails

pub returns : goal.returns
returns c = sym (c.loop-transaction.invariant
    ∙ any-splits-end (λ split. split.account == c.args.account) c.as_slice-transaction-items.result.now
    c.loop-transaction.transaction-index (omega (arith, c.loop-transaction-test.false)))
