use Rattle.std.proofs.Common.{◌+◌, length, ap, sym, ◌∙◌, take, arith}
use Rattle.std.proofs.lemmas.Int.{ints}
use Rattle.book_splits.specs.Balance.{splits_of}
use Rattle.book_splits.specs.declared.split.Mark.TheVariants.{Reconciled}
use Rattle.book_reconcile.specs.Reconciliation.{balance_with}
use Rattle.book_reconcile.proofs.SumLemmas.{balance-item, length-first, length-item, within-sum}
use Rattle.book_reconcile.proofs.sums.reconciled_balance.Goals as goal

pub overflow_add-sum : goal.overflow_add-sum
overflow_add-sum c =
    let ts = c.as_slice-transaction-items.result.now in
    let i = c.loop-transaction.transaction-index in
    let more = length-item ts i c.loop-transaction-item.result c.loop-transaction-test.true
    c.loop-transaction-item.is in
    let within = within-sum _ _ _ _ _ c.loop-transaction.invariant.within c.balance_of-sum.ensures.within
    (more ∙ ap (λ l. length (splits_of (take i ts)) + length l) (sym c.as_slice.ensures)) in
    let most = length-first ts (i + 1) in
    let all = ap (λ es. length (splits_of es)) c.as_slice-transaction-items.ensures.entries in
    omega (arith, ints, within.0, within.1, most, all, c.requires)

pub loop-transaction-preserved : goal.loop-transaction-preserved
loop-transaction-preserved c =
    let ts = c.as_slice-transaction-items.result.now in
    let i = c.loop-transaction.transaction-index in
    let more = length-item ts i c.loop-transaction-item.result c.loop-transaction-test.true
    c.loop-transaction-item.is in
    let within = within-sum _ _ _ _ _ c.loop-transaction.invariant.within c.balance_of-sum.ensures.within
    (more ∙ ap (λ l. length (splits_of (take i ts)) + length l) (sym c.as_slice.ensures)) in
    let most = length-first ts (i + 1) in
    let all = ap (λ es. length (splits_of es)) c.as_slice-transaction-items.ensures.entries in
    let here = ap (balance_with Reconciled c.args.account) c.as_slice.ensures in
    let sums = balance-item Reconciled c.args.account ts i c.loop-transaction-item.result c.loop-transaction-test.true
    c.loop-transaction-item.is in
    record {
      sums = omega (arith, ints, sums, here, within.0, within.1, most, all, c.requires);
      within = (
        omega (arith, ints, within.0, within.1, most, all, c.requires),
        omega (arith, ints, within.0, within.1, most, all, c.requires),
      );
    }
