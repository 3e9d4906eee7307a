use Rattle.std.proofs.Common.{◌+◌, length, ap, sym, ◌∙◌, take, arith}
use Rattle.std.proofs.lemmas.Int.{ints}
use Rattle.book_splits.specs.Balance.{splits_of}
use Rattle.book_splits.specs.declared.split.Mark.TheVariants.{Cleared}
use Rattle.book_reconcile.specs.Reconciliation.{balance_with, until}
use Rattle.book_reconcile.proofs.SumLemmas.{balance-until, until-item, until-later, length-first, length-item}
use Rattle.book_reconcile.proofs.SumLemmas.{within-sum, within-more}
use Rattle.book_reconcile.proofs.sums.cleared_balance.Goals as goal

pub loop-transaction-preserved-then-gt : goal.loop-transaction-preserved-then-gt
loop-transaction-preserved-then-gt c =
    let ts = c.as_slice-transaction-items.result.now in
    let i = c.loop-transaction.transaction-index in
    let item = c.loop-transaction-item.result in
    let later = until-later c.args.day ts i item c.loop-transaction-test.true c.loop-transaction-item.is
    (grind (arith, ints, c.if-gt.true)) in
    let more = length-item ts i item c.loop-transaction-test.true c.loop-transaction-item.is in
    let within = within-more _ _ _ c.loop-transaction.invariant.within (omega (arith, more)) in
    record {
      sums = c.loop-transaction.invariant.sums
          ∙ ap (λ es. balance_with Cleared c.args.account (splits_of es)) (sym later);
      within = within;
    }

pub overflow_add-sum : goal.overflow_add-sum
overflow_add-sum c =
    let ts = c.as_slice-transaction-items.result.now in
    let i = c.loop-transaction.transaction-index in
    let more = length-item ts i c.loop-transaction-item.result c.loop-transaction-test.true
    c.loop-transaction-item.is in
    let within = within-sum _ _ _ _ _ c.loop-transaction.invariant.within c.balance_of-sum.ensures.within
    (more ∙ ap (λ l. length (splits_of (take i ts)) + length l) (sym c.as_slice.ensures)) in
    let most = length-first ts (i + 1) in
    let all = ap (λ es. length (splits_of es)) c.as_slice-transaction-items.ensures.entries in
    omega (arith, ints, within.0, within.1, most, all, c.requires)

pub loop-transaction-preserved : goal.loop-transaction-preserved
loop-transaction-preserved c =
    let ts = c.as_slice-transaction-items.result.now in
    let i = c.loop-transaction.transaction-index in
    let more = length-item ts i c.loop-transaction-item.result c.loop-transaction-test.true
    c.loop-transaction-item.is in
    let within = within-sum _ _ _ _ _ c.loop-transaction.invariant.within c.balance_of-sum.ensures.within
    (more ∙ ap (λ l. length (splits_of (take i ts)) + length l) (sym c.as_slice.ensures)) in
    let most = length-first ts (i + 1) in
    let all = ap (λ es. length (splits_of es)) c.as_slice-transaction-items.ensures.entries in
    let here = ap (balance_with Cleared c.args.account) c.as_slice.ensures in
    let early = until-item c.args.day ts i c.loop-transaction-item.result c.loop-transaction-test.true
    c.loop-transaction-item.is (grind (arith, ints, c.if-gt.false)) in
    let sums = ap (λ es. balance_with Cleared c.args.account (splits_of es)) early
    ∙ balance-until Cleared c.args.account (until c.args.day (take i ts)) c.loop-transaction-item.result in
    record {
      sums = omega (arith, ints, sums, here, within.0, within.1, most, all, c.requires);
      within = (
        omega (arith, ints, within.0, within.1, most, all, c.requires),
        omega (arith, ints, within.0, within.1, most, all, c.requires),
      );
    }
