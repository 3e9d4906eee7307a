use Rattle.std.proofs.Common.{◌≡◌, pos, List, map, ap, to_z, of_z, w64, arith}
use Rattle.std.proofs.lemmas.Int.{ints}
use Rattle.book_splits.specs.Balance.{total}
use Rattle.book_splits.specs.declared.reconciliation.MarkedSplit.{MarkedSplit}
use Rattle.book_reconcile.specs.Reconciliation.{difference}
use Rattle.book_reconcile.proofs.OrderLemmas.{closes}
use Rattle.book_reconcile.proofs.finish.plan_finish.Goals as goal

pub returns-clause-closes : goal.returns-clause-closes
returns-clause-closes c =
    let closing = to_z w64 (of_z w64 c.args.closing) in
    let none : difference c.args.account c.args.day closing c.args.txns.now.entries ≡ pos 0 =
    c.in_ok-check_difference.ensures.none in
    let all = closes c.args.account c.args.day closing c.args.txns.now.entries none in
    let marked = ap (λ (l : List MarkedSplit). total (map (λ split. split.quantity) l)) c.in-Ok.ensures in
    omega (arith, ints, all, marked, c.reconciled_balance-opening.ensures.sum)
