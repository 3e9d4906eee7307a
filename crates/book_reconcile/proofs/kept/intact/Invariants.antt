use Rattle.std.proofs.Common.{◌≡◌, drop}
use Rattle.std.specs.List.{list_all}
use Rattle.book_reconcile.specs.Reconciliation.{is_intact, is_kept}
use Rattle.book_reconcile.proofs.kept.intact.Given as goal

abbrev pub invariant-loop-marked : goal.invariant-loop-marked
invariant-loop-marked l =
    is_intact l.number l.recon l.txns.entries
    ≡ list_all (is_kept l.number l.recon.account l.txns.entries) (drop l.marked-index l.marked-items)
