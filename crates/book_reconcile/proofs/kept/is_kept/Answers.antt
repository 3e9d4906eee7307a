use Rattle.std.proofs.Common.{sym, ◌∙◌}
use Rattle.book_splits.specs.Balance.{splits_of}
use Rattle.book_reconcile.specs.Reconciliation.{is_kept_by}
use Rattle.book_reconcile.proofs.KeptLemmas.{asks-number, only-one}
use Rattle.book_reconcile.proofs.kept.is_kept.Goals as goal

pub returns-in-Some : goal.returns-in-Some
returns-in-Some c =
    c.is_kept_by.ensures
    ∙ sym (only-one (is_kept_by c.args.number c.args.account c.args.marked) c.args.marked.split
    (splits_of c.args.txns.now.entries) c.in-Some.split.now
    (asks-number c.args.number c.args.account c.args.marked) c.requires c.in-Some.ensures.1 c.in-Some.ensures.0)
