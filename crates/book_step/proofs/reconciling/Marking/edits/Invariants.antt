use Rattle.std.proofs.Common.{◌≡◌, take}
use Rattle.book_step.specs.Reconciling.{marked_under}
use Rattle.book_step.proofs.KeptReconciling.{remarking_at}
use Rattle.book_step.proofs.reconciling.Marking.edits.Given as goal

abbrev pub invariant-loop-number : goal.invariant-loop-number
invariant-loop-number l =
    l.edits
    ≡ remarking_at (marked_under l.self.number l.self.account l.self.upto) l.present.book.transactions
    (take l.number-index l.numbers)
