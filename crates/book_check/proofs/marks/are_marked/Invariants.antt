-- The splits so far are rightly marked.
use Rattle.std.proofs.Common.{◌≡◌, drop}
use Rattle.std.specs.List.{list_all}
use Rattle.book_sound.specs.MarkedTransactionRules.{is_rightly_marked}
use Rattle.book_check.proofs.marks.are_marked.Given as goal

abbrev pub invariant-loop-split : goal.invariant-loop-split
invariant-loop-split l =
    list_all (is_rightly_marked l.reconciliations.entries) l.splits
    ≡ list_all (is_rightly_marked l.reconciliations.entries) (drop l.split-index l.splits)
