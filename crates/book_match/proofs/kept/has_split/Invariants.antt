use Rattle.std.proofs.Common.{◌≡◌, drop}
use Rattle.book_splits.specs.TransactionRules.{is_among, numbers_of}
use Rattle.book_match.proofs.kept.has_split.Given as goal

abbrev pub invariant-loop-split : goal.invariant-loop-split
invariant-loop-split l =
    is_among (numbers_of l.splits) l.number ≡ is_among (numbers_of (drop l.split-index l.splits)) l.number
