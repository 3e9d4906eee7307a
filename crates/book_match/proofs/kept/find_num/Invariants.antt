use Rattle.std.proofs.Common.{◌≡◌, drop}
use Rattle.book_match.specs.Kept.{num_of}
use Rattle.book_match.proofs.kept.find_num.Given as goal

abbrev pub invariant-loop-transaction : goal.invariant-loop-transaction
invariant-loop-transaction l =
    num_of l.split l.txns.entries ≡ num_of l.split (drop l.transaction-index l.transaction-items)
