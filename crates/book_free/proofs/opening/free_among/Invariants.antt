use Rattle.std.proofs.Common.{◌≡◌, ◌++◌, drop}
use Rattle.book_free.specs.FreeSplits.{free_among}
use Rattle.book_free.specs.Seen.{is_taken}
use Rattle.book_free.proofs.opening.free_among.Given as goal

abbrev pub invariant-loop-transaction : goal.invariant-loop-transaction
invariant-loop-transaction l =
    l.free.items ++ free_among (is_taken l.matched.entries) (drop l.transaction-index l.transactions)
    ≡ free_among (is_taken l.matched.entries) l.transactions
