use Rattle.std.proofs.Common.{◌≡◌, drop}
use Rattle.book_free.specs.FreeSplits.{open_at}
use Rattle.book_free.proofs.collecting.search_open.Given as goal

abbrev pub invariant-loop-transaction : goal.invariant-loop-transaction
invariant-loop-transaction l =
    open_at l.number (drop l.transaction-index l.entries) ≡ open_at l.number l.entries
