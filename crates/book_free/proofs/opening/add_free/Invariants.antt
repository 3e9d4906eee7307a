use Rattle.std.proofs.Common.{◌≡◌, ◌++◌, drop, filter, map}
use Rattle.book_free.specs.FreeSplits.{free_of, free_split, is_free}
use Rattle.book_free.specs.Seen.{is_taken}
use Rattle.book_free.proofs.opening.add_free.Given as goal

abbrev pub invariant-loop-split : goal.invariant-loop-split
invariant-loop-split l =
    l.free.items
    ++ map (free_split l.transaction.day)
    (filter (is_free (is_taken l.matched.entries)) (drop l.split-index l.split-items))
    ≡ l.fn.free.items ++ free_of (is_taken l.matched.entries) l.transaction
