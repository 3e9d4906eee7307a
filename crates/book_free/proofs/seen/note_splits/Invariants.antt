use Rattle.std.proofs.Common.{◌≡◌, drop, map}
use Rattle.book_free.specs.FreeSplits.{open_split}
use Rattle.book_free.specs.Seen.{noted}
use Rattle.book_free.proofs.seen.note_splits.Given as goal

abbrev pub invariant-loop-split : goal.invariant-loop-split
invariant-loop-split l =
    noted (map (λ split. (split.id, open_split l.transaction.day split)) (drop l.split-index l.split-items))
    l.table.entries
    ≡ noted (map (λ split. (split.id, open_split l.transaction.day split)) l.split-items) l.fn.table.entries
