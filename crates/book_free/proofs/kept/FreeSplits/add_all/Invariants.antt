use Rattle.std.proofs.Common.{◌≡◌, drop}
use Rattle.book_free.specs.FreeSplits.{open_at}
use Rattle.book_free.specs.Seen.{move_seen, moves_seen, noted}
use Rattle.book_free.proofs.kept.FreeSplits.add_all.Given as goal

abbrev pub invariant-loop-split : goal.invariant-loop-split
invariant-loop-split o l =
    noted (moves_seen (λ number. move_seen l.seen l.self.matched.entries (open_at number l.transactions.entries) number)
    (drop l.split-index l.entries)) l.splits.entries
    ≡ noted (moves_seen (λ number.
    move_seen l.seen l.self.matched.entries (open_at number l.transactions.entries) number) l.entries)
    l.fn.splits.entries
