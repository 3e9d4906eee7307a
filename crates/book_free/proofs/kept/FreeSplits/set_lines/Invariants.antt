use Rattle.std.proofs.Common.{◌≡◌, ◌≤◌, drop, length}
use Rattle.book_free.specs.Following.{with_lines}
use Rattle.book_free.proofs.kept.FreeSplits.set_lines.Given as goal

abbrev pub invariant-loop-split : goal.invariant-loop-split
invariant-loop-split l =
    (with_lines (drop l.split-index l.moves) l.self.matched.entries ≡ with_lines l.moves l.fn.self.matched.entries)
    × ((length (drop l.split-index l.moves) ≤ l.self.matched.spare) × (l.self.index ≡ l.fn.self.index))
