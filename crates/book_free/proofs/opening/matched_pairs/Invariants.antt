use Rattle.std.proofs.Common.{◌≡◌, ◌++◌, drop}
use Rattle.book_free.specs.Opening.{line_pairs}
use Rattle.book_free.proofs.opening.matched_pairs.Given as goal

abbrev pub invariant-loop-number : goal.invariant-loop-number
invariant-loop-number l = l.pairs.items ++ line_pairs (drop l.number-index l.lines) ≡ line_pairs l.lines
