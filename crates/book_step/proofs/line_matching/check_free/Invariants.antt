-- None of the lines so far has the split.
use Rattle.std.proofs.Common.{◌≡◌, drop}
use Rattle.book_step.specs.LineMatching.{line_of_split}
use Rattle.book_step.proofs.line_matching.check_free.Given as goal

abbrev pub invariant-loop-number : goal.invariant-loop-number
invariant-loop-number l =
    line_of_split l.split l.lines.entries ≡ line_of_split l.split (drop l.number-index l.number-items)
