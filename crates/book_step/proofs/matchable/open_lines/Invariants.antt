use Rattle.std.proofs.Common.{◌≡◌, ◌++◌, drop}
use Rattle.book_step.specs.Matchable.{open_lines}
use Rattle.book_step.proofs.matchable.open_lines.Given as goal

abbrev pub invariant-loop-number : goal.invariant-loop-number
invariant-loop-number l =
    l.views.items ++ open_lines l.account (drop l.number-index l.lines) ≡ open_lines l.account l.lines
