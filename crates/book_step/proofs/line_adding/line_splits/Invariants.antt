use Rattle.std.proofs.Common.{◌≡◌}
use Rattle.book_step.specs.LineAdding.{line_splits}
use Rattle.book_step.proofs.line_adding.line_splits.Given as goal

abbrev pub invariant-loop-other : goal.invariant-loop-other
invariant-loop-other l = l.splits.items ≡ line_splits l.number l.line l.yielded
