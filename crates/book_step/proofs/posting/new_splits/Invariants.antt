use Rattle.std.proofs.Common.{◌≡◌}
use Rattle.book_step.specs.Posting.{new_splits}
use Rattle.book_step.proofs.posting.new_splits.Given as goal

abbrev pub invariant-loop-split : goal.invariant-loop-split
invariant-loop-split l = l.splits.items ≡ new_splits l.number l.yielded
