use Rattle.std.proofs.Common.{◌≡◌, map}
use Rattle.book_step.specs.Posting.{new_split}
use Rattle.book_step.proofs.schedules.template_splits.Given as goal

abbrev pub invariant-loop-split : goal.invariant-loop-split
invariant-loop-split l = l.splits.items ≡ map (new_split 0) l.yielded
