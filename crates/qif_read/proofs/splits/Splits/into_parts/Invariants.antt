use Rattle.std.proofs.Common.{◌≡◌, map}
use Rattle.qif_read.specs.Kept.{part_said}
use Rattle.qif_read.proofs.splits.Splits.into_parts.Given as goal

abbrev pub invariant-loop-split : goal.invariant-loop-split
invariant-loop-split l = l.parts.items ≡ map part_said l.yielded
