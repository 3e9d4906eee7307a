-- Those from the place on are left to compare.
use Rattle.std.proofs.Common.{◌≡◌, drop}
use Rattle.book_history.specs.Leaving.{are_remarked}
use Rattle.book_history.proofs.marking.are_remarked.Given as goal

abbrev pub invariant-loop-place : goal.invariant-loop-place
invariant-loop-place l = are_remarked l.old l.new ≡ are_remarked (drop l.place l.old) (drop l.place l.new)
