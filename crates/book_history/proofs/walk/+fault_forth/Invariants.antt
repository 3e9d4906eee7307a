use Rattle.std.proofs.Common.{length}
use Rattle.book_history.proofs.walk.+fault_forth.Given as goal

abbrev pub decreases-fault_forth : goal.decreases-fault_forth
decreases-fault_forth l = length l.steps.now
