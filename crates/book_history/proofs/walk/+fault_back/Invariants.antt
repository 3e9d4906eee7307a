use Rattle.std.proofs.Common.{length}
use Rattle.book_history.proofs.walk.+fault_back.Given as goal

abbrev pub decreases-fault_back : goal.decreases-fault_back
decreases-fault_back l = length l.steps.now
