use Rattle.std.proofs.Common.{◌≡◌, ◌∷◌, ◌++◌, length}
use Rattle.book_accounts.specs.Tree.{ancestors}
use Rattle.book_accounts.proofs.tree.Tree.way_up.Given as goal

abbrev pub invariant-loop-parent : goal.invariant-loop-parent
invariant-loop-parent l =
    l.way.items ++ ancestors l.self.entries l.current ≡ l.fn.number ∷ ancestors l.self.entries l.fn.number

abbrev pub decreases-loop-parent : goal.decreases-loop-parent
decreases-loop-parent l = length (ancestors l.self.entries l.current)
