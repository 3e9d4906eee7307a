use Rattle.std.proofs.Common.{◌≡◌, ◌∷◌, ◌++◌, length}
use Rattle.book_accounts.specs.Tree.{ancestors}
use Rattle.book_export.proofs.path.way_up.Given as goal

-- the way so far, and what the account reached stands under
abbrev pub invariant-loop-parent : goal.invariant-loop-parent
invariant-loop-parent l =
    l.way.items ++ ancestors l.accounts.entries l.current ≡ l.fn.number ∷ ancestors l.accounts.entries l.fn.number

abbrev pub decreases-loop-parent : goal.decreases-loop-parent
decreases-loop-parent l = length (ancestors l.accounts.entries l.current)
