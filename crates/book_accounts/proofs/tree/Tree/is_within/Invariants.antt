use Rattle.std.proofs.Common.{◌≡◌, length}
use Rattle.book_accounts.specs.Rules.{is_within}
use Rattle.book_accounts.specs.Tree.{ancestors}
use Rattle.book_accounts.proofs.tree.Tree.is_within.Given as goal

abbrev pub invariant-loop-current : goal.invariant-loop-current
invariant-loop-current l = is_within l.self.entries l.upper l.current ≡ is_within l.self.entries l.upper l.fn.number

abbrev pub decreases-loop-current : goal.decreases-loop-current
decreases-loop-current l = length (ancestors l.self.entries l.current)
