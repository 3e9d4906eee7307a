-- The lists are the same if and only if what is left of them is.
use Rattle.std.proofs.Common.{◌≡◌, ◌↔◌, length}
use Rattle.gate_rows.proofs.rows.are_same.Given as goal

abbrev pub invariant-rows : goal.invariant-rows
invariant-rows l = (l.rows ≡ l.others) ↔ (l.left ≡ l.right)

abbrev pub decreases-rows : goal.decreases-rows
decreases-rows l = length l.left
