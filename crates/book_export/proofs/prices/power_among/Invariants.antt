use Rattle.std.proofs.Common.{◌≡◌, ◌*◌, ◌%◌, ◌==◌, length}
use Rattle.std.specs.Prelude.{find}
use Rattle.book_export.proofs.prices.power_among.Given as goal

-- none of the numbers so far makes it whole
abbrev pub invariant-loop-power : goal.invariant-loop-power
invariant-loop-power l =
    find (λ power. l.num * power % l.denom == 0) l.left ≡ find (λ power. l.num * power % l.denom == 0) l.fn.powers

abbrev pub decreases-loop-power : goal.decreases-loop-power
decreases-loop-power l = length l.left
