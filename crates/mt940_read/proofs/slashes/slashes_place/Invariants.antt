use Rattle.std.proofs.Common.{◌≡◌, ◌++◌, take, drop}
use Rattle.mt940_read.specs.LineField.{before_slashes, behind_slashes}
use Rattle.mt940_read.proofs.slashes.slashes_place.Given as goal

-- no double slash begins before the place
abbrev pub invariant-loop-place : goal.invariant-loop-place
invariant-loop-place l =
    (take l.place l.text ++ before_slashes (drop l.place l.text) ≡ before_slashes l.text)
    × (behind_slashes (drop l.place l.text) ≡ behind_slashes l.text)
