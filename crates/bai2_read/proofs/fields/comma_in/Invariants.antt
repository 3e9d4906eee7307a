use Rattle.std.proofs.Common.{◌≡◌, ◌+◌, ◌==◌, drop}
use Rattle.std.specs.List.{position_or_len}
use Rattle.bai2_read.proofs.fields.comma_in.Given as goal

abbrev pub invariant-loop-place : goal.invariant-loop-place
invariant-loop-place l =
    position_or_len (λ b. b == 44) (drop l.place l.text) + l.place ≡ position_or_len (λ b. b == 44) l.text
