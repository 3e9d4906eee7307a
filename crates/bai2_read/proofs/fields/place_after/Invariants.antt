use Rattle.std.proofs.Common.{◌≡◌, drop}
use Rattle.bai2_read.specs.Fields.{after_fields}
use Rattle.bai2_read.proofs.fields.place_after.Given as goal

abbrev pub invariant-loop-place : goal.invariant-loop-place
invariant-loop-place l = after_fields l.fields l.body ≡ after_fields l.left (drop l.place l.body)
