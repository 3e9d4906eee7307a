use Rattle.std.proofs.Common.{◌≡◌, ◌+◌, drop}
use Rattle.bai2_read.specs.Fields.{field_count}
use Rattle.bai2_read.proofs.fields.has_fields.Given as goal

abbrev pub invariant-loop-byte : goal.invariant-loop-byte
invariant-loop-byte l = l.missing + field_count l.body ≡ l.least + field_count (drop l.byte-index l.body)
