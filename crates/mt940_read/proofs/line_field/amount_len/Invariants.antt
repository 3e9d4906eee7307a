use Rattle.std.proofs.Common.{◌≡◌, ◌+◌, drop}
use Rattle.mt940_read.specs.LineField.{amount_len}
use Rattle.mt940_read.proofs.line_field.amount_len.Given as goal

-- every byte so far is a digit or a comma
abbrev pub invariant-loop-place : goal.invariant-loop-place
invariant-loop-place l = amount_len (drop l.place l.text) + l.place ≡ amount_len l.text
