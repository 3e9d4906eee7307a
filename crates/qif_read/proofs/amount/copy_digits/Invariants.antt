use Rattle.std.proofs.Common.{◌≡◌, ◌≤◌, ◌++◌, take, drop, length}
use Rattle.qif_read.specs.QifAmount.{without_commas}
use Rattle.qif_read.proofs.amount.copy_digits.Given as goal

abbrev pub invariant-loop-byte : goal.invariant-loop-byte
invariant-loop-byte l = record {
  copied : take l.count l.buffer ++ without_commas (drop l.byte-index l.whole) ≡ without_commas l.whole;
  within : l.count ≤ length l.buffer;
}
