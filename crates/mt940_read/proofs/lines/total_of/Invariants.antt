use Rattle.std.proofs.Common.{◌≡◌, take}
use Rattle.mt940_read.specs.Totals.{total_of}
use Rattle.mt940_read.proofs.TotalLemmas.{IsWithin}
use Rattle.mt940_read.proofs.lines.total_of.Given as goal

abbrev pub invariant-loop-line : goal.invariant-loop-line
invariant-loop-line l = record {
  sums : l.sum ≡ total_of (take l.line-index l.lines);
  within : IsWithin l.line-index l.sum;
}
