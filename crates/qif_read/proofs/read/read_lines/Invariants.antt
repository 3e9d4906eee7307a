use Rattle.std.proofs.Common.{length, IsUtf8}
use Rattle.qif_read.proofs.WholeLemmas.{SoFar}
use Rattle.qif_read.proofs.read.read_lines.Given as goal

abbrev pub invariant-loop-rest : goal.invariant-loop-rest
invariant-loop-rest l = record {
  known : SoFar l.form l.text l.rest l.reader l.count;
  utf8 : IsUtf8 l.rest;
}

abbrev pub decreases-loop-rest : goal.decreases-loop-rest
decreases-loop-rest l = length l.rest
