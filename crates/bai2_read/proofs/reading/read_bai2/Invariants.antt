use Rattle.std.proofs.Common.{◌+◌, ◌≤◌, length}
use Rattle.std.specs.Str.{IsUtf8}
use Rattle.bai2_read.proofs.ReadingLemmas.{SoFar}
use Rattle.bai2_read.proofs.reading.read_bai2.Given as goal

abbrev pub invariant-loop-rest : goal.invariant-loop-rest
invariant-loop-rest l = record {
  so_far : SoFar l.known.entries l.reader l.lines l.rest l.text;
  utf8 : IsUtf8 l.rest;
  within : l.lines + length l.rest ≤ length l.text;
}

abbrev pub decreases-loop-rest : goal.decreases-loop-rest
decreases-loop-rest l = length l.rest
