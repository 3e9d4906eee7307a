use Rattle.std.proofs.Common.{length}
use Rattle.std.specs.Str.{IsUtf8}
use Rattle.mt940_read.proofs.RunLemmas.{SoFar}
use Rattle.mt940_read.proofs.read.read_mt940.Given as goal

-- the lines before the rest were read
abbrev pub invariant-loop-rest : goal.invariant-loop-rest
invariant-loop-rest l = record { so_far : SoFar l.known.entries l.text l.reader l.count l.rest; utf8 : IsUtf8 l.rest }

abbrev pub decreases-loop-rest : goal.decreases-loop-rest
decreases-loop-rest l = length l.rest
