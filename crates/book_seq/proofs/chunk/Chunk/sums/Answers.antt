use Rattle.std.proofs.Common.{length, subst}
use Rattle.book_seq.specs.Chunks.{Piece}
use Rattle.book_seq.specs.Sums.{AreWithin}
use Rattle.book_seq.proofs.SumLemmas.{kept_within}
use Rattle.book_seq.proofs.chunk.Chunk.sums.Goals as goal

pub returns-clause-within : goal.returns-clause-within
returns-clause-within g c =
    subst (λ (piece : Piece g.row.E.Denot). AreWithin (length piece.entries) c.self.inside.sums) c.self.view_is
    (kept_within g.E.Weigh.weights c.self.inside.entries.items c.self.inside.sums c.self.invariant)
