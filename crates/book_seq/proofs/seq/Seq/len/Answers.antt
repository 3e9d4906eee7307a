use Rattle.book_seq.proofs.ChunkLemmas.{chunks_few}
use Rattle.book_seq.proofs.seq.Seq.len.Goals as goal

pub returns-clause-few : goal.returns-clause-few
returns-clause-few g c =
    rw (← c.self.view_is) (chunks_few c.self.inside.chunks.items c.self.invariant.0.packed)
