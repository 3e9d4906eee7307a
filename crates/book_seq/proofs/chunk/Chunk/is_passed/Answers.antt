use Rattle.std.proofs.Common.{ap, sym, ◌∙◌}
use Rattle.book_seq.specs.Chunks.{Piece}
use Rattle.book_seq.specs.Cuts.{last_passes}
use Rattle.book_seq.proofs.CutLemmas.{last-is}
use Rattle.book_seq.proofs.chunk.Chunk.is_passed.Goals as goal

pub returns-in-Some-clause-passed : goal.returns-in-Some-clause-passed
returns-in-Some-clause-passed g c =
    c.passes.ensures
    ∙ sym (last-is (g.T.Test.is_passed c.args.test.now) c.deref.result.now c.in-Some.entry.now
    (sym c.in-Some.ensures.value))
    ∙ ap (last_passes (g.T.Test.is_passed c.args.test.now)) (c.deref.ensures.value
    ∙ ap (λ (v : Piece g.row.E.Denot). v.entries) c.self.view_is)
