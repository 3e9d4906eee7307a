use Rattle.std.proofs.Common.{◌≡◌, length, ap, arith}
use Rattle.book_seq.specs.Chunks.{Piece}
use Rattle.book_seq.proofs.SumLemmas.{kept_insert, kept_plus}
use Rattle.book_seq.proofs.chunk.Chunk.insert.Goals as goal

pub plus-sums-requires : goal.plus-sums-requires
plus-sums-requires g c =
    let same : length c.self.inside.entries.items ≡ length c.args.self.now.entries =
    ap (λ (piece : Piece g.row.E.Denot). length piece.entries) c.self.view_is in
    kept_plus g.E.Weigh.weights c.self.inside.entries.items 1 c.self.inside.sums c.of.result c.self.invariant
    c.of.ensures.within (omega arith)

pub invariant_of-self : goal.invariant_of-self
invariant_of-self g c =
    rw (c.in-Ok.ensures.items, c.plus-sums.ensures) (kept_insert g.E.Weigh.weights c.self.inside.entries.items
    c.args.place c.args.entry c.self.inside.sums c.of.result c.self.invariant c.of.ensures.weights c.of.ensures.within)
