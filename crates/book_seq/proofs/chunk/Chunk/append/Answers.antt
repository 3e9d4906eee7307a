use Rattle.std.proofs.Common.{◌≡◌, length, ap, sym, ◌∙◌, arith}
use Rattle.book_seq.specs.Chunks.{Piece}
use Rattle.book_seq.specs.Sums.{sums_of}
use Rattle.book_seq.proofs.SumLemmas.{kept_append, kept_plus}
use Rattle.book_seq.proofs.chunk.Chunk.append.Goals as goal

pub plus-sums-requires : goal.plus-sums-requires
plus-sums-requires g c =
    let same : length c.self.inside.entries.items ≡ length c.args.self.now.entries =
    ap (λ (piece : Piece g.row.E.Denot). length piece.entries) c.self.view_is in
    kept_plus g.E.Weigh.weights c.self.inside.entries.items (length c.args.other.now.entries) c.self.inside.sums
    c.sums.result c.self.invariant c.sums.ensures.within (omega arith)

pub invariant_of-self : goal.invariant_of-self
invariant_of-self g c =
    rw (c.in-Ok.ensures.items, c.plus-sums.ensures) (kept_append g.E.Weigh.weights c.self.inside.entries.items
    c.other.inside.entries.items c.self.inside.sums c.sums.result c.self.invariant (record {
      sums = c.sums.ensures.sums
          ∙ ap (λ (piece : Piece g.row.E.Denot). sums_of g.E.Weigh.weights piece.entries) (sym c.other.view_is);
      bounded = c.other.invariant.bounded;
    }))
