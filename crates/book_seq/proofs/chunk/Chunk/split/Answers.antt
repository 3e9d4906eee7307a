use Rattle.std.proofs.Common.{◌≡◌, ◌-◌, ◌^◌, length, take, ap, arith}
use Rattle.std.proofs.lemmas.List.{length-take}
use Rattle.book_seq.specs.Chunks.{Piece}
use Rattle.book_seq.specs.Sums.{difference}
use Rattle.book_seq.proofs.SumLemmas.{are_within-le, kept_drop, kept_take, kept_within}
use Rattle.book_seq.proofs.chunk.Chunk.split.Goals as goal

pub minus-self-inside-requires : goal.minus-self-inside-requires
minus-self-inside-requires g c =
    let same : length c.self.inside.entries.items ≡ length c.args.self.now.entries =
    ap (λ (piece : Piece g.row.E.Denot). length piece.entries) c.self.view_is in
    are_within-le (length (take c.args.place c.self.inside.entries.items)) (2 ^ 64 - 1)
    (difference c.self.inside.sums c.move_upper-moved.result)
    (omega (arith, length-take c.args.place c.self.inside.entries.items))
    (kept_within g.E.Weigh.weights (take c.args.place c.self.inside.entries.items)
    (difference c.self.inside.sums c.move_upper-moved.result) (kept_take g.E.Weigh.weights
    c.self.inside.entries.items c.args.place c.self.inside.sums c.move_upper-moved.result c.self.invariant
    c.move_upper-moved.ensures.sums))

pub invariant_of-self : goal.invariant_of-self
invariant_of-self g c =
    rw (c.move_upper-moved.ensures.lower, c.minus-self-inside.ensures) (kept_take g.E.Weigh.weights
    c.self.inside.entries.items c.args.place c.self.inside.sums c.move_upper-moved.result c.self.invariant
    c.move_upper-moved.ensures.sums)

pub invariant_of-other : goal.invariant_of-other
invariant_of-other g c =
    rw c.move_upper-moved.ensures.upper (kept_drop g.E.Weigh.weights c.self.inside.entries.items c.args.place
    c.self.inside.sums c.move_upper-moved.result c.self.invariant c.move_upper-moved.ensures.sums)
