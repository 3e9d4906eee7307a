use Rattle.std.proofs.Common.{◌≡◌, ◌<◌, ◌-◌, ◌^◌, Some, length, slice_get, ap, arith, subst}
use Rattle.std.specs.List.{remove}
use Rattle.std.proofs.lemmas.List.Edits.{length-remove}
use Rattle.book_seq.specs.Chunks.{Piece}
use Rattle.book_seq.specs.Sums.{difference}
use Rattle.book_seq.proofs.ListLemmas.{slice_get_read}
use Rattle.book_seq.proofs.SumLemmas.{are_within-le, kept_remove, kept_within}
use Rattle.book_seq.proofs.chunk.Chunk.remove.Goals as goal

pub minus-self-inside-requires : goal.minus-self-inside-requires
minus-self-inside-requires g c =
    let same : length c.self.inside.entries.items ≡ length c.args.self.now.entries =
    ap (λ (piece : Piece g.row.E.Denot). length piece.entries) c.self.view_is in
    let below : c.args.place < length c.self.inside.entries.items = omega arith in
    let fewer = length-remove c.self.inside.entries.items c.args.place below in
    are_within-le (length (remove c.self.inside.entries.items c.args.place)) (2 ^ 64 - 1)
    (difference c.self.inside.sums c.of.result) (omega (arith, fewer))
    (kept_within g.E.Weigh.weights (remove c.self.inside.entries.items c.args.place)
    (difference c.self.inside.sums c.of.result) (kept_remove g.E.Weigh.weights c.self.inside.entries.items
    c.args.place c.remove-entry.result c.self.inside.sums c.of.result c.self.invariant below
    c.remove-entry.ensures.value c.of.ensures.weights))

pub invariant_of-self : goal.invariant_of-self
invariant_of-self g c =
    let same : length c.self.inside.entries.items ≡ length c.args.self.now.entries =
    ap (λ (piece : Piece g.row.E.Denot). length piece.entries) c.self.view_is in
    let below : c.args.place < length c.self.inside.entries.items = omega arith in
    rw (c.remove-entry.ensures.items, c.minus-self-inside.ensures) (kept_remove g.E.Weigh.weights
    c.self.inside.entries.items c.args.place c.remove-entry.result c.self.inside.sums c.of.result c.self.invariant below
    c.remove-entry.ensures.value c.of.ensures.weights)

pub returns-clause-entry : goal.returns-clause-entry
returns-clause-entry g c =
    let same : length c.self.inside.entries.items ≡ length c.args.self.now.entries =
    ap (λ (piece : Piece g.row.E.Denot). length piece.entries) c.self.view_is in
    let below : c.args.place < length c.self.inside.entries.items = omega arith in
    subst (λ (piece : Piece g.row.E.Denot). slice_get piece.entries c.args.place ≡ Some c.remove-entry.result)
    c.self.view_is (slice_get_read c.self.inside.entries.items c.args.place c.remove-entry.result below
    c.remove-entry.ensures.value)
