use Rattle.std.proofs.Common.{◌≡◌, ◌<◌, Some, length, slice_get, sym, subst}
use Rattle.book_seq.specs.Chunks.{Listed}
use Rattle.book_seq.proofs.ChangeLemmas.{got, placed}
use Rattle.book_seq.proofs.seq.Seq.get.Goals as goal

pub returns-clause-entry : goal.returns-clause-entry
returns-clause-entry g c =
    let at = placed c.self.inside.chunks.items c.as_slice.result.now c.args.place c.spot_of-spot.result
    c.index.result.now c.as_slice.ensures.value c.spot_of-spot.ensures c.index.ensures in
    subst (λ (v : Listed g.row.E.Denot). slice_get v.list c.args.place ≡ Some c.entry.result.now) c.self.view_is
    (got c.self.inside.chunks.items c.args.place c.spot_of-spot.result c.index.result.now c.entry.result.now at
    (subst (λ (v : Listed g.row.E.Denot). c.args.place < length v.list) (sym c.self.view_is) c.requires)
    c.entry.ensures.entry)
