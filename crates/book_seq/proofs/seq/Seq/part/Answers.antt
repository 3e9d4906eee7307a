use Rattle.std.proofs.Common.{◌≡◌, ◌<◌, drop, length, take, sym, subst}
use Rattle.book_seq.specs.Chunks.{Listed}
use Rattle.book_seq.proofs.ChangeLemmas.{placed}
use Rattle.book_seq.proofs.CutLemmas.{part_of}
use Rattle.book_seq.proofs.seq.Seq.part.Goals as goal

pub returns-clause-part : goal.returns-clause-part
returns-clause-part g c =
    let at = placed c.self.inside.chunks.items c.as_slice.result.now c.args.place c.spot_of-spot.result
    c.index.result.now c.as_slice.ensures.value c.spot_of-spot.ensures c.index.ensures in
    subst (λ (v : Listed g.row.E.Denot).
    c.from.result.now ≡ take (length c.from.result.now) (drop c.args.place v.list)) c.self.view_is
    (part_of c.self.inside.chunks.items c.args.place c.spot_of-spot.result c.index.result.now c.from.result.now at
    (subst (λ (v : Listed g.row.E.Denot). c.args.place < length v.list) (sym c.self.view_is) c.requires)
    c.from.ensures).0
