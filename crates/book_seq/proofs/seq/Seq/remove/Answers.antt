use Rattle.std.proofs.Common.{◌≡◌, ◌<◌, Some, length, slice_get, ap, sym, ◌∙◌, subst, arith}
use Rattle.std.specs.List.{remove}
use Rattle.std.proofs.lemmas.List.{length-set}
use Rattle.book_seq.specs.Chunks.{Listed, Piece, list_of}
use Rattle.book_seq.proofs.ChangeLemmas.{count_after, got, here_most, placed, read_set, refilled_sound}
use Rattle.book_seq.proofs.ChangeLemmas.{removed_list, removed_roomy, removed_short, removed_sound}
use Rattle.book_seq.proofs.seq.Seq.remove.Goals.{else-spot-len-via-then-spot-len+else-len-lt256}
use Rattle.book_seq.proofs.seq.Seq.remove.Goals.{else-spot-len-via-else-spot-len}
use Rattle.book_seq.proofs.seq.Seq.remove.Goals as goal

pub remove-entry-requires-clause-few : goal.remove-entry-requires-clause-few
remove-entry-requires-clause-few g c =
    let p = placed c.self.inside.chunks.items c.as_slice.result.now c.args.place c.spot_of-spot.result
    c.index_mut.result.now c.as_slice.ensures.value c.spot_of-spot.ensures c.index_mut.ensures.value in
    here_most c.self.inside.chunks.items c.self.inside.free.items c.args.place c.spot_of-spot.result
    c.index_mut.result.now c.self.inside.len p c.self.invariant.0

pub refill-requires-clause-short : goal.refill-requires-clause-short
refill-requires-clause-short g c =
    let p = placed c.self.inside.chunks.items c.as_slice.result.now c.args.place c.spot_of-spot.result
    c.index_mut.result.now c.as_slice.ensures.value c.spot_of-spot.ensures c.index_mut.ensures.value in
    let lt : c.args.place < length (list_of c.self.inside.chunks.items) =
    subst (λ (v : Listed g.row.E.Denot). c.args.place < length v.list) (sym c.self.view_is) c.requires in
    let count = count_after c.self.inside.chunks.items c.args.place c.spot_of-spot.result c.index_mut.result.now p in
    let read = ap (λ (q : Piece g.row.E.Denot). length q.entries)
    (read_set c.self.inside.chunks.items c.args.place c.spot_of-spot.result
    c.index_mut.result.now c.remove-entry.new.self c.index.result.now p c.index.ensures) in
    removed_short c.self.inside.chunks.items c.self.inside.free.items c.args.place c.spot_of-spot.result
    c.index_mut.result.now c.remove-entry.new.self c.self.inside.len p c.self.invariant.0 lt
    c.remove-entry.ensures.entries (omega (arith, count, c.if-spot-len.true, c.len.ensures, c.self.inside.chunks.ok.0))
    (omega (arith, read, c.if-len-lt256.true, c.len-then-spot-len.ensures))

pub refill-requires-clause-roomy : goal.refill-requires-clause-roomy
refill-requires-clause-roomy g c =
    let p = placed c.self.inside.chunks.items c.as_slice.result.now c.args.place c.spot_of-spot.result
    c.index_mut.result.now c.as_slice.ensures.value c.spot_of-spot.ensures c.index_mut.ensures.value in
    let count = count_after c.self.inside.chunks.items c.args.place c.spot_of-spot.result c.index_mut.result.now p in
    removed_roomy c.self.inside.chunks.items c.self.inside.free.items c.args.place c.spot_of-spot.result
    c.index_mut.result.now c.remove-entry.new.self c.self.inside.len p c.self.invariant.0
    (omega (arith, count, c.if-spot-len.true, c.len.ensures, c.self.inside.chunks.ok.0))
    (omega (arith, c.remove-entry.ensures.room))

pub invariant_of-self : goal.invariant_of-self
invariant_of-self g c =
    let p = placed c.self.inside.chunks.items c.as_slice.result.now c.args.place c.spot_of-spot.result
    c.index_mut.result.now c.as_slice.ensures.value c.spot_of-spot.ensures c.index_mut.ensures.value in
    let lt : c.args.place < length (list_of c.self.inside.chunks.items) =
    subst (λ (v : Listed g.row.E.Denot). c.args.place < length v.list) (sym c.self.view_is) c.requires in
    let size = length-set c.self.inside.chunks.items c.spot_of-spot.result.chunk c.remove-entry.new.self in (
      refilled_sound c.self.inside.chunks.items c.self.inside.free.items c.refill.new.chunks.items
          c.refill.new.free.items c.args.place c.spot_of-spot.result c.index_mut.result.now c.remove-entry.new.self
          c.self.inside.len p c.self.invariant.0 lt c.remove-entry.ensures.entries c.refill.ensures.list
          c.refill.ensures.packed c.refill.ensures.roomy c.refill.ensures.free_roomy c.refill.ensures.empty
          c.refill.ensures.some c.refill.ensures.total,
      (
        omega (arith, size, c.refill.ensures.total, c.refill.ensures.memory, c.self.invariant.1.0),
        omega (arith, size, c.refill.ensures.total, c.refill.ensures.free_memory, c.self.invariant.1.1),
      ),
    )

pub invariant_of-self-else-len-lt256 : goal.invariant_of-self-else-len-lt256
invariant_of-self-else-len-lt256 g c =
    let p = placed c.self.inside.chunks.items c.as_slice.result.now c.args.place c.spot_of-spot.result
    c.index_mut.result.now c.as_slice.ensures.value c.spot_of-spot.ensures c.index_mut.ensures.value in
    let lt : c.args.place < length (list_of c.self.inside.chunks.items) =
    subst (λ (v : Listed g.row.E.Denot). c.args.place < length v.list) (sym c.self.view_is) c.requires in
    let size = length-set c.self.inside.chunks.items c.spot_of-spot.result.chunk c.remove-entry.new.self in
    let read = ap (λ (q : Piece g.row.E.Denot). length q.entries)
    (read_set c.self.inside.chunks.items c.args.place c.spot_of-spot.result
    c.index_mut.result.now c.remove-entry.new.self c.index.result.now p c.index.ensures) in (
      removed_sound c.self.inside.chunks.items c.self.inside.free.items c.args.place c.spot_of-spot.result
          c.index_mut.result.now c.remove-entry.new.self c.self.inside.len p c.self.invariant.0 lt
          c.remove-entry.ensures.entries (omega (arith, c.remove-entry.ensures.room))
          (λ _. omega (arith, read, c.if-len-lt256.false, c.len-then-spot-len.ensures)),
      (omega (arith, size, c.self.invariant.1.0), omega (arith, size, c.self.invariant.1.1)),
    )

pub invariant_of-self-else-spot-len : goal.invariant_of-self-else-spot-len
invariant_of-self-else-spot-len g c =
    let p = placed c.self.inside.chunks.items c.as_slice.result.now c.args.place c.spot_of-spot.result
    c.index_mut.result.now c.as_slice.ensures.value c.spot_of-spot.ensures c.index_mut.ensures.value in
    let lt : c.args.place < length (list_of c.self.inside.chunks.items) =
    subst (λ (v : Listed g.row.E.Denot). c.args.place < length v.list) (sym c.self.view_is) c.requires in
    let size = length-set c.self.inside.chunks.items c.spot_of-spot.result.chunk c.remove-entry.new.self in
    let count = count_after c.self.inside.chunks.items c.args.place c.spot_of-spot.result c.index_mut.result.now p in (
      removed_sound c.self.inside.chunks.items c.self.inside.free.items c.args.place c.spot_of-spot.result
          c.index_mut.result.now c.remove-entry.new.self c.self.inside.len p c.self.invariant.0 lt
          c.remove-entry.ensures.entries (omega (arith, c.remove-entry.ensures.room))
          (λ more. absurd (omega (
            arith,
            more,
            count,
            c.if-spot-len.false,
            c.len.ensures,
            c.self.inside.chunks.ok.0,
          ))),
      (omega (arith, size, c.self.invariant.1.0), omega (arith, size, c.self.invariant.1.1)),
    )

pub returns-then-len-lt256-clause-entry : goal.returns-then-len-lt256-clause-entry
returns-then-len-lt256-clause-entry g c =
    let p = placed c.self.inside.chunks.items c.as_slice.result.now c.args.place c.spot_of-spot.result
    c.index_mut.result.now c.as_slice.ensures.value c.spot_of-spot.ensures c.index_mut.ensures.value in
    let lt : c.args.place < length (list_of c.self.inside.chunks.items) =
    subst (λ (v : Listed g.row.E.Denot). c.args.place < length v.list) (sym c.self.view_is) c.requires in
    subst (λ (v : Listed g.row.E.Denot). slice_get v.list c.args.place ≡ Some c.remove-entry.result) c.self.view_is
    (got c.self.inside.chunks.items c.args.place c.spot_of-spot.result c.index_mut.result.now c.remove-entry.result p lt
    c.remove-entry.ensures.entry)

pub returns-then-len-lt256-clause-list : goal.returns-then-len-lt256-clause-list
returns-then-len-lt256-clause-list g c =
    let p = placed c.self.inside.chunks.items c.as_slice.result.now c.args.place c.spot_of-spot.result
    c.index_mut.result.now c.as_slice.ensures.value c.spot_of-spot.ensures c.index_mut.ensures.value in
    let lt : c.args.place < length (list_of c.self.inside.chunks.items) =
    subst (λ (v : Listed g.row.E.Denot). c.args.place < length v.list) (sym c.self.view_is) c.requires in
    c.refill.ensures.list
    ∙ removed_list c.self.inside.chunks.items c.args.place c.spot_of-spot.result c.index_mut.result.now
    c.remove-entry.new.self p lt c.remove-entry.ensures.entries
    ∙ ap (λ (v : Listed g.row.E.Denot). remove v.list c.args.place) c.self.view_is

pub returns-else-spot-len-clause-entry : goal.returns-else-spot-len-clause-entry
returns-else-spot-len-clause-entry g c =
    let p = placed c.self.inside.chunks.items c.as_slice.result.now c.args.place c.spot_of-spot.result
    c.index_mut.result.now c.as_slice.ensures.value c.spot_of-spot.ensures c.index_mut.ensures.value in
    let lt : c.args.place < length (list_of c.self.inside.chunks.items) =
    subst (λ (v : Listed g.row.E.Denot). c.args.place < length v.list) (sym c.self.view_is) c.requires in
    subst (λ (v : Listed g.row.E.Denot). slice_get v.list c.args.place ≡ Some c.remove-entry.result) c.self.view_is
    (got c.self.inside.chunks.items c.args.place c.spot_of-spot.result c.index_mut.result.now c.remove-entry.result p lt
    c.remove-entry.ensures.entry)

pub returns-else-spot-len-clause-list : goal.returns-else-spot-len-clause-list
returns-else-spot-len-clause-list g c =
    let p = placed c.self.inside.chunks.items c.as_slice.result.now c.args.place c.spot_of-spot.result
    c.index_mut.result.now c.as_slice.ensures.value c.spot_of-spot.ensures c.index_mut.ensures.value in
    let lt : c.args.place < length (list_of c.self.inside.chunks.items) =
    subst (λ (v : Listed g.row.E.Denot). c.args.place < length v.list) (sym c.self.view_is) c.requires in
    let done = removed_list c.self.inside.chunks.items c.args.place c.spot_of-spot.result c.index_mut.result.now
    c.remove-entry.new.self p lt c.remove-entry.ensures.entries
    ∙ ap (λ (v : Listed g.row.E.Denot). remove v.list c.args.place) c.self.view_is in
    elim c.else-spot-len.branch [
      | else-spot-len-via-then-spot-len+else-len-lt256 w ↦ ap (λ (v : Listed g.row.E.Denot). v.list) w.self-is ∙ done
      | else-spot-len-via-else-spot-len w ↦ ap (λ (v : Listed g.row.E.Denot). v.list) w.self-is ∙ done
    ]
