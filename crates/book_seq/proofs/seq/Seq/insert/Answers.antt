use Rattle.std.proofs.Common.{◌≡◌, ◌+◌, ◌<◌, ◌≤◌, [], ◌∷◌, ◌++◌, length, ap, sym, ◌∙◌, subst, arith}
use Rattle.std.specs.List.{insert}
use Rattle.std.proofs.lemmas.Bool.{ne_eqb}
use Rattle.std.proofs.lemmas.List.{length-set, length_push}
use Rattle.std.proofs.lemmas.List.Edits.{length-insert}
use Rattle.book_seq.specs.Chunks.{AreSound, Listed, Piece, first_room, list_of, spare_of}
use Rattle.book_seq.proofs.ChunkLemmas.{length-most}
use Rattle.book_seq.proofs.ChangeLemmas.{count_after, free_there, here_most, here_roomy, inserted_list, inserted_sound}
use Rattle.book_seq.proofs.ChangeLemmas.{last_free, placed, room_here, same_here, split_list, split_sound}
use Rattle.book_seq.proofs.seq.Seq.insert.Goals as goal

pub overflow_add-self : goal.overflow_add-self
overflow_add-self g c = record {
  fits = omega (
    arith,
    length-most c.self.inside.chunks.items c.self.invariant.0.packed,
    c.self.invariant.0.counted,
    c.self.invariant.0.few,
  );
}

pub insert-requires-clause-room : goal.insert-requires-clause-room
insert-requires-clause-room g c =
    let p = placed c.self.inside.chunks.items c.as_slice.result.now c.args.place c.spot_of-spot.result
    c.index_mut.result.now c.as_slice.ensures.value c.spot_of-spot.ensures c.index_mut.ensures.value in
    let same = ap (λ (q : Piece g.row.E.Denot). length q.entries) (same_here c.self.inside.chunks.items
    c.as_slice.result.now c.args.place c.spot_of-spot.result c.index.result.now c.index_mut.result.now
    c.as_slice.ensures.value c.spot_of-spot.ensures c.index.ensures c.index_mut.ensures.value) in
    let few : length c.index_mut.result.now.entries < 512 = omega (arith, same) in
    let some : 1 ≤ spare_of (length c.self.inside.chunks.items) (length c.self.inside.free.items)
    (first_room c.self.inside.chunks.items) c.self.inside.len =
    subst (λ (v : Listed g.row.E.Denot). 1 ≤ v.spare) (sym c.self.view_is) c.requires.room in
    room_here c.self.inside.chunks.items c.self.inside.free.items c.args.place c.spot_of-spot.result
    c.index_mut.result.now c.self.inside.len p c.self.invariant.0 some few

pub invariant_of-self : goal.invariant_of-self
invariant_of-self g c =
    let p = placed c.self.inside.chunks.items c.as_slice.result.now c.args.place c.spot_of-spot.result
    c.index_mut.result.now c.as_slice.ensures.value c.spot_of-spot.ensures c.index_mut.ensures.value in
    let same = ap (λ (q : Piece g.row.E.Denot). length q.entries) (same_here c.self.inside.chunks.items
    c.as_slice.result.now c.args.place c.spot_of-spot.result c.index.result.now c.index_mut.result.now
    c.as_slice.ensures.value c.spot_of-spot.ensures c.index.ensures c.index_mut.ensures.value) in
    let few : length c.index_mut.result.now.entries < 512 = omega (arith, same) in
    let size = length-set c.self.inside.chunks.items c.spot_of-spot.result.chunk c.insert.new.self in (
      inserted_sound c.self.inside.chunks.items c.self.inside.free.items c.args.place c.spot_of-spot.result
          c.index_mut.result.now c.insert.new.self c.args.entry c.self.inside.len p c.self.invariant.0 few
          c.insert.ensures.entries c.insert.ensures.room,
      (omega (arith, size, c.self.invariant.1.0), omega (arith, size, c.self.invariant.1.1)),
    )

pub returns-then-len-lt512-clause-list : goal.returns-then-len-lt512-clause-list
returns-then-len-lt512-clause-list g c =
    let p = placed c.self.inside.chunks.items c.as_slice.result.now c.args.place c.spot_of-spot.result
    c.index_mut.result.now c.as_slice.ensures.value c.spot_of-spot.ensures c.index_mut.ensures.value in
    inserted_list c.self.inside.chunks.items c.args.place c.spot_of-spot.result c.index_mut.result.now c.insert.new.self
    c.args.entry p c.insert.ensures.entries
    ∙ ap (λ (v : Listed g.row.E.Denot). insert v.list c.args.place c.args.entry) c.self.view_is

pub unreachable-requires : goal.unreachable-requires
unreachable-requires g c =
    let p = placed c.self.inside.chunks.items c.as_slice.result.now c.args.place c.spot_of-spot.result
    c.index.result.now c.as_slice.ensures.value c.spot_of-spot.ensures c.index.ensures in
    let some : 1 ≤ spare_of (length c.self.inside.chunks.items) (length c.self.inside.free.items)
    (first_room c.self.inside.chunks.items) c.self.inside.len =
    subst (λ (v : Listed g.row.E.Denot). 1 ≤ v.spare) (sym c.self.view_is) c.requires.room in
    let full : length c.index.result.now.entries ≡ 512 =
    omega (
      arith,
      here_most c.self.inside.chunks.items c.self.inside.free.items c.args.place c.spot_of-spot.result
          c.index.result.now c.self.inside.len p c.self.invariant.0,
    ) in
    omega (
      arith,
      c.in_default.ensures.cases.0,
      c.self.inside.free.ok.0,
      free_there
          c.self.inside.chunks.items c.self.inside.free.items c.args.place c.spot_of-spot.result
          c.index.result.now c.self.inside.len p c.self.invariant.0 some full,
    )

pub put-requires-clause-full : goal.put-requires-clause-full
put-requires-clause-full g c =
    let p = placed c.self.inside.chunks.items c.as_slice.result.now c.args.place c.spot_of-spot.result
    c.index_mut-2.result.now c.as_slice.ensures.value c.spot_of-spot.ensures c.index_mut-2.ensures.value in
    let same = ap (λ (q : Piece g.row.E.Denot). length q.entries) (same_here c.self.inside.chunks.items
    c.as_slice.result.now c.args.place c.spot_of-spot.result c.index.result.now c.index_mut-2.result.now
    c.as_slice.ensures.value c.spot_of-spot.ensures c.index.ensures c.index_mut-2.ensures.value) in
    let full : length c.index_mut-2.result.now.entries ≡ 512 =
    omega (
      arith,
      same,
      here_most c.self.inside.chunks.items c.self.inside.free.items c.args.place
          c.spot_of-spot.result c.index_mut-2.result.now c.self.inside.len p c.self.invariant.0,
    ) in
    full

pub put-requires-clause-room : goal.put-requires-clause-room
put-requires-clause-room g c =
    let p = placed c.self.inside.chunks.items c.as_slice.result.now c.args.place c.spot_of-spot.result
    c.index_mut-2.result.now c.as_slice.ensures.value c.spot_of-spot.ensures c.index_mut-2.ensures.value in
    let same = ap (λ (q : Piece g.row.E.Denot). length q.entries) (same_here c.self.inside.chunks.items
    c.as_slice.result.now c.args.place c.spot_of-spot.result c.index.result.now c.index_mut-2.result.now
    c.as_slice.ensures.value c.spot_of-spot.ensures c.index.ensures c.index_mut-2.ensures.value) in
    let full : length c.index_mut-2.result.now.entries ≡ 512 =
    omega (
      arith,
      same,
      here_most c.self.inside.chunks.items c.self.inside.free.items c.args.place
          c.spot_of-spot.result c.index_mut-2.result.now c.self.inside.len p c.self.invariant.0,
    ) in
    let some : 1 ≤ spare_of (length c.self.inside.chunks.items) (length c.self.inside.free.items)
    (first_room c.self.inside.chunks.items) c.self.inside.len =
    subst (λ (v : Listed g.row.E.Denot). 1 ≤ v.spare) (sym c.self.view_is) c.requires.room in
    let there = free_there c.self.inside.chunks.items c.self.inside.free.items c.args.place c.spot_of-spot.result
    c.index_mut-2.result.now c.self.inside.len p c.self.invariant.0 some full in
    let count = count_after c.self.inside.chunks.items c.args.place c.spot_of-spot.result c.index_mut-2.result.now p in
    here_roomy c.self.inside.chunks.items c.self.inside.free.items c.args.place c.spot_of-spot.result
    c.index_mut-2.result.now c.self.inside.len p c.self.invariant.0 (omega (arith, there, count))

pub put-requires-clause-empty : goal.put-requires-clause-empty
put-requires-clause-empty g c =
    let p = placed c.self.inside.chunks.items c.as_slice.result.now c.args.place c.spot_of-spot.result
    c.index_mut-2.result.now c.as_slice.ensures.value c.spot_of-spot.ensures c.index_mut-2.ensures.value in
    let count = count_after c.self.inside.chunks.items c.args.place c.spot_of-spot.result c.index_mut-2.result.now p in
    (last_free c.self.inside.chunks.items c.self.inside.free.items c.pop.new.self.items c.in-Some.fresh
    c.self.inside.len c.self.invariant.0 c.in-Some.ensures.items (omega (arith, count))).0

pub put-requires-clause-fresh_room : goal.put-requires-clause-fresh_room
put-requires-clause-fresh_room g c =
    let p = placed c.self.inside.chunks.items c.as_slice.result.now c.args.place c.spot_of-spot.result
    c.index_mut-2.result.now c.as_slice.ensures.value c.spot_of-spot.ensures c.index_mut-2.ensures.value in
    let count = count_after c.self.inside.chunks.items c.args.place c.spot_of-spot.result c.index_mut-2.result.now p in
    (last_free c.self.inside.chunks.items c.self.inside.free.items c.pop.new.self.items c.in-Some.fresh
    c.self.inside.len c.self.invariant.0 c.in-Some.ensures.items (omega (arith, count))).1

pub put-requires-clause-offset : goal.put-requires-clause-offset
put-requires-clause-offset g c =
    let p = placed c.self.inside.chunks.items c.as_slice.result.now c.args.place c.spot_of-spot.result
    c.index_mut-2.result.now c.as_slice.ensures.value c.spot_of-spot.ensures c.index_mut-2.ensures.value in
    omega (
      arith,
      p.within,
      here_most c.self.inside.chunks.items c.self.inside.free.items c.args.place c.spot_of-spot.result
          c.index_mut-2.result.now c.self.inside.len p c.self.invariant.0,
    )

pub invariant_of-self-2 : goal.invariant_of-self-2
invariant_of-self-2 g c =
    let p = placed c.self.inside.chunks.items c.as_slice.result.now c.args.place c.spot_of-spot.result
    c.index_mut-2.result.now c.as_slice.ensures.value c.spot_of-spot.ensures c.index_mut-2.ensures.value in
    let free_is : c.self.inside.free.items ≡ c.pop.new.self.items ++ c.in-Some.fresh ∷ [] = c.in-Some.ensures.items in
    let fewer = ap length free_is ∙ length_push c.pop.new.self.items c.in-Some.fresh in
    let count = count_after c.self.inside.chunks.items c.args.place c.spot_of-spot.result c.index_mut-2.result.now p in
    let size = length-set c.self.inside.chunks.items c.spot_of-spot.result.chunk c.put.new.chunk in
    let longer = ap length c.in-Ok.ensures.items ∙ length-insert _ (c.spot_of-spot.result.chunk + 1) c.put.new.fresh
    (omega (arith, size, count)) in (
      subst (λ l. AreSound l c.pop.new.self.items (c.self.inside.len + 1)) (sym c.in-Ok.ensures.items)
          (split_sound c.self.inside.chunks.items c.pop.new.self.items c.args.place c.spot_of-spot.result
          c.index_mut-2.result.now c.put.new.chunk c.put.new.fresh c.in-Some.fresh c.args.entry c.self.inside.len p
          (subst (λ l. AreSound c.self.inside.chunks.items l c.self.inside.len) free_is c.self.invariant.0)
          c.put.ensures.both c.put.ensures.least c.put.ensures.most (λ more. c.put.ensures.fresh_least
          (ne_eqb (c.spot_of-spot.result.chunk + 1) c.len-2.result (λ same. omega (
            arith,
            same,
            more,
            count,
            c.len-2.ensures,
            c.self.inside.chunks.ok.0,
          )))) c.put.ensures.fresh_most c.put.ensures.room c.put.ensures.fresh_room),
      (
        omega (arith, fewer, longer, size, c.self.invariant.1.0, c.in-Ok.ensures.capacity),
        omega (arith, fewer, longer, size, c.self.invariant.1.1, c.in-Some.ensures.capacity),
      ),
    )

pub returns-clause-list : goal.returns-clause-list
returns-clause-list g c =
    let p = placed c.self.inside.chunks.items c.as_slice.result.now c.args.place c.spot_of-spot.result
    c.index_mut-2.result.now c.as_slice.ensures.value c.spot_of-spot.ensures c.index_mut-2.ensures.value in
    ap list_of c.in-Ok.ensures.items
    ∙ split_list c.self.inside.chunks.items c.args.place c.spot_of-spot.result c.index_mut-2.result.now c.put.new.chunk
    c.put.new.fresh c.args.entry p c.put.ensures.both
    ∙ ap (λ (v : Listed g.row.E.Denot). insert v.list c.args.place c.args.entry) c.self.view_is
