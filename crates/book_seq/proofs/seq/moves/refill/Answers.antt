use Rattle.std.proofs.Common.{◌≡◌, ◌≤◌, [], ◌∷◌, length, sym, subst, arith}
use Rattle.std.proofs.lemmas.List.{nil_from_length}
use Rattle.book_seq.specs.Chunks.{AreEmpty, AreRoomy}
use Rattle.book_seq.proofs.ChunkLemmas.{empty-join, roomy-join}
use Rattle.book_seq.proofs.ChangeLemmas.{again_list, again_packed, again_roomy, one_list, one_packed, one_roomy}
use Rattle.book_seq.proofs.ChangeLemmas.{taken, taken_rooms}
use Rattle.book_seq.proofs.seq.moves.refill.Goals as goal

pub fill-requires-clause-room : goal.fill-requires-clause-room
fill-requires-clause-room g c =
    let t = taken c.args.chunks.now.items c.remove-next.new.self.items c.args.place c.remove-next.result
    c.index_mut.result.now c.requires.short c.remove-next.ensures.items c.remove-next.ensures.value
    c.index_mut.ensures.value in
    (taken_rooms c.args.chunks.now.items c.remove-next.new.self.items c.args.place c.remove-next.result
    c.index_mut.result.now t
    c.requires.roomy).0

pub returns-in-Ok-clause-list : goal.returns-in-Ok-clause-list
returns-in-Ok-clause-list g c =
    let t = taken c.args.chunks.now.items c.remove-next.new.self.items c.args.place c.remove-next.result
    c.index_mut.result.now c.requires.short c.remove-next.ensures.items c.remove-next.ensures.value
    c.index_mut.ensures.value in
    let none : c.fill.new.next.entries ≡ [] = nil_from_length c.fill.new.next.entries (omega arith) in
    one_list c.args.chunks.now.items c.remove-next.new.self.items c.args.place c.remove-next.result
    c.index_mut.result.now
    c.fill.new.chunk c.fill.new.next t c.fill.ensures.both none

pub returns-in-Ok-clause-packed : goal.returns-in-Ok-clause-packed
returns-in-Ok-clause-packed g c =
    let t = taken c.args.chunks.now.items c.remove-next.new.self.items c.args.place c.remove-next.result
    c.index_mut.result.now c.requires.short c.remove-next.ensures.items c.remove-next.ensures.value
    c.index_mut.ensures.value in
    let none : c.fill.new.next.entries ≡ [] = nil_from_length c.fill.new.next.entries (omega arith) in
    one_packed c.args.chunks.now.items c.remove-next.new.self.items c.args.place c.remove-next.result
    c.index_mut.result.now
    c.fill.new.chunk c.fill.new.next t c.fill.ensures.both none c.fill.ensures.most

pub returns-in-Ok-clause-roomy : goal.returns-in-Ok-clause-roomy
returns-in-Ok-clause-roomy g c =
    let t = taken c.args.chunks.now.items c.remove-next.new.self.items c.args.place c.remove-next.result
    c.index_mut.result.now c.requires.short c.remove-next.ensures.items c.remove-next.ensures.value
    c.index_mut.ensures.value in
    one_roomy c.args.chunks.now.items c.remove-next.new.self.items c.args.place c.remove-next.result
    c.index_mut.result.now
    c.fill.new.chunk t c.requires.roomy c.fill.ensures.room

pub returns-in-Ok-clause-free_roomy : goal.returns-in-Ok-clause-free_roomy
returns-in-Ok-clause-free_roomy g c =
    let t = taken c.args.chunks.now.items c.remove-next.new.self.items c.args.place c.remove-next.result
    c.index_mut.result.now c.requires.short c.remove-next.ensures.items c.remove-next.ensures.value
    c.index_mut.ensures.value in
    let rooms = taken_rooms c.args.chunks.now.items c.remove-next.new.self.items c.args.place c.remove-next.result
    c.index_mut.result.now t
    c.requires.roomy in
    subst AreRoomy (sym c.in-Ok.ensures.items) (roomy-join c.args.free.now.items (c.fill.new.next ∷ [])
    c.requires.free_roomy (omega (arith, rooms.1, c.fill.ensures.next_room), tt))

pub returns-in-Ok-clause-empty : goal.returns-in-Ok-clause-empty
returns-in-Ok-clause-empty g c =
    let none : c.fill.new.next.entries ≡ [] = nil_from_length c.fill.new.next.entries (omega arith) in
    subst AreEmpty (sym c.in-Ok.ensures.items) (empty-join c.args.free.now.items (c.fill.new.next ∷ [])
    c.requires.empty (none, tt))

pub returns-in-Ok-insert-clause-list : goal.returns-in-Ok-insert-clause-list
returns-in-Ok-insert-clause-list g c =
    let t = taken c.args.chunks.now.items c.remove-next.new.self.items c.args.place c.remove-next.result
    c.index_mut.result.now c.requires.short c.remove-next.ensures.items c.remove-next.ensures.value
    c.index_mut.ensures.value in
    again_list c.args.chunks.now.items c.remove-next.new.self.items c.insert.new.self.items c.args.place
    c.remove-next.result c.index_mut.result.now
    c.fill.new.chunk c.fill.new.next t c.in-Ok-insert.ensures.items c.fill.ensures.both

pub returns-in-Ok-insert-clause-packed : goal.returns-in-Ok-insert-clause-packed
returns-in-Ok-insert-clause-packed g c =
    let t = taken c.args.chunks.now.items c.remove-next.new.self.items c.args.place c.remove-next.result
    c.index_mut.result.now c.requires.short c.remove-next.ensures.items c.remove-next.ensures.value
    c.index_mut.ensures.value in
    let some : 1 ≤ length c.fill.new.next.entries = omega arith in
    again_packed c.args.chunks.now.items c.remove-next.new.self.items c.insert.new.self.items c.args.place
    c.remove-next.result c.index_mut.result.now
    c.fill.new.chunk c.fill.new.next t c.in-Ok-insert.ensures.items (c.fill.ensures.least some) c.fill.ensures.most
    (c.fill.ensures.next_least some) c.fill.ensures.next_most

pub returns-in-Ok-insert-clause-roomy : goal.returns-in-Ok-insert-clause-roomy
returns-in-Ok-insert-clause-roomy g c =
    let t = taken c.args.chunks.now.items c.remove-next.new.self.items c.args.place c.remove-next.result
    c.index_mut.result.now c.requires.short c.remove-next.ensures.items c.remove-next.ensures.value
    c.index_mut.ensures.value in
    again_roomy c.args.chunks.now.items c.remove-next.new.self.items c.insert.new.self.items c.args.place
    c.remove-next.result c.index_mut.result.now
    c.fill.new.chunk c.fill.new.next t c.in-Ok-insert.ensures.items c.requires.roomy c.fill.ensures.room
    (omega (arith, c.fill.ensures.next_room))
