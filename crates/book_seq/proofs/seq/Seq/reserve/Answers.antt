use Rattle.std.proofs.Common.{rules, ◌≡◌, length, ap, subst, arith}
use Rattle.book_seq.specs.Chunks.{AreSound, first_room, spare_of}
use Rattle.book_seq.proofs.ChunkLemmas.{length-most}
use Rattle.book_seq.proofs.ChangeLemmas.{added_sound, wide_enough}
use Rattle.book_seq.proofs.seq.Seq.reserve.Goals as goal

pub invariant_of-self : goal.invariant_of-self
invariant_of-self g c =
    let same = ap length c.as_slice-2.ensures.value in (
      subst (λ l. AreSound c.widen.new.chunks.items l c.self.inside.len) c.as_slice-2.ensures.value
          c.widen.ensures.sound,
      (
        omega (arith, same, c.widen.ensures.memory),
        omega (arith, same, c.widen.ensures.count, c.self.invariant.1.1, c.self.invariant.0.first),
      ),
    )

pub invariant_of-self-then-spare-extra-2 : goal.invariant_of-self-then-spare-extra-2
invariant_of-self-then-spare-extra-2 g c =
    let same = ap length c.as_slice-2.ensures.value in (
      subst (λ l. AreSound c.widen.new.chunks.items l c.self.inside.len) c.as_slice-2.ensures.value
          c.widen.ensures.sound,
      (
        omega (arith, same, c.widen.ensures.memory),
        omega (arith, same, c.widen.ensures.count, c.self.invariant.1.1, c.self.invariant.0.first),
      ),
    )

pub missing-more-requires-clause-len : goal.missing-more-requires-clause-len
missing-more-requires-clause-len g c = omega (
  arith,
  length-most c.widen.new.chunks.items c.widen.ensures.sound.packed,
  c.widen.ensures.sound.counted,
  c.len-3.ensures,
  c.widen.new.chunks.ok.0,
)

pub add-requires-clause-free_memory : goal.add-requires-clause-free_memory
add-requires-clause-free_memory g c =
    let same = ap length c.as_slice-2.ensures.value in
    omega (arith, same, c.widen.ensures.count, c.self.invariant.1.1, c.self.invariant.0.first)

pub invariant_of-self-2 : goal.invariant_of-self-2
invariant_of-self-2 g c =
    let same = ap length c.as_slice-2.ensures.value in
    let sound : AreSound c.widen.new.chunks.items c.self.inside.free.items c.self.inside.len =
    subst (λ l. AreSound c.widen.new.chunks.items l c.self.inside.len) c.as_slice-2.ensures.value
    c.widen.ensures.sound in
    let less : c.spare-2.result ≡ spare_of (length c.widen.new.chunks.items) (length c.self.inside.free.items)
    (first_room c.widen.new.chunks.items) c.self.inside.len = search rules in (
      added_sound c.widen.new.chunks.items c.add.new.chunks.items c.self.inside.free.items c.add.new.free.items
          c.self.inside.len sound c.add.ensures.chunks c.add.ensures.few c.add.ensures.roomy c.add.ensures.empty
          c.in_ok-widen.ensures.some (λ one. wide_enough (length c.widen.new.chunks.items)
          (length c.self.inside.free.items) (first_room c.widen.new.chunks.items) c.self.inside.len c.args.extra
          (c.in_ok-widen.ensures.room (omega (arith, same, one))) one (omega (
            arith,
            less,
            c.if-spare-extra-2.false,
          ))),
      (c.add.ensures.memory, c.add.ensures.free_memory),
    )
