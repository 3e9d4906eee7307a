use Rattle.std.proofs.Common.{◌≡◌, [], ◌∷◌, ◌++◌, length, ap, sym, ◌∙◌, subst, arith}
use Rattle.std.proofs.lemmas.List.{length_push}
use Rattle.book_seq.specs.Chunks.{AreEmpty, AreRoomy}
use Rattle.book_seq.proofs.ChunkLemmas.{empty-join, roomy-join}
use Rattle.book_seq.proofs.seq.memory.add.Goals as goal

pub loop-added-init : goal.loop-added-init
loop-added-init g c =
    let chunks = ap length c.in_ok-reserve.ensures.items in
    let free = ap length c.in_ok-reserve-2.ensures.items in
    let a = c.args.chunks.now.ok.0 in
    let b = c.args.free.now.ok.0 in
    let d = c.reserve.new.self.ok.0 in
    let e = c.reserve-2.new.self.ok.0 in
    record {
      chunks = c.in_ok-reserve.ensures.items;
      count = omega (arith, free);
      few = omega (arith, chunks, free, a, b, d, e);
      memory = omega (arith, chunks, free, a, b, d, e, c.in_ok-reserve.ensures.ok);
      free_memory = omega (arith, chunks, free, a, b, d, e, c.in_ok-reserve-2.ensures.ok);
      roomy = λ had. subst AreRoomy (sym c.in_ok-reserve-2.ensures.items) had;
      empty = λ had. subst AreEmpty (sym c.in_ok-reserve-2.ensures.items) had;
    }

pub loop-added-preserved : goal.loop-added-preserved
loop-added-preserved g c =
    let inv = c.loop-added.invariant in
    let chunk = c.in_ok-chunk.chunk in
    let pushed : c.push.new.self.items ≡ c.loop-added.free.items ++ chunk ∷ [] = c.in-Ok.ensures.items in
    let longer = ap length pushed ∙ length_push c.loop-added.free.items chunk in
    record {
      chunks = inv.chunks;
      count = omega (arith, longer, inv.count);
      few = inv.few;
      memory = inv.memory;
      free_memory = omega (arith, inv.free_memory, c.in-Ok.ensures.capacity);
      roomy = λ had. subst AreRoomy (sym pushed)
          (roomy-join c.loop-added.free.items (chunk ∷ []) (inv.roomy had) (c.in_ok-chunk.ensures.room, tt));
      empty = λ had. subst AreEmpty (sym pushed)
          (empty-join c.loop-added.free.items (chunk ∷ []) (inv.empty had) (c.in_ok-chunk.ensures.entries, tt));
    }
