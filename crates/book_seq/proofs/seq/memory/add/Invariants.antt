use Rattle.std.proofs.Common.{◌≡◌, ◌+◌, ◌^◌, ◌≤◌, length, vec_capacity}
use Rattle.book_seq.specs.Chunks.{AreEmpty, AreRoomy}
use Rattle.book_seq.proofs.seq.memory.add.Given as goal

abbrev pub invariant-loop-added : goal.invariant-loop-added
invariant-loop-added g l = record {
  chunks : l.chunks.items ≡ l.fn.chunks.items;
  count : length l.free.items ≡ length l.fn.free.items + l._added;
  few : length l.chunks.items + (length l.fn.free.items + l.count) ≤ 2 ^ 54;
  memory : length l.chunks.items + (length l.fn.free.items + l.count) ≤ vec_capacity l.chunks;
  free_memory : length l.chunks.items + (length l.fn.free.items + l.count) ≤ vec_capacity l.free;
  roomy : AreRoomy l.fn.free.items → AreRoomy l.free.items;
  empty : AreEmpty l.fn.free.items → AreEmpty l.free.items;
}
