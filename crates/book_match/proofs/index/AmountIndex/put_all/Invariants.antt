use Rattle.std.proofs.Common.{◌≡◌, ◌+◌, ◌-◌, ◌^◌, ◌≤◌, drop, length, min}
use Rattle.book_match.specs.AmountIndex.{AreAbsent, Rises, with_all}
use Rattle.book_match.proofs.index.AmountIndex.put_all.Given as goal

abbrev pub invariant-loop-free : goal.invariant-loop-free
invariant-loop-free l = record {
  entries : with_all (drop l.free-index l.come) l.self.entries ≡ with_all l.come l.fn.self.entries;
  absent : AreAbsent (drop l.free-index l.come) l.self.entries;
  rises : Rises (drop l.free-index l.come);
  changes : l.self.changes ≡ min (l.fn.self.changes + l.free-index) (2 ^ 64 - 1);
  room : length (drop l.free-index l.come) ≤ l.self.spare;
  spare : l.fn.self.spare ≤ l.self.spare + l.free-index;
}
