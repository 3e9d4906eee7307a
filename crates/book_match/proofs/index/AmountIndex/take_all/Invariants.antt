use Rattle.std.proofs.Common.{◌≡◌, ◌+◌, ◌-◌, ◌^◌, ◌≤◌, drop, min}
use Rattle.book_match.specs.AmountIndex.{AreThere, Rises, without_all}
use Rattle.book_match.proofs.index.AmountIndex.take_all.Given as goal

abbrev pub invariant-loop-free : goal.invariant-loop-free
invariant-loop-free l = record {
  entries : without_all (drop l.free-index l.gone) l.self.entries ≡ without_all l.gone l.fn.self.entries;
  there : AreThere (drop l.free-index l.gone) l.self.entries;
  rises : Rises (drop l.free-index l.gone);
  changes : l.self.changes ≡ min (l.fn.self.changes + l.free-index) (2 ^ 64 - 1);
  spare : l.fn.self.spare ≤ l.self.spare;
}
