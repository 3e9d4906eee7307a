use Rattle.std.proofs.Common.{◌≡◌, take}
use Rattle.book_lots.specs.Sides.{AreCheckpoints, Begins}
use Rattle.book_lots.proofs.lots.reckon_rows.Given as goal

abbrev pub invariant-loop-place : goal.invariant-loop-place
invariant-loop-place l = record {
  rows : l.reckoning ≡ take l.place l.register.rows;
  marks : AreCheckpoints l.reckoning l.checkpoints.items;
  begun : Begins l.fn.reckoning l.reckoning;
  marks_begun : Begins l.fn.checkpoints.items l.checkpoints.items;
}
