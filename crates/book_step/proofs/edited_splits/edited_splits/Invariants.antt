use Rattle.std.proofs.Common.{◌≡◌, ◌≤◌, length}
use Rattle.book_step.specs.Editing.{drawn_by, edited_splits}
use Rattle.book_step.proofs.edited_splits.edited_splits.Given as goal

abbrev pub invariant-loop-split : goal.invariant-loop-split
invariant-loop-split l = record {
  made : l.splits.items ≡ edited_splits l.old l.next l.yielded;
  count : l.drawn ≡ drawn_by l.old l.yielded;
  few : l.drawn ≤ length l.splits.items;
}
