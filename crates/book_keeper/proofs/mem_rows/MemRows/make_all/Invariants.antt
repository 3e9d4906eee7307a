-- With the changes that are left the rows become what all changes make of them, and there is room for each.
use Rattle.std.proofs.Common.{◌≡◌, ◌≤◌, length}
use Rattle.book_keeper.specs.Rows.{after_changes}
use Rattle.book_keeper.proofs.mem_rows.MemRows.make_all.Given as goal

abbrev pub invariant-loop-change : goal.invariant-loop-change
invariant-loop-change l = record {
  made : after_changes l.change-iterator.rest.items l.self.rows ≡ after_changes l.fn.changes l.fn.self.rows;
  room : length l.change-iterator.rest.items ≤ l.self.spare;
}
