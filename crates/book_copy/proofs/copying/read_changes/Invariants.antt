-- The changes so far, with those that put the rows behind the last one that was read, put all rows; and of
-- the rows that were read each has a number of a book.
use Rattle.std.proofs.Common.{◌≡◌, List, IsTrue, ◌++◌, map, ◌+◌, ◌-◌, ◌*◌, ◌^◌}
use Rattle.book_keeper.specs.Rows.{AreRising}
use Rattle.book_keeper.specs.declared.row.Change.TheVariants.{Put}
use Rattle.book_keeper.specs.declared.row.Row.{Row}
use Rattle.book_copy.specs.BookNumbers.{first_past_limit}
use Rattle.book_copy.proofs.CopyLemmas.{behind, limit_at, limit_of}
use Rattle.book_copy.proofs.copying.read_changes.Given as goal

abbrev pub invariant-rows : goal.invariant-rows
invariant-rows g l = record {
  path : g.K.Keeper.path_given l.source ≡ g.K.Keeper.path_given l.fn.source;
  sure : IsTrue (g.K.Keeper.sure l.source) → IsTrue (g.K.Keeper.sure l.fn.source);
  kept : IsTrue (g.K.Keeper.sure l.source) → (rows : List Row) → g.K.Keeper.holds l.fn.source rows
      → g.K.Keeper.holds l.source rows;
  faults : g.K.Keeper.faults l.source ≡ g.K.Keeper.faults l.fn.source;
  rising : AreRising l.changes.items;
  limit : limit_of 0 l.changes.items ≡ limit_at l.last;
  rows : IsTrue (g.K.Keeper.sure l.source) → (rows : List Row) → g.K.Keeper.holds l.fn.source rows
      → l.changes.items ++ map Put (behind l.last rows) ≡ map Put rows;
  past : IsTrue (g.K.Keeper.sure l.source) → (rows : List Row) → g.K.Keeper.holds l.fn.source rows
      → first_past_limit rows ≡ first_past_limit (behind l.last rows);
}

abbrev pub decreases-rows : goal.decreases-rows
decreases-rows g l = 256 * 2 ^ 64 + 1 - limit_at l.last
