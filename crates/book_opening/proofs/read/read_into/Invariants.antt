-- The state so far has exactly what the rows up to the last one that was read stand for.
use Rattle.std.proofs.Common.{◌≡◌, List, IsTrue, ◌-◌, ◌*◌, ◌^◌, ◌≤◌}
use Rattle.std.specs.List.{AllByRecursion}
use Rattle.book_keeper.specs.Rows.{rank}
use Rattle.book_keeper.specs.declared.row.Row.{Row}
use Rattle.book_opening.specs.BookRows.{records_of, rows_of}
use Rattle.book_opening.specs.Opening.{Begins, IsOnlyRecord, StaysSure, WasRead, head_key}
use Rattle.book_opening.specs.State.{head_of, state_of}
use Rattle.book_opening.proofs.UpTo.{up_to}
use Rattle.book_opening.proofs.read.read_into.Given as goal

abbrev pub invariant-rows : goal.invariant-rows
invariant-rows g l = record {
  read : AllByRecursion (IsOnlyRecord l.format) (records_of (state_of l.saved));
  head : head_of (state_of l.saved) ≡ head_of (state_of l.fn.saved);
  last : rank head_key ≤ rank l.last;
  keeper : WasRead g.K.Keeper l.fn.keeper l.keeper;
  known : StaysSure g.K.Keeper l.fn.keeper l.keeper;
  count : g.K.Keeper.faults l.keeper ≡ g.K.Keeper.faults l.fn.keeper;
  rows : IsTrue (g.K.Keeper.sure l.keeper) → (rows : List Row) → g.K.Keeper.holds l.fn.keeper rows
      → Begins l.format rows (head_of (state_of l.fn.saved)) → up_to (rank l.last) rows ≡ rows_of l.format (state_of l.saved);
}

abbrev pub decreases-rows : goal.decreases-rows
decreases-rows g l = 256 * 2 ^ 64 - rank l.last
