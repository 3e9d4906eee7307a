-- The rows so far, with those behind the last one that was read, are all.
use Rattle.std.proofs.Common.{◌≡◌, List, IsTrue, ◌++◌, ◌+◌, ◌-◌, ◌*◌, ◌^◌}
use Rattle.book_keeper.specs.declared.row.Row.{Row}
use Rattle.gate_rows.proofs.ReadLemmas.{behind, limit_at}
use Rattle.gate_rows.proofs.rows.rows_in.Given as goal

abbrev pub invariant-rows : goal.invariant-rows
invariant-rows g l = record {
  path : g.K.Keeper.path_given l.keeper ≡ g.K.Keeper.path_given l.fn.keeper;
  sure : IsTrue (g.K.Keeper.sure l.keeper) → IsTrue (g.K.Keeper.sure l.fn.keeper);
  kept : IsTrue (g.K.Keeper.sure l.keeper) → (held : List Row) → g.K.Keeper.holds l.fn.keeper held
      → g.K.Keeper.holds l.keeper held;
  faults : g.K.Keeper.faults l.keeper ≡ g.K.Keeper.faults l.fn.keeper;
  rows : IsTrue (g.K.Keeper.sure l.keeper) → (held : List Row) → g.K.Keeper.holds l.fn.keeper held
      → l.rows.items ++ behind l.last held ≡ held;
}

abbrev pub decreases-rows : goal.decreases-rows
decreases-rows g l = 256 * 2 ^ 64 + 1 - limit_at l.last
