-- What is left is put behind what was.
use Rattle.std.proofs.Common.{◌≡◌, ◌++◌, map, drop}
use Rattle.std.specs.List.{AllByRecursion}
use Rattle.book_rows.specs.EditBytes.{edit_bytes, IsEdit}
use Rattle.book_opening.specs.Changes.{IsShallow, entry_put}
use Rattle.book_opening.proofs.whole.put_steps.Given as goal
use Rattle.book_rows.specs.declared.format.RowFormat.TheVariants.{Two}

abbrev pub invariant-loop-step : goal.invariant-loop-step
invariant-loop-step l = record {
  shallow : AllByRecursion IsShallow (drop l.step-index l.steps);
  added : l.changes ++ map (entry_put l.kind (edit_bytes Two)) (drop l.step-index l.steps)
      ≡ l.fn.changes ++ map (entry_put l.kind (edit_bytes Two)) l.steps;
  fit : AllByRecursion (λ step. IsEdit Two step.1) (drop l.step-index l.steps)
      → AllByRecursion (λ step. IsEdit Two step.1) l.steps;
}
