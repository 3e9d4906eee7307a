-- What is left is put behind what was.
use Rattle.std.proofs.Common.{◌≡◌, ℕ, ◌++◌, map, drop}
use Rattle.std.specs.List.{AllByRecursion}
use Rattle.book_undo.specs.Thing.{row_kind}
use Rattle.book_opening.specs.Changes.{entry_put}
use Rattle.book_opening.proofs.whole.put_entries.Given as goal

abbrev pub invariant-loop-entry : goal.invariant-loop-entry
invariant-loop-entry g l = record {
  added : l.changes ++ map (entry_put (row_kind l.kind) g.T.Field.spelling) (drop l.entry-index l.entries)
      ≡ l.fn.changes ++ map (entry_put (row_kind l.kind) g.T.Field.spelling) l.entries;
  fit : AllByRecursion (λ (entry : ℕ × g.row.T.Denot). g.T.Field.fits entry.1) (drop l.entry-index l.entries)
      → AllByRecursion (λ (entry : ℕ × g.row.T.Denot). g.T.Field.fits entry.1) l.entries;
}
