use Rattle.std.proofs.Common.{◌≡◌, ◌≢◌, ap, sym, subst}
use Rattle.sqlite_trees.specs.Tree.{Trees}
use Rattle.sqlite_trees.specs.Objects.{catalog_tree}
use Rattle.sqlite_catalog.specs.Listing.{AreListed}
use Rattle.sqlite.specs.Effect.{Database}
use Rattle.sqlite.specs.Held.{state}
use Rattle.book_sqlite.specs.RowsSchema.{rows_schema, no_schema}
use Rattle.book_sqlite.proofs.OpeningLemmas.{lists_something}
use Rattle.book_sqlite.proofs.opening.prepared.Goals as goal

pub returns-clause-rows : goal.returns-clause-rows
returns-clause-rows g c = λ clean lists.
    let conn = c.args.connection in
    let opens = c.requires.opened (c.with_table.ensures.clean clean) in
    let trees : (state g.S.Store conn).committed.trees ≡ (state g.S.Store conn).now.trees =
    ap (λ (d : Database). d.trees) (sym opens.0.clean) in
    let something : conn.schema ≢ no_schema =
    lists_something ((state g.S.Store conn).now.trees catalog_tree) conn.schema
    (subst (λ (t : Trees). AreListed (t catalog_tree) rows_schema) trees lists) (opens.1 opens.0.is_open).0.lists.listed in
    ap (λ h. (state g.S.Store h).committed.trees) (c.with_table.ensures.left something)
