use Rattle.std.proofs.Common.{sym, subst}
use Rattle.sqlite_trees.specs.Tree.{Trees}
use Rattle.book_sqlite.specs.Content.{rows_of}
use Rattle.book_sqlite.specs.RowsDatabase.{ListsNothing, ListsRows}
use Rattle.book_sqlite.specs.KeeperInSqlite.{HoldsRows}
use Rattle.book_sqlite.proofs.sqlite_keeper.SqliteKeeper.over.Goals as goal

pub returns-in-Ok-clause-rows : goal.returns-in-Ok-clause-rows
returns-in-Ok-clause-rows g c = λ sure lists.
    let trees = c.in-Ok.ensures.trees (c.over_opened.ensures.clean sure) in
    subst (λ (t : Trees). HoldsRows g.S.Store c.over_opened.result (rows_of (t 0))) trees (c.over_opened.ensures.rows sure (subst ListsRows (sym trees) lists))

pub returns-in-Ok-clause-empty : goal.returns-in-Ok-clause-empty
returns-in-Ok-clause-empty g c = λ sure nothing.
    let trees = c.in-Ok.ensures.trees (c.over_opened.ensures.clean sure) in
    c.over_opened.ensures.empty sure (subst ListsNothing (sym trees) nothing)
