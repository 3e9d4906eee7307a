use Rattle.sqlite.specs.Held.{state}
use Rattle.book_sqlite.specs.RowsDatabase.{ListsNothing, ListsRows}
use Rattle.book_sqlite.proofs.KeeperLemmas.{opened_clean, opened_holds, empty_holds, known_if_open}
use Rattle.book_sqlite.proofs.OpeningLemmas.{opened_bare}
use Rattle.book_sqlite.proofs.sqlite_keeper.SqliteKeeper.over_opened.Goals as goal

pub returns-in-Ok-clause-clean : goal.returns-in-Ok-clause-clean
returns-in-Ok-clause-clean g c = opened_clean g.S.Store c.in-Ok.connection c.args.connection c.in-Ok.ensures.clean

pub returns-in-Ok-clause-rows : goal.returns-in-Ok-clause-rows
returns-in-Ok-clause-rows g c =
    let trees = (state g.S.Store c.args.connection).committed.trees in
    opened_holds g.S.Store c.in-Ok.connection trees (ListsRows trees) c.in-Ok.ensures.rows

pub returns-in-Ok-clause-empty : goal.returns-in-Ok-clause-empty
returns-in-Ok-clause-empty g c =
    let trees = (state g.S.Store c.args.connection).committed.trees in
    empty_holds g.S.Store c.in-Ok.connection (ListsNothing trees) c.in-Ok.ensures.ready
    (λ clean nothing. c.in-Ok.ensures.empty clean (opened_bare (state g.S.Store c.args.connection) (c.requires.opened (c.in-Ok.ensures.clean clean)) nothing))

pub returns-in-Ok-clause-known : goal.returns-in-Ok-clause-known
returns-in-Ok-clause-known g c = known_if_open g.S.Store c.in-Ok.connection c.in-Ok.ensures.open
