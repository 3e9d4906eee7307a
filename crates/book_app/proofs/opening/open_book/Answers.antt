use Rattle.book_app.proofs.StatusClauseLemmas.{opened_honest, rows_opened, stands_opened, still_unopened}
use Rattle.book_app.specs.StatusClause.{over}
use Rattle.book_app.proofs.opening.open_book.Goals as goal

pub returns-in-Ok-clause-opened : goal.returns-in-Ok-clause-opened
returns-in-Ok-clause-opened g c =
    opened_honest g.K.Keeper c.args.keeper.now c.open.new.self c.open-in-Ok.new.keeper c.in-Ok.ensures.known
    c.open-in-Ok.ensures.keeper c.open-in-Ok.result c.in-Ok.ensures.rows c.open-in-Ok.ensures.known
    c.open-in-Ok.ensures.opened

pub returns-in-Ok-clause-stands : goal.returns-in-Ok-clause-stands
returns-in-Ok-clause-stands g c =
    stands_opened g.K.Keeper c.args.keeper.now c.open.new.self c.open-in-Ok.new.keeper c.in-Ok.ensures.known
    c.open-in-Ok.ensures.keeper c.open-in-Ok.result (g.met.K.Keeper.told c.open.new.self)
    (λ still rows left. (c.in-Ok.ensures.settled still rows).0 left) c.open-in-Ok.ensures.known
    c.open-in-Ok.ensures.opened c.open-in-Ok.ensures.stand

pub returns-in-Ok-clause-before : goal.returns-in-Ok-clause-before
returns-in-Ok-clause-before g c =
    rows_opened g.K.Keeper c.args.keeper.now c.open.new.self c.open-in-Ok.new.keeper c.in-Ok.ensures.known
    c.open-in-Ok.ensures.keeper c.open-in-Ok.result (g.met.K.Keeper.told c.open.new.self)
    (g.met.K.Keeper.one c.open.new.self) (g.met.K.Keeper.one c.open-in-Ok.new.keeper) c.in-Ok.ensures.rows
    c.in-Ok.ensures.left c.open-in-Ok.ensures.stand c.open-in-Ok.ensures.unchanged
    c.open-in-Ok.ensures.refused_unchanged

pub returns-in-Err-Failed-clause-before : goal.returns-in-Err-Failed-clause-before
returns-in-Err-Failed-clause-before g c =
    still_unopened (over g.K.Keeper c.args.keeper.now c.open.new.self)
    (record { rows = c.in-Err-Failed.ensures.rows; left = c.in-Err-Failed.ensures.left })

pub returns-in-Err-OutOfMemory-clause-before : goal.returns-in-Err-OutOfMemory-clause-before
returns-in-Err-OutOfMemory-clause-before g c =
    still_unopened (over g.K.Keeper c.args.keeper.now c.open.new.self)
    (record { rows = c.in-Err-OutOfMemory.ensures.rows; left = c.in-Err-OutOfMemory.ensures.left })
