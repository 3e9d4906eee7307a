-- What was read is what the rows open as, and its rows are written anew where they were of format 1.
use Rattle.std.proofs.Common.{Err, subst, sym, ◌∙◌}
use Rattle.book_opening.specs.Opening.{StaysSure}
use Rattle.book_opening.specs.State.{state_of}
use Rattle.book_engine.specs.Kept.{Kept}
use Rattle.book_engine.specs.Opening.{IsChecked, IsOpenedAs, IsMigration, WhereOpened}
use Rattle.book_opening.specs.State.{State}
use Rattle.book_engine.specs.declared.fault.OpenError.{OpenError}
use Rattle.book_engine.proofs.MigrationLemmas.{again_checked, again_unread, again_written, keeper_opened}
use Rattle.book_engine.proofs.MigrationLemmas.{none_stands, opened_written, stand_opened}
use Rattle.book_engine.proofs.StandLemmas.{where_opened, where_unread}
use Rattle.book_engine.proofs.engine.Engine.open.Goals as goal

pub returns-in-Ok-None-clause-known : goal.returns-in-Ok-None-clause-known
returns-in-Ok-None-clause-known g c = where_opened c.begin.result _ c.in-Ok-None.ensures.known

pub returns-in-Err-clause-known : goal.returns-in-Err-clause-known
returns-in-Err-clause-known g c =
    let Known = StaysSure g.K.Keeper c.args.keeper.now c.read_rows.new.keeper in
    subst (λ (why : OpenError). WhereOpened {T = Kept} (Err why) Known) (sym c.open_error.ensures)
    (where_unread Kept c.in-Err.fault Known c.in-Err.ensures.known)

pub returns-in-Ok-clause-keeper : goal.returns-in-Ok-clause-keeper
returns-in-Ok-clause-keeper g c =
    let read = c.in-Ok-Some.ensures in
    let format = c.in-Ok-Some.format in
    let is = c.in-Ok.ensures.checked in
    let mid = c.read_rows.new.keeper in
    keeper_opened g.K.Keeper c.args.keeper.now mid c.migrate.new.keeper format (state_of c.in-Ok-Some.state)
    read.keeper (rw c.in-Ok-Some.field-0-is at read.answer) (rw c.in-Ok-Some.field-0-is at read.again) (g.met.K.Keeper.told c.args.keeper.now) is.2 c.migrate.result
    (subst (λ (s : State). IsMigration g.K.Keeper format s mid c.migrate.new.keeper c.migrate.result) is.0
    c.migrate.ensures.written)

pub returns-in-Ok-clause-opened : goal.returns-in-Ok-clause-opened
returns-in-Ok-clause-opened g c = λ sure rows held.
    let is = c.in-Ok.ensures.checked in
    let written = c.migrate.ensures in
    opened_written rows c.in-Ok-Some.format (state_of c.in-Ok-Some.state) c.in-Ok.engine c.migrate.result
    written.engine written.error is.0 is.2
    ((rw c.in-Ok-Some.field-0-is at c.in-Ok-Some.ensures.answer) (written.written.still_sure sure) rows held)

pub returns-in-Ok-clause-again : goal.returns-in-Ok-clause-again
returns-in-Ok-clause-again g c = λ sure rows held state opens.
    let is = c.in-Ok.ensures.checked in
    let written = c.migrate.ensures in
    again_written state c.in-Ok.engine c.migrate.result written.engine written.error
    (is.0 ∙ (rw c.in-Ok-Some.field-0-is at c.in-Ok-Some.ensures.again) (written.written.still_sure sure) rows held state opens)

pub returns-in-Ok-clause-stand : goal.returns-in-Ok-clause-stand
returns-in-Ok-clause-stand g c =
    let read = c.in-Ok-Some.ensures in
    let format = c.in-Ok-Some.format in
    let is = c.in-Ok.ensures.checked in
    let mid = c.read_rows.new.keeper in
    stand_opened g.K.Keeper c.args.keeper.now mid c.migrate.new.keeper format (state_of c.in-Ok-Some.state)
    read.keeper (rw c.in-Ok-Some.field-0-is at read.answer) (rw c.in-Ok-Some.field-0-is at read.again) (g.met.K.Keeper.told c.args.keeper.now) is.2 c.in-Ok.engine c.migrate.result
    c.migrate.ensures.engine is.0 is.1
    (subst (λ (s : State). IsMigration g.K.Keeper format s mid c.migrate.new.keeper c.migrate.result) is.0
    c.migrate.ensures.written)

pub returns-in-Err-checked-clause-again : goal.returns-in-Err-checked-clause-again
returns-in-Err-checked-clause-again g c = λ sure rows held state opens.
    let same = (rw c.in-Ok-Some.field-0-is at c.in-Ok-Some.ensures.again) sure rows held state opens in
    again_checked state c.in-Err-checked.error
    (subst (λ (s : State). IsChecked s (Err c.in-Err-checked.error)) same c.in-Err-checked.ensures.checked)

pub returns-in-Err-clause-again : goal.returns-in-Err-clause-again
returns-in-Err-clause-again g c = λ sure rows held state opens.
    subst (λ (why : OpenError). IsOpenedAs state (Err why)) (sym c.open_error.ensures)
    (again_unread state c.in-Err.fault (c.in-Err.ensures.again sure rows held state opens))

pub returns-in-Ok-None-clause-stand : goal.returns-in-Ok-None-clause-stand
returns-in-Ok-None-clause-stand g c =
    none_stands g.K.Keeper c.args.keeper.now c.read_rows.new.keeper c.begin.result c.in-Ok-None.ensures.keeper
    (rw c.in-Ok-None.field-0-is at c.in-Ok-None.ensures.answer) (g.met.K.Keeper.told c.args.keeper.now) c.begin.ensures.begun
