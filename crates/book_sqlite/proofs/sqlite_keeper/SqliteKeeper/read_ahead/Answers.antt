use Rattle.std.proofs.Common.{◌≡◌, Some, sym, ap, subst, ◌∙◌, rules}
use Rattle.sqlite.specs.Held.{state}
use Rattle.book_keeper.specs.Rows.{first_row, first_after}
use Rattle.book_sqlite.specs.RowCalls.{IsReady, AreNext, PassesNone}
use Rattle.book_sqlite.proofs.KeeperLemmas.{sure_back, rows_stay, rows_found, entries_passed, clean_back, select_leaves, known_if_open, settled_rows, reads_next}
use Rattle.book_sqlite.proofs.sqlite_keeper.SqliteKeeper.read_ahead.Goals as goal

pub returns-in-Ok-clause-sure : goal.returns-in-Ok-clause-sure
returns-in-Ok-clause-sure g c =
    let is : c.args.self.now.connection ≡ Some c.in-Some.connection = search rules in
    sure_back g.S.Store c.args.self.now c.in-Some.connection c.rows_after.new.conn is c.rows_after.ensures.clean
    (λ clean open_now. (c.rows_after.ensures.stays clean).was_open open_now)

pub returns-in-Ok-clause-rows : goal.returns-in-Ok-clause-rows
returns-in-Ok-clause-rows g c =
    let is : c.args.self.now.connection ≡ Some c.in-Some.connection = search rules in
    rows_stay g.S.Store c.args.self.now c.in-Some.connection c.rows_after.new.conn is c.rows_after.ensures.clean c.rows_after.ensures.stays

pub returns-in-Ok-clause-found : goal.returns-in-Ok-clause-found
returns-in-Ok-clause-found g c =
    let is : c.args.self.now.connection ≡ Some c.in-Some.connection = search rules in
    let ready : IsReady (state g.S.Store c.in-Some.connection) = search rules in
    rows_found g.S.Store c.args.self.now c.in-Some.connection c.rows_after.new.conn is c.rows_after.ensures.clean
    (first_after c.args.after) (first_row c.behind.result.rows.items) ready c.rows_after.ensures.stays
    (λ clean is. ap first_row c.behind.ensures.rows ∙ c.in-Ok.ensures.found clean is)

pub returns-in-Ok-clause-none_passed : goal.returns-in-Ok-clause-none_passed
returns-in-Ok-clause-none_passed g c =
    let is : c.args.self.now.connection ≡ Some c.in-Some.connection = search rules in
    let ready : IsReady (state g.S.Store c.in-Some.connection) = search rules in
    entries_passed g.S.Store c.args.self.now c.in-Some.connection c.rows_after.new.conn is c.rows_after.ensures.clean
    (λ entries. PassesNone c.args.after entries (first_row c.behind.result.rows.items)) ready c.rows_after.ensures.stays
    (λ clean is. subst (PassesNone c.args.after ((state g.S.Store c.in-Some.connection).now.trees 0))
    (sym (ap first_row c.behind.ensures.rows)) (c.in-Ok.ensures.none_passed clean is))

pub returns-in-Err-clause-sure : goal.returns-in-Err-clause-sure
returns-in-Err-clause-sure g c =
    let is : c.args.self.now.connection ≡ Some c.in-Some.connection = search rules in
    let new_is : c.fail-in-Err.new.self.connection ≡ Some c.rows_after.new.conn = search rules in
    rw new_is (sure_back g.S.Store c.args.self.now c.in-Some.connection c.rows_after.new.conn is c.rows_after.ensures.clean
    (λ clean open_now. (c.rows_after.ensures.stays clean).was_open open_now))

pub returns-in-Err-clause-rows : goal.returns-in-Err-clause-rows
returns-in-Err-clause-rows g c =
    let is : c.args.self.now.connection ≡ Some c.in-Some.connection = search rules in
    let new_is : c.fail-in-Err.new.self.connection ≡ Some c.rows_after.new.conn = search rules in
    rw new_is (rows_stay g.S.Store c.args.self.now c.in-Some.connection c.rows_after.new.conn is c.rows_after.ensures.clean c.rows_after.ensures.stays)

pub returns-in-Ok-clause-known : goal.returns-in-Ok-clause-known
returns-in-Ok-clause-known g c = known_if_open g.S.Store c.rows_after.new.conn c.in-Ok.ensures.open

pub returns-in-Ok-clause-settled : goal.returns-in-Ok-clause-settled
returns-in-Ok-clause-settled g c = settled_rows g.S.Store c.rows_after.new.conn (g.met.S.Store.settled c.rows_after.new.conn.store)
    (g.met.S.Store.stays c.rows_after.new.conn.store)

pub returns-in-Ok-clause-honest : goal.returns-in-Ok-clause-honest
returns-in-Ok-clause-honest g c =
    let is : c.args.self.now.connection ≡ Some c.in-Some.connection = search rules in
    clean_back g.S.Store c.args.self.now c.in-Some.connection c.rows_after.new.conn is c.rows_after.ensures.clean

pub returns-in-Err-clause-honest : goal.returns-in-Err-clause-honest
returns-in-Err-clause-honest g c =
    let is : c.args.self.now.connection ≡ Some c.in-Some.connection = search rules in
    let new_is : c.fail-in-Err.new.self.connection ≡ Some c.rows_after.new.conn = search rules in
    rw new_is (clean_back g.S.Store c.args.self.now c.in-Some.connection c.rows_after.new.conn is c.rows_after.ensures.clean)

pub returns-in-Ok-clause-left : goal.returns-in-Ok-clause-left
returns-in-Ok-clause-left g c =
    let is : c.args.self.now.connection ≡ Some c.in-Some.connection = search rules in
    select_leaves g.S.Store c.args.self.now c.in-Some.connection c.rows_after.new.conn is c.rows_after.ensures.clean c.rows_after.ensures.survives

pub returns-in-Err-clause-left : goal.returns-in-Err-clause-left
returns-in-Err-clause-left g c =
    let is : c.args.self.now.connection ≡ Some c.in-Some.connection = search rules in
    let new_is : c.fail-in-Err.new.self.connection ≡ Some c.rows_after.new.conn = search rules in
    rw new_is (select_leaves g.S.Store c.args.self.now c.in-Some.connection c.rows_after.new.conn is c.rows_after.ensures.clean c.rows_after.ensures.survives)

pub returns-in-Ok-clause-next : goal.returns-in-Ok-clause-next
returns-in-Ok-clause-next g c = λ sure.
    let ready : IsReady (state g.S.Store c.in-Some.connection) = search rules in
    subst (λ rows. AreNext c.args.after rows ((state g.S.Store c.rows_after.new.conn).committed.trees 0)) (sym c.behind.ensures.rows)
    (reads_next g.S.Store c.in-Some.connection c.rows_after.new.conn c.rows_after.ensures.clean ready c.rows_after.ensures.stays
    c.args.after c.in-Ok.rows.items c.in-Ok.ensures.found c.in-Ok.ensures.none_passed c.in-Ok.ensures.next sure)
