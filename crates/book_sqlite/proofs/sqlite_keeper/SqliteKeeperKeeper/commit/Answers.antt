use Rattle.std.proofs.Common.{◌≡◌, ◌≢◌, [], Some, arith, rules}
use Rattle.sqlite.specs.Held.{state}
use Rattle.book_keeper.specs.Rows.{after_changes}
use Rattle.book_sqlite.specs.RowCalls.{IsReady}
use Rattle.book_sqlite.proofs.KeeperLemmas.{sure_back, rows_stay, rows_made, crash_leaves, crash_adds, clean_back, known_if_open, settled_rows}
use Rattle.book_sqlite.proofs.sqlite_keeper.SqliteKeeperKeeper.commit.Goals as goal

pub returns-in-Ok-clause-sure : goal.returns-in-Ok-clause-sure
returns-in-Ok-clause-sure g c =
    let is : c.args.self.now.connection ≡ Some c.in-Some.connection = search rules in
    sure_back g.S.Store c.args.self.now c.in-Some.connection c.make_all.new.conn is
    (λ clean. omega (arith, clean, c.make_all.ensures.survives.clean)) (λ clean _. (c.in-Ok.ensures.made clean).was_open)

pub returns-in-Ok-clause-made : goal.returns-in-Ok-clause-made
returns-in-Ok-clause-made g c =
    let is : c.args.self.now.connection ≡ Some c.in-Some.connection = search rules in
    let ready : IsReady (state g.S.Store c.in-Some.connection) = search rules in
    rows_made g.S.Store c.args.self.now c.in-Some.connection c.make_all.new.conn is
    (λ clean. omega (arith, clean, c.make_all.ensures.survives.clean)) (after_changes c.args.changes.now) ready c.in-Ok.ensures.made

pub returns-in-Err-clause-sure : goal.returns-in-Err-clause-sure
returns-in-Err-clause-sure g c =
    let is : c.args.self.now.connection ≡ Some c.in-Some.connection = search rules in
    let new_is : c.fail-in-Err.new.self.connection ≡ Some c.make_all.new.conn = search rules in
    rw new_is (sure_back g.S.Store c.args.self.now c.in-Some.connection c.make_all.new.conn is
    (λ clean. omega (arith, clean, c.make_all.ensures.survives.clean)) (λ clean open_now. (c.in-Err.ensures.unchanged clean).was_open open_now))

pub returns-in-Err-clause-unchanged : goal.returns-in-Err-clause-unchanged
returns-in-Err-clause-unchanged g c =
    let is : c.args.self.now.connection ≡ Some c.in-Some.connection = search rules in
    let new_is : c.fail-in-Err.new.self.connection ≡ Some c.make_all.new.conn = search rules in
    rw new_is (rows_stay g.S.Store c.args.self.now c.in-Some.connection c.make_all.new.conn is
    (λ clean. omega (arith, clean, c.make_all.ensures.survives.clean)) c.in-Err.ensures.unchanged)

pub returns-in-Ok-clause-crash : goal.returns-in-Ok-clause-crash
returns-in-Ok-clause-crash g c =
    let is : c.args.self.now.connection ≡ Some c.in-Some.connection = search rules in
    let ready : IsReady (state g.S.Store c.in-Some.connection) = search rules in
    crash_leaves g.S.Store c.args.self.now c.in-Some.connection c.make_all.new.conn is
    (λ clean. omega (arith, clean, c.make_all.ensures.survives.clean)) (after_changes c.args.changes.now) (c.args.changes.now ≢ []) ready c.make_all.ensures.survives
    (g.met.S.Store.settled c.in-Some.connection.store)

pub returns-in-Err-clause-crash : goal.returns-in-Err-clause-crash
returns-in-Err-clause-crash g c =
    let is : c.args.self.now.connection ≡ Some c.in-Some.connection = search rules in
    let new_is : c.fail-in-Err.new.self.connection ≡ Some c.make_all.new.conn = search rules in
    let ready : IsReady (state g.S.Store c.in-Some.connection) = search rules in
    rw new_is (crash_leaves g.S.Store c.args.self.now c.in-Some.connection c.make_all.new.conn is
    (λ clean. omega (arith, clean, c.make_all.ensures.survives.clean)) (after_changes c.args.changes.now) (c.args.changes.now ≢ []) ready c.make_all.ensures.survives
    (g.met.S.Store.settled c.in-Some.connection.store))

pub returns-in-Ok-clause-settled : goal.returns-in-Ok-clause-settled
returns-in-Ok-clause-settled g c = settled_rows g.S.Store c.make_all.new.conn (g.met.S.Store.settled c.make_all.new.conn.store)
    (g.met.S.Store.stays c.make_all.new.conn.store)

pub returns-in-Ok-clause-known : goal.returns-in-Ok-clause-known
returns-in-Ok-clause-known g c = known_if_open g.S.Store c.make_all.new.conn (λ clean. (c.in-Ok.ensures.made clean).is_open)

pub returns-in-Ok-clause-honest : goal.returns-in-Ok-clause-honest
returns-in-Ok-clause-honest g c =
    let is : c.args.self.now.connection ≡ Some c.in-Some.connection = search rules in
    clean_back g.S.Store c.args.self.now c.in-Some.connection c.make_all.new.conn is
    (λ clean. omega (arith, clean, c.make_all.ensures.survives.clean))

pub returns-in-Err-clause-honest : goal.returns-in-Err-clause-honest
returns-in-Err-clause-honest g c =
    let is : c.args.self.now.connection ≡ Some c.in-Some.connection = search rules in
    let new_is : c.fail-in-Err.new.self.connection ≡ Some c.make_all.new.conn = search rules in
    rw new_is (clean_back g.S.Store c.args.self.now c.in-Some.connection c.make_all.new.conn is
    (λ clean. omega (arith, clean, c.make_all.ensures.survives.clean)))

pub returns-in-Ok-clause-left : goal.returns-in-Ok-clause-left
returns-in-Ok-clause-left g c =
    let is : c.args.self.now.connection ≡ Some c.in-Some.connection = search rules in
    let ready : IsReady (state g.S.Store c.in-Some.connection) = search rules in
    crash_adds g.S.Store c.args.self.now c.in-Some.connection c.make_all.new.conn is
    (λ clean. omega (arith, clean, c.make_all.ensures.survives.clean)) (after_changes c.args.changes.now) (c.args.changes.now ≢ []) ready
    c.make_all.ensures.survives

pub returns-in-Err-clause-left : goal.returns-in-Err-clause-left
returns-in-Err-clause-left g c =
    let is : c.args.self.now.connection ≡ Some c.in-Some.connection = search rules in
    let new_is : c.fail-in-Err.new.self.connection ≡ Some c.make_all.new.conn = search rules in
    let ready : IsReady (state g.S.Store c.in-Some.connection) = search rules in
    rw new_is (crash_adds g.S.Store c.args.self.now c.in-Some.connection c.make_all.new.conn is
    (λ clean. omega (arith, clean, c.make_all.ensures.survives.clean)) (after_changes c.args.changes.now) (c.args.changes.now ≢ []) ready
    c.make_all.ensures.survives)
