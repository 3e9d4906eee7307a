use Rattle.std.proofs.Common.{[], rules}
use Rattle.book_sqlite.proofs.KeeperLemmas.{ahead_found, ahead_passed}
use Rattle.book_sqlite.proofs.sqlite_keeper.SqliteKeeperKeeper.next_row.Goals as goal

pub returns-in-Some-clause-found : goal.returns-in-Some-clause-found
returns-in-Some-clause-found g c =
    ahead_found g.S.Store (record { connection = c.self.inside.connection; path = []; faults = 0 }) c.args.self.now c.self.inside.ahead.after c.args.after c.in-Some.row c.self.inside.ahead.rows.items c.take_behind.new.self.rows.items
    c.in-Some.ensures.key c.in-Some.ensures.row (search rules) (search rules)

pub returns-in-Some-clause-none_passed : goal.returns-in-Some-clause-none_passed
returns-in-Some-clause-none_passed g c =
    ahead_passed g.S.Store (record { connection = c.self.inside.connection; path = []; faults = 0 }) c.args.self.now c.self.inside.ahead.after c.args.after c.in-Some.row c.self.inside.ahead.rows.items c.take_behind.new.self.rows.items
    c.in-Some.ensures.key c.in-Some.ensures.row (search rules) (search rules)
