use Rattle.std.proofs.Common.{sym, ◌∙◌}
use Rattle.std.proofs.lemmas.Bool.{not-true}
use Rattle.sqlite.specs.Held.{state}
use Rattle.book_sqlite.proofs.OpeningLemmas.{create_ready, create_empty, create_open}
use Rattle.book_sqlite.proofs.opening.make_table.Goals as goal

pub returns-then-is_autocommit-clause-ready : goal.returns-then-is_autocommit-clause-ready
returns-then-is_autocommit-clause-ready g c =
    create_ready (state g.S.Store c.args.conn.now) (state g.S.Store c.execute.new.self) c.in_ok-execute.field-0 c.requires.empty
    c.requires.autocommit (not-true _ (sym c.is_autocommit.ensures.value ∙ c.if-is_autocommit.true)) c.in_ok-execute.ensures.runs

pub returns-then-is_autocommit-clause-empty : goal.returns-then-is_autocommit-clause-empty
returns-then-is_autocommit-clause-empty g c =
    create_empty (state g.S.Store c.args.conn.now) (state g.S.Store c.execute.new.self) c.in_ok-execute.field-0 c.requires.empty
    c.in_ok-execute.ensures.runs

pub returns-then-is_autocommit-clause-open : goal.returns-then-is_autocommit-clause-open
returns-then-is_autocommit-clause-open g c =
    create_open (state g.S.Store c.args.conn.now) (state g.S.Store c.execute.new.self) c.in_ok-execute.field-0 c.requires.empty
    c.in_ok-execute.ensures.runs
