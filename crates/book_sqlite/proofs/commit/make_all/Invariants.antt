-- The changes so far are made inside the transaction, and a crash leaves what it left before.
use Rattle.std.proofs.Common.{◌≡◌, drop}
use Rattle.sqlite.specs.State.{HasCleanDisk, Survives}
use Rattle.sqlite.specs.Held.{state}
use Rattle.book_sqlite.specs.CommitCalls.{IsMaking}
use Rattle.book_sqlite.proofs.commit.make_all.Given as goal

abbrev pub invariant-loop-change : goal.invariant-loop-change
invariant-loop-change g l = record {
  same : l.tx.conn.ghost_name ≡ l.initial.tx.conn.ghost_name;
  survives : Survives (state g.S.Store l.fn.conn) (state g.S.Store l.tx.conn.now) (λ _. ⊥);
  making : HasCleanDisk (state g.S.Store l.tx.conn.now)
      → IsMaking (state g.S.Store l.fn.conn) (state g.S.Store l.tx.conn.now) (drop l.change-index l.changes) l.changes;
}
