use Rattle.std.proofs.Common.{◌^◌, ◌-◌}
use Rattle.sqlite.specs.Held.{state}
use Rattle.book_sqlite.proofs.FoundLemmas.{none_answer}
use Rattle.book_sqlite.proofs.PassedLemmas.{all_passed}
use Rattle.book_sqlite.proofs.selects.rows_after.Goals as goal

pub returns-in_default-clause-found : goal.returns-in_default-clause-found
returns-in_default-clause-found g c =
    let old = state g.S.Store c.args.conn.now in
    rw c.in_default.is (none_answer (λ rows. rows.items) _ _ (old.now.trees 0) (2 ^ 63 - 1) c.rows_from.result c.rows_from.ensures.found)

pub returns-in_default-clause-none_passed : goal.returns-in_default-clause-none_passed
returns-in_default-clause-none_passed g c =
    let old = state g.S.Store c.args.conn.now in
    rw c.in_default.is (all_passed (λ rows. rows.items) _ _ (old.now.trees 0) c.rows_from.result c.rows_from.ensures.none_before)
