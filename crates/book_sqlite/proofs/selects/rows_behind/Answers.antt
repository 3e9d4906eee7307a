use Rattle.std.proofs.Common.{pos}
use Rattle.sqlite.specs.Held.{state}
use Rattle.book_sqlite.specs.RowCalls.{Behind}
use Rattle.book_sqlite.proofs.EntryLemmas.{entries}
use Rattle.book_sqlite.proofs.FoundLemmas.{found_answer}
use Rattle.book_sqlite.proofs.PassedLemmas.{before_answer}
use Rattle.book_sqlite.proofs.NextLemmas.{run_behind, next_answer, above_answer}
use Rattle.book_sqlite.proofs.selects.rows_behind.Goals as goal

pub returns-clause-found : goal.returns-clause-found
returns-clause-found g c =
    let old = state g.S.Store c.args.conn.now in
    found_answer (λ rows. rows.items) (Behind (pos c.args.kind) (pos c.args.id)) (old.now.trees 0) c.in_ok-shown.shown.items c.as_slice.result.now c.read_rows.result
    (λ clean is. entries old.now (c.requires.ready.rows (c.shown_behind.ensures.clean clean, (c.shown_behind.ensures.stays clean).was_open is)))
    c.as_slice.ensures.value c.read_rows.ensures c.in_ok-shown.ensures.shown

pub returns-clause-none_before : goal.returns-clause-none_before
returns-clause-none_before g c =
    let old = state g.S.Store c.args.conn.now in
    before_answer (λ rows. rows.items) (Behind (pos c.args.kind) (pos c.args.id)) (old.now.trees 0) c.in_ok-shown.shown.items c.as_slice.result.now c.read_rows.result
    (λ clean is. entries old.now (c.requires.ready.rows (c.shown_behind.ensures.clean clean, (c.shown_behind.ensures.stays clean).was_open is)))
    c.as_slice.ensures.value c.read_rows.ensures c.in_ok-shown.ensures.shown

pub returns-clause-next : goal.returns-clause-next
returns-clause-next g c =
    let old = state g.S.Store c.args.conn.now in
    next_answer (λ rows. rows.items) (Behind (pos c.args.kind) (pos c.args.id)) (run_behind (pos c.args.kind) (pos c.args.id)) (old.now.trees 0) c.in_ok-shown.shown.items c.as_slice.result.now c.read_rows.result
    (λ clean is. entries old.now (c.requires.ready.rows (c.shown_behind.ensures.clean clean, (c.shown_behind.ensures.stays clean).was_open is)))
    c.as_slice.ensures.value c.read_rows.ensures c.in_ok-shown.ensures.shown

pub returns-clause-above : goal.returns-clause-above
returns-clause-above g c = above_answer (λ rows. rows.items) c.as_slice.result.now c.read_rows.result c.read_rows.ensures
