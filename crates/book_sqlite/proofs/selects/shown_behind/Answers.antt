use Rattle.std.proofs.Common.{[], ◌∷◌, pos, arith, refl}
use Rattle.sqlite.specs.Held.{state}
use Rattle.sqlite.specs.Values.{bound}
use Rattle.book_sqlite.proofs.StateFacts.{stays_ready, select_left, select_open, behind_answer}
use Rattle.book_sqlite.proofs.SelectLemmas.{behind_returns_none, select_survives}
use Rattle.book_sqlite.proofs.Meanings.{behind_text, behind_plain}
use Rattle.book_sqlite.proofs.selects.shown_behind.Goals as goal

pub returns-clause-stays : goal.returns-clause-stays
returns-clause-stays g c =
    let old = state g.S.Store c.args.conn.now in
    let new = state g.S.Store c.query_all.new.self in
    select_left (λ rows. rows.items) old new (λ clean. omega (arith, clean, c.query_all.ensures.survives.clean)) c.requires.ready
    behind_text (bound (c.kind_value.result ∷ c.number.result ∷ [])) behind_plain c.query_all.result c.query_all.ensures.ok c.query_all.ensures.err

pub returns-clause-ready : goal.returns-clause-ready
returns-clause-ready g c =
    let old = state g.S.Store c.args.conn.now in
    let new = state g.S.Store c.query_all.new.self in
    stays_ready old new (λ clean. omega (arith, clean, c.query_all.ensures.survives.clean)) c.requires.ready
    (c.query_all.ensures.mode c.requires.ready.autocommit) (returns-clause-stays g c)

pub returns-clause-shown : goal.returns-clause-shown
returns-clause-shown g c =
    let old = state g.S.Store c.args.conn.now in
    let new = state g.S.Store c.query_all.new.self in
    behind_answer (λ rows. rows.items) old new (λ clean. omega (arith, clean, c.query_all.ensures.survives.clean)) c.requires.ready
    (pos c.args.kind) (pos c.args.id) (bound (c.kind_value.result ∷ c.number.result ∷ [])) c.query_all.result (rw (c.kind_value.ensures, c.number.ensures) refl) c.query_all.ensures.ok

pub returns-clause-open : goal.returns-clause-open
returns-clause-open g c =
    let old = state g.S.Store c.args.conn.now in
    let new = state g.S.Store c.query_all.new.self in
    select_open (λ rows. rows.items) old new (λ clean. omega (arith, clean, c.query_all.ensures.survives.clean)) c.requires.ready
    behind_text (bound (c.kind_value.result ∷ c.number.result ∷ [])) behind_plain c.query_all.result c.query_all.ensures.ok

pub returns-clause-survives : goal.returns-clause-survives
returns-clause-survives g c =
    let old = state g.S.Store c.args.conn.now in
    let new = state g.S.Store c.query_all.new.self in
    select_survives behind_text (bound (c.kind_value.result ∷ c.number.result ∷ [])) old new behind_returns_none c.query_all.ensures.survives
