use Rattle.std.proofs.Common.{◌<◌, ◌^◌, [], ◌∷◌, arith, refl}
use Rattle.sqlite.specs.Held.{state}
use Rattle.sqlite.specs.Values.{bound}
use Rattle.book_sqlite.proofs.StateFacts.{take_answer, kept_answer}
use Rattle.book_sqlite.proofs.Meanings.{take_text}
use Rattle.book_sqlite.proofs.statements.take_row.Goals as goal

pub returns-clause-made : goal.returns-clause-made
returns-clause-made g c =
    let fits : c.args.key.id < 2 ^ 64 = omega (arith, c.requires) in
    take_answer (state g.S.Store c.args.tx.now.conn.now) (state g.S.Store c.execute.new.self.conn.now)
    c.args.key
    (bound (c.kind_value.result ∷ c.number.result ∷ [])) c.execute.result
    (rw (c.kind_value.ensures, c.number.ensures) refl) fits c.execute.ensures.runs

pub returns-clause-kept : goal.returns-clause-kept
returns-clause-kept g c =
    kept_answer (state g.S.Store c.args.tx.now.conn.now) (state g.S.Store c.execute.new.self.conn.now) take_text
    (bound (c.kind_value.result ∷ c.number.result ∷ [])) c.execute.result c.execute.ensures.runs
