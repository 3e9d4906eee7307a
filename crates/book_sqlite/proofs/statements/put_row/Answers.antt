use Rattle.std.proofs.Common.{◌<◌, ◌^◌, [], ◌∷◌, arith, refl}
use Rattle.sqlite.specs.Held.{state}
use Rattle.sqlite.specs.Values.{bound}
use Rattle.book_sqlite.proofs.StateFacts.{put_answer, kept_answer}
use Rattle.book_sqlite.proofs.Meanings.{put_text}
use Rattle.book_sqlite.proofs.statements.put_row.Goals as goal

pub returns-clause-made : goal.returns-clause-made
returns-clause-made g c =
    let fits : c.args.key.id < 2 ^ 64 = omega (arith, c.requires) in
    put_answer (state g.S.Store c.args.tx.now.conn.now) (state g.S.Store c.execute.new.self.conn.now)
    (record { key = c.args.key; body = c.args.body.now })
    (bound (c.kind_value.result ∷ c.number.result ∷ c.blob.result ∷ [])) c.execute.result
    (rw (c.kind_value.ensures, c.number.ensures, c.blob.ensures) refl) (omega arith) fits c.execute.ensures.runs

pub returns-clause-kept : goal.returns-clause-kept
returns-clause-kept g c =
    kept_answer (state g.S.Store c.args.tx.now.conn.now) (state g.S.Store c.execute.new.self.conn.now) put_text
    (bound (c.kind_value.result ∷ c.number.result ∷ c.blob.result ∷ [])) c.execute.result c.execute.ensures.runs
