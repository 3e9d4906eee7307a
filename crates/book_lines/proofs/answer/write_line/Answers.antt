use Rattle.std.proofs.Common.{[], ◌∷◌, ◌++◌, Ok, Err}
use Rattle.std.specs.Prelude.{OnErr}
use Rattle.book_keeper.specs.Stream.{WrotePart}
use Rattle.book_keeper.proofs.StreamLemmas.{WrotePart-longer}
use Rattle.book_lines.proofs.answer.write_line.Goals as goal

pub returns-in_err-write_all-clause-part : goal.returns-in_err-write_all-clause-part
returns-in_err-write_all-clause-part g c =
    let part = WrotePart-longer (g.O.Sink.written c.args.output.now)
    (g.O.Sink.written c.write_all.new.output) c.args.text.now (10 ∷ []) c.in_err-write_all.ensures.err in
    elim c.from_residual.result as
    (λ r. OnErr r (WrotePart (g.O.Sink.written c.args.output.now) (g.O.Sink.written c.write_all.new.output)
    (c.args.text.now ++ 10 ∷ []))) [
      | Ok v ↦ tt
      | Err e ↦ part
    ]
