use Rattle.std.proofs.Common.{ℕ, List, Err, subst, ◌∙◌}
use Rattle.std.specs.List.{flat_map}
use Rattle.std.proofs.lemmas.Result.{err_from_is_err_and}
use Rattle.book_commodity.specs.declared.commodity.Commodity.{Commodity}
use Rattle.book_export.specs.Symbols.{commodity_lines}
use Rattle.book_export.specs.Export.{HasFault, HasWritten}
use Rattle.book_export.proofs.WritingLemmas.{cut_piece, next_piece}
use Rattle.book_export.proofs.journal.write_commodities.Goals as goal

pub loop-commodity-preserved : goal.loop-commodity-preserved
loop-commodity-preserved g c = record {
  fed =
      next_piece (λ (e : ℕ × Commodity). commodity_lines e.1) c.as_slice-commodity-items.result.now
      c.loop-commodity.commodity-index
      c.loop-commodity-item.result c.loop-commodity-item.result
      (g.O.Sink.written c.args.output.now) (g.O.Sink.written c.loop-commodity.output)
      (g.O.Sink.written c.write_piece.new.output) c.loop-commodity-test.true c.loop-commodity-item.is
      c.loop-commodity.invariant.fed
      (c.in_ok-write_piece.ensures.written _ c.commodity_lines.ensures);
  quiet = c.in_ok-write_piece.ensures.faults ∙ c.loop-commodity.invariant.quiet;
}

pub returns-in_err-write_piece-clause-written : goal.returns-in_err-write_piece-clause-written
returns-in_err-write_piece-clause-written g c =
    let p = err_from_is_err_and c.from_residual.result c.from_residual.ensures.1 in
    rw (p.1, p.2)
    (subst (λ (es : List (ℕ × Commodity)). HasWritten (g.O.Sink.written c.args.output.now)
    (g.O.Sink.written c.write_piece.new.output) (flat_map (λ (e : ℕ × Commodity). commodity_lines e.1) es)
    (Err c.in_err-write_piece.field-0.0))
    c.as_slice-commodity-items.ensures
    (cut_piece (λ (e : ℕ × Commodity). commodity_lines e.1) c.as_slice-commodity-items.result.now
    c.loop-commodity.commodity-index
    c.loop-commodity-item.result c.loop-commodity-item.result
    (g.O.Sink.written c.args.output.now) (g.O.Sink.written c.loop-commodity.output)
    (g.O.Sink.written c.write_piece.new.output) c.in_err-write_piece.field-0.0
    c.loop-commodity-test.true c.loop-commodity-item.is
    c.loop-commodity.invariant.fed
    (c.in_err-write_piece.ensures.written _ c.commodity_lines.ensures)))

pub returns-in_err-write_piece-clause-faults : goal.returns-in_err-write_piece-clause-faults
returns-in_err-write_piece-clause-faults g c =
    let p = err_from_is_err_and c.from_residual.result c.from_residual.ensures.1 in
    rw (p.1, p.2)
    (subst (λ (n : ℕ). HasFault n (g.O.Sink.faults c.write_piece.new.output) (Err c.in_err-write_piece.field-0.0))
    c.loop-commodity.invariant.quiet c.in_err-write_piece.ensures.faults)
