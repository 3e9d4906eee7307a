use Rattle.std.proofs.Common.{ℕ, ℤ, pos, Err, subst, ◌∙◌, refl, get_or}
use Rattle.std.proofs.lemmas.Result.{err_from_is_err_and}
use Rattle.book_undo.specs.Book.{book_of}
use Rattle.book_export.specs.Entries.{lines_at}
use Rattle.book_export.specs.Export.{HasFault}
use Rattle.book_export.proofs.WritingLemmas.{cut_piece, next_piece}
use Rattle.book_export.proofs.journal.write_transactions.Goals as goal

pub loop-number-preserved : goal.loop-number-preserved
loop-number-preserved g c = record {
  fed =
      next_piece (λ (e : ℤ × ℕ). lines_at (book_of c.args.book.now) e.1) c.args.order.now c.loop-number.number-index
      (get_or c.args.order.now c.loop-number.number-index (pos 0, 0)) (pos 0, 0)
      (g.O.Sink.written c.args.output.now) (g.O.Sink.written c.loop-number.output)
      (g.O.Sink.written c.write_piece.new.output) c.loop-number-test.true refl
      c.loop-number.invariant.fed
      (c.in_ok-write_piece.ensures.written _ c.lines_at.ensures);
  quiet = c.in_ok-write_piece.ensures.faults ∙ c.loop-number.invariant.quiet;
}

pub returns-in_err-write_piece-clause-written : goal.returns-in_err-write_piece-clause-written
returns-in_err-write_piece-clause-written g c =
    let p = err_from_is_err_and c.from_residual.result c.from_residual.ensures.1 in
    rw (p.1, p.2)
    (cut_piece (λ (e : ℤ × ℕ). lines_at (book_of c.args.book.now) e.1) c.args.order.now c.loop-number.number-index
    (get_or c.args.order.now c.loop-number.number-index (pos 0, 0)) (pos 0, 0)
    (g.O.Sink.written c.args.output.now) (g.O.Sink.written c.loop-number.output)
    (g.O.Sink.written c.write_piece.new.output) c.in_err-write_piece.field-0.0 c.loop-number-test.true refl
    c.loop-number.invariant.fed
    (c.in_err-write_piece.ensures.written _ c.lines_at.ensures))

pub returns-in_err-write_piece-clause-faults : goal.returns-in_err-write_piece-clause-faults
returns-in_err-write_piece-clause-faults g c =
    let p = err_from_is_err_and c.from_residual.result c.from_residual.ensures.1 in
    rw (p.1, p.2)
    (subst (λ (n : ℕ). HasFault n (g.O.Sink.faults c.write_piece.new.output) (Err c.in_err-write_piece.field-0.0))
    c.loop-number.invariant.quiet c.in_err-write_piece.ensures.faults)
