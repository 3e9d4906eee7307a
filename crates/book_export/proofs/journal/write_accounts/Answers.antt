use Rattle.std.proofs.Common.{ℕ, Err, subst, ◌∙◌, arith}
use Rattle.std.proofs.lemmas.Result.{err_from_is_err_and}
use Rattle.book_export.specs.Export.{account_line}
use Rattle.book_export.proofs.SoundLemmas.{entry_at}
use Rattle.book_export.specs.Export.{HasFault}
use Rattle.book_export.proofs.WritingLemmas.{cut_piece, next_piece}
use Rattle.book_export.proofs.journal.write_accounts.Goals as goal

pub loop-place-preserved : goal.loop-place-preserved
loop-place-preserved g c = record {
  fed =
      next_piece (account_line c.args.book.now.accounts.entries) c.args.book.now.accounts.entries c.loop-place.place
      (c.number_at-number.result, c.value_at-account.result.now)
      (c.number_at-number.result, c.value_at-account.result.now)
      (g.O.Sink.written c.args.output.now) (g.O.Sink.written c.loop-place.output)
      (g.O.Sink.written c.write_piece.new.output) (omega (arith, c.len-place-end.ensures.len))
      (entry_at c.args.book.now.accounts.entries c.loop-place.place _ _
      (c.number_at-number.result, c.value_at-account.result.now)
      c.number_at-number.ensures c.value_at-account.ensures) c.loop-place.invariant.fed
      (c.in_ok-write_piece.ensures.written _ c.account_line.ensures);
  quiet = c.in_ok-write_piece.ensures.faults ∙ c.loop-place.invariant.quiet;
}

pub returns-in_err-write_piece-clause-written : goal.returns-in_err-write_piece-clause-written
returns-in_err-write_piece-clause-written g c =
    let p = err_from_is_err_and c.from_residual.result c.from_residual.ensures.1 in
    rw (p.1, p.2)
    (cut_piece (account_line c.args.book.now.accounts.entries) c.args.book.now.accounts.entries c.loop-place.place
    (c.number_at-number.result, c.value_at-account.result.now)
    (c.number_at-number.result, c.value_at-account.result.now)
    (g.O.Sink.written c.args.output.now) (g.O.Sink.written c.loop-place.output)
    (g.O.Sink.written c.write_piece.new.output) c.in_err-write_piece.field-0.0
    (omega (arith, c.len-place-end.ensures.len))
    (entry_at c.args.book.now.accounts.entries c.loop-place.place _ _
    (c.number_at-number.result, c.value_at-account.result.now)
    c.number_at-number.ensures c.value_at-account.ensures) c.loop-place.invariant.fed
    (c.in_err-write_piece.ensures.written _ c.account_line.ensures))

pub returns-in_err-write_piece-clause-faults : goal.returns-in_err-write_piece-clause-faults
returns-in_err-write_piece-clause-faults g c =
    let p = err_from_is_err_and c.from_residual.result c.from_residual.ensures.1 in
    rw (p.1, p.2)
    (subst (λ (n : ℕ). HasFault n (g.O.Sink.faults c.write_piece.new.output) (Err c.in_err-write_piece.field-0.0))
    c.loop-place.invariant.quiet c.in_err-write_piece.ensures.faults)
