use Rattle.std.proofs.Common.{ℕ, subst}
use Rattle.std.proofs.lemmas.Result.{err_from_is_err_and}
use Rattle.book_undo.specs.Book.{book_of}
use Rattle.book_export.specs.Export.{HasFault, commodities_text, export_text, text_from_accounts}
use Rattle.book_export.proofs.WritingLemmas.{cut, then_written}
use Rattle.book_export.proofs.journal.write_book.Goals as goal

pub returns-clause-written : goal.returns-clause-written
unfolding export_text
returns-clause-written g c =
    then_written (g.O.Sink.written c.args.output.now) (g.O.Sink.written c.write_commodities.new.output)
    (g.O.Sink.written c.write_from_accounts.new.output) (commodities_text (book_of c.args.book.now))
    (text_from_accounts (book_of c.args.book.now) c.args.order.now) c.write_from_accounts.result
    c.in_ok-write_commodities.ensures.written
    c.write_from_accounts.ensures.written

pub returns-in_err-write_commodities-clause-written : goal.returns-in_err-write_commodities-clause-written
unfolding export_text
returns-in_err-write_commodities-clause-written g c =
    let p = err_from_is_err_and c.from_residual.result c.from_residual.ensures.1 in
    rw (p.1, p.2)
    (cut (g.O.Sink.written c.args.output.now) (g.O.Sink.written c.write_commodities.new.output)
    (commodities_text (book_of c.args.book.now)) (text_from_accounts (book_of c.args.book.now) c.args.order.now)
    c.in_err-write_commodities.field-0.0
    c.in_err-write_commodities.ensures.written)

pub returns-clause-faults : goal.returns-clause-faults
returns-clause-faults g c =
    subst (λ (n : ℕ). HasFault n (g.O.Sink.faults c.write_from_accounts.new.output) c.write_from_accounts.result)
    c.in_ok-write_commodities.ensures.faults
    c.write_from_accounts.ensures.faults

pub returns-in_err-write_commodities-clause-faults : goal.returns-in_err-write_commodities-clause-faults
returns-in_err-write_commodities-clause-faults g c =
    let p = err_from_is_err_and c.from_residual.result c.from_residual.ensures.1 in
    rw (p.1, p.2)
    c.in_err-write_commodities.ensures.faults
