use Rattle.std.proofs.Common.{ℕ, subst}
use Rattle.std.proofs.lemmas.Result.{err_from_is_err_and}
use Rattle.book_undo.specs.Book.{book_of}
use Rattle.book_export.specs.Export.{HasFault, prices_text, transactions_text}
use Rattle.book_export.proofs.WritingLemmas.{cut, then_written}
use Rattle.book_export.proofs.journal.write_from_prices.Goals as goal

pub returns-clause-written : goal.returns-clause-written
returns-clause-written g c =
    then_written (g.O.Sink.written c.args.output.now) (g.O.Sink.written c.write_prices.new.output)
    (g.O.Sink.written c.write_transactions.new.output) (prices_text (book_of c.args.book.now))
    (transactions_text (book_of c.args.book.now) c.args.order.now) c.write_transactions.result
    c.in_ok-write_prices.ensures.written
    c.write_transactions.ensures.written

pub returns-in_err-write_prices-clause-written : goal.returns-in_err-write_prices-clause-written
returns-in_err-write_prices-clause-written g c =
    let p = err_from_is_err_and c.from_residual.result c.from_residual.ensures.1 in
    rw (p.1, p.2)
    (cut (g.O.Sink.written c.args.output.now) (g.O.Sink.written c.write_prices.new.output)
    (prices_text (book_of c.args.book.now)) (transactions_text (book_of c.args.book.now) c.args.order.now)
    c.in_err-write_prices.field-0.0
    c.in_err-write_prices.ensures.written)

pub returns-clause-faults : goal.returns-clause-faults
returns-clause-faults g c =
    subst (λ (n : ℕ). HasFault n (g.O.Sink.faults c.write_transactions.new.output) c.write_transactions.result)
    c.in_ok-write_prices.ensures.faults
    c.write_transactions.ensures.faults

pub returns-in_err-write_prices-clause-faults : goal.returns-in_err-write_prices-clause-faults
returns-in_err-write_prices-clause-faults g c =
    let p = err_from_is_err_and c.from_residual.result c.from_residual.ensures.1 in
    rw (p.1, p.2)
    c.in_err-write_prices.ensures.faults
