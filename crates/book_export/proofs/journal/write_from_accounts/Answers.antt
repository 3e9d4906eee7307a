use Rattle.std.proofs.Common.{ℕ, subst}
use Rattle.std.proofs.lemmas.Result.{err_from_is_err_and}
use Rattle.book_undo.specs.Book.{book_of}
use Rattle.book_export.specs.Export.{HasFault, accounts_text, text_from_prices}
use Rattle.book_export.proofs.WritingLemmas.{cut, then_written}
use Rattle.book_export.proofs.journal.write_from_accounts.Goals as goal

pub returns-clause-written : goal.returns-clause-written
returns-clause-written g c =
    then_written (g.O.Sink.written c.args.output.now) (g.O.Sink.written c.write_accounts.new.output)
    (g.O.Sink.written c.write_from_prices.new.output) (accounts_text (book_of c.args.book.now))
    (text_from_prices (book_of c.args.book.now) c.args.order.now) c.write_from_prices.result
    c.in_ok-write_accounts.ensures.written
    c.write_from_prices.ensures.written

pub returns-in_err-write_accounts-clause-written : goal.returns-in_err-write_accounts-clause-written
returns-in_err-write_accounts-clause-written g c =
    let p = err_from_is_err_and c.from_residual.result c.from_residual.ensures.1 in
    rw (p.1, p.2)
    (cut (g.O.Sink.written c.args.output.now) (g.O.Sink.written c.write_accounts.new.output)
    (accounts_text (book_of c.args.book.now)) (text_from_prices (book_of c.args.book.now) c.args.order.now)
    c.in_err-write_accounts.field-0.0
    c.in_err-write_accounts.ensures.written)

pub returns-clause-faults : goal.returns-clause-faults
returns-clause-faults g c =
    subst (λ (n : ℕ). HasFault n (g.O.Sink.faults c.write_from_prices.new.output) c.write_from_prices.result)
    c.in_ok-write_accounts.ensures.faults
    c.write_from_prices.ensures.faults

pub returns-in_err-write_accounts-clause-faults : goal.returns-in_err-write_accounts-clause-faults
returns-in_err-write_accounts-clause-faults g c =
    let p = err_from_is_err_and c.from_residual.result c.from_residual.ensures.1 in
    rw (p.1, p.2)
    c.in_err-write_accounts.ensures.faults
