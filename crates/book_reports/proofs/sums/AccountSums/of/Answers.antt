use Rattle.std.proofs.Common.{subst, refl}
use Rattle.book_reports.specs.Measure.{rows_in}
use Rattle.book_reports.specs.Sheet.{until}
use Rattle.book_reports.specs.Sums.{AreSums}
use Rattle.book_reports.specs.declared.period.Period.{Period}
use Rattle.book_reports.proofs.SumsLemmas.{summed_by}
use Rattle.book_reports.proofs.sums.AccountSums.of.Goals as goal

pub returns-clause-summed : goal.returns-clause-summed
returns-clause-summed c =
    let rows = c.register.result.now.rows in
    summed_by c.args.view.now (until c.args.day) c.args.account rows
    (record { account = c.args.account; by_currency = c.in_ok-by_currency.by_currency }) c.register.ensures.sound
    c.requires c.register.ensures.rows refl
    (subst (λ (p : Period). AreSums (rows_in p rows) c.in_ok-by_currency.by_currency.entries) c.until.ensures
    c.in_ok-by_currency.ensures)
