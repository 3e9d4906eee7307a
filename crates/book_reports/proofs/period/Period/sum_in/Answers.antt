use Rattle.std.proofs.Common.{None, ap, rules}
use Rattle.book_register.specs.declared.balances.Balances.{Balances}
use Rattle.book_reports.proofs.RowLemmas.{period_small}
use Rattle.book_reports.proofs.period.Period.sum_in.Goals as goal

pub returns-in-None-clause-small : goal.returns-in-None-clause-small
returns-in-None-clause-small c =
    let small = period_small (record { from = None; to = c.args.self.now.to }) c.args.register.now.rows c.requires in
    let is = ap (λ (b : Balances). b.all) c.balances_at.ensures.balances in
    search (rules, small, is)
