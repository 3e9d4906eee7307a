use Rattle.book_reports.specs.Sheet.{until}
use Rattle.book_reports.specs.Sums.{IsSummed}
use Rattle.book_reports.proofs.SumsLemmas.{listed_more, summed_more}
use Rattle.book_reports.proofs.sums.AccountSums.of_all.Goals as goal

pub loop-account-preserved : goal.loop-account-preserved
loop-account-preserved c = (
  listed_more c.loop-account.all c.push.new.self c.in_ok-of.field-0 c.args.order.now c.loop-account.account-index
      c.in_ok-push.ensures.added c.loop-account.invariant.0 c.loop-account-test.true c.in_ok-of.ensures.account,
  summed_more (IsSummed c.args.view.now (until c.args.day)) c.loop-account.all c.push.new.self c.in_ok-of.field-0
      c.in_ok-push.ensures.added c.loop-account.invariant.1 c.in_ok-of.ensures.summed,
)
