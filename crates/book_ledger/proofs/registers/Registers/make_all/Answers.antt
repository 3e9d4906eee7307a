use Rattle.book_ledger.proofs.CountLemmas.{made_all}
use Rattle.book_ledger.proofs.registers.Registers.make_all.Goals as goal

pub returns-clause-made : goal.returns-clause-made
returns-clause-made c =
    made_all c.loop-account.self.entries c.args.counts.now c.loop-account.account-index c.loop-account-test.false
    c.loop-account.invariant.made
