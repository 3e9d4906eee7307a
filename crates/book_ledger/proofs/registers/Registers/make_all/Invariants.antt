use Rattle.book_ledger.specs.Room.{Extends}
use Rattle.book_ledger.proofs.CountLemmas.{MadeBefore}
use Rattle.book_ledger.proofs.registers.Registers.make_all.Given as goal

abbrev pub invariant-loop-account : goal.invariant-loop-account
invariant-loop-account l = record {
  extends : Extends l.fn.self.entries l.self.entries;
  made : MadeBefore l.self.entries l.counts l.account-index;
}
