use Rattle.book_ledger.specs.Room.{Extends}
use Rattle.book_ledger.proofs.ExtendLemmas.{AreBegun}
use Rattle.book_ledger.proofs.registers.Registers.begin_all.Given as goal

abbrev pub invariant-loop-place : goal.invariant-loop-place
invariant-loop-place l = record {
  extends : Extends l.fn.self.entries l.self.entries;
  begun : AreBegun l.self.entries l.accounts.entries l.place;
}
