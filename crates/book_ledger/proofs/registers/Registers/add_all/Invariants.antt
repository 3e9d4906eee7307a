use Rattle.std.proofs.Common.{◌≡◌, ℕ, [], take, true}
use Rattle.book_ledger.specs.Change.{is_there}
use Rattle.book_ledger.specs.Counts.{CountsFrom}
use Rattle.book_ledger.specs.Opening.{AreAdded, AreOnce, HaveNoRows}
use Rattle.book_ledger.proofs.registers.Registers.add_all.Given as goal

abbrev pub invariant-loop-number : goal.invariant-loop-number
invariant-loop-number l = record {
  rows : AreAdded l.transactions.entries (take l.number-index l.order) l.fn.self.entries l.self.entries;
  counts :
      AreOnce l.order → HaveNoRows l.fn.self.entries → CountsFrom [] l.fn.self.entries
      → CountsFrom [] l.self.entries;
  kept : (account : ℕ) → is_there account l.fn.self.entries ≡ true → is_there account l.self.entries ≡ true;
}
