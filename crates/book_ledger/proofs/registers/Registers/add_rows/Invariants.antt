use Rattle.std.proofs.Common.{◌≡◌, ℕ, [], Some, None, true}
use Rattle.book_ledger.specs.Change.{ArePut, is_there}
use Rattle.book_ledger.specs.Counts.{AreFree, CountsFrom}
use Rattle.book_ledger.proofs.registers.Registers.add_rows.Given as goal

abbrev pub invariant-loop-place : goal.invariant-loop-place
invariant-loop-place l = record {
  rows : ArePut l.number (Some l.transaction) None l.place l.fn.self.entries l.self.entries;
  counts :
      AreFree l.number (Some l.transaction) None l.fn.self.entries → CountsFrom [] l.fn.self.entries
      → CountsFrom [] l.self.entries;
  kept : (account : ℕ) → is_there account l.fn.self.entries ≡ true → is_there account l.self.entries ≡ true;
}
