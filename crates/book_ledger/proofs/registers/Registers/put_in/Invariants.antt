use Rattle.std.proofs.Common.{◌≡◌, ℕ, ◌+◌, ◌≤◌, List, Some, drop}
use Rattle.std.specs.Option.{option_copied}
use Rattle.book_ledger.specs.Change.{ArePut, is_there}
use Rattle.book_ledger.specs.Page.{Page}
use Rattle.book_ledger.specs.Counts.{AreFree, CountsFrom, HasRowsOf}
use Rattle.book_ledger.specs.Room.{room_of, splits_on}
use Rattle.book_ledger.proofs.registers.Registers.put_in.Given as goal

abbrev pub invariant-loop-place : goal.invariant-loop-place
invariant-loop-place l = record {
  rows : ArePut l.number (Some l.transaction) (option_copied l.old) l.place l.fn.self.entries l.self.entries;
  changes :
      (first : List (ℕ × Page)) → HasRowsOf l.number (option_copied l.old) first
      → AreFree l.number (Some l.transaction) (option_copied l.old) l.fn.self.entries
      → CountsFrom first l.fn.self.entries → CountsFrom first l.self.entries;
  there : (account : ℕ) → is_there account l.self.entries ≡ is_there account l.fn.self.entries;
  room :
      (account : ℕ) → splits_on account (drop l.place l.transaction.splits) ≤ room_of account l.self.entries;
  less :
      (account : ℕ)
      → room_of account l.fn.self.entries + splits_on account (drop l.place l.transaction.splits)
      ≤ room_of account l.self.entries + splits_on account l.transaction.splits;
}
