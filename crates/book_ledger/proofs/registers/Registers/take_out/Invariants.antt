use Rattle.std.proofs.Common.{◌≡◌, ℕ, ◌≤◌, List, Some}
use Rattle.std.specs.Option.{option_copied}
use Rattle.book_ledger.specs.Change.{AreTaken, is_there}
use Rattle.book_ledger.specs.Page.{Page}
use Rattle.book_ledger.specs.Counts.{CountsFrom, HasRowsOf}
use Rattle.book_ledger.specs.Room.{room_of}
use Rattle.book_ledger.proofs.registers.Registers.take_out.Given as goal

abbrev pub invariant-loop-place : goal.invariant-loop-place
invariant-loop-place l = record {
  rows :
      AreTaken l.number (Some l.transaction) (option_copied l.new) l.place l.fn.self.entries l.self.entries;
  changes :
      (first : List (ℕ × Page)) → HasRowsOf l.number (Some l.transaction) first
      → HasRowsOf l.number (Some l.transaction) l.fn.self.entries → CountsFrom first l.fn.self.entries
      → CountsFrom first l.self.entries;
  there : (account : ℕ) → is_there account l.self.entries ≡ is_there account l.fn.self.entries;
  room : (account : ℕ) → room_of account l.fn.self.entries ≤ room_of account l.self.entries;
}
