use Rattle.std.proofs.Common.{◌≡◌, ℕ, ◌+◌, ◌*◌, ◌≤◌, drop, flat_map}
use Rattle.book_commodity.specs.Table.{Rises}
use Rattle.book_undo.specs.Book.{Book}
use Rattle.book_undo.specs.Edit.{deepest, depth, leaves}
use Rattle.book_undo.proofs.EditLaws.{after_leaves}
use Rattle.book_ledger.specs.Change.{Holds, is_there}
use Rattle.book_ledger.specs.Counts.{CountsOn}
use Rattle.book_ledger.specs.Room.{ChangeOnce, HasRoomFor, IsOnWay, LeavesHavePlaces, puts_on, room_of}
use Rattle.book_ledger.proofs.registers.Registers.+follow.Given as goal

abbrev pub decreases-follow : goal.decreases-follow
decreases-follow l = 2 * depth l.edit.now

abbrev pub decreases-follow_all : goal.decreases-follow_all
decreases-follow_all l = 2 * deepest l.parts.now + 1

abbrev pub invariant-follow_all-loop-part : goal.invariant-follow_all-loop-part
invariant-follow_all-loop-part l = record {
  places : LeavesHavePlaces (flat_map leaves (drop l.part-index l.parts));
  room : HasRoomFor l.self.entries (flat_map leaves (drop l.part-index l.parts));
  rows :
      (now : Book) → Rises now.transactions → ChangeOnce l.transactions.entries (flat_map leaves l.parts) now
      → Holds l.fn.self.entries now.transactions
      → IsOnWay l.transactions.entries l.self.entries (flat_map leaves (drop l.part-index l.parts))
      (after_leaves (flat_map leaves l.parts) now);
  changes : CountsOn l.transactions.entries (flat_map leaves l.parts) l.fn.self.entries l.self.entries;
  there : (account : ℕ) → is_there account l.self.entries ≡ is_there account l.fn.self.entries;
  less :
      (account : ℕ)
      → room_of account l.fn.self.entries + puts_on account (flat_map leaves (drop l.part-index l.parts))
      ≤ room_of account l.self.entries + puts_on account (flat_map leaves l.parts);
}
