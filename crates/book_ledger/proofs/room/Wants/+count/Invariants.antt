use Rattle.std.proofs.Common.{take, flat_map}
use Rattle.book_undo.specs.Edit.{leaves}
use Rattle.book_ledger.specs.Room.{IsCounted}
use Rattle.book_ledger.proofs.room.Wants.+count.Given as goal

abbrev pub invariant-count_all-loop-part : goal.invariant-count_all-loop-part
invariant-count_all-loop-part l =
    IsCounted (flat_map leaves (take l.part-index l.parts)) l.fn.self.counts.entries l.self.counts.entries
