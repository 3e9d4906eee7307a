-- The pieces so far were written, and no call has failed.
use Rattle.std.proofs.Common.{◌≡◌, take}
use Rattle.std.specs.List.{flat_map}
use Rattle.book_keeper.specs.Stream.{Wrote}
use Rattle.book_undo.specs.Book.{book_of}
use Rattle.book_export.specs.Entries.{lines_at}
use Rattle.book_export.proofs.journal.write_transactions.Given as goal

abbrev pub invariant-loop-number : goal.invariant-loop-number
invariant-loop-number g l = record {
  fed : Wrote (g.O.Sink.written l.fn.output) (g.O.Sink.written l.output)
      (flat_map (λ e. lines_at (book_of l.book) e.1) (take l.number-index l.order));
  quiet : g.O.Sink.faults l.output ≡ g.O.Sink.faults l.fn.output;
}
