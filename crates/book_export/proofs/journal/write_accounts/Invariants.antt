-- The pieces so far were written, and no call has failed.
use Rattle.std.proofs.Common.{◌≡◌, take}
use Rattle.std.specs.List.{flat_map}
use Rattle.book_keeper.specs.Stream.{Wrote}
use Rattle.book_export.specs.Export.{account_line}
use Rattle.book_export.proofs.journal.write_accounts.Given as goal

abbrev pub invariant-loop-place : goal.invariant-loop-place
invariant-loop-place g l = record {
  fed : Wrote (g.O.Sink.written l.fn.output) (g.O.Sink.written l.output)
      (flat_map (account_line l.book.accounts.entries) (take l.place l.book.accounts.entries));
  quiet : g.O.Sink.faults l.output ≡ g.O.Sink.faults l.fn.output;
}
