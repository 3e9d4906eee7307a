-- The pieces so far were written, and no call has failed.
use Rattle.std.proofs.Common.{◌≡◌, take}
use Rattle.std.specs.List.{flat_map}
use Rattle.book_keeper.specs.Stream.{Wrote}
use Rattle.book_export.specs.Symbols.{commodity_lines}
use Rattle.book_export.proofs.journal.write_commodities.Given as goal

abbrev pub invariant-loop-commodity : goal.invariant-loop-commodity
invariant-loop-commodity g l = record {
  fed : Wrote (g.O.Sink.written l.fn.output) (g.O.Sink.written l.output)
      (flat_map (λ e. commodity_lines e.1) (take l.commodity-index l.commodity-items));
  quiet : g.O.Sink.faults l.output ≡ g.O.Sink.faults l.fn.output;
}
