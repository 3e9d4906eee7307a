-- An interrupted call adds nothing.
use Rattle.std.specs.Io.KnownBytes.{Keeps}
use Rattle.book_keeper.proofs.stream_sink.flush.Given as goal

abbrev pub invariant-tries : goal.invariant-tries
invariant-tries g l = Keeps (g.W.Write.contents l.fn.writer) (g.W.Write.contents l.writer)
