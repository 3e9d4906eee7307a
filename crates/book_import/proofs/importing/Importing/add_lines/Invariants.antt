-- The keys that are left are those of the lines that are left, and these lead to what all of them lead to.
use Rattle.book_import.specs.Steps.{AreKeysOf}
use Rattle.book_import.proofs.StepLemmas.{LinesLeft}
use Rattle.book_import.proofs.importing.Importing.add_lines.Given as goal

abbrev pub invariant-loop-key : goal.invariant-loop-key
invariant-loop-key l = record {
  keys : AreKeysOf l.account l.key-iterator.a.rest.now l.key-iterator.b.rest.now;
  left : LinesLeft l.statement l.keys l.bodies l.key-iterator.a.rest.now l.key-iterator.b.rest.now l.fn.self l.self;
}
