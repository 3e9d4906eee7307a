-- The links so far are unused.
use Rattle.std.proofs.Common.{All}
use Rattle.book_ports.specs.PortsInMemory.{IsUnused}
use Rattle.book_gate.proofs.links.links_of.Given as goal

abbrev pub invariant-loop-place : goal.invariant-loop-place
invariant-loop-place l = All IsUnused l.links.items
