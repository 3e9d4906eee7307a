-- The text so far, with what is left and the numbers of its counters, is the whole.
use denote.Shadow.{shadow}
use denote.Text.{Utf8}
use Rattle.std.proofs.Common.{◌≡◌, ◌++◌, length}
use Rattle.std.specs.String.{string_bytes}
use Rattle.gate_rows.specs.Counters.{expanded}
use Rattle.gate_rows.proofs.counters.expanded.Given as goal

abbrev pub invariant-pieces : goal.invariant-pieces
invariant-pieces l =
    (string_bytes l.all ++ expanded l.times l.rest ≡ expanded l.times l.fn.text) × shadow (Utf8 l.rest)

abbrev pub decreases-pieces : goal.decreases-pieces
decreases-pieces l = length l.rest
