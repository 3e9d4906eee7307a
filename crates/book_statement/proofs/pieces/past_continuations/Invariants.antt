use Rattle.std.proofs.Common.{◌≡◌, drop}
use Rattle.book_statement.specs.Pieces.{past_continuations}
use Rattle.book_statement.proofs.pieces.past_continuations.Given as goal

abbrev pub invariant-loop-i : goal.invariant-loop-i
invariant-loop-i l = past_continuations (drop l.i l.text) ≡ past_continuations l.text
