use Rattle.std.proofs.Common.{◌≡◌}
use Rattle.book_statement.specs.Pieces.{after_chars}
use Rattle.book_statement.proofs.pieces.after_chars.Given as goal

-- what is left to pass over of the rest is what was to be passed over of the text
abbrev pub invariant-loop-left : goal.invariant-loop-left
invariant-loop-left l = after_chars l.left l.rest ≡ after_chars l.count l.text

abbrev pub decreases-loop-left : goal.decreases-loop-left
decreases-loop-left l = l.left
