-- The lines before the rest were read.
use Rattle.std.proofs.Common.{length}
use Rattle.book_sample.proofs.LastLemmas.{HasRead}
use Rattle.book_sample.proofs.last_lines.last_two_answers.Given as goal

abbrev pub invariant-lines : goal.invariant-lines
invariant-lines l = HasRead l.text l.rest l.line l.line_before

abbrev pub decreases-lines : goal.decreases-lines
decreases-lines l = length l.rest
