use Rattle.std.proofs.Common.{◌≡◌, ◌<◌, ◌≤◌, length, take, get_or}
use Rattle.book_statement.specs.Texts.{without_spaces}
use Rattle.book_statement.proofs.lines.kept_len.Given as goal

-- the bytes from the end on are spaces, and what stands before them leaves what the whole line leaves
abbrev pub invariant-loop-end : goal.invariant-loop-end
invariant-loop-end l =
    (l.end ≤ length l.line) × (without_spaces (take l.end l.line) ≡ without_spaces l.line)
    × (l.end < length l.line → get_or l.line l.end 0 ≡ 32)

abbrev pub decreases-loop-end : goal.decreases-loop-end
decreases-loop-end l = l.end
