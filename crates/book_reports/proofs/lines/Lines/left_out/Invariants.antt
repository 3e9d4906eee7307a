use Rattle.std.proofs.Common.{◌≡◌, ◌≤◌, count_by, take}
use Rattle.book_reports.specs.Sections.{CanBeAdded, is_left_out}
use Rattle.book_reports.proofs.lines.Lines.left_out.Given as goal

-- those of the lines so far that are left out were counted
abbrev pub invariant-loop-line : goal.invariant-loop-line
invariant-loop-line l = (l.count ≡ count_by (λ line. is_left_out line.worth) (take l.line-index l.line-items))
    × (l.count ≤ l.line-index) × CanBeAdded l.line-items
