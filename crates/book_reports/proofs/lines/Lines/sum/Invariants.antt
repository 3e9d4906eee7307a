use Rattle.std.proofs.Common.{◌≡◌, map, take}
use Rattle.book_splits.specs.Balance.{total}
use Rattle.book_reports.specs.Sections.{CanBeAdded, amount_in}
use Rattle.book_reports.proofs.lines.Lines.sum.Given as goal

-- the amounts of the lines so far were added up
abbrev pub invariant-loop-line : goal.invariant-loop-line
invariant-loop-line l =
    (l.sum ≡ total (map (λ line. amount_in line.worth) (take l.line-index l.line-items))) × CanBeAdded l.line-items
