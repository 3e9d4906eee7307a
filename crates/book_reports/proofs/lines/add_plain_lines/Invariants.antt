use Rattle.std.proofs.Common.{◌≡◌, ◌++◌, string_bytes, take}
use Rattle.book_reports.specs.Sections.{plain_lines}
use Rattle.book_reports.proofs.lines.add_plain_lines.Given as goal

-- the lines so far were added
abbrev pub invariant-loop-line : goal.invariant-loop-line
invariant-loop-line l =
    string_bytes l.out ≡ string_bytes l.fn.out ++ plain_lines l.fraction (take l.line-index l.lines)
