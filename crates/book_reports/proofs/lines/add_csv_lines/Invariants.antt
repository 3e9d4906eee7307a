use Rattle.std.proofs.Common.{◌≡◌, ◌++◌, string_bytes, take}
use Rattle.book_reports.specs.Sections.{csv_lines}
use Rattle.book_reports.proofs.lines.add_csv_lines.Given as goal

-- the lines so far were added
abbrev pub invariant-loop-line : goal.invariant-loop-line
invariant-loop-line l =
    string_bytes l.out ≡ string_bytes l.fn.out ++ csv_lines l.fraction l.section (take l.line-index l.lines)
