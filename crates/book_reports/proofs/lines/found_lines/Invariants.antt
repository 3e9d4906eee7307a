use Rattle.std.proofs.Common.{◌≡◌, take}
use Rattle.std.specs.List.{filter_map}
use Rattle.book_reports.specs.Sections.{line_of}
use Rattle.book_reports.proofs.lines.found_lines.Given as goal

-- the lines of the accounts so far
abbrev pub invariant-loop-number : goal.invariant-loop-number
invariant-loop-number l = l.lines ≡ filter_map (line_of l.view l.period l.section) (take l.number-index l.order)
