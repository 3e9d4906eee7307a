use Rattle.std.proofs.Common.{◌≡◌, map, take}
use Rattle.book_reports.specs.Layout.{printed}
use Rattle.book_table.proofs.columns.printed_row.Given as goal

-- the texts so far
abbrev pub invariant-loop-text : goal.invariant-loop-text
invariant-loop-text l = l.shown ≡ map printed (take l.text-index l.row)
