use Rattle.std.proofs.Common.{◌≡◌, string_bytes, take}
use Rattle.std.specs.List.{flat_map}
use Rattle.book_reports.specs.Layout.{record_text}
use Rattle.book_table.proofs.columns.records_text.Given as goal

-- the records of the rows so far
abbrev pub invariant-loop-row : goal.invariant-loop-row
invariant-loop-row l = string_bytes l.out ≡ flat_map record_text (take l.row-index l.rows)
