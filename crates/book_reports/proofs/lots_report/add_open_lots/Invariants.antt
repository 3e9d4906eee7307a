use Rattle.std.proofs.Common.{◌≡◌, ◌++◌, take, string_bytes}
use Rattle.std.specs.List.{flat_map}
use Rattle.book_reports.specs.LotsText.{lot_row}
use Rattle.book_reports.proofs.lots_report.add_open_lots.Given as goal

-- the rows of so many lots were added
abbrev pub invariant-loop-lot : goal.invariant-loop-lot
invariant-loop-lot l =
    string_bytes l.out ≡ string_bytes l.fn.out ++ flat_map (lot_row l.style) (take l.lot-index l.lots)
