use Rattle.std.proofs.Common.{◌≡◌, ◌++◌, take, string_bytes}
use Rattle.std.specs.List.{flat_map}
use Rattle.book_reports.specs.LotsText.{pair_row}
use Rattle.book_reports.proofs.lots_report.add_pairs.Given as goal

-- the rows of so many pairs were added
abbrev pub invariant-loop-pair : goal.invariant-loop-pair
invariant-loop-pair l =
    string_bytes l.out ≡ string_bytes l.fn.out ++ flat_map (pair_row l.style) (take l.pair-index l.pairs)
