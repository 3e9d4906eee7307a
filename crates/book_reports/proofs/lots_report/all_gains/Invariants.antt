use Rattle.std.proofs.Common.{◌≡◌, take}
use Rattle.book_lots.specs.Lots.{gain_of, pairs_of}
use Rattle.book_reports.proofs.lots_report.all_gains.Given as goal

-- the gains of so many pairs were added
abbrev pub invariant-loop-pair : goal.invariant-loop-pair
invariant-loop-pair l = l.sum ≡ gain_of (take l.pair-index (pairs_of l.lots.entries))
