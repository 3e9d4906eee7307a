use Rattle.std.proofs.Common.{◌≡◌, drop}
use Rattle.qif_read.specs.QifAmount.{are_commas_placed}
use Rattle.qif_read.proofs.amount.are_commas_placed.Given as goal

abbrev pub invariant-loop-i : goal.invariant-loop-i
invariant-loop-i l = are_commas_placed l.whole ≡ are_commas_placed (drop l.i l.whole)
