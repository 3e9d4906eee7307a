use Rattle.std.proofs.Common.{◌≡◌, take}
use Rattle.book_match.proofs.KeptLemmas.{rank_before}
use Rattle.book_match.proofs.kept.least.Given as goal

abbrev pub invariant-loop-free : goal.invariant-loop-free
invariant-loop-free l = l.best ≡ rank_before l.line l.txns.entries l.taken (take l.free-index l.entries)
