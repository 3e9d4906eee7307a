use Rattle.std.proofs.Common.{◌≡◌, ◌++◌, drop, map}
use Rattle.book_match.specs.Kept.{views_on}
use Rattle.book_match.specs.Proposal.{pairs_of}
use Rattle.book_match.specs.Taken.{left}
use Rattle.book_match.proofs.kept.propose_kept.Given as goal

abbrev pub invariant-loop-line : goal.invariant-loop-line
invariant-loop-line l =
    l.pairs ++ pairs_of l.window (map (λ line. line.now) (drop l.line-index l.line-items))
    (left l.taken (views_on l.account l.index.entries l.txns.entries))
    ≡ pairs_of l.window (map (λ line. line.now) l.line-items) (views_on l.account l.index.entries l.txns.entries)
