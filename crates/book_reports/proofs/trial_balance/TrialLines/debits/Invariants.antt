use Rattle.std.proofs.Common.{◌≡◌, map, take}
use Rattle.book_splits.specs.Balance.{total}
use Rattle.book_reports.specs.Trial.{CanBeAdded}
use Rattle.book_reports.proofs.trial_balance.TrialLines.debits.Given as goal

-- the debits of the lines so far were added up
abbrev pub invariant-loop-line : goal.invariant-loop-line
invariant-loop-line l =
    (l.sum ≡ total (map (λ line. line.debit) (take l.line-index l.line-items))) × CanBeAdded l.line-items
