use Rattle.std.proofs.Common.{◌≡◌, All, map, take}
use Rattle.book_reports.specs.Sheet.{until}
use Rattle.book_reports.specs.Sums.{IsSummed}
use Rattle.book_reports.proofs.sums.AccountSums.of_all.Given as goal

-- the sums of the accounts so far
abbrev pub invariant-loop-account : goal.invariant-loop-account
invariant-loop-account l =
    (map (λ sums. sums.account) l.all ≡ take l.account-index l.order) × All (IsSummed l.view (until l.day)) l.all
