use Rattle.std.proofs.Common.{◌≡◌, take}
use Rattle.std.specs.List.{filter_map}
use Rattle.book_reports.specs.Sums.{line_by}
use Rattle.book_reports.proofs.trial_balance.found_lines.Given as goal

-- the lines of the accounts so far
abbrev pub invariant-loop-account : goal.invariant-loop-account
invariant-loop-account l = l.lines ≡ filter_map (line_by l.view l.currency) (take l.account-index l.sums)
