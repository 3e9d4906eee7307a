use Rattle.std.proofs.Common.{◌≡◌, drop}
use Rattle.std.specs.Prelude.{filter, fold, None, Some}
use Rattle.std.specs.Option.{option_copied}
use Rattle.book_match.specs.Proposal.{is_candidate, nearer}
use Rattle.book_match.specs.Taken.{left}
use Rattle.book_match.proofs.nearest.nearest.Given as goal

abbrev pub invariant-loop-split : goal.invariant-loop-split
invariant-loop-split l =
    fold (λ other split. Some (nearer l.line other split)) (option_copied l.best)
    (filter (is_candidate l.window l.line) (left l.taken (drop l.split-index l.splits)))
    ≡ fold (λ other split. Some (nearer l.line other split)) None
    (filter (is_candidate l.window l.line) (left l.taken l.splits))
