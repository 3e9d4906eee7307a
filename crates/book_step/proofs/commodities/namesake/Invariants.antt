use Rattle.std.proofs.Common.{◌≡◌, drop, find}
use Rattle.book_step.specs.Commodities.{is_namesake}
use Rattle.book_step.proofs.commodities.namesake.Given as goal

abbrev pub invariant-loop-place : goal.invariant-loop-place
invariant-loop-place l =
    find (is_namesake l.commodity) (drop l.place l.commodities.entries)
    ≡ find (is_namesake l.commodity) l.commodities.entries
