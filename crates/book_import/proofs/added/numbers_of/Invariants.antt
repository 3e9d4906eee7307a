-- The numbers so far, and those of the entries that are left, are those of all.
use Rattle.std.proofs.Common.{◌≡◌, ◌++◌, drop, map}
use Rattle.book_import.proofs.added.numbers_of.Given as goal

abbrev pub invariant-loop-number : goal.invariant-loop-number
invariant-loop-number g l =
    l.numbers ++ map (λ entry. entry.0) (drop l.number-index l.entries) ≡ map (λ entry. entry.0) l.entries
