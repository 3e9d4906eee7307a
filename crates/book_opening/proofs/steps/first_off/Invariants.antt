-- What is first among the entries that are left is first among all.
use Rattle.std.proofs.Common.{◌≤◌, ℕ, Option, drop}
use Rattle.book_opening.specs.FirstOdd.{IsFirstOff}
use Rattle.book_opening.proofs.steps.first_off.Given as goal

abbrev pub invariant-loop-entry : goal.invariant-loop-entry
invariant-loop-entry l = record {
  bound : l.expected ≤ l.end;
  first : (off : Option ℕ) → IsFirstOff (drop l.entry-index l.entries) l.expected l.end off
      → IsFirstOff l.entries l.from l.end off;
}
