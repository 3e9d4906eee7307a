use Rattle.std.proofs.Common.{◌≡◌, ◌++◌, drop}
use Rattle.book_sound.specs.Dismissal.{dismissing}
use Rattle.book_step.proofs.dismissing.dismissing.Given as goal

abbrev pub invariant-loop-place : goal.invariant-loop-place
invariant-loop-place l =
    l.edits.items ++ dismissing l.old l.new (drop l.place l.lines.entries) ≡ dismissing l.old l.new l.lines.entries
