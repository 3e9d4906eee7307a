use Rattle.std.proofs.Common.{◌≡◌, drop}
use Rattle.std.specs.List.{list_any}
use Rattle.book_step.specs.Editing.{is_same_part}
use Rattle.book_step.proofs.editing.has_part.Given as goal

abbrev pub invariant-loop-other : goal.invariant-loop-other
invariant-loop-other l =
    list_any (is_same_part l.split) l.later ≡ list_any (is_same_part l.split) (drop l.other-index l.later)
