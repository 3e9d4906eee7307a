use Rattle.std.proofs.Common.{◌≡◌, ◌==◌, drop}
use Rattle.std.specs.List.{list_any}
use Rattle.book_step.proofs.edited_splits.has_split.Given as goal

abbrev pub invariant-loop-split : goal.invariant-loop-split
invariant-loop-split l =
    list_any (λ split. split.id == l.id) l.splits ≡ list_any (λ split. split.id == l.id) (drop l.split-index l.splits)
