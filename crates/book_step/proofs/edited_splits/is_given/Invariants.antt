use Rattle.std.proofs.Common.{◌≡◌, drop}
use Rattle.std.specs.List.{list_any}
use Rattle.book_splits.specs.TransactionRules.{is_among}
use Rattle.book_step.specs.Editing.{number_given}
use Rattle.book_step.proofs.edited_splits.is_given.Given as goal

abbrev pub invariant-loop-split : goal.invariant-loop-split
invariant-loop-split l =
    list_any (λ split. is_among (number_given split.id) l.id) l.given
    ≡ list_any (λ split. is_among (number_given split.id) l.id) (drop l.split-index l.given)
