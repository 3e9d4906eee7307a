use Rattle.std.proofs.Common.{◌≡◌, drop, nat_lt}
use Rattle.book_undo.specs.Edit.{deepest}
use Rattle.book_undo.proofs.+nesting.Given as goal

abbrev pub invariant-nesting::is_any_deeper-loop-part : goal.invariant-nesting::is_any_deeper-loop-part
invariant-nesting::is_any_deeper-loop-part l =
    nat_lt l.most (deepest l.parts) ≡ nat_lt l.most (deepest (drop l.part-index l.parts))
