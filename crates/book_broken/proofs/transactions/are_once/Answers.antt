-- The number at the place stands again behind it, or it doesn't.
use Rattle.std.proofs.Common.{Bool, Some, sym, ap, ◌∙◌}
use Rattle.book_splits.specs.declared.split.Split.{Split}
use Rattle.book_broken.proofs.ListLemmas.{once_behind, once_fails}
use Rattle.book_broken.proofs.transactions.are_once.Goals as goal

pub returns-then-is_again : goal.returns-then-is_again
returns-then-is_again c =
    sym (c.loop-place.invariant
    ∙ once_fails (λ (s : Split). s.id) c.args.splits.now c.loop-place.place
    (c.is_again.ensures ∙ ap (λ (t : Bool). Some t) c.if-is_again.true))

pub loop-place-preserved : goal.loop-place-preserved
loop-place-preserved c =
    c.loop-place.invariant
    ∙ once_behind (λ (s : Split). s.id) c.args.splits.now c.loop-place.place
    (c.is_again.ensures ∙ ap (λ (t : Bool). Some t) c.if-is_again.false)
