-- The sum of the amounts of parts, one by one.
use Rattle.std.proofs.Common.{◌≡◌, ℕ, ◌+◌, ◌<◌, List, [], ◌∷◌, ◌++◌, length, get_or, take, ap, ◌∙◌, arith, pos, ◌+ℤ◌}
use Rattle.std.specs.Prelude.{unwrap_or}
use Rattle.std.proofs.lemmas.Int.{ints}
use Rattle.std.proofs.lemmas.List.{take_more}
use Rattle.qif_read.specs.Kept.{sum_of_splits}
use Rattle.qif_read.specs.declared.split.SplitSaid.{SplitSaid}

sum_of_splits-push : (ss : List SplitSaid) (s : SplitSaid)
    → sum_of_splits (ss ++ s ∷ []) ≡ sum_of_splits ss +ℤ unwrap_or s.amount (pos 0)
sum_of_splits-push [] s = omega (arith, ints)
sum_of_splits-push (x ∷ ss) s = let rest = sum_of_splits-push ss s in omega (arith, ints)

pub sum_of_splits-take : (ss : List SplitSaid) (i : ℕ) (d : SplitSaid) → i < length ss
    → sum_of_splits (take (i + 1) ss) ≡ sum_of_splits (take i ss) +ℤ unwrap_or (get_or ss i d).amount (pos 0)
sum_of_splits-take ss i d lt =
    ap sum_of_splits (take_more ss i d lt) ∙ sum_of_splits-push (take i ss) (get_or ss i d)
