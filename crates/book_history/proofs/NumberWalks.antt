-- Tests of the numbers of splits are tests of the splits.
use Rattle.std.proofs.Common.{◌≡◌, ℕ, Bool, ◌||◌, List, [], ◌∷◌, refl, ap}
use Rattle.std.specs.List.{list_any}
use Rattle.book_splits.specs.TransactionRules.{numbers_of}
use Rattle.book_splits.specs.declared.split.Split.{Split}

pub any_number :
    (test : ℕ → Bool) (splits : List Split) → list_any test (numbers_of splits) ≡ list_any (λ s. test s.id) splits
any_number test [] = refl
any_number test (s ∷ splits) = ap (λ (t : Bool). test s.id || t) (any_number test splits)
