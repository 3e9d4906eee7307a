-- What voiding a transaction and bringing it back leave as it was.
use Rattle.std.proofs.Common.{◌≡◌, ℕ, pos, List, [], ◌∷◌, map, None, refl, ap}
use Rattle.std.proofs.Common.{arith}
use Rattle.std.proofs.lemmas.Int.{ints}
use Rattle.book_splits.specs.Balance.{sum_of_values}
use Rattle.book_splits.specs.TransactionRules.{numbers_of}
use Rattle.book_splits.specs.declared.split.Split.{Split}
use Rattle.book_splits.specs.declared.transaction.Txn.{Txn}
use Rattle.book_void.specs.Voiding.{all_new, kept_of, new_again, restored, restored_splits, voided_for, voided_split}

splits_back :
    (splits : List Split) → restored_splits (map voided_split splits) (map kept_of splits) ≡ map new_again splits
splits_back [] = refl
splits_back (s ∷ splits) = ap (λ (more : List Split). new_again s ∷ more) (splits_back splits)

-- A transaction that is voided and brought back is the one before with each split new: no mark comes back.
pub void_and_back :
    (reason : List ℕ) (transaction : Txn) → restored (voided_for reason transaction) ≡ all_new transaction
void_and_back reason transaction =
    ap (λ (splits : List Split). record transaction { splits = splits; voided = None }) (splits_back transaction.splits)

-- The splits of a voided transaction have their numbers still,
pub numbers_voided : (splits : List Split) → numbers_of (map voided_split splits) ≡ numbers_of splits
numbers_voided [] = refl
numbers_voided (s ∷ splits) = ap (λ (more : List ℕ). s.id ∷ more) (numbers_voided splits)

-- and their values sum to zero.
pub values_voided : (splits : List Split) → sum_of_values (map voided_split splits) ≡ pos 0
values_voided [] = refl
values_voided (s ∷ splits) = let rest = values_voided splits in omega (arith, ints, rest)
