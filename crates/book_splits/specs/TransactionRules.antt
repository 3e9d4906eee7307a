-- What the rules that each transaction of a book keeps say of its splits: the numbers that they have, whether they are
-- unmarked or voided, and whether the transaction is not voided.
use Rattle.std.specs.Prelude.{ℕ, ◌==◌, not, Bool, true, false, ◌&&◌, List, [], ◌∷◌, map, is_none}
use Rattle.std.specs.List.{list_any}
use Rattle.book_splits.specs.declared.split.Mark.{Mark}
use Rattle.book_splits.specs.declared.split.Mark.TheVariants.{New, Voided}
use Rattle.book_splits.specs.declared.split.Split.{Split}
use Rattle.book_splits.specs.declared.transaction.Txn.{Txn}

-- The numbers of the splits.
abbrev pub numbers_of : List Split → List ℕ
numbers_of splits = map (λ split. split.id) splits

-- Whether a number is one of the list.
abbrev pub is_among : List ℕ → ℕ → Bool
is_among numbers number = list_any (λ other. other == number) numbers

-- Whether each number stands once in the list.
abbrev pub are_once : List ℕ → Bool
are_once [] = true
are_once (number ∷ more) = not (is_among more number) && are_once more

-- Whether a split of one transaction has the number of a split of the other.
abbrev pub share_numbers : Txn → Txn → Bool
share_numbers transaction other = list_any (is_among (numbers_of other.splits)) (numbers_of transaction.splits)

-- Whether it is the mark of a split that was not compared with a bank statement yet.
abbrev pub is_new : Mark → Bool
is_new New = true
is_new _ = false

-- Whether a split is unmarked: it is new, and names no reconciliation (GnuCash Manual, reconciling).
abbrev pub is_unmarked : Split → Bool
is_unmarked split = is_new split.mark && is_none split.recon

-- Whether it is the mark of a split whose transaction is voided.
abbrev pub is_voided : Mark → Bool
is_voided Voided = true
is_voided _ = false

-- Whether one of the splits is voided.
abbrev pub has_voided : List Split → Bool
has_voided splits = list_any (λ split. is_voided split.mark) splits

-- Whether a transaction is not voided: nothing is kept of it, and no split has the mark of a voided one (GnuCash
-- Manual, voiding a transaction).
abbrev pub is_not_voided : Txn → Bool
is_not_voided transaction = is_none transaction.voided && not (has_voided transaction.splits)
