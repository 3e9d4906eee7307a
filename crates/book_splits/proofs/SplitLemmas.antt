-- Whether a split of some transactions passes a test, as a loop over them finds out.
use Rattle.std.proofs.Common.{◌≡◌, ℕ, ◌+◌, ◌<◌, ◌≤◌, Bool, true, false, ◌||◌, List, length, drop, get_or}
use Rattle.std.proofs.Common.{ap, ◌∙◌}
use Rattle.std.proofs.lemmas.List.{drop_all}
use Rattle.std.proofs.lemmas.List.Folds.{list_any-append}
use Rattle.std.specs.List.{list_any}
use Rattle.book_commodity.proofs.ListLemmas.{from-item}
use Rattle.book_splits.specs.Balance.{splits_of}
use Rattle.book_splits.specs.declared.split.Split.{Split}
use Rattle.book_splits.specs.declared.transaction.Txn.{Txn}

-- the splits of transactions from a place on are those of the one there and of those behind it
any-splits : (p : Split → Bool) (ts : List (ℕ × Txn)) (i : ℕ) (t : ℕ × Txn) → i < length ts → t ≡ get_or ts i t
    → list_any p (splits_of (drop i ts)) ≡ (list_any p t.1.splits || list_any p (splits_of (drop (i + 1) ts)))
any-splits p ts i t below is = ap (λ es. list_any p (splits_of es)) (from-item ts i t below is)
    ∙ list_any-append p t.1.splits (splits_of (drop (i + 1) ts))

pub any-splits-here : (p : Split → Bool) (ts : List (ℕ × Txn)) (i : ℕ) (t : ℕ × Txn) → i < length ts
    → t ≡ get_or ts i t
    → list_any p t.1.splits ≡ true → list_any p (splits_of (drop i ts)) ≡ true
any-splits-here p ts i t below is passes = any-splits p ts i t below is
    ∙ ap (λ b. b || list_any p (splits_of (drop (i + 1) ts))) passes

pub any-splits-later : (p : Split → Bool) (ts : List (ℕ × Txn)) (i : ℕ) (t : ℕ × Txn) → i < length ts
    → t ≡ get_or ts i t
    → list_any p t.1.splits ≡ false → list_any p (splits_of (drop i ts)) ≡ list_any p (splits_of (drop (i + 1) ts))
any-splits-later p ts i t below is fails = any-splits p ts i t below is
    ∙ ap (λ b. b || list_any p (splits_of (drop (i + 1) ts))) fails

pub any-splits-end : (p : Split → Bool) (ts : List (ℕ × Txn)) (i : ℕ) → length ts ≤ i
    → list_any p (splits_of (drop i ts)) ≡ false
any-splits-end p ts i past = ap (λ es. list_any p (splits_of es)) (drop_all i ts past)
