-- The splits that the reconciliations of a book have marked, as keys by which a mark is found.
use Rattle.std.specs.Prelude.{◌≡◌, ℕ, ◌==◌, ℤ, Bool, ◌&&◌, List}
use Rattle.std.specs.List.{list_any}
use Rattle.std.specs.Ordering.{int_eq, int_cmp, nat_cmp, ordering_then}
use Rattle.std.specs.declared.cmp.Ordering.{Ordering}
use Rattle.book_commodity.specs.Table.{Rises}
use Rattle.book_splits.specs.declared.reconciliation.MarkedSplit.{MarkedSplit}
use Rattle.book_splits.specs.declared.reconciliation.Recon.{Recon}
use Rattle.book_check.specs.Seen.{is_seen}

-- A mark: the number of the reconciliation, the number of the split, and the quantity that the split had.
abbrev pub MarkKey : Type 0
MarkKey = ℕ × ℕ × ℤ

-- The order of marks.
abbrev pub mark_cmp : MarkKey → MarkKey → Ordering
mark_cmp one other =
    ordering_then (ordering_then (nat_cmp one.0 other.0) (nat_cmp one.1 other.1)) (int_cmp one.2 other.2)

-- Whether a list of marked splits has the split with this quantity.
abbrev pub is_listed : ℕ → ℤ → List MarkedSplit → Bool
is_listed split quantity marked = list_any (λ item. (item.split == split) && int_eq item.quantity quantity) marked

-- Whether a reconciliation with a number has made the mark.
abbrev pub is_made_by : ℕ → List MarkedSplit → MarkKey → Bool
is_made_by number marked key = (number == key.0) && is_listed key.1 key.2 marked

-- Whether a reconciliation has made the mark.
abbrev pub is_made : List (ℕ × Recon) → MarkKey → Bool
is_made reconciliations key = list_any (λ entry. is_made_by entry.0 entry.1.marked key) reconciliations

-- The keys are the marks that the reconciliations have made; their numbers rise.
pub record HasMarks (keys : List MarkKey) (reconciliations : List (ℕ × Recon)) : Type 0 where
  pub rise : Rises reconciliations
  pub same : (key : MarkKey) → is_seen mark_cmp keys key ≡ is_made reconciliations key
