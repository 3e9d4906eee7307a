-- The record of a reconciliation is made of its parts.
use Rattle.std.proofs.Common.{◌≡◌, ℕ, ℤ, List, ap, ◌∙◌}
use Rattle.book_splits.specs.declared.reconciliation.MarkedSplit.{MarkedSplit}
use Rattle.book_splits.specs.declared.reconciliation.Recon.{Recon}
use Rattle.book_splits.specs.declared.transaction.Txn.{Txn}
use Rattle.book_reconcile.specs.Reconciliation.{finish, opening, splits_to_mark}

abbrev made : ℕ → ℤ → ℤ → ℤ → List MarkedSplit → Recon
made account day first closing marked =
    record { account = account; day = day; opening = first; closing = closing; marked = marked }

pub record-is : (account : ℕ) (day closing first said : ℤ) (marked : List MarkedSplit) (ts : List (ℕ × Txn))
    → first ≡ opening account ts → said ≡ closing → marked ≡ splits_to_mark account day ts
    → made account day first said marked ≡ finish account day closing ts
record-is account day closing first said marked ts opened same listed =
    ap (λ (z : ℤ). made account day z said marked) opened
    ∙ ap (λ (z : ℤ). made account day (opening account ts) z marked) same
    ∙ ap (λ (l : List MarkedSplit). made account day (opening account ts) closing l) listed
