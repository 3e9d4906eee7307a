use Rattle.std.proofs.Common.{◌≡◌, ℕ, ℤ, map, take}
use Rattle.book_splits.specs.declared.transaction.Txn.{Txn}
use Rattle.book_ledger.proofs.opening.by_day.Given as goal

abbrev pub invariant-loop-number : goal.invariant-loop-number
invariant-loop-number l =
    map (λ (entry : ℤ × ℕ). entry.1) l.order.items ≡ map (λ (entry : ℕ × Txn). entry.0) (take l.number-index l.entries)
