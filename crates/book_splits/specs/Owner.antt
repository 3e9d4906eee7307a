-- Whose a split is: the transaction that has it, and its place there.
use Rattle.std.specs.Prelude.{ℕ, ◌==◌, List, Option, map, find, option_map, slice_get}
use Rattle.std.specs.List.{enumerate_from, flat_map}
use Rattle.std.specs.Option.{option_and_then}
use Rattle.book_commodity.specs.Table.{value_of}
use Rattle.book_splits.specs.declared.split.Split.{Split}
use Rattle.book_splits.specs.declared.transaction.Txn.{Txn}

-- The splits of a transaction under a number, in order, each behind that number and its place, counted from 0.
abbrev pub placed : ℕ × Txn → List ((ℕ × ℕ) × Split)
placed entry = map (λ at. ((entry.0, at.0), at.1)) (enumerate_from 0 entry.1.splits)

-- The number of the transaction that has the split with a number, and the split's place in it: the first by number and
-- place of those that have it, and None exactly where no transaction has it.
abbrev pub owner : ℕ → List (ℕ × Txn) → Option (ℕ × ℕ)
owner number transactions =
    option_map (λ at. at.0) (find (λ at. at.1.id == number) (flat_map placed transactions))

-- The split that stands at a place of the transaction with a number.
abbrev pub split_at : ℕ × ℕ → List (ℕ × Txn) → Option Split
split_at at transactions =
    option_and_then (λ transaction. slice_get transaction.splits at.1) (value_of at.0 transactions)
