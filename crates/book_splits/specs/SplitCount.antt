-- How many splits a transaction has that may be absent.
use Rattle.std.specs.Prelude.{ℕ, length, Option, Some, None}
use Rattle.book_splits.specs.declared.transaction.Txn.{Txn}

-- The count of its splits; 0 where there is no transaction.
abbrev pub splits_in : Option Txn → ℕ
splits_in None = 0
splits_in (Some transaction) = length transaction.splits
