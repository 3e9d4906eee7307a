-- What a table of transactions keeps beside them.
use Rattle.std.specs.Prelude.{◌≡◌, ◌%◌, ◌^◌, length}
use Rattle.book_splits.specs.Balance.{splits_of}
use Rattle.book_splits.specs.declared.transactions.Txns.TheInside.{Inside}

-- The count that it keeps is the number of all splits, or what is left of that number after division by 2^64.
abbrev pub CountsSplits : Inside → Type 0
CountsSplits txns = txns.splits ≡ length (splits_of txns.transactions.entries) % 2 ^ 64
