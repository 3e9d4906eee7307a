-- How large the amounts of splits and their sums are.
use Rattle.std.specs.Prelude.{ℕ, ◌*◌}
use Rattle.book_limits.specs.declared.TheConstants.{LARGEST_SPLIT_AMOUNT}

-- The largest size of a split's value and of its quantity: a limit of this project.
abbrev pub largest_split_amount : ℕ
largest_split_amount = LARGEST_SPLIT_AMOUNT

-- The largest size of the sum of the amounts of a book's splits, of which there are at most 1,000,000.
abbrev pub largest_sum : ℕ
largest_sum = largest_split_amount * 1_000_000
