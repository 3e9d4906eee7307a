-- The calls on an object in memory, which are counted from 1, and those of them that are to fail.
use Rattle.std.specs.Prelude.{ℕ, List, Contains}
use Rattle.book_keeper.specs.Faults.{next_count}

-- The call after so many is one of those that are to fail.
abbrev pub FailsNext : List ℕ → ℕ → Type 0
FailsNext fail calls = Contains fail (next_count calls)
