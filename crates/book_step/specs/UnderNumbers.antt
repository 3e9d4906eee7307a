-- What is made of the things that stand under some numbers of a table.
use Rattle.std.specs.Prelude.{ℕ, List, [], flat_map, Option, Some, None}
use Rattle.book_commodity.specs.Table.{value_of}

-- What is made of the thing under a number: nothing, where there is none.
abbrev pub made_of : {T E : Type 0} → (ℕ × T → List E) → ℕ → Option T → List E
made_of make number None = []
made_of make number (Some thing) = make (number, thing)

-- What is made of the things under some numbers, in the order of these.
abbrev pub made_under : {T E : Type 0} → (ℕ × T → List E) → List (ℕ × T) → List ℕ → List E
made_under make entries numbers = flat_map (λ number. made_of make number (value_of number entries)) numbers
