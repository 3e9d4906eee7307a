-- The first step of a state that is missing, or that its head doesn't count: what is looked for while rows are read.
use Rattle.std.specs.Prelude.{ℕ, ◌≡◌, ◌≢◌, ◌<◌, nat_lt, not, Bool, true, ◌&&◌, List, Option, Some, None, is_some}
use Rattle.book_commodity.specs.Table.{value_of}
use Rattle.book_keeper.specs.Rows.{rank}
use Rattle.book_keeper.specs.declared.row.RowKey.{RowKey}
use Rattle.book_opening.specs.State.{State, head_of}
use Rattle.book_opening.specs.Steps.{AreCounted, IsEven, counts, counts_fit, has_step, is_step}

-- Whether a number is one from a first one on, and below an end.
abbrev pub is_within : ℕ → ℕ → ℕ → Bool
is_within from end number = not (nat_lt number from) && nat_lt number end

-- Whether entries have a number exactly where it is within these bounds.
abbrev pub Agrees : {T : Type 0} → List (ℕ × T) → ℕ → ℕ → ℕ → Type 0
Agrees entries from end number = is_some (value_of number entries) ≡ is_within from end number

-- The first number that entries have outside of these bounds or haven't within them, if there is one.
abbrev pub IsFirstOff : {T : Type 0} → List (ℕ × T) → ℕ → ℕ → Option ℕ → Type 0
IsFirstOff entries from end None = (number : ℕ) → Agrees entries from end number
IsFirstOff entries from end (Some off) =
    (is_some (value_of off entries) ≢ is_within from end off)
    × ((number : ℕ) → number < off → Agrees entries from end number)

-- The first step of a state that is missing, or that its head doesn't count, where the counts of its head fit.
abbrev pub IsFirstOdd : State → Option RowKey → Type 0
IsFirstOdd state None = AreCounted state
IsFirstOdd state (Some odd) =
    (counts_fit (head_of state) ≡ true) × (is_step odd ≡ true)
    × (has_step state odd ≢ counts (head_of state) odd)
    × ((key : RowKey) → rank key < rank odd → IsEven state key)
