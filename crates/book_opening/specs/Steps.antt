-- Which steps rows have to have: those that their head counts, and no others.
use Rattle.std.specs.Prelude.{ℕ, ◌≡◌, ◌≢◌, ◌+◌, ◌-◌, ◌==◌, nat_lt, not, Bool, true, false, ◌&&◌, ◌||◌, ◌⊎◌, List, []}
use Rattle.std.specs.Prelude.{◌∷◌}
use Rattle.std.specs.Prelude.{is_some}
use Rattle.book_commodity.specs.Table.{value_of}
use Rattle.book_keeper.specs.declared.row.Row.{Row}
use Rattle.book_keeper.specs.declared.row.RowKey.{RowKey}
use Rattle.book_rows.specs.Row.{StandsFor}
use Rattle.book_rows.specs.declared.head.Head.{Head}
use Rattle.book_rows.specs.declared.record.Record.TheVariants as kept
use Rattle.book_opening.specs.BookRows.{rows_format}
use Rattle.book_opening.specs.State.{State, head_of}

-- One of the rows is such a one.
abbrev pub SomeRow : (Row → Type 0) → List Row → Type 0
SomeRow P [] = ⊥
SomeRow P (row ∷ rows) = P row ⊎ SomeRow P rows

-- Whether a row stands at a key.
abbrev pub stands_at : RowKey → List Row → Bool
stands_at key [] = false
stands_at key (row ∷ rows) = ((key.kind == row.key.kind) && (key.id == row.key.id)) || stands_at key rows

-- The counts of a head fit: no more steps are kept back than lead to the present book, and at most 256 in all.
abbrev pub counts_fit : Head → Bool
counts_fit head = not (nat_lt head.position head.past) && not (nat_lt 256 (head.past + head.later))

-- Whether a number is that of a step back: they are the last ones to the present book.
abbrev pub is_back : Head → ℕ → Bool
is_back head number = nat_lt (head.position - head.past) number && not (nat_lt head.position number)

-- Whether a number is that of a step forth: they are the next ones from the present book.
abbrev pub is_forth : Head → ℕ → Bool
is_forth head number = nat_lt head.position number && not (nat_lt (head.position + head.later) number)

-- Whether a head counts a step whose row has this key.
abbrev pub counts : Head → RowKey → Bool
counts head key = ((key.kind == 11) && is_back head key.id) || ((key.kind == 12) && is_forth head key.id)

-- Whether a key is that of a step.
abbrev pub is_step : RowKey → Bool
is_step key = (key.kind == 11) || (key.kind == 12)

-- A key is that of a step which is missing, or of one that the head doesn't count. Where the counts of the head don't
-- fit, no step is missing or one too many.
pub record IsOdd (rows : List Row) (key : RowKey) : Type 0 where
  pub head : Head
  pub has : SomeRow (λ row. StandsFor (rows_format rows) row.key row.body (kept.Head head)) rows
  pub fits : counts_fit head ≡ true
  pub step : is_step key ≡ true
  pub differs : stands_at key rows ≢ counts head key

-- Whether a state has the step of a key.
abbrev pub has_step : State → RowKey → Bool
has_step state key =
    ((key.kind == 11) && is_some (value_of key.id state.back))
    || ((key.kind == 12) && is_some (value_of key.id state.forth))

-- If a key is that of a step, a state has the step exactly where its head counts it.
abbrev pub IsEven : State → RowKey → Type 0
IsEven state key = is_step key ≡ true → has_step state key ≡ counts (head_of state) key

-- The steps of a state are those that its head counts, where its counts fit.
abbrev pub AreCounted : State → Type 0
AreCounted state = counts_fit (head_of state) ≡ true → (key : RowKey) → IsEven state key
