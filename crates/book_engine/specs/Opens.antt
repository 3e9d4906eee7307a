-- What rows open as.
use Rattle.std.specs.Prelude.{◌≡◌, ◌⊎◌, List, [], Some, None}
use Rattle.book_keeper.specs.declared.row.Row.{Row}
use Rattle.book_keeper.specs.declared.row.RowKey.{RowKey}
use Rattle.book_opening.specs.Opening.{IsLeastBad, OpenAs}
use Rattle.book_opening.specs.State.{State}
use Rattle.book_state_check.specs.SoundState.{unsound_at}
use Rattle.book_engine.specs.Books.{machine_of}
use Rattle.book_engine.specs.Machine.{Machine, fresh}

-- Rows are bad at a key, or unsound at a key, or those of a machine.
pub data Opening : Type 0 where
  Bad : RowKey → Opening
  Unsound : RowKey → Opening
  Opens : Machine → Opening

-- What rows open as. Without rows it is the fresh machine. They are bad at the least key whose body is no spelling,
-- that is needed and missing, or that is of a step which the head doesn't count; else they are unsound at the first key
-- that breaks its rule; else they are those of a state, and open as the machine whose books its steps lead to.
abbrev pub OpensTo : List Row → Opening → Type 0
OpensTo rows (Bad key) = IsLeastBad rows key
OpensTo rows (Unsound key) = (state : State) × OpenAs rows state × (unsound_at state ≡ Some key)
OpensTo rows (Opens machine) =
    ((rows ≡ []) × (machine ≡ fresh))
    ⊎ ((state : State) × OpenAs rows state × (unsound_at state ≡ None) × (machine ≡ machine_of state))
