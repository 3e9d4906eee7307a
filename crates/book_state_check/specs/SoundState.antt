-- When a state is sound with all its steps, and the first key at which one is not.
use Rattle.std.specs.Prelude.{◌+◌, ◌^◌, ◌<◌, ◌≤◌, nat_lt, not, ◌||◌, [], ◌∷◌, Option, reverse}
use Rattle.book_commodity.specs.Rules.{broken_where, first_broken}
use Rattle.book_keeper.specs.declared.row.RowKey.{RowKey}
use Rattle.book_sound.specs.Soundness.{AreDrawn, IsSoundBook}
use Rattle.book_history.specs.History.{IsHistory}
use Rattle.book_history.specs.Steps.{AreSound, first_fault}
use Rattle.book_opening.specs.Opening.{head_key}
use Rattle.book_opening.specs.State.{State, head_of}
use Rattle.book_opening.specs.Steps.{counts_fit}
use Rattle.book_check.specs.FirstUnsound.{first_unsound, key_in}

-- The first step that is broken. A step is where it can't be taken or leads to an unsound book: they are asked from
-- the present book outward, first those back and then those forth, and beyond the first one that is broken no more is
-- asked.
abbrev pub unsound_step : State → Option RowKey
unsound_step state =
    first_broken
    (key_in 11 (first_fault state.next (reverse state.back) state.book)
    ∷ key_in 12 (first_fault state.next state.forth state.book)
    ∷ [])

-- Each of the steps is sound from the book to which those before it lead.
pub record AreStepsSound (state : State) : Type 0 where
  pub back : AreSound state.next (reverse state.back) state.book
  pub forth : AreSound state.next state.forth state.book

-- The first key at which a state breaks the rule of its kind. The head has a position of at most the version, no more
-- steps back than lead to the present book, and at most 256 steps in all.
abbrev pub unsound_at : State → Option RowKey
unsound_at state =
    first_broken
    (broken_where (nat_lt state.version state.position || not (counts_fit (head_of state))) head_key
    ∷ first_unsound state.book state.next
    ∷ unsound_step state
    ∷ [])

-- A state is sound with all its steps: its book is, and its numbers are drawn; the numbers of its steps can be those of
-- rows; and its steps are those that its head counts, and each leads to a sound book.
pub record IsSoundState (state : State) : Type 0 where
  pub book : IsSoundBook state.book
  pub drawn : AreDrawn state.book state.next
  pub next : state.next < 2 ^ 62
  pub version : state.version < 2 ^ 62
  pub reached : state.position ≤ state.version
  pub few : state.position + state.later < 2 ^ 62
  pub history : IsHistory state.next state.book state.position state.past state.later state.back state.forth
