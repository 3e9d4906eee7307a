-- What holds of every state that is kept with its steps.
use Rattle.std.specs.Prelude.{◌≡◌, ◌+◌, ◌^◌, ◌<◌, ◌≤◌, Bool, false, []}
use Rattle.book_history.specs.History.{IsHistory}
use Rattle.book_opening.specs.State.{State}
use Rattle.book_step.specs.Soundness.{IsSound}
use Rattle.book_step.specs.State.{State as StepState, fresh_book}

-- The state in which each book begins: it has no steps.
abbrev pub fresh_state : State
fresh_state = record {
  book = fresh_book;
  next = 3;
  version = 0;
  position = 0;
  past = 0;
  later = 0;
  back = [];
  forth = [];
}

-- The state from which a change of the book steps.
abbrev pub step_state : State → StepState
step_state state = record { book = state.book; next = state.next; version = state.version }

-- The state is sound; no more steps lead to it than changes were made; the numbers of its steps can be those of rows;
-- its steps are those that its head counts, and each leads to a sound book; and until rows were given to a keeper it is
-- the fresh one.
pub record IsWhole (state : State) (saved : Bool) : Type 0 where
  pub sound : IsSound (step_state state)
  pub reached : state.position ≤ state.version
  pub few : state.position + state.later < 2 ^ 62
  pub history : IsHistory state.next state.book state.position state.past state.later state.back state.forth
  pub fresh : saved ≡ false → state ≡ fresh_state
