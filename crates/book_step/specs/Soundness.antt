-- What holds in every state that the machine reaches.
use Rattle.std.specs.Prelude.{◌<◌, ◌^◌}
pub use Rattle.book_sound.specs.Soundness.{IsSoundBook, AreDrawn}
use Rattle.book_step.specs.State.{State}

-- A state is sound: so is its book, the numbers are drawn below the next, and neither that nor the version reaches
-- 2^62 (a limit of this project).
pub record IsSound (state : State) : Type 0 where
  pub book : IsSoundBook state.book
  pub drawn : AreDrawn state.book state.next
  pub next : state.next < 2 ^ 62
  pub version : state.version < 2 ^ 62
