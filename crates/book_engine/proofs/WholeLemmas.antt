-- A state that an engine keeps is sound with all its steps; a sound one that was read and the fresh one are such states.
use Rattle.std.proofs.Common.{◌≡◌, Bool, true, false, None, refl, arith}
use Rattle.book_history.proofs.TurnLaws.{fresh_history}
use Rattle.book_opening.specs.State.{State}
use Rattle.book_state_check.specs.SoundState.{IsSoundState, unsound_at}
use Rattle.book_state_check.proofs.StateLemmas.{none_unsound}
use Rattle.book_step.specs.State.{fresh_book}
use Rattle.book_step.proofs.SoundStep.{fresh-sound}
use Rattle.book_turns.specs.Whole.{IsWhole, fresh_state}

-- A sound state whose rows a keeper holds is one that an engine keeps.
pub sound_whole : (state : State) → IsSoundState state → IsWhole state true
sound_whole state is = record {
  sound = record { book = is.book; drawn = is.drawn; next = is.next; version = is.version };
  reached = is.reached;
  few = is.few;
  history = is.history;
  fresh = λ none. absurd cc;
}

-- No key of a state that an engine keeps breaks its rule.
pub whole_sound : (state : State) (saved : Bool) → IsWhole state saved → unsound_at state ≡ None
whole_sound state saved whole = none_unsound state (record {
  book = whole.sound.book;
  drawn = whole.sound.drawn;
  next = whole.sound.next;
  version = whole.sound.version;
  reached = whole.reached;
  few = whole.few;
  history = whole.history;
})

-- The fresh state is one that an engine keeps before rows were given.
pub fresh_whole : IsWhole fresh_state false
fresh_whole = record {
  sound = fresh-sound;
  reached = omega arith;
  few = omega arith;
  history = fresh_history 3 fresh_book 0;
  fresh = λ none. refl;
}
