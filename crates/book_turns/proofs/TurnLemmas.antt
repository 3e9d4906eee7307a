-- What a turn makes of a state that an engine keeps: a state of which all that holds of such states holds again.
use Rattle.std.proofs.Common.{◌≡◌, ℕ, ◌+◌, ◌<◌, ◌^◌, nat_lt, not, Bool, true, false, ◌||◌, None, refl, ap}
use Rattle.std.proofs.Common.{arith}
use Rattle.std.proofs.lemmas.Bool.Decides.{nat_tests}
use Rattle.book_commodity.specs.Rules.{broken_where}
use Rattle.book_commodity.specs.declared.counted.Counted.TheVariants.{Numbers}
use Rattle.book_undo.specs.Inverse.{LeadsBack}
use Rattle.book_undo.specs.declared.edit.Edit.{Edit}
use Rattle.book_command.specs.declared.rule.Rule.TheVariants.{Limit}
use Rattle.book_history.specs.Steps.{IsSoundStep}
use Rattle.book_history.proofs.TurnLaws.{changed_history, redone_history, redo_later, redo_sound, undo_past}
use Rattle.book_history.proofs.TurnLaws.{undo_sound, undone_history}
use Rattle.book_step.specs.Outcome.{numbers}
use Rattle.book_opening.specs.State.{State}
use Rattle.book_rows.specs.declared.head.Head.{Head}
use Rattle.book_turns.specs.Whole.{IsWhole, step_state}
use Rattle.book_turns.specs.Turned.{CanTurn, HasBounds, HasNextHead, IsChangeTo, IsKeptStep, turn_of, turned}
use Rattle.book_turns.specs.declared.turn.Turn.{Turn}
use Rattle.book_turns.specs.declared.turn.Way.{Way}
use Rattle.book_turns.specs.declared.turn.Way.TheVariants.{Change as ToNew, Undo, Redo}

-- ---- a change of the book
pub changed_whole :
    (state : State) (saved : Bool) (edit inverse : Edit) (next : ℕ) → IsWhole state saved
    → IsChangeTo state edit next → LeadsBack state.book edit inverse
    → IsWhole (turned (turn_of state ToNew edit inverse next) state) true
changed_whole state saved edit inverse next whole change leads =
    let reached = whole.reached in
    let version = change.sound.version in
    record {
      sound = change.sound;
      reached = omega (arith, reached);
      few = omega (arith, reached, version);
      history = changed_history state.next state.book state.position state.past state.later state.back state.forth
          whole.history whole.sound.book whole.sound.drawn edit inverse next leads change.later;
      fresh = λ none. absurd cc;
    }

-- ---- a step back or forth
-- A kept step is sound, and can be taken.
pub kept_can :
    (state : State) (saved : Bool) (way : Way) (edit : Edit) → IsWhole state saved → IsKeptStep way state edit
    → CanTurn way state × IsSoundStep state.next state.book edit
kept_can state saved ToNew edit whole kept = absurd kept
kept_can state saved Undo edit whole kept = (
  undo_past state.next state.book state.position state.past state.later state.back state.forth whole.history edit kept,
  undo_sound state.next state.book state.position state.past state.later state.back state.forth whole.history edit kept,
)
kept_can state saved Redo edit whole kept = (
  redo_later state.next state.book state.position state.past state.later state.back state.forth whole.history edit kept,
  redo_sound state.next state.book state.position state.past state.later state.back state.forth whole.history edit kept,
)

-- Until a keeper was given rows no step is kept.
pub kept_saved :
    (state : State) (saved : Bool) (way : Way) (edit : Edit) → IsWhole state saved → IsKeptStep way state edit
    → saved ≡ true
kept_saved state true way edit whole kept = refl
kept_saved state false ToNew edit whole kept = absurd kept
kept_saved state false Undo edit whole kept =
    let some = (kept_can state false Undo edit whole kept).0 in
    let none = ap (λ (s : State). s.past) (whole.fresh refl) in absurd (omega (arith, some, none))
kept_saved state false Redo edit whole kept =
    let some = (kept_can state false Redo edit whole kept).0 in
    let none = ap (λ (s : State). s.later) (whole.fresh refl) in absurd (omega (arith, some, none))

-- One more version stays below the limit, and so does the next number.
numbers_none : (state : State) → numbers (step_state state) 0 ≡ None → state.version + 1 < 2 ^ 62
numbers_none state none =
    elim (nat_lt (state.version + 1) (2 ^ 62)) as
    (λ (t : Bool). nat_lt (state.version + 1) (2 ^ 62) ≡ t
    → broken_where (not (nat_lt (state.next + 0) (2 ^ 62)) || not t) (Limit Numbers (2 ^ 62)) ≡ None
    → state.version + 1 < 2 ^ 62) [
      | true ↦ λ less e. grind (arith, nat_tests, less)
      | false ↦ λ past e. absurd (either (nat_lt (state.next + 0) (2 ^ 62)) e)
    ]
    refl none
  where
    either : (t : Bool) → broken_where (not t || true) (Limit Numbers (2 ^ 62)) ≡ None → ⊥
    either true e = cc
    either false e = cc

pub numbers_within :
    (state : State) → state.next < 2 ^ 62 → state.version + 1 < 2 ^ 62 → numbers (step_state state) 0 ≡ None
numbers_within state next version =
    let both : (not (nat_lt (state.next + 0) (2 ^ 62)) || not (nat_lt (state.version + 1) (2 ^ 62))) ≡ false =
    grind (arith, nat_tests, next, version) in
    ap (λ (b : Bool). broken_where b (Limit Numbers (2 ^ 62))) both

-- After a kept step is taken, all holds of an engine again.
pub kept_whole :
    (state : State) (saved : Bool) (way : Way) (edit inverse : Edit) → IsWhole state saved
    → IsKeptStep way state edit → LeadsBack state.book edit inverse → numbers (step_state state) 0 ≡ None
    → IsWhole (turned (turn_of state way edit inverse state.next) state) true
kept_whole state saved ToNew edit inverse whole kept leads none = absurd kept
kept_whole state saved Undo edit inverse whole kept leads none =
    let some = (kept_can state saved Undo edit whole kept).0 in
    let step = (kept_can state saved Undo edit whole kept).1 in
    let reached = whole.reached in
    let back = whole.history.reached in
    let few = whole.few in
    let version = numbers_none state none in
    record {
      sound = record { book = step.sound; drawn = step.drawn; next = whole.sound.next; version = version };
      reached = omega (arith, reached);
      few = omega (arith, few, back, some);
      history = undone_history state.next state.book state.position state.past state.later state.back state.forth
          whole.history whole.sound.book whole.sound.drawn edit inverse kept leads;
      fresh = λ e. absurd cc;
    }
kept_whole state saved Redo edit inverse whole kept leads none =
    let some = (kept_can state saved Redo edit whole kept).0 in
    let step = (kept_can state saved Redo edit whole kept).1 in
    let reached = whole.reached in
    let few = whole.few in
    let version = numbers_none state none in
    record {
      sound = record { book = step.sound; drawn = step.drawn; next = whole.sound.next; version = version };
      reached = omega (arith, reached);
      few = omega (arith, few, some);
      history = redone_history state.next state.book state.position state.past state.later state.back state.forth
          whole.history whole.sound.book whole.sound.drawn edit inverse kept leads;
      fresh = λ e. absurd cc;
    }

-- ---- how a turn is made
-- The numbers of a state that an engine keeps stay within the bounds.
pub whole_bounds : (state : State) (saved : Bool) → IsWhole state saved → HasBounds state
whole_bounds state saved whole =
    let few = whole.few in
    record {
      reached = whole.history.reached;
      small = omega (arith, few);
      most = whole.history.most;
      version = whole.sound.version;
    }

-- The version of its head is that of the state after it.
pub head_version :
    (state : State) (turn : Turn) → HasNextHead state turn → turn.head.version ≡ (turned turn state).version
head_version state turn head = ap (λ (h : Head). h.version) head
