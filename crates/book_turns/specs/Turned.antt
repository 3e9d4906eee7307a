-- What becomes of a state that is kept with its steps, and of its rows.
use Rattle.std.specs.Prelude.{ℕ, ◌≡◌, ◌+◌, ◌-◌, ◌<◌, ◌≤◌, ◌^◌, ◌==◌, if◌then◌else◌, ⊤, Bool, true, false, List, [], ◌∷◌}
use Rattle.std.specs.Prelude.{◌++◌, map, Some}
use Rattle.std.specs.List.{AllByRecursion}
use Rattle.book_keeper.specs.declared.row.Change.{Change}
use Rattle.book_commodity.specs.Table.{value_of}
use Rattle.book_undo.specs.Edit.{depth, edited, leaves}
use Rattle.book_undo.specs.EditRules.{IsAllowed}
use Rattle.book_undo.specs.declared.edit.Edit.{Edit}
use Rattle.book_rows.specs.Row.{IsRecord}
use Rattle.book_rows.specs.declared.format.RowFormat.TheVariants.{Two}
use Rattle.book_rows.specs.declared.head.Head.{Head}
use Rattle.book_rows.specs.declared.record.Record.TheVariants as kept
use Rattle.book_history.specs.Numbers.{numbers_from}
use Rattle.book_history.specs.Turns.{back_after_change, back_after_redo, back_after_undo, forth_after_redo}
use Rattle.book_history.specs.Turns.{forth_after_undo, past_after_change}
use Rattle.book_opening.specs.BookRows.{records_of}
use Rattle.book_opening.specs.Changes.{AreRecords, GoneBack, GoneForth, LeafFits, PutBack, PutForth, StepChange}
use Rattle.book_opening.specs.Changes.{StepFits, all_put, changes_of, step_change}
use Rattle.book_opening.specs.State.{State, head_of}
use Rattle.book_step.specs.Soundness.{IsSound}
use Rattle.book_turns.specs.declared.turn.Turn.{Turn}
use Rattle.book_turns.specs.declared.turn.Way.{Way}
use Rattle.book_turns.specs.declared.turn.Way.TheVariants.{Change as ToNew, Undo, Redo}

-- The state with the book after an edit.
abbrev pub with_edit : Edit → State → State
with_edit edit state = record state { book = edited edit state.book }

-- What a change of the book makes of the rest of the state, with the edit that leads back, and the next number.
abbrev pub with_change : Edit → ℕ → State → State
with_change inverse next state = record {
  book = state.book;
  next = next;
  version = state.version + 1;
  position = state.position + 1;
  past = past_after_change state.past;
  later = 0;
  back = back_after_change state.position state.past inverse state.back;
  forth = [];
}

-- What the last step back makes of the rest of the state, with the edit that leads forth again.
abbrev pub with_undo : Edit → State → State
with_undo inverse state = record {
  book = state.book;
  next = state.next;
  version = state.version + 1;
  position = state.position - 1;
  past = state.past - 1;
  later = state.later + 1;
  back = back_after_undo state.position state.back;
  forth = forth_after_undo state.position inverse state.forth;
}

-- What the next step forth makes of the rest of the state, with the edit that leads back again.
abbrev pub with_redo : Edit → State → State
with_redo inverse state = record {
  book = state.book;
  next = state.next;
  version = state.version + 1;
  position = state.position + 1;
  past = state.past + 1;
  later = state.later - 1;
  back = back_after_redo state.position inverse state.back;
  forth = forth_after_redo state.position state.forth;
}

-- The state to which a way leads by an edit of the book, with the edit that leads back from there, and the next number
-- after a change.
abbrev pub moved : Way → Edit → Edit → ℕ → State → State
moved ToNew edit inverse next state = with_change inverse next (with_edit edit state)
moved Undo edit inverse next state = with_undo inverse (with_edit edit state)
moved Redo edit inverse next state = with_redo inverse (with_edit edit state)

-- The state after a turn on this way.
abbrev pub turned_by : Way → Turn → State → State
turned_by way turn state = moved way turn.edit turn.inverse turn.head.next state

-- The state after a turn.
abbrev pub turned : Turn → State → State
turned turn state = turned_by turn.way turn state

-- A state with the steps that a way leaves of those before, and the edit that it keeps.
abbrev pub with_moved_steps : Way → Edit → State → State
with_moved_steps ToNew inverse state =
    record state { back = back_after_change state.position state.past inverse state.back; forth = [] }
with_moved_steps Undo inverse state = record state {
  back = back_after_undo state.position state.back;
  forth = forth_after_undo state.position inverse state.forth;
}
with_moved_steps Redo inverse state = record state {
  back = back_after_redo state.position inverse state.back;
  forth = forth_after_redo state.position state.forth;
}

-- A state with a head, whose currency the book has.
abbrev pub with_head : Head → State → State
with_head head state = record state {
  next = head.next;
  version = head.version;
  position = head.position;
  past = head.past;
  later = head.later;
}

-- The numbers of a head stay within these bounds.
pub record HasBounds (state : State) : Type 0 where
  pub reached : state.past ≤ state.position
  pub small : state.position < 2 ^ 62
  pub most : state.past + state.later ≤ 256
  pub version : state.version < 2 ^ 62

-- The turn on this way by an edit, with the edit that leads back, and the next number after a change. It has the head
-- of the state to which it leads.
abbrev pub turn_of : State → Way → Edit → Edit → ℕ → Turn
turn_of state way edit inverse next =
    record { way = way; edit = edit; inverse = inverse; head = head_of (moved way edit inverse next state) }

-- A turn has the head of the state to which it leads.
abbrev pub HasNextHead : State → Turn → Type 0
HasNextHead state turn = turn.head ≡ head_of (turned turn state)

-- There is a step to take back, or one to take again.
abbrev pub CanTurn : Way → State → Type 0
CanTurn ToNew state = ⊤
CanTurn Undo state = 1 ≤ state.past
CanTurn Redo state = 1 ≤ state.later

-- An edit is that of the step back from the present book, or of the step forth.
abbrev pub IsKeptStep : Way → State → Edit → Type 0
IsKeptStep ToNew state edit = ⊥
IsKeptStep Undo state edit = value_of state.position state.back ≡ Some edit
IsKeptStep Redo state edit = value_of (state.position + 1) state.forth ≡ Some edit

-- The changes of the kept steps: a change of the book adds a step back, for which the oldest of 256 is deleted first,
-- and deletes all steps forth; undo deletes the last step back and adds a step forth; redo goes the other way.
abbrev pub step_changes : Way → State → Edit → List StepChange
step_changes ToNew state inverse =
    (if state.past == 256 then GoneBack (state.position - 255) ∷ [] else [])
    ++ PutBack (state.position + 1) inverse
    ∷ map (λ number. GoneForth number) (numbers_from (state.position + 1) state.later)
step_changes Undo state inverse = GoneBack state.position ∷ PutForth state.position inverse ∷ []
step_changes Redo state inverse = PutBack (state.position + 1) inverse ∷ GoneForth (state.position + 1) ∷ []

-- The changes with which the rows of a state become those of the state after a turn. Where a keeper was given rows,
-- they are the head, what the edit changes and what becomes of the steps; else they are all rows.
abbrev pub changes_to : Bool → State → Turn → List Change
changes_to true state turn =
    changes_of (head_of (turned turn state)) turn.edit ++ map step_change (step_changes turn.way state turn.inverse)
changes_to false state turn = all_put (turned turn state)

-- What these changes write has spellings.
abbrev pub HaveSpellings : Bool → State → Turn → Type 0
HaveSpellings true state turn =
    IsRecord Two (kept.Head (head_of (turned turn state))) × AllByRecursion LeafFits (leaves turn.edit)
    × AllByRecursion StepFits (step_changes turn.way state turn.inverse)
HaveSpellings false state turn = AreRecords (records_of (turned turn state))

-- What a turn has to be for a state: there is the step that it takes, it has the head of the next state, and its edits
-- are not too deep; and until a keeper was given rows it is a change of the book.
pub record IsTurnFor (state : State) (saved : Bool) (turn : Turn) : Type 0 where
  pub can : CanTurn turn.way state
  pub head : HasNextHead state turn
  pub first : saved ≡ false → turn.way ≡ ToNew
  pub shallow : depth turn.edit ≤ 8
  pub back : depth turn.inverse ≤ 8

-- A change of the book by an edit, after which this is the next number, leads to a sound state.
pub record IsChangeTo (state : State) (edit : Edit) (next : ℕ) : Type 0 where
  pub allowed : IsAllowed state.book edit
  pub later : state.next ≤ next
  pub sound : IsSound (record { book = edited edit state.book; next = next; version = state.version + 1 })
