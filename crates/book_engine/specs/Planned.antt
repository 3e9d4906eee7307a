-- A plan: what finishing it makes of the state and of the rows, and the answer.
use Rattle.std.specs.Prelude.{◌≡◌, ◌≢◌, ◌↔◌, ℕ, ◌≤◌, ⊤, ◌||◌, Bool, true, IsTrue, List, []}
use Rattle.std.specs.Prelude.{Option, None, Some, is_some}
use Rattle.book_keeper.specs.Rows.{AreRising, after_changes}
use Rattle.book_keeper.specs.declared.row.Change.{Change}
use Rattle.book_keeper.specs.declared.row.Row.{Row}
use Rattle.book_free.specs.Kept.{HasRoomFor as HasFreeRoomFor}
use Rattle.book_free.specs.Moves.{AreMoves}
use Rattle.book_free.specs.declared.moves.Move.{Move}
use Rattle.book_ledger.specs.Change.{is_there}
use Rattle.book_ledger.specs.Room.{IsReady, room_of}
use Rattle.book_undo.specs.Edit.{depth, edited, leaves, outline}
use Rattle.book_undo.specs.EditRules.{IsAllowed}
use Rattle.book_undo.specs.Inverse.{LeadsBack}
use Rattle.book_undo.specs.Exact.{IsExact}
use Rattle.book_undo.specs.Room.{HasRoom, spare_of}
use Rattle.book_undo.specs.declared.edit.Edit.{Edit}
use Rattle.book_undo.specs.declared.thing.ThingKind.{ThingKind}
use Rattle.book_step.specs.Outcome.{numbers}
use Rattle.book_command.specs.declared.answer.Answer.{Answer}
use Rattle.book_command.specs.declared.command.Command.{Command}
use Rattle.book_command.specs.declared.refusal.Refusal.{Refusal}
use Rattle.book_command.specs.declared.refusal.Refusal.TheVariants as refusal
use Rattle.book_rows.specs.declared.format.RowFormat.TheVariants.{Two}
use Rattle.book_opening.specs.Opening.{OpenIn}
use Rattle.book_opening.specs.State.{State}
use Rattle.book_turns.specs.Standing.{StandFor}
use Rattle.book_turns.specs.Turned.{CanTurn, HasNextHead, HaveSpellings, changes_to, turn_of, turned}
use Rattle.book_turns.specs.Whole.{IsWhole, step_state}
use Rattle.book_turns.specs.declared.turn.Turn.{Turn}
use Rattle.book_turns.specs.declared.turn.Way.{Way}
use Rattle.book_turns.specs.declared.turn.Way.TheVariants.{Change as ToNew}
use Rattle.book_engine.specs.Kept.{Kept}
use Rattle.book_engine.specs.Books.{machine_of}
use Rattle.book_engine.specs.Machine.{Broken, Done, Reply, step}
use Rattle.book_engine.specs.declared.plan.Plan.TheInside.{Inside}

-- What becomes of the state, which a question leaves; the version after it; the answer; the changes of the rows; and
-- what becomes of the free splits.
pub record Planned : Type 0 where
  pub turn : Option Turn
  pub version : ℕ
  pub answer : Answer
  pub changes : List Change
  pub moves : List (ℕ × Move)

-- What a plan holds.
abbrev pub planned_by : Inside → Planned
planned_by plan = record {
  turn = plan.turn;
  version = plan.version;
  answer = plan.answer;
  changes = plan.changes;
  moves = plan.moves;
}

-- The state after a turn, if one is made.
abbrev pub after_turn : Option Turn → State → State
after_turn None state = state
after_turn (Some turn) state = turned turn state

-- The state after a plan.
abbrev pub after : State → Planned → State
after state plan = after_turn plan.turn state

-- Whether a plan commits: it moves from the state.
abbrev pub commits : Planned → Bool
commits plan = is_some plan.turn

-- The plan that leaves a state as it is.
abbrev pub stay_plan : State → Answer → Planned
stay_plan state answer =
    record { turn = None; version = state.version; answer = answer; changes = []; moves = [] }

-- The plan of a turn.
abbrev pub turn_plan : Bool → State → Turn → Answer → Planned
turn_plan saved state turn answer = record {
  turn = Some turn;
  version = (turned turn state).version;
  answer = answer;
  changes = changes_to saved state turn;
  moves = [];
}

-- A change of the book has a leaf for each key at which the books before and after it differ, and for no other; and so
-- has the edit that leads back.
abbrev pub IsExactTurn : State → Turn → Type 0
IsExactTurn state turn =
    turn.way ≡ ToNew → IsExact state.book turn.edit × IsExact (edited turn.edit state.book) turn.inverse

-- A turn of a state comes to these changes of rows. Its edit may be applied to the book, and leads to the book after
-- it; the edit that it keeps leads back to exactly the book before, and has its form; and it has the head of the state
-- after it. With the changes made the rows that stand for the state before stand for the state after.
pub record IsTurnWith (state : State) (saved : Bool) (changes : List Change) (turn : Turn) : Type 0 where
  pub allowed : IsAllowed state.book turn.edit
  pub book : (turned turn state).book ≡ edited turn.edit state.book
  pub shallow : depth turn.edit ≤ 8
  pub can : CanTurn turn.way state
  pub head : HasNextHead state turn
  pub exact : IsExactTurn state turn
  pub back : LeadsBack state.book turn.edit turn.inverse
  pub form : outline turn.inverse ≡ outline turn.edit
  pub changes_are : changes ≡ changes_to saved state turn
  pub stand : (rows : List Row) → StandFor saved state rows
      → OpenIn Two (after_changes changes rows) (turned turn state)

-- The turn of a plan, if there is one, comes to its changes of rows; a plan without a turn has none.
abbrev pub IsPlanTurn : State → Bool → List Change → Option Turn → Type 0
IsPlanTurn state saved changes None = changes ≡ []
IsPlanTurn state saved changes (Some turn) = IsTurnWith state saved changes turn

-- A plan for a state comes to this reply of the machine. It commits exactly where the machine becomes another.
pub record IsPlanTo (state : State) (saved : Bool) (reply : Reply) (plan : Planned) : Type 0 where
  pub made : reply ≡ Done (machine_of (after state plan)) plan.answer
  pub whole : IsWhole (after state plan) (saved || commits plan)
  pub turn_is : IsPlanTurn state saved plan.changes plan.turn
  pub version_is : plan.version ≡ (after state plan).version
  pub changes_where : IsTrue (commits plan) ↔ (machine_of (after state plan) ≢ machine_of state)
  pub rise : AreRising plan.changes

-- The plan is the machine's step of a command.
abbrev pub IsPlanOf : State → Bool → Command → Planned → Type 0
IsPlanOf state saved command plan = IsPlanTo state saved (step (machine_of state) command) plan

-- The plan is that of some command.
pub record IsPlanned (state : State) (saved : Bool) (plan : Planned) : Type 0 where
  pub command : Command
  pub plan_of : IsPlanOf state saved command plan

-- The plan with what becomes of the free splits.
abbrev pub with_moves : List (ℕ × Move) → Planned → Planned
with_moves moves plan = record plan { moves = moves }

-- What becomes of the free splits is what the edit of a turn makes of them; without a turn nothing does.
abbrev pub AreMovesOf : State → List (ℕ × Move) → Option Turn → Type 0
AreMovesOf state moves None = moves ≡ []
AreMovesOf state moves (Some turn) = AreMoves state.book (edited turn.edit state.book) moves

-- What becomes of the free splits is what the turn of a plan makes of them.
abbrev pub HasMoves : State → Planned → Type 0
HasMoves state plan = AreMovesOf state plan.moves plan.turn

-- The plan is that of some command, and has what becomes of the free splits.
pub record IsPlanFor (state : State) (saved : Bool) (plan : Planned) : Type 0 where
  pub command : Command
  pub plan_of : IsPlanOf state saved command plan
  pub moves_are : HasMoves state plan

-- A turn of a state, with what it makes of the free splits, can be made now: it leads to a state that an engine keeps,
-- by an edit that may be applied to the book, and has the head of that state.
pub record IsTurnNow (state : State) (turn : Turn) (moves : List (ℕ × Move)) : Type 0 where
  pub whole : IsWhole (turned turn state) true
  pub allowed : IsAllowed state.book turn.edit
  pub book : (turned turn state).book ≡ edited turn.edit state.book
  pub shallow : depth turn.edit ≤ 8
  pub head : HasNextHead state turn
  pub moves_are : AreMoves state.book (edited turn.edit state.book) moves

-- There is room for what a turn puts: in the tables of the book, in the registers and in what is kept of the free
-- splits, and for one more step back or forth.
pub record HasRoomForTurn (kept : Kept) (edit : Edit) (moves : List (ℕ × Move)) : Type 0 where
  pub things : HasRoom kept.plain edit
  pub rows : IsReady kept.registers (leaves edit)
  pub free : HasFreeRoomFor kept.free moves
  pub back : 1 ≤ kept.back_room
  pub forth : 1 ≤ kept.forth_room

-- There is room for what a plan puts; one without a turn puts nothing.
abbrev pub HasRoomIn : Kept → List (ℕ × Move) → Option Turn → Type 0
HasRoomIn kept moves None = ⊤
HasRoomIn kept moves (Some turn) = HasRoomForTurn kept turn.edit moves

abbrev pub HasRoomFor : Kept → Planned → Type 0
HasRoomFor kept plan = HasRoomIn kept plan.moves plan.turn

-- Each table of the book has room for as many more things as before, each register for as many more rows, the index and
-- the lines of the free splits for as many more splits, and the tables of steps for as many more steps; and each
-- register that was kept still is.
pub record HasNoLessRoom (before now : Kept) : Type 0 where
  pub things : (kind : ThingKind) → spare_of kind before.plain ≤ spare_of kind now.plain
  pub rows : (account : ℕ) → room_of account before.registers ≤ room_of account now.registers
  pub registers : (account : ℕ) → is_there account before.registers ≡ true → is_there account now.registers ≡ true
  pub index : before.free.index.spare ≤ now.free.index.spare
  pub matched : before.free.matched.spare ≤ now.free.matched.spare
  pub back : before.back_room ≤ now.back_room
  pub forth : before.forth_room ≤ now.forth_room

-- The plan of a turn on this way by an edit: the turn has the edit that leads back, and what the changes write has
-- spellings.
pub record IsTurnPlan (state : State) (saved : Bool) (way : Way) (edit : Edit) (next : ℕ) (answer : Answer)
    (plan : Planned) : Type 0 where
  pub inverse : Edit
  pub leads : LeadsBack state.book edit inverse
  pub form : outline inverse ≡ outline edit
  pub plan_is : plan ≡ turn_plan saved state (turn_of state way edit inverse next) answer
  pub fits : HaveSpellings saved state (turn_of state way edit inverse next)

-- A refusal of a turn comes where one more version goes past the limit, or out of memory.
abbrev pub IsLimitRefusal : State → Refusal → Type 0
IsLimitRefusal state (refusal.Broken rule) = numbers (step_state state) 0 ≡ Some rule
IsLimitRefusal state refusal.Keeper = ⊥
IsLimitRefusal state refusal.OutOfMemory = ⊤

-- A refusal comes where the machine's reply is that broken rule, or out of memory. No keeper is asked.
abbrev pub IsRefusal : Reply → Refusal → Type 0
IsRefusal reply (refusal.Broken rule) = reply ≡ Broken rule
IsRefusal reply refusal.Keeper = ⊥
IsRefusal reply refusal.OutOfMemory = ⊤
