-- A turn of a state that an engine keeps leads to the machine's next state, and where there is none to take the
-- machine's reply is the broken rule.
use Rattle.std.proofs.Common.{◌≡◌, ℕ, ◌+◌, ◌-◌, ◌≤◌, Bool, List, [], ◌∷◌, length, Option, Some, None, sym, ap, ◌∙◌}
use Rattle.std.proofs.Common.{arith}
use Rattle.book_commodity.specs.Table.{value_of}
use Rattle.book_undo.specs.Book.{Book}
use Rattle.book_undo.specs.Edit.{edited}
use Rattle.book_undo.specs.Inverse.{LeadsBack}
use Rattle.book_undo.specs.declared.edit.Edit.{Edit}
use Rattle.book_command.specs.declared.answer.Answer.TheVariants as answer
use Rattle.book_command.specs.declared.refusal.Refusal.{Refusal}
use Rattle.book_command.specs.declared.refusal.Refusal.TheVariants as refusal
use Rattle.book_command.specs.declared.rule.Rule.{Rule}
use Rattle.book_command.specs.declared.rule.Rule.TheVariants.{NothingToRedo, NothingToUndo}
use Rattle.book_command.specs.declared.command.What.TheVariants.{Redo as AskRedo, Undo as AskUndo}
use Rattle.book_history.specs.History.{later_books, past_books}
use Rattle.book_history.specs.Turns.{back_after_undo, forth_after_redo}
use Rattle.book_history.proofs.TurnLaws.{changed_books, length_later, length_past, no_redo, no_undo, redo_none}
use Rattle.book_history.proofs.TurnLaws.{redone_books, undo_none, undone_books}
use Rattle.book_step.specs.Outcome.{numbers}
use Rattle.book_opening.specs.State.{State}
use Rattle.book_turns.specs.Whole.{IsWhole, step_state}
use Rattle.book_turns.specs.Turned.{IsKeptStep, turn_of, turned}
use Rattle.book_turns.specs.declared.turn.Way.TheVariants.{Change as ToNew, Undo, Redo}
use Rattle.book_turns.proofs.TurnLemmas.{kept_can}
use Rattle.book_engine.specs.Books.{machine_of}
use Rattle.book_engine.specs.Machine.{Broken, Done, Machine, Reply, changed, redone, reply, undone}
use Rattle.book_engine.specs.Machine.{unless_broken}
use Rattle.book_engine.specs.Planned.{IsLimitRefusal, IsRefusal}

pub changed_machine :
    (state : State) (saved : Bool) (edit inverse : Edit) (next : ℕ) → IsWhole state saved
    → LeadsBack state.book edit inverse
    → machine_of (turned (turn_of state ToNew edit inverse next) state)
    ≡ changed (machine_of state)
    (record { book = edited edit state.book; next = next; version = state.version + 1 })
changed_machine state saved edit inverse next whole leads =
    let Of : List Book → Machine = λ past. record {
      past = past;
      book = edited edit state.book;
      later = [];
      next = next;
      version = state.version + 1;
      position = state.position + 1;
    } in
    ap Of (changed_books state.next state.book state.position state.past state.later state.back state.forth
    whole.history edit inverse leads)

unbroken : (rule : Option Rule) (r : Reply) → rule ≡ None → unless_broken rule r ≡ r
unbroken rule r e = ap (λ (o : Option Rule). unless_broken o r) e

broken : (rule : Option Rule) (r : Reply) (which : Rule) → rule ≡ Some which → unless_broken rule r ≡ Broken which
broken rule r which e = ap (λ (o : Option Rule). unless_broken o r) e

-- Undo comes to the state after the step back.
pub undone_machine :
    (state : State) (saved : Bool) (edit inverse : Edit) → IsWhole state saved → IsKeptStep Undo state edit
    → LeadsBack state.book edit inverse → numbers (step_state state) 0 ≡ None
    → reply (machine_of state) AskUndo
    ≡ Done (machine_of (turned (turn_of state Undo edit inverse state.next) state)) answer.Undo
undone_machine state saved edit inverse whole kept leads none =
    let machine = machine_of state in
    let books = undone_books state.next state.book state.position state.past state.later state.back state.forth
    whole.history edit inverse kept leads in
    let Of : List Book → Machine = λ later. record {
      past = past_books (back_after_undo state.position state.back) (edited edit state.book);
      book = edited edit state.book;
      later = later;
      next = state.next;
      version = state.version + 1;
      position = state.position - 1;
    } in
    ap (λ (past : List Book). undone past machine) books.0
    ∙ unbroken (numbers (step_state state) 0) _ none
    ∙ ap (λ (later : List Book). Done (Of later) answer.Undo) (sym books.1)

-- Redo comes to the state after the step forth.
pub redone_machine :
    (state : State) (saved : Bool) (edit inverse : Edit) → IsWhole state saved → IsKeptStep Redo state edit
    → LeadsBack state.book edit inverse → numbers (step_state state) 0 ≡ None
    → reply (machine_of state) AskRedo
    ≡ Done (machine_of (turned (turn_of state Redo edit inverse state.next) state)) answer.Redo
redone_machine state saved edit inverse whole kept leads none =
    let machine = machine_of state in
    let books = redone_books state.next state.book state.position state.past state.later state.back state.forth
    whole.history edit inverse kept leads in
    let Of : List Book → Machine = λ past. record {
      past = past;
      book = edited edit state.book;
      later = later_books (forth_after_redo state.position state.forth) (edited edit state.book);
      next = state.next;
      version = state.version + 1;
      position = state.position + 1;
    } in
    ap (λ (later : List Book). redone later machine) books.0
    ∙ unbroken (numbers (step_state state) 0) _ none
    ∙ ap (λ (past : List Book). Done (Of past) answer.Redo) (sym books.1)

-- Where a step is kept, the limit of numbers is the rule that undo and redo can break.
undone_limit :
    (past : List Book) (state : State) (rule : Rule) → 1 ≤ length past → numbers (step_state state) 0 ≡ Some rule
    → undone past (machine_of state) ≡ Broken rule
undone_limit [] state rule some is = absurd (omega (arith, some))
undone_limit (book ∷ past) state rule some is = broken (numbers (step_state state) 0) _ rule is

redone_limit :
    (later : List Book) (state : State) (rule : Rule) → 1 ≤ length later → numbers (step_state state) 0 ≡ Some rule
    → redone later (machine_of state) ≡ Broken rule
redone_limit [] state rule some is = absurd (omega (arith, some))
redone_limit (book ∷ later) state rule some is = broken (numbers (step_state state) 0) _ rule is

pub undo_refused :
    (state : State) (saved : Bool) (edit : Edit) (why : Refusal) → IsWhole state saved → IsKeptStep Undo state edit
    → IsLimitRefusal state why → IsRefusal (reply (machine_of state) AskUndo) why
undo_refused state saved edit (refusal.Broken rule) whole kept is =
    let some = (kept_can state saved Undo edit whole kept).0 in
    let count = length_past state.next state.book state.position state.past state.later state.back state.forth
    whole.history in
    undone_limit (past_books state.back state.book) state rule (omega (arith, some, count)) is
undo_refused state saved edit refusal.Keeper whole kept is = absurd is
undo_refused state saved edit refusal.OutOfMemory whole kept is = tt

pub redo_refused :
    (state : State) (saved : Bool) (edit : Edit) (why : Refusal) → IsWhole state saved → IsKeptStep Redo state edit
    → IsLimitRefusal state why → IsRefusal (reply (machine_of state) AskRedo) why
redo_refused state saved edit (refusal.Broken rule) whole kept is =
    let some = (kept_can state saved Redo edit whole kept).0 in
    let count = length_later state.next state.book state.position state.past state.later state.back state.forth
    whole.history in
    redone_limit (later_books state.forth state.book) state rule (omega (arith, some, count)) is
redo_refused state saved edit refusal.Keeper whole kept is = absurd is
redo_refused state saved edit refusal.OutOfMemory whole kept is = tt

-- Where none is kept, there is nothing to undo or redo.
pub undo_nothing :
    (state : State) (saved : Bool) → IsWhole state saved → value_of state.position state.back ≡ None
    → reply (machine_of state) AskUndo ≡ Broken NothingToUndo
undo_nothing state saved whole none =
    ap (λ (past : List Book). undone past (machine_of state))
    (no_undo state.next state.book state.position state.past state.later state.back state.forth whole.history
    (undo_none state.next state.book state.position state.past state.later state.back state.forth whole.history none))

pub redo_nothing :
    (state : State) (saved : Bool) → IsWhole state saved → value_of (state.position + 1) state.forth ≡ None
    → reply (machine_of state) AskRedo ≡ Broken NothingToRedo
redo_nothing state saved whole none =
    ap (λ (later : List Book). redone later (machine_of state))
    (no_redo state.next state.book state.position state.past state.later state.back state.forth whole.history
    (redo_none state.next state.book state.position state.past state.later state.back state.forth whole.history none))
