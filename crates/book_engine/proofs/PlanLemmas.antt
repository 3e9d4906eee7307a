-- A turn with its changes of rows is a plan: it commits exactly where it changes the machine, and with its changes
-- made the rows that stand for the state before stand for the state after.
use Rattle.std.proofs.Common.{◌≡◌, ◌≢◌, ℕ, ◌+◌, ◌==◌, Bool, true, false, if◌then◌else◌}
use Rattle.std.proofs.Common.{List, [], None, Some, Option, Result, Ok, Err, IfOk, inl, inr, refl, sym, ap, ◌∙◌}
use Rattle.std.proofs.Common.{subst, arith}
use Rattle.std.proofs.lemmas.Bool.Decides.{nat_tests}
use Rattle.book_free.specs.declared.moves.Move.{Move}
use Rattle.book_keeper.specs.declared.row.Change.{Change}
use Rattle.book_undo.specs.Edit.{edited, is_nothing, outline}
use Rattle.book_undo.specs.EditRules.{IsAllowed}
use Rattle.book_undo.specs.Inverse.{LeadsBack}
use Rattle.book_undo.specs.declared.edit.Edit.{Edit}
use Rattle.book_undo.proofs.InverseLaws.{allowed_depth}
use Rattle.book_command.specs.declared.answer.Answer.{Answer}
use Rattle.book_command.specs.declared.answer.Answer.TheVariants as answer
use Rattle.book_command.specs.declared.command.Update.{Update}
use Rattle.book_command.specs.declared.refusal.Refusal.{Refusal}
use Rattle.book_command.specs.declared.refusal.Refusal.TheVariants as refusal
use Rattle.book_command.specs.declared.rule.Rule.{Rule}
use Rattle.book_command.specs.declared.command.What.TheVariants.{Redo as AskRedo, Undo as AskUndo}
use Rattle.book_history.proofs.ExactBack.{exact_back}
use Rattle.book_step.specs.Outcome.{after as after_step, numbers, version_after}
use Rattle.book_step.specs.Soundness.{IsSound}
use Rattle.book_step.specs.State.{State as StepState}
use Rattle.book_step.specs.Step.{outcome}
use Rattle.book_step.specs.declared.step.Step.{Step}
use Rattle.book_step.proofs.SoundStep.{outcome-sound}
use Rattle.book_opening.specs.State.{State}
use Rattle.book_balances.specs.Answered.{IsWholeStep}
use Rattle.book_balances.proofs.StepLemmas.{outcome_moves}
use Rattle.book_report_answers.specs.Reports.{IsAskRefusal}
use Rattle.book_turns.specs.Turned.{HasNextHead, HaveSpellings, IsChangeTo, IsKeptStep, IsTurnFor, changes_to}
use Rattle.book_turns.specs.Turned.{turn_of, turned, turned_by}
use Rattle.book_turns.specs.Whole.{IsWhole, step_state}
use Rattle.book_turns.specs.declared.turn.Turn.{Turn}
use Rattle.book_turns.specs.declared.turn.Way.{Way}
use Rattle.book_turns.specs.declared.turn.Way.TheVariants.{Change as ToNew, Undo, Redo}
use Rattle.book_turns.proofs.RowTurns.{turn_rises, turn_stands}
use Rattle.book_turns.proofs.TurnLemmas.{changed_whole, head_version, kept_can, kept_saved, kept_whole}
use Rattle.book_engine.specs.Books.{machine_of}
use Rattle.book_engine.specs.Machine.{Done, Machine, Reply, asked, changed, reply, unless_broken, updated}
use Rattle.book_engine.specs.Planned.{IsExactTurn, IsPlanTo, IsRefusal, IsTurnPlan, Planned, stay_plan, turn_plan}
use Rattle.book_engine.proofs.MachineLemmas.{changed_machine, redone_machine, undone_machine}
use Rattle.book_engine.proofs.TurnNow.{either_same, either_true}

-- Each turn raises the version by one.
pub version_turned : (state : State) (turn : Turn) → (turned turn state).version ≡ state.version + 1
version_turned state turn = by_way turn.way
  where
    by_way : (way : Way) → (turned_by way turn state).version ≡ state.version + 1
    by_way ToNew = refl
    by_way Undo = refl
    by_way Redo = refl

-- It leads to the book after its edit.
turned_book : (state : State) (turn : Turn) → (turned turn state).book ≡ edited turn.edit state.book
turned_book state turn = by_way turn.way
  where
    by_way : (way : Way) → (turned_by way turn state).book ≡ edited turn.edit state.book
    by_way ToNew = refl
    by_way Undo = refl
    by_way Redo = refl

other_machine : (state : State) (turn : Turn) → machine_of (turned turn state) ≢ machine_of state
other_machine state turn = λ same.
    let versions = sym (version_turned state turn) ∙ ap (λ (m : Machine). m.version) same in
    omega (arith, versions)

-- A turn that comes to a reply is a plan for it.
pub is_turn_plan :
    (state : State) (saved : Bool) (turn : Turn) (answer : Answer) (reply : Reply) → IsWhole state saved
    → IsWhole (turned turn state) true → IsTurnFor state saved turn → IsAllowed state.book turn.edit
    → HaveSpellings saved state turn → IsExactTurn state turn → LeadsBack state.book turn.edit turn.inverse
    → outline turn.inverse ≡ outline turn.edit
    → reply ≡ Done (machine_of (turned turn state)) answer
    → IsPlanTo state saved reply (turn_plan saved state turn answer)
is_turn_plan state saved turn answer reply whole after is allowed fit exact leads form made = record {
  made = made;
  whole = subst (IsWhole (turned turn state)) (sym (either_true saved)) after;
  turn_is = record {
    allowed = allowed;
    book = turned_book state turn;
    shallow = is.shallow;
    can = is.can;
    head = is.head;
    exact = exact;
    back = leads;
    form = form;
    changes_are = refl;
    stand = λ rows stand. turn_stands state saved turn rows whole after is allowed fit stand;
  };
  version_is = refl;
  changes_where = ((λ commits. other_machine state turn), (λ differ. refl));
  rise = turn_rises state saved turn whole after is allowed fit;
}

-- A refusal of a question is one of the machine's reply.
pub ask_refused :
    (machine : Machine) (rules : List (Option Rule)) (given : Answer) (refused : Refusal) → IsAskRefusal rules refused
    → IsRefusal (asked machine rules given) refused
ask_refused machine rules given (refusal.Broken rule) e =
    ap (λ (found : Option Rule). unless_broken found (Done machine given)) e
ask_refused machine rules given refusal.Keeper e = e
ask_refused machine rules given refusal.OutOfMemory e = tt

-- A reply that leaves the machine has the plan that stays.
pub is_stay_plan :
    (state : State) (saved : Bool) (answer : Answer) (reply : Reply) → IsWhole state saved
    → reply ≡ Done (machine_of state) answer → IsPlanTo state saved reply (stay_plan state answer)
is_stay_plan state saved answer reply whole made = record {
  made = made;
  whole = subst (IsWhole state) (sym (either_same saved)) whole;
  turn_is = refl;
  version_is = refl;
  changes_where = ((λ commits. absurd cc), (λ differ. absurd (differ refl)));
  rise = tt;
}

-- ---- a change of the book
still : {A : Type 0} (b : Bool) (x y : A) → b ≡ true → (if b then x else y) ≡ x
still true x y e = refl
still false x y e = absurd cc

other : {A : Type 0} (b : Bool) (x y : A) → b ≡ false → (if b then x else y) ≡ y
other true x y e = absurd cc
other false x y e = refl

version_by : (nothing : Bool) (version : ℕ) → nothing ≡ true → version_after nothing version ≡ version
version_by true version e = refl
version_by false version e = absurd cc

version_up : (nothing : Bool) (version : ℕ) → nothing ≡ false → version_after nothing version ≡ version + 1
version_up true version e = absurd cc
version_up false version e = refl

-- A step that changes nothing leaves the machine.
pub updated_stay :
    (state : State) (update : Update) (taken : Step) → IsWholeStep (step_state state) update taken
    → is_nothing taken.edit ≡ true
    → updated (machine_of state) (outcome (step_state state) update) ≡ Done (machine_of state) taken.answer
updated_stay state update taken is nothing =
    let after = after_step (step_state state) taken in
    let same : (after.version == state.version) ≡ true =
    (let version = version_by (is_nothing taken.edit) state.version nothing in grind (arith, nat_tests, version)) in
    ap (updated (machine_of state)) is.done
    ∙ ap (λ (m : Machine). Done m taken.answer)
    (still (after.version == state.version) (machine_of state) (changed (machine_of state) after) same)

-- One that changes something leads to a sound state.
pub change_to :
    (state : State) (saved : Bool) (update : Update) (taken : Step) → IsWhole state saved
    → IsWholeStep (step_state state) update taken → is_nothing taken.edit ≡ false
    → IsChangeTo state taken.edit taken.next
change_to state saved update taken whole is some =
    let after = after_step (step_state state) taken in
    let version = version_up (is_nothing taken.edit) state.version some in
    let sound = outcome-sound (step_state state) update after taken.answer whole.sound is.done in
    let Of : ℕ → StepState = λ n. record { book = edited taken.edit state.book; next = taken.next; version = n } in
    record {
      allowed = is.exact.allowed;
      later = elim (outcome_moves (step_state state) update after taken.answer is.done) [
        | inl same ↦ absurd (let versions = ap (λ (s : StepState). s.version) same in omega (arith, versions, version))
        | inr moved ↦ moved.1
      ];
      sound = subst (λ (n : ℕ). IsSound (Of n)) version sound;
    }

-- It leads to the machine after the change.
pub updated_change :
    (state : State) (saved : Bool) (update : Update) (taken : Step) (inverse : Edit) → IsWhole state saved
    → IsWholeStep (step_state state) update taken → is_nothing taken.edit ≡ false
    → LeadsBack state.book taken.edit inverse
    → updated (machine_of state) (outcome (step_state state) update)
    ≡ Done (machine_of (turned (turn_of state ToNew taken.edit inverse taken.next) state)) taken.answer
updated_change state saved update taken inverse whole is some leads =
    let after = after_step (step_state state) taken in
    let version = version_up (is_nothing taken.edit) state.version some in
    let Of : ℕ → StepState = λ n. record { book = edited taken.edit state.book; next = taken.next; version = n } in
    let differs : (after.version == state.version) ≡ false = grind (arith, nat_tests, version) in
    ap (updated (machine_of state)) is.done
    ∙ ap (λ (m : Machine). Done m taken.answer)
    (other (after.version == state.version) (machine_of state) (changed (machine_of state) after) differs
    ∙ ap (λ (n : ℕ). changed (machine_of state) (Of n)) version
    ∙ sym (changed_machine state saved taken.edit inverse taken.next whole leads))

-- The turn of a change can be made.
pub turn_for :
    (state : State) (saved : Bool) (edit inverse : Edit) (next : ℕ) → IsAllowed state.book edit
    → LeadsBack state.book edit inverse → IsTurnFor state saved (turn_of state ToNew edit inverse next)
turn_for state saved edit inverse next allowed leads = record {
  can = tt;
  head = refl;
  first = λ none. refl;
  shallow = allowed_depth state.book edit allowed;
  back = allowed_depth (edited edit state.book) inverse leads.allowed;
}

-- The plan of a change is the machine's.
pub planned_change :
    (state : State) (saved : Bool) (update : Update) (taken : Step) (plan : Planned) → IsWhole state saved
    → IsWholeStep (step_state state) update taken → is_nothing taken.edit ≡ false
    → IsTurnPlan state saved ToNew taken.edit taken.next taken.answer plan
    → IsPlanTo state saved (updated (machine_of state) (outcome (step_state state) update)) plan
planned_change state saved update taken plan whole is some made =
    let change = change_to state saved update taken whole is some in
    let turn = turn_of state ToNew taken.edit made.inverse taken.next in
    let comes = updated (machine_of state) (outcome (step_state state) update) in
    subst (λ (p : Planned). IsPlanTo state saved comes p) (sym made.plan_is)
    (is_turn_plan state saved turn taken.answer comes whole
    (changed_whole state saved taken.edit made.inverse taken.next whole change made.leads)
    (turn_for state saved taken.edit made.inverse taken.next change.allowed made.leads) change.allowed made.fits
    (λ new. (is.exact, exact_back state.book taken.edit made.inverse is.exact made.leads made.form)) made.leads
    made.form
    (updated_change state saved update taken made.inverse whole is some made.leads))

-- ---- a kept step
-- It has the head of the state to which it leads.
next_head :
    (state : State) (way : Way) (edit inverse : Edit) → HasNextHead state (turn_of state way edit inverse state.next)
next_head state ToNew edit inverse = refl
next_head state Undo edit inverse = refl
next_head state Redo edit inverse = refl

not_new : (way : Way) (state : State) (edit : Edit) → IsKeptStep way state edit → way ≡ ToNew → ⊥
not_new ToNew state edit kept e = kept
not_new Undo state edit kept e = cc
not_new Redo state edit kept e = cc

-- The turn of a kept step can be made.
pub kept_turn_for :
    (state : State) (saved : Bool) (way : Way) (edit inverse : Edit) → IsWhole state saved
    → IsKeptStep way state edit → LeadsBack state.book edit inverse
    → IsTurnFor state saved (turn_of state way edit inverse state.next)
kept_turn_for state saved way edit inverse whole kept leads =
    let can = kept_can state saved way edit whole kept in
    let given = kept_saved state saved way edit whole kept in
    record {
      can = can.0;
      head = next_head state way edit inverse;
      first = λ none. absurd (let both = sym given ∙ none in cc);
      shallow = allowed_depth state.book edit can.1.allowed;
      back = allowed_depth (edited edit state.book) inverse leads.allowed;
    }

kept_plan :
    (state : State) (saved : Bool) (way : Way) (edit : Edit) (answer : Answer) (plan : Planned) (comes : Reply)
    → IsWhole state saved → IsKeptStep way state edit → numbers (step_state state) 0 ≡ None
    → (made : IsTurnPlan state saved way edit state.next answer plan)
    → comes ≡ Done (machine_of (turned (turn_of state way edit made.inverse state.next) state)) answer
    → IsPlanTo state saved comes plan
kept_plan state saved way edit answer plan comes whole kept none made leads =
    let turn = turn_of state way edit made.inverse state.next in
    subst (λ (p : Planned). IsPlanTo state saved comes p) (sym made.plan_is)
    (is_turn_plan state saved turn answer comes whole
    (kept_whole state saved way edit made.inverse whole kept made.leads none)
    (kept_turn_for state saved way edit made.inverse whole kept made.leads)
    (kept_can state saved way edit whole kept).1.allowed made.fits
    (λ new. absurd (not_new way state edit kept new)) made.leads made.form leads)

-- The plan of a step back is the machine's, and so is that of a step forth.
pub planned_undo :
    (state : State) (saved : Bool) (edit : Edit) (plan : Planned) → IsWhole state saved → IsKeptStep Undo state edit
    → numbers (step_state state) 0 ≡ None → IsTurnPlan state saved Undo edit state.next answer.Undo plan
    → IsPlanTo state saved (reply (machine_of state) AskUndo) plan
planned_undo state saved edit plan whole kept none made =
    kept_plan state saved Undo edit answer.Undo plan (reply (machine_of state) AskUndo) whole kept none made
    (undone_machine state saved edit made.inverse whole kept made.leads none)

pub planned_redo :
    (state : State) (saved : Bool) (edit : Edit) (plan : Planned) → IsWhole state saved → IsKeptStep Redo state edit
    → numbers (step_state state) 0 ≡ None → IsTurnPlan state saved Redo edit state.next answer.Redo plan
    → IsPlanTo state saved (reply (machine_of state) AskRedo) plan
planned_redo state saved edit plan whole kept none made =
    kept_plan state saved Redo edit answer.Redo plan (reply (machine_of state) AskRedo) whole kept none made
    (redone_machine state saved edit made.inverse whole kept made.leads none)

-- ---- the plan of a turn
-- The version after it is that of its head.
pub made_plan :
    (state : State) (saved : Bool) (turn : Turn) (answer : Answer) (changes : List Change) (moves : List (ℕ × Move))
    → HasNextHead state turn → changes ≡ changes_to saved state turn → moves ≡ []
    → record { turn = Some turn; version = turn.head.version; answer = answer; changes = changes; moves = moves }
    ≡ turn_plan saved state turn answer
made_plan state saved turn answer changes moves head are none =
    ap (λ (version : ℕ). plan_of version changes moves) (head_version state turn head)
    ∙ ap (λ (cs : List Change). plan_of (turned turn state).version cs moves) are
    ∙ ap (plan_of (turned turn state).version (changes_to saved state turn)) none
  where
    plan_of : ℕ → List Change → List (ℕ × Move) → Planned
    plan_of version changes moves =
        record { turn = Some turn; version = version; answer = answer; changes = changes; moves = moves }

-- A turn that is made of a state has the plan of a turn on its way.
pub turn_planned :
    {E : Type 0} (state : State) (saved : Bool) (way : Way) (edit inverse : Edit) (next : ℕ) (answer : Answer)
    (turn : Turn) (result : Result Planned E) → turn ≡ turn_of state way edit inverse next
    → LeadsBack state.book edit inverse → outline inverse ≡ outline edit
    → IfOk result (λ plan. plan ≡ turn_plan saved state turn answer)
    → IfOk result (λ plan. HaveSpellings saved state turn)
    → IfOk result (IsTurnPlan state saved way edit next answer)
turn_planned state saved way edit inverse next answer turn (Ok plan) is leads form planned fits = record {
  inverse = inverse;
  leads = leads;
  form = form;
  plan_is = planned ∙ ap (λ (t : Turn). turn_plan saved state t answer) is;
  fits = subst (λ (t : Turn). HaveSpellings saved state t) is fits;
}
turn_planned state saved way edit inverse next answer turn (Err why) is leads form planned fits = tt

-- What follows of a result from two things that hold of it.
pub ok_with :
    {T E : Type 0} (result : Result T E) (P Q R : T → Type 0) → ((value : T) → P value → Q value → R value)
    → IfOk result P → IfOk result Q → IfOk result R
ok_with (Ok value) P Q R both p q = both value p q
ok_with (Err why) P Q R both p q = tt
