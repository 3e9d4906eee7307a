-- Rows that stood for what an engine kept stand for what it keeps.
use Rattle.std.proofs.Common.{◌≡◌, ◌≢◌, ◌↔◌, ◌⊎◌, Bool, true, false, ◌||◌, IsTrue, List, [], inl, inr}
use Rattle.std.proofs.Common.{Option, Some, None, is_some, Result, Ok, Err, refl, sym, ap, ◌∙◌, subst}
use Rattle.book_command.specs.declared.command.Command.{Command}
use Rattle.book_keeper.specs.Rows.{after_changes, first_row}
use Rattle.book_keeper.specs.declared.keeper.Keeper.{Ghosts}
use Rattle.book_keeper.specs.declared.row.Change.{Change}
use Rattle.book_keeper.specs.declared.row.Row.{Row}
use Rattle.book_rows.specs.declared.format.RowFormat.TheVariants.{Two}
use Rattle.book_opening.specs.Opening.{OpenIn, WhereBad}
use Rattle.book_opening.specs.BookRows.{rows_format}
use Rattle.book_opening.specs.State.{State, head_of}
use Rattle.book_opening.proofs.StepLaws.{begins_format}
use Rattle.book_opening.specs.declared.fault.OpenFault.{OpenFault}
use Rattle.book_opening.specs.declared.fault.OpenFault.TheVariants as fault
use Rattle.book_turns.specs.Standing.{StandFor}
use Rattle.book_turns.specs.Turned.{changes_to}
use Rattle.book_turns.specs.declared.turn.Turn.{Turn}
use Rattle.book_engine.specs.Acting.{IsUnchanged}
use Rattle.book_engine.specs.Kept.{Kept}
use Rattle.book_engine.specs.Books.{machine_of}
use Rattle.book_engine.specs.Planned.{Planned, IsPlanFor, IsPlanOf, IsPlanTurn, after, after_turn, commits}
use Rattle.book_engine.specs.Opening.{WhereOpened, open_error}
use Rattle.book_engine.specs.Opens.{Opens, OpensTo}
use Rattle.book_engine.specs.Machine.{step}
use Rattle.book_engine.specs.Standing.{OpensToNext, OpensToReply, StandForKept, Stands}
use Rattle.book_engine.specs.declared.fault.OpenError.{OpenError}
use Rattle.book_engine.specs.declared.fault.OpenError.TheVariants as error
use Rattle.book_engine.proofs.WholeLemmas.{whole_sound}

pub stand_same :
    (saved now_saved : Bool) (old new : State) (rows : List Row) → saved ≡ now_saved → old ≡ new
    → StandFor saved old rows → StandFor now_saved new rows
stand_same saved now_saved old new rows same state stand =
    subst (λ (b : Bool). StandFor b new rows) same (subst (λ (s : State). StandFor saved s rows) state stand)

-- Rows that stood for what an engine kept stand for what it keeps, where that is the same.
stand_kept :
    (before now : Kept) (rows : List Row) → IsUnchanged before now → StandForKept before rows → StandForKept now rows
stand_kept before now rows same stand =
    let state = sym same.same_state in (
      subst (λ (s : State). OpensTo rows (Opens (machine_of s))) state stand.0,
      stand_same before.saved now.saved before.state now.state rows (sym same.same_saved) state stand.1,
    )

-- They do where it keeps what it kept.
pub stands_unchanged :
    {K : Type 0} (of : Ghosts K) (keeper : K) (before now : Kept) → IsUnchanged before now → Stands of keeper before
    → Stands of keeper now
stands_unchanged of keeper before now same stands = record {
  rows = λ still. let stood = stands.rows still in (
    stood.0,
    stood.1,
    stand_kept before now stood.0 same stood.2,
  );
  left = λ honest rows left.
      subst (λ (s : State). OpensTo rows (Opens (machine_of s)) ⊎ OpensToNext (machine_of s) rows)
      (sym same.same_state) (stands.left honest rows left);
}

stays : (state : State) (turn : Option Turn) → is_some turn ≡ false → after_turn turn state ≡ state
stays state None none = refl
stays state (Some turn) none = absurd cc

-- A plan that doesn't commit leaves the state.
pub plan_leaves : (state : State) (plan : Planned) → commits plan ≡ false → after state plan ≡ state
plan_leaves state plan none = stays state plan.turn none

or_none : (saved commits : Bool) → commits ≡ false → (saved || commits) ≡ saved
or_none true commits e = refl
or_none false commits e = e

or_some : (saved commits : Bool) → IsTrue commits → (saved || commits) ≡ true
or_some true commits e = refl
or_some false commits e = e

-- What an engine keeps after a plan.
pub record IsAfter (before now : Kept) (plan : Planned) : Type 0 where
  pub state : now.state ≡ after before.state plan
  pub saved : now.saved ≡ (before.saved || commits plan)

-- After a plan that doesn't commit, an engine keeps what it kept.
pub left_unchanged :
    (before now : Kept) (plan : Planned) → commits plan ≡ false → IsAfter before now plan → IsUnchanged before now
left_unchanged before now plan none made = record {
  same_state = made.state ∙ plan_leaves before.state plan none;
  same_saved = made.saved ∙ or_none before.saved (commits plan) none;
}

-- With the changes of a plan made the rows of the state before are those of the state after.
plan_stands :
    (state : State) (saved : Bool) (changes : List Change) (turn : Option Turn) (rows : List Row)
    → IsPlanTurn state saved changes turn → IsTrue (is_some turn) → StandFor saved state rows
    → OpenIn Two (after_changes changes rows) (after_turn turn state)
plan_stands state saved changes None rows is some stood = absurd cc
plan_stands state saved changes (Some turn) rows is some stood = is.stand rows stood

-- What the changes of a plan for an engine's state make of rows that stood for it opens as the machine after the plan.
step_opens :
    (before : Kept) (command : Command) (plan : Planned) (rows : List Row)
    → IsPlanOf before.state before.saved command plan → IsTrue (commits plan) → StandForKept before rows
    → OpensTo (after_changes plan.changes rows) (Opens (machine_of (after before.state plan)))
step_opens before command plan rows is some stood =
    inr (
      after before.state plan,
      (Two, plan_stands before.state before.saved plan.changes plan.turn rows is.turn_is some stood.1),
      whole_sound (after before.state plan) (before.saved || commits plan) is.whole,
      refl,
    )

made_opens :
    (before : Kept) (plan : Planned) (rows : List Row) → IsPlanFor before.state before.saved plan
    → IsTrue (commits plan) → StandForKept before rows
    → OpensTo (after_changes plan.changes rows) (Opens (machine_of (after before.state plan)))
made_opens before plan rows is some stood = step_opens before is.command plan rows is.plan_of some stood

-- A plan that commits has changes of rows.
some_changes : (saved : Bool) (state : State) (turn : Turn) → changes_to saved state turn ≡ [] → ⊥
some_changes true state turn none = cc
some_changes false state turn none = cc

turn_changes :
    (state : State) (saved : Bool) (changes : List Change) (turn : Option Turn) → IsPlanTurn state saved changes turn
    → IsTrue (is_some turn) → changes ≢ []
turn_changes state saved changes None is some = absurd cc
turn_changes state saved changes (Some turn) is some = λ none. some_changes saved state turn (sym is.changes_are ∙ none)

pub plan_changes :
    (state : State) (saved : Bool) (plan : Planned) → IsPlanFor state saved plan → IsTrue (commits plan)
    → plan.changes ≢ []
plan_changes state saved plan is some = turn_changes state saved plan.changes plan.turn is.plan_of.turn_is some

-- They stand where the keeper made the changes of the plan. Then the next keeper may find only the rows after them.
pub stands_made :
    {K : Type 0} (of : Ghosts K) (old new : K) (before now : Kept) (plan : Planned)
    → (IsTrue (of.sure new) → IsTrue (of.sure old)) → (IsTrue (of.honest new) → IsTrue (of.sure new))
    → (IsTrue (of.sure new) → (rows : List Row) → of.holds old rows → of.holds new (after_changes plan.changes rows))
    → (IsTrue (of.sure new) → (rows : List Row) → of.may_leave new rows ↔ of.holds new rows)
    → ((rows other : List Row) → of.holds new rows → of.holds new other → rows ≡ other)
    → IsPlanFor before.state before.saved plan → IsTrue (commits plan) → IsAfter before now plan
    → Stands of old before → Stands of new now
stands_made of old new before now plan was known held settled one is some made stands =
    let state = sym made.state in
    let Opened : List Row → Type 0 = λ rows. OpensTo rows (Opens (machine_of now.state)) in
    let opens : (rows : List Row) → StandForKept before rows → Opened (after_changes plan.changes rows) =
    λ rows stood.
    subst (λ (s : State). OpensTo (after_changes plan.changes rows) (Opens (machine_of s))) state
    (made_opens before plan rows is some stood) in
    record {
      rows = λ still.
          let stood = stands.rows (was still) in
          let stand = plan_stands before.state before.saved plan.changes plan.turn stood.0 is.plan_of.turn_is some
          stood.2.1 in (
            after_changes plan.changes stood.0,
            held still stood.0 stood.1,
            (
              opens stood.0 stood.2,
              stand_same true now.saved (after before.state plan) now.state (after_changes plan.changes stood.0)
                  (sym (made.saved ∙ or_some before.saved (commits plan) some)) state stand,
            ),
          );
      left = λ honest rows left.
          let still = known honest in
          let stood = stands.rows (was still) in
          let made = one rows (after_changes plan.changes stood.0) ((settled still rows).0 left)
          (held still stood.0 stood.1) in
          inl (subst Opened (sym made) (opens stood.0 stood.2));
    }

-- They stand where the keeper failed to make them: then it may leave the rows before them, or those after them.
pub stands_failed :
    {K : Type 0} (of : Ghosts K) (old new : K) (before now : Kept) (plan : Planned)
    → (IsTrue (of.sure new) → IsTrue (of.sure old)) → (IsTrue (of.honest new) → IsTrue (of.honest old))
    → (IsTrue (of.sure new) → (rows : List Row) → of.holds old rows → of.holds new rows)
    → (IsTrue (of.honest new) → plan.changes ≢ [] → (rows : List Row) → of.may_leave new rows
    → of.may_leave old rows ⊎ (IsTrue (of.sure old) × ((held : List Row) → of.holds old held
    → rows ≡ after_changes plan.changes held)))
    → IsPlanFor before.state before.saved plan → IsTrue (commits plan) → IsUnchanged before now
    → Stands of old before → Stands of new now
stands_failed of old new before now plan was honest_was held left is some same stands =
    stands_unchanged of new before now same (record {
      rows = λ still. let stood = stands.rows (was still) in (stood.0, held still stood.0 stood.1, stood.2);
      left = λ honest rows may.
          elim (left honest (plan_changes before.state before.saved plan is some) rows may) [
            | inl earlier ↦ stands.left (honest_was honest) rows earlier
            | inr made ↦
                let stood = stands.rows made.0 in
                inr (record {
                  command = is.command;
                  next = machine_of (after before.state plan);
                  answer = plan.answer;
                  done = is.plan_of.made;
                  opens = subst (λ (r : List Row). OpensTo r (Opens (machine_of (after before.state plan))))
                      (sym (made.1 stood.0 stood.1)) (made_opens before plan stood.0 is some stood.2);
                })
          ];
    })

-- What holds of a keeper that was read holds where the book was opened.
pub where_opened : {T : Type 0} (result : Result T OpenError) (Holds : Type 0) → Holds → WhereOpened result Holds
where_opened (Ok it) Holds holds = holds
where_opened (Err (error.BadRows kind id)) Holds holds = holds
where_opened (Err (error.UnsoundBook kind id)) Holds holds = holds
where_opened (Err error.Keeper) Holds holds = tt
where_opened (Err error.OutOfMemory) Holds holds = tt

pub where_unread :
    (T : Type 0) (why : OpenFault) (Holds : Type 0) → WhereBad why Holds
    → WhereOpened {T = T} (Err (open_error why)) Holds
where_unread T fault.Keeper Holds holds = tt
where_unread T (fault.BadRows kind id) Holds holds = holds
where_unread T fault.OutOfMemory Holds holds = tt

-- What a keeper may leave that failed to make the changes of the plan of a command.
pub leaves_step :
    {K : Type 0} (of : Ghosts K) (old new : K) (before : Kept) (command : Command) (plan : Planned)
    → (IsTrue (of.honest new) → (rows : List Row) → of.may_leave new rows
    → of.may_leave old rows ⊎ (IsTrue (of.sure old) × ((held : List Row) → of.holds old held
    → rows ≡ after_changes plan.changes held)))
    → IsPlanOf before.state before.saved command plan → IsTrue (commits plan) → Stands of old before
    → IsTrue (of.honest new) → (rows : List Row) → of.may_leave new rows
    → of.may_leave old rows ⊎ OpensToReply (step (machine_of before.state) command) rows
leaves_step of old new before command plan left is some stands = λ honest rows may.
    elim (left honest rows may) [
      | inl earlier ↦ inl earlier
      | inr made ↦
          let stood = stands.rows made.0 in
          inr (record {
            next = machine_of (after before.state plan);
            answer = plan.answer;
            done = is.made;
            opens = subst (λ (r : List Row). OpensTo r (Opens (machine_of (after before.state plan))))
                (sym (made.1 stood.0 stood.1)) (step_opens before command plan stood.0 is some stood.2);
          })
    ]

-- Rows that stand for an engine have format 2, or there are none.
pub kept_format : (kept : Kept) (rows : List Row) → StandForKept kept rows → rows_format rows ≡ Two
kept_format kept rows stand = by kept.saved kept.state stand.1
  where
    by : (saved : Bool) (state : State) → StandFor saved state rows → rows_format rows ≡ Two
    by true state opens = begins_format Two rows (head_of state) (ap first_row opens.are)
    by false state none = ap rows_format none
