-- The rows of a turn: their changes rise, and with them made the rows that stood for the state stand for the next one.
use Rattle.std.proofs.Common.{◌≡◌, ℕ, suc, zero, ◌+◌, ◌-◌, ◌*◌, ◌^◌, ◌<◌, ◌≤◌, ◌==◌, Bool, true, false}
use Rattle.std.proofs.Common.{IsTrue, if◌then◌else◌, List, [], ◌∷◌, ◌++◌, map, refl, sym, ap, ◌∙◌}
use Rattle.std.proofs.Common.{subst, arith}
use Rattle.std.specs.List.{AllByRecursion}
use Rattle.book_commodity.specs.Table.{with_entry, without_entry}
use Rattle.book_keeper.specs.Rows.{AreRising, AreRisingFrom, after_changes}
use Rattle.book_keeper.specs.declared.row.Row.{Row}
use Rattle.book_undo.specs.Book.{Book}
use Rattle.book_undo.specs.Edit.{edited, leaves}
use Rattle.book_undo.specs.EditRules.{IsAllowed}
use Rattle.book_undo.specs.declared.edit.Edit.{Edit}
use Rattle.book_sound.specs.Soundness.{AreDrawn}
use Rattle.book_sound.proofs.SoundFacts.{tables_rise}
use Rattle.book_history.specs.Numbers.{numbers_from, without_all}
use Rattle.book_history.specs.Turns.{back_after_change}
use Rattle.book_history.proofs.NumberLaws.{none_left, numbered_rises}
use Rattle.book_history.proofs.TurnLaws.{back_counted, forth_counted}
use Rattle.book_opening.specs.BookRows.{back_records, behind_head, forth_records, things_of}
use Rattle.book_opening.specs.Changes.{GoneBack, GoneForth, IsSmallLeaf, PutBack}
use Rattle.book_opening.specs.Changes.{all_put, step_change, with_steps}
use Rattle.book_opening.specs.Opening.{OpenIn}
use Rattle.book_opening.specs.State.{State, head_of}
use Rattle.book_opening.specs.Steps.{AreCounted}
use Rattle.book_opening.proofs.AllRowLaws.{all_put_rise, opens_from_none}
use Rattle.book_opening.proofs.ChangeLaws.{IsSmallStep, all_rise, opens_after}
use Rattle.book_opening.proofs.KeptSteps.{are_counted}
use Rattle.book_opening.proofs.StateRecords.{TablesRise, with_book}
use Rattle.book_turns.specs.Whole.{IsWhole}
use Rattle.book_turns.specs.Standing.{StandFor}
use Rattle.book_turns.specs.Turned.{CanTurn, HaveSpellings, IsTurnFor, changes_to, step_changes, turned}
use Rattle.book_turns.specs.Turned.{turned_by}
use Rattle.book_turns.specs.declared.turn.Turn.{Turn}
use Rattle.book_turns.specs.declared.turn.Way.{Way}
use Rattle.book_turns.specs.declared.turn.Way.TheVariants.{Change as ToNew, Undo, Redo}
use Rattle.book_turns.proofs.SmallLemmas.{allowed_in_order, can_be_rows, small_leaves}
use Rattle.book_rows.specs.declared.format.RowFormat.TheVariants.{Two}

-- ---- the steps of a state that an engine keeps are those that its head counts
-- The steps of such a state are those that its head counts.
pub whole_counted : (state : State) (saved : Bool) → IsWhole state saved → AreCounted state
whole_counted state saved whole =
    let h = whole.history in
    are_counted state
    (back_counted state.next state.book state.position state.past state.later state.back state.forth h)
    (forth_counted state.next state.book state.position state.past state.later state.back state.forth h)

pub whole_tables : (state : State) (saved : Bool) → IsWhole state saved → TablesRise state
whole_tables state saved whole = record {
  book = tables_rise state.book whole.sound.book;
  back = numbered_rises (state.position - state.past + 1) state.back whole.history.back_numbers;
  forth = numbered_rises (state.position + 1) state.forth whole.history.forth_numbers;
}

-- ---- the changes of steps
gone_rise :
    (n first count : ℕ) → n ≤ 12 * 2 ^ 64 + first → first + count ≤ 2 ^ 62
    → AreRisingFrom n (map step_change (map (λ number. GoneForth number) (numbers_from first count)))
gone_rise n first zero le few = tt
gone_rise n first (suc count) le few = (
  omega (arith, le),
  omega (arith, few),
  gone_rise (12 * 2 ^ 64 + first + 1) (suc first) count (omega arith) (omega (arith, few)),
)

gone_small :
    (first count : ℕ) → first + count ≤ 2 ^ 62
    → AllByRecursion IsSmallStep (map (λ number. GoneForth number) (numbers_from first count))
gone_small first zero few = tt
gone_small first (suc count) few = (omega (arith, few), gone_small (suc first) count (omega (arith, few)))

gone_with :
    (numbers : List ℕ) (s : State)
    → with_steps (map (λ number. GoneForth number) numbers) s ≡ record s { forth = without_all numbers s.forth }
gone_with [] s = refl
gone_with (number ∷ numbers) s = gone_with numbers (record s { forth = without_entry number s.forth })

-- What is needed of a way for its changes of steps: the bounds of the numbers.
record Bounds (way : Way) (state : State) : Type 0 where
  can : CanTurn way state
  now : state.position + 1 + state.later ≤ 2 ^ 62
  next : state.position + 1 < 2 ^ 62

new_rise :
    (full : Bool) (position later : ℕ) (inverse : Edit) → position + 1 + later ≤ 2 ^ 62
    → position + 1 < 2 ^ 62
    → AreRisingFrom (11 * 2 ^ 64) (map step_change
    ((if full then GoneBack (position - 255) ∷ [] else [])
    ++ PutBack (position + 1) inverse ∷ map (λ number. GoneForth number) (numbers_from (position + 1) later)))
new_rise true position later inverse few next = (
  omega arith,
  omega (arith, next),
  (
    omega arith,
    omega (arith, next),
    gone_rise (11 * 2 ^ 64 + (position + 1) + 1) (position + 1) later (omega arith) (omega (arith, few)),
  ),
)
new_rise false position later inverse few next = (
  omega arith,
  omega (arith, next),
  gone_rise (11 * 2 ^ 64 + (position + 1) + 1) (position + 1) later (omega arith) (omega (arith, few)),
)

steps_rise :
    (way : Way) (state : State) (inverse : Edit) → Bounds way state
    → AreRisingFrom (11 * 2 ^ 64) (map step_change (step_changes way state inverse))
steps_rise ToNew state inverse bounds =
    new_rise (state.past == 256) state.position state.later inverse bounds.now bounds.next
steps_rise Undo state inverse bounds =
    let few = bounds.next in
    (omega arith, omega (arith, few), (omega arith, omega (arith, few), tt))
steps_rise Redo state inverse bounds =
    let few = bounds.next in
    (omega arith, omega (arith, few), (omega arith, omega (arith, few), tt))

new_small :
    (full : Bool) (position later : ℕ) (inverse : Edit) → position + 1 + later ≤ 2 ^ 62
    → position + 1 < 2 ^ 62
    → AllByRecursion IsSmallStep
    ((if full then GoneBack (position - 255) ∷ [] else [])
    ++ PutBack (position + 1) inverse ∷ map (λ number. GoneForth number) (numbers_from (position + 1) later))
new_small true position later inverse few next =
    (omega (arith, next), (next, gone_small (position + 1) later few))
new_small false position later inverse few next = (next, gone_small (position + 1) later few)

steps_small :
    (way : Way) (state : State) (inverse : Edit) → Bounds way state
    → AllByRecursion IsSmallStep (step_changes way state inverse)
steps_small ToNew state inverse bounds =
    new_small (state.past == 256) state.position state.later inverse bounds.now bounds.next
steps_small Undo state inverse bounds =
    let next = bounds.next in (omega (arith, next), (omega (arith, next), tt))
steps_small Redo state inverse bounds = (bounds.next, (bounds.next, tt))

new_with :
    (full : Bool) (position later : ℕ) (inverse : Edit) (s : State)
    → with_steps
    ((if full then GoneBack (position - 255) ∷ [] else [])
    ++ PutBack (position + 1) inverse ∷ map (λ number. GoneForth number) (numbers_from (position + 1) later)) s
    ≡ record s {
      back = with_entry (position + 1) inverse (if full then without_entry (position - 255) s.back else s.back);
      forth = without_all (numbers_from (position + 1) later) s.forth;
    }
new_with true position later inverse s =
    gone_with (numbers_from (position + 1) later)
    (record s { back = with_entry (position + 1) inverse (without_entry (position - 255) s.back) })
new_with false position later inverse s =
    gone_with (numbers_from (position + 1) later) (record s { back = with_entry (position + 1) inverse s.back })

-- With the changes of steps made, the records behind the head are those of the state after the turn.
steps_are :
    (state : State) (saved : Bool) (turn : Turn) → IsWhole state saved
    → behind_head (turned turn state)
    ≡ behind_head
    (with_steps (step_changes turn.way state turn.inverse) (with_book (edited turn.edit state.book) state))
steps_are state saved turn whole = by_way turn.way
  where
    by_way : (way : Way)
        → behind_head (turned_by way turn state)
        ≡ behind_head (with_steps (step_changes way state turn.inverse) (with_book (edited turn.edit state.book) state))
    by_way ToNew =
        let middle = with_book (edited turn.edit state.book) state in
        let gone : without_all (numbers_from (state.position + 1) state.later) state.forth ≡ [] =
        ap (λ (n : ℕ). without_all (numbers_from (state.position + 1) n) state.forth) (sym whole.history.forth_count)
        ∙ none_left (state.position + 1) state.forth whole.history.forth_numbers in
        sym (ap behind_head (new_with (state.past == 256) state.position state.later turn.inverse middle)
        ∙ ap (λ (forth : List (ℕ × Edit)).
        things_of (edited turn.edit state.book)
        ++ (back_records (back_after_change state.position state.past turn.inverse state.back) ++ forth_records forth))
        gone)
    by_way Undo = refl
    by_way Redo = refl

next_position :
    (state : State) (saved : Bool) (turn : Turn) → IsWhole state saved → IsWhole (turned turn state) true
    → IsTurnFor state saved turn → state.position + 1 < 2 ^ 62
next_position state saved turn whole after is = by_way turn.way after
  where
    by_way : (way : Way) → IsWhole (turned_by way turn state) true
        → state.position + 1 < 2 ^ 62
    by_way ToNew next =
        let reached = whole.reached in
        let version = next.sound.version in
        omega (arith, reached, version)
    by_way Undo next =
        let reached = whole.reached in
        let version = next.sound.version in
        omega (arith, reached, version)
    by_way Redo next =
        let reached = whole.reached in
        let version = next.sound.version in
        omega (arith, reached, version)

bounds_of :
    (state : State) (saved : Bool) (turn : Turn) → IsWhole state saved → IsWhole (turned turn state) true
    → IsTurnFor state saved turn → Bounds turn.way state
bounds_of state saved turn whole after is =
    let few = whole.few in
    record {
      can = is.can;
      now = omega (arith, few);
      next = next_position state saved turn whole after is;
    }

-- The book after a turn is the edited one.
next_after :
    (state : State) (turn : Turn) → (turned turn state).book ≡ edited turn.edit state.book
next_after state turn = by_way turn.way
  where
    by_way : (way : Way)
        → (turned_by way turn state).book ≡ edited turn.edit state.book
    by_way ToNew = refl
    by_way Undo = refl
    by_way Redo = refl

turn_small :
    (state : State) (saved : Bool) (turn : Turn) → IsWhole state saved → IsWhole (turned turn state) true
    → IsTurnFor state saved turn → IsAllowed state.book turn.edit → AllByRecursion IsSmallLeaf (leaves turn.edit)
turn_small state saved turn whole after is allowed =
    let small = whole.sound.next in
    let less = after.sound.next in
    small_leaves state.book turn.edit state.next (turned turn state).next (tables_rise state.book whole.sound.book)
    whole.sound.drawn
    (subst (λ (b : Book). AreDrawn b (turned turn state).next) (next_after state turn) after.sound.drawn)
    (omega (arith, small)) (omega (arith, less)) allowed

-- The changes of a turn rise.
pub turn_rises :
    (state : State) (saved : Bool) (turn : Turn) → IsWhole state saved → IsWhole (turned turn state) true
    → IsTurnFor state saved turn → IsAllowed state.book turn.edit → HaveSpellings saved state turn
    → AreRising (changes_to saved state turn)
turn_rises state true turn whole after is allowed fit =
    all_rise (head_of (turned turn state)) turn.edit (step_changes turn.way state turn.inverse)
    (allowed_in_order state.book turn.edit allowed) (turn_small state true turn whole after is allowed)
    (steps_rise turn.way state turn.inverse (bounds_of state true turn whole after is))
turn_rises state false turn whole after is allowed fit =
    all_put_rise (turned turn state) (whole_tables (turned turn state) true after)
    (can_be_rows (turned turn state) true after fit)

-- With them made the rows that stood for the state stand for the next one.
pub turn_stands :
    (state : State) (saved : Bool) (turn : Turn) (rows : List Row) → IsWhole state saved
    → IsWhole (turned turn state) true → IsTurnFor state saved turn → IsAllowed state.book turn.edit
    → HaveSpellings saved state turn → StandFor saved state rows
    → OpenIn Two (after_changes (changes_to saved state turn) rows) (turned turn state)
turn_stands state true turn rows whole after is allowed fit stand =
    opens_after rows state (turned turn state) turn.edit (step_changes turn.way state turn.inverse) stand
    (steps_are state true turn whole) (turn_small state true turn whole after is allowed) fit.1
    (steps_small turn.way state turn.inverse (bounds_of state true turn whole after is))
    fit.2 fit.0 (whole_counted (turned turn state) true after)
turn_stands state false turn rows whole after is allowed fit none =
    let next = turned turn state in
    subst (λ (l : List Row). OpenIn Two (after_changes (all_put next) l) next) (sym none)
    (opens_from_none next (whole_tables next true after) (can_be_rows next true after fit)
    (whole_counted next true after))
