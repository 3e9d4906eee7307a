-- The rows of a state that was read are written anew, in format 2.
use Rattle.std.proofs.Common.{◌≡◌, ◌≢◌, ◌⊎◌, IsTrue, List, [], inl, inr, refl, sym, ap, ◌∙◌, subst}
use Rattle.std.proofs.Common.{ℕ, Bool, true, None, Result, Ok, Err, IfOk, IfErr, ◌++◌, ◌∷◌}
use Rattle.std.specs.List.{AllByRecursion}
use Rattle.book_keeper.specs.Rows.{AreRising, after_changes}
use Rattle.book_keeper.specs.declared.keeper.Keeper.{Ghosts}
use Rattle.book_keeper.specs.declared.row.Change.{Change}
use Rattle.book_keeper.specs.declared.row.Row.{Row}
use Rattle.book_rows.specs.Row.{IsWithin}
use Rattle.book_rows.specs.declared.format.RowFormat.{RowFormat}
use Rattle.book_rows.specs.declared.format.RowFormat.TheVariants.{One, Two}
use Rattle.book_undo.specs.declared.edit.Edit.{Edit}
use Rattle.book_opening.specs.BookRows.{back_records, forth_records, rows_of, things_of}
use Rattle.book_opening.specs.Changes.{IsShallow, all_put}
use Rattle.book_opening.specs.Opening.{CanBeRow, IsOpened, OpenAs, OpenIn, StaysSure, WasRead}
use Rattle.book_opening.specs.declared.fault.OpenFault.{OpenFault}
use Rattle.book_opening.specs.declared.fault.OpenFault.TheVariants as fault
use Rattle.book_opening.specs.Reading.{IsReadable}
use Rattle.book_opening.specs.State.{State, head_of}
use Rattle.book_opening.proofs.AllRowLaws.{all_put_rise, opens_anew}
use Rattle.book_opening.proofs.Ranked.{all_first, all_last}
use Rattle.book_turns.specs.Whole.{IsWhole}
use Rattle.book_turns.proofs.RowTurns.{whole_tables}
use Rattle.book_state_check.specs.SoundState.{unsound_at}
use Rattle.book_engine.specs.Books.{machine_of}
use Rattle.book_engine.specs.Machine.{Machine}
use Rattle.book_engine.specs.Kept.{Kept}
use Rattle.book_engine.specs.Opening.{AreAnew, IsBegun, IsChecked, IsOpenedAs, IsOfKeeperOrMemory, IsMigration, Opened, WasOpened}
use Rattle.book_engine.specs.Opening.{WhereOpened, WhereRefused, open_error}
use Rattle.book_engine.specs.Standing.{StandForKept}
use Rattle.book_turns.specs.Standing.{StandFor}
use Rattle.book_engine.specs.Opens.{Opens, OpensTo}
use Rattle.book_engine.specs.declared.fault.OpenError.{OpenError}
use Rattle.book_engine.specs.declared.fault.OpenError.TheVariants as error

-- ---- what the changes are asked for
pub within_read : (state : State) → IsReadable state → IsWithin (head_of state)
within_read state is = is.spelled.0.1.1

back_of : (steps : List (ℕ × Edit)) → AllByRecursion (CanBeRow Two) (back_records steps) → AllByRecursion IsShallow steps
back_of [] can = tt
back_of (step ∷ steps) can = (can.0.1.1, back_of steps can.1)

forth_of : (steps : List (ℕ × Edit)) → AllByRecursion (CanBeRow Two) (forth_records steps) → AllByRecursion IsShallow steps
forth_of [] can = tt
forth_of (step ∷ steps) can = (can.0.1.1, forth_of steps can.1)

steps_read :
    (state : State) → IsReadable state → AllByRecursion (CanBeRow Two) (back_records state.back ++ forth_records state.forth)
steps_read state is =
    all_last (CanBeRow Two) (things_of state.book) (back_records state.back ++ forth_records state.forth) is.spelled.1

pub back_read : (state : State) → IsReadable state → AllByRecursion IsShallow state.back
back_read state is =
    back_of state.back (all_first (CanBeRow Two) (back_records state.back) (forth_records state.forth) (steps_read state is))

pub forth_read : (state : State) → IsReadable state → AllByRecursion IsShallow state.forth
forth_read state is =
    forth_of state.forth (all_last (CanBeRow Two) (back_records state.back) (forth_records state.forth) (steps_read state is))

pub anew_rises :
    (state : State) (saved : Bool) → IsReadable state → IsWhole state saved → AreRising (all_put state)
anew_rises state saved is whole = all_put_rise state (whole_tables state saved whole) is.spelled

some_rows : (state : State) → all_put state ≡ [] → ⊥
some_rows state none = cc

-- What a commit of all rows of a state makes of them.
module _ {K : Type 0} (of : Ghosts K) (old new : K) (state : State) (saved : Bool) (changes : List Change)
    (whole : IsWhole state saved) (are : changes ≡ all_put state)
    (path : of.path_given new ≡ of.path_given old) (honest : IsTrue (of.honest new) → IsTrue (of.honest old))
    (sure : IsTrue (of.sure new) → IsTrue (of.sure old))
    (left : IsTrue (of.honest new) → changes ≢ [] → (rows : List Row) → of.may_leave new rows
    → of.may_leave old rows ⊎ (IsTrue (of.sure old) × ((held : List Row) → of.holds old held
    → rows ≡ after_changes changes held))) where
  opens_made : (rows : List Row) → OpenIn One rows state → OpenIn Two (after_changes changes rows) state
  opens_made rows opens =
      subst (λ (l : List Change). OpenIn Two (after_changes l rows) state) (sym are)
      (opens_anew One rows state (whole_tables state saved whole) opens)

  leaves_made : IsTrue (of.honest new) → (rows : List Row) → of.may_leave new rows
      → of.may_leave old rows ⊎ ((One ≡ One) × IsTrue (of.sure old)
      × ((held : List Row) → of.holds old held → OpenIn One held state → OpenIn Two rows state))
  leaves_made still rows may =
      elim (left still (λ none. some_rows state (sym are ∙ none)) rows may) [
        | inl earlier ↦ inl earlier
        | inr made ↦ inr (
          refl,
          made.0,
          λ held is opens. subst (λ (r : List Row). OpenIn Two r state) (sym (made.1 held is)) (opens_made held opens),
        )
      ]

  pub written_made :
      (IsTrue (of.honest new) → IsTrue (of.sure new))
      → (IsTrue (of.sure new) → (rows : List Row) → of.holds old rows → of.holds new (after_changes changes rows))
      → {T : Type 0} (x : T) → IsMigration of One state old new (Ok x)
  written_made known made x = record {
    same_path = path;
    still_honest = honest;
    still_sure = sure;
    known = λ still before. known still;
    rows = λ still rows held opens. (after_changes changes rows, opens_made rows opens, made still rows held);
    unchanged = tt;
    leaves = leaves_made;
  }

  pub written_not :
      (IsTrue (of.sure new) → (rows : List Row) → of.holds old rows → of.holds new rows)
      → {T : Type 0} (why : OpenError) → IsMigration {T = T} of One state old new (Err why)
  written_not unchanged why = record {
    same_path = path;
    still_honest = honest;
    still_sure = sure;
    known = tt;
    rows = tt;
    unchanged = unchanged;
    leaves = leaves_made;
  }

-- ---- a book that was opened
anew_of :
    (state : State) (rows new : List Row) → unsound_at state ≡ None → OpenIn One rows state → OpenIn Two new state
    → ((other : State) → OpenAs rows other → state ≡ other) → AreAnew rows new
anew_of state rows new sound was now only =
    record { state = state; was = was; sound = sound; now = now; same = same }
  where
    same : (machine : Machine) → OpensTo rows (Opens machine) → OpensTo new (Opens machine)
    same machine (inl none) = absurd (let e : rows_of One state ≡ [] = sym was.are ∙ none.0 in cc)
    same machine (inr opens) =
        inr (opens.0, (Two, subst (OpenIn Two new) (only opens.0 opens.1) now), opens.2, opens.3)

-- Rows of a format, and those of the same state in format 2, are the same rows, or the ones are the others anew.
anew_or_same :
    (format : RowFormat) (state : State) (rows new : List Row) → unsound_at state ≡ None → OpenIn format rows state
    → OpenIn Two new state
    → ((other : State) → OpenAs rows other → state ≡ other) → (new ≡ rows) ⊎ AreAnew rows new
anew_or_same Two state rows new sound was now only = inl (now.are ∙ sym was.are)
anew_or_same One state rows new sound was now only = inr (anew_of state rows new sound was now only)

module _ {K : Type 0} (of : Ghosts K) (old mid new : K) (format : RowFormat) (state : State)
    (read : WasRead of old mid)
    (answers : IsTrue (of.sure mid) → (rows : List Row) → of.holds old rows → OpenIn format rows state)
    (only : IsTrue (of.sure mid) → (rows : List Row) → of.holds old rows → (other : State) → OpenAs rows other
    → state ≡ other) (told : IsTrue (of.sure old) → (rows : List Row) × of.holds old rows) (sound : unsound_at state ≡ None) where
  leaves_opened : {T : Type 0} (result : Result T OpenError) → IsMigration of format state mid new result
      → IsTrue (of.honest new) → (rows : List Row) → of.may_leave new rows
      → of.may_leave old rows ⊎ (IsTrue (of.sure old) × ((held : List Row) → of.holds old held → AreAnew held rows))
  leaves_opened result written honest rows may =
      elim (written.leaves honest rows may) [
        | inl earlier ↦ inl (read.leaves (written.still_honest honest) rows earlier)
        | inr made ↦ inr (
          read.still_sure made.1,
          λ held is.
              let was = subst (λ (f : RowFormat). OpenIn f held state) made.0 (answers made.1 held is) in
              anew_of state held rows sound was (made.2 held (read.same_rows made.1 held is) was) (only made.1 held is),
        )
      ]

  pub keeper_opened : {T : Type 0} (result : Result T OpenError) → IsMigration of format state mid new result
      → WasOpened of old new
  keeper_opened (Ok x) written = record {
    same_path = written.same_path ∙ read.same_path;
    still_honest = λ still. read.still_honest (written.still_honest still);
    still_sure = λ still. read.still_sure (written.still_sure still);
    rows = λ sure rows held.
        let before = written.still_sure sure in
        let was = answers before rows held in
        let made = written.rows sure rows (read.same_rows before rows held) was in
        elim (anew_or_same format state rows made.0 sound was made.1 (only before rows held)) [
          | inl same ↦ inl (subst (of.holds new) same made.2)
          | inr anew ↦ inr (made.0, anew, made.2)
        ];
    leaves = leaves_opened (Ok x) written;
  }
  keeper_opened (Err why) written = record {
    same_path = written.same_path ∙ read.same_path;
    still_honest = λ still. read.still_honest (written.still_honest still);
    still_sure = λ still. read.still_sure (written.still_sure still);
    rows = λ sure rows held. inl (written.unchanged sure rows (read.same_rows (written.still_sure sure) rows held));
    leaves = leaves_opened (Err why) written;
  }

  -- An engine that keeps the state stands for what the keeper holds.
  pub stand_opened : (engine : Kept) (result : Result Kept OpenError) → IfOk result (λ kept. kept ≡ engine)
      → engine.state ≡ state → engine.saved ≡ true
      → IsMigration of format state mid new result
      → IfOk result (λ kept. IsTrue (of.sure new) → (rows : List Row) × of.holds new rows × StandForKept kept rows)
  stand_opened engine (Err why) same state_is saved written = tt
  stand_opened engine (Ok kept) same state_is saved written = λ sure.
      let before = written.still_sure sure in
      let held = told (read.still_sure before) in
      let was = answers before held.0 held.1 in
      let made = written.rows sure held.0 (read.same_rows before held.0 held.1) was in
      let Stands : Kept → Type 0 = λ (k : Kept). StandForKept k made.0 in
      (made.0, made.2, subst Stands (sym same) (stand_for engine made.0 state_is saved sound made.1))
    where
      stand_for : (engine : Kept) (rows : List Row) → engine.state ≡ state → engine.saved ≡ true
          → unsound_at state ≡ None → OpenIn Two rows state → StandForKept engine rows
      stand_for engine rows state_is saved sound opens = (
        inr (state, (Two, opens), sound, ap machine_of state_is),
        subst (λ (b : Bool). StandFor b engine.state rows) (sym saved)
            (subst (λ (s : State). OpenIn Two rows s) (sym state_is) opens),
      )

-- What is answered of the rows and of a state that they open as, where an engine was made of the state.
pub opened_written :
    (rows : List Row) (format : RowFormat) (state : State) (engine : Kept) (result : Result Kept OpenError)
    → IfOk result (λ kept. kept ≡ engine) → IfErr result IsOfKeeperOrMemory → engine.state ≡ state → unsound_at state ≡ None
    → OpenIn format rows state → Opened rows result
opened_written rows format state engine (Ok kept) same unwritten is sound opens =
    inr (state, (format, opens), sound, ap machine_of (ap (λ (k : Kept). k.state) same ∙ is))
opened_written rows format state engine (Err error.Keeper) same unwritten is sound opens = tt
opened_written rows format state engine (Err error.OutOfMemory) same unwritten is sound opens = tt
opened_written rows format state engine (Err (error.BadRows kind id)) same unwritten is sound opens = absurd unwritten
opened_written rows format state engine (Err (error.UnsoundBook kind id)) same unwritten is sound opens = absurd unwritten

pub again_written :
    (state : State) (engine : Kept) (result : Result Kept OpenError) → IfOk result (λ kept. kept ≡ engine)
    → IfErr result IsOfKeeperOrMemory → engine.state ≡ state → IsOpenedAs state result
again_written state engine (Ok kept) same unwritten is = ap (λ (k : Kept). k.state) same ∙ is
again_written state engine (Err error.Keeper) same unwritten is = tt
again_written state engine (Err error.OutOfMemory) same unwritten is = tt
again_written state engine (Err (error.BadRows kind id)) same unwritten is = absurd unwritten
again_written state engine (Err (error.UnsoundBook kind id)) same unwritten is = absurd unwritten

pub again_checked : (state : State) (why : OpenError) → IsChecked state (Err why) → IsOpenedAs state (Err why)
again_checked state error.Keeper is = tt
again_checked state error.OutOfMemory is = tt
again_checked state (error.BadRows kind id) is = is
again_checked state (error.UnsoundBook kind id) is = is

pub again_unread : (state : State) (why : OpenFault) → IsOpened state (Err why) → IsOpenedAs state (Err (open_error why))
again_unread state fault.Keeper is = tt
again_unread state fault.OutOfMemory is = tt
again_unread state (fault.BadRows kind id) is = is

-- Rows are not refused at these errors.
pub unwritten_refuses :
    (result : Result Kept OpenError) (Holds : Type 0) → IfErr result IsOfKeeperOrMemory → WhereRefused result Holds
unwritten_refuses (Ok kept) Holds unwritten = tt
unwritten_refuses (Err error.Keeper) Holds unwritten = tt
unwritten_refuses (Err error.OutOfMemory) Holds unwritten = tt
unwritten_refuses (Err (error.BadRows kind id)) Holds unwritten = absurd unwritten
unwritten_refuses (Err (error.UnsoundBook kind id)) Holds unwritten = absurd unwritten

-- The keeper still knows its rows, where a book was opened.
pub known_opened :
    {K : Type 0} (of : Ghosts K) (old mid new : K) (format : RowFormat) (state : State) (result : Result Kept OpenError)
    → WasRead of old mid → StaysSure of old mid → IsMigration of format state mid new result
    → IfErr result IsOfKeeperOrMemory → WhereOpened result (StaysSure of old new)
known_opened of old mid new format state (Ok kept) read first written unwritten =
    λ honest before. written.known honest (first (written.still_honest honest) before)
known_opened of old mid new format state (Err error.Keeper) read first written unwritten = tt
known_opened of old mid new format state (Err error.OutOfMemory) read first written unwritten = tt
known_opened of old mid new format state (Err (error.BadRows kind id)) read first written unwritten = absurd unwritten
known_opened of old mid new format state (Err (error.UnsoundBook kind id)) read first written unwritten =
    absurd unwritten

-- The fresh engine stands for no rows.
pub none_stands :
    {K : Type 0} (of : Ghosts K) (old new : K) (result : Result Kept OpenError) → WasRead of old new
    → (IsTrue (of.sure new) → (rows : List Row) → of.holds old rows → rows ≡ [])
    → (IsTrue (of.sure old) → (rows : List Row) × of.holds old rows) → IsBegun result
    → IfOk result (λ kept. IsTrue (of.sure new) → (rows : List Row) × of.holds new rows × StandForKept kept rows)
none_stands of old new (Err why) read none told begun = tt
none_stands of old new (Ok kept) read none told begun = λ sure.
    let held = told (read.still_sure sure) in
    let empty = none sure held.0 held.1 in (
      held.0,
      read.same_rows sure held.0 held.1,
      (
        subst (λ (s : State). OpensTo held.0 (Opens (machine_of s))) (sym begun.0) (inl (empty, refl)),
        subst (λ (b : Bool). StandFor b kept.state held.0) (sym begun.1) empty,
      ),
    )
