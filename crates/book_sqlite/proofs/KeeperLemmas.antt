-- What the calls on the connection say of the keeper.
use Rattle.std.proofs.Common.{◌≡◌, ◌↔◌, ◌⊎◌, ◌&&◌, List, [], ◌∷◌, Some, None, inl, inr, refl, sym, ap, subst, ◌∙◌, IsTrue, Option}
use Rattle.std.proofs.lemmas.Bool.{and_parts, and_from}
use Rattle.sqlite_value.specs.Order.{Row as Entry}
use Rattle.sqlite_trees.specs.Tree.{Trees}
use Rattle.sqlite_trees.specs.declared.store.Store.{Ghosts}
use Rattle.sqlite_trees.proofs.Doubt.{clean_of, no_doubt}
use Rattle.sqlite.specs.Effect.{Database}
use Rattle.sqlite.specs.State.{HasCleanDisk, Survives}
use Rattle.sqlite.specs.Held.{Held, state}
use Rattle.sqlite.specs.Files.{over_files, file_state}
use Rattle.sqlite.specs.declared.FileStore.{FileStore}
use Rattle.sqlite_disk.specs.declared.Disk as disk
use Rattle.book_keeper.specs.declared.row.Row.{Row}
use Rattle.book_keeper.specs.declared.row.RowKey.{RowKey}
use Rattle.book_keeper.specs.Rows.{first_row, first_after}
use Rattle.book_sqlite.specs.Content.{rows_of}
use Rattle.book_sqlite.specs.RowsDatabase.{IsRowsDatabase, rows_in, ListsRows}
use Rattle.book_sqlite.specs.RowCalls.{IsSure, IsReady, Committed, StaysCommitted, AreNext, AreNextOn, PassesNone}
use Rattle.book_sqlite.specs.KeeperInSqlite.{SqliteKept, AreAhead, is_sure, HoldsRows, HasEntries, MayLeave, has_clean_store}

module _ {S : Type 0} (g : Ghosts S) where
  abbrev knows : Held S → Type 0
  knows c = IsTrue ((state g c).is_clean && (state g c).is_open)

  sure_from : (c : Held S) → knows c → IsSure (state g c)
  sure_from c sure = let parts = and_parts _ _ sure in (no_doubt _ parts.0, parts.1)

  -- a keeper over a connection that was prepared holds what the trees held
  pub opened_holds : (c : Held S) (trees : Trees) (Lists : Type 0) → (HasCleanDisk (state g c) → Lists → (state g c).committed.trees ≡ trees)
      → knows c → Lists → rows_of (trees 0) ≡ rows_of ((state g c).committed.trees 0)
  opened_holds c trees Lists same sure lists = ap (λ (t : Trees). rows_of (t 0)) (sym (same (sure_from c sure).0 lists))

  -- one over a database that had nothing holds no rows
  pub empty_holds : (c : Held S) (Nothing : Type 0) → IsReady (state g c) → (HasCleanDisk (state g c) → Nothing → (state g c).now.trees 0 ≡ [])
      → knows c → Nothing → [] ≡ rows_of ((state g c).committed.trees 0)
  empty_holds c Nothing ready empty sure nothing =
      let known = sure_from c sure in
      sym (ap rows_of (ap (λ (d : Database). d.trees 0) (sym (ready.settled known)) ∙ empty known.0 nothing))

  pub opened_clean : (c old : Held S) → (HasCleanDisk (state g c) → HasCleanDisk (state g old)) → knows c → HasCleanDisk (state g old)
  opened_clean c old back sure = back (sure_from c sure).0

  module _ (k : SqliteKept S) (c new : Held S) (is : k.connection ≡ Some c) (back : HasCleanDisk (state g new) → HasCleanDisk (state g c)) where
    pub sure_back : (HasCleanDisk (state g new) → IsTrue (state g new).is_open → IsTrue (state g c).is_open) → knows new → IsTrue (is_sure g k)
    sure_back opens sure =
        let now = sure_from new sure in
        let known : knows c = and_from _ _ (clean_of _ (back now.0)) (opens now.0 now.1) in rw is known

    held_is : (rows : List Row) → HoldsRows g k rows → rows ≡ rows_of ((state g c).committed.trees 0)
    held_is rows holds = rw is at holds

    pub rows_stay : (HasCleanDisk (state g new) → StaysCommitted (state g c) (state g new)) → knows new → (rows : List Row) → HoldsRows g k rows
        → rows ≡ rows_of ((state g new).committed.trees 0)
    rows_stay stays sure rows holds =
        let now = sure_from new sure in
        held_is rows holds ∙ ap (λ (d : Database). rows_of (d.trees 0)) (sym ((stays now.0).committed now.1))

    pub rows_made : (change : List Row → List Row) → IsReady (state g c) → (HasCleanDisk (state g new) → Committed (state g c) (state g new) change)
        → knows new → (rows : List Row) → HoldsRows g k rows → change rows ≡ rows_of ((state g new).committed.trees 0)
    rows_made change ready made sure rows holds =
        let now = sure_from new sure in
        let m = made now.0 in
        let was : IsSure (state g c) = (back now.0, m.was_open) in
        let before : rows ≡ rows_in (state g c).now = held_is rows holds ∙ ap rows_in (sym (ready.settled was)) in
        ap change before ∙ sym (m.rows (ready.rows was)).1 ∙ ap rows_in m.settled

    pub rows_found : {X : Type 0} (first : List Row → X) (found : X) → IsReady (state g c)
        → (HasCleanDisk (state g new) → StaysCommitted (state g c) (state g new))
        → (HasCleanDisk (state g new) → IsTrue (state g new).is_open → found ≡ first (rows_in (state g c).now))
        → knows new → (rows : List Row) → HoldsRows g k rows → found ≡ first rows
    rows_found first found ready stays is_first sure rows holds =
        let now = sure_from new sure in
        let was : IsSure (state g c) = (back now.0, (stays now.0).was_open now.1) in
        let before : rows ≡ rows_in (state g c).now = held_is rows holds ∙ ap rows_in (sym (ready.settled was)) in
        is_first now.0 now.1 ∙ ap first (sym before)

    pub entries_passed : (P : List Entry → Type 0) → IsReady (state g c)
        → (HasCleanDisk (state g new) → StaysCommitted (state g c) (state g new))
        → (HasCleanDisk (state g new) → IsTrue (state g new).is_open → P ((state g c).now.trees 0))
        → knows new → (entries : List Entry) → HasEntries g k entries → P entries
    entries_passed P ready stays passed sure entries holds =
        let now = sure_from new sure in
        let was : IsSure (state g c) = (back now.0, (stays now.0).was_open now.1) in
        let has : entries ≡ (state g c).committed.trees 0 = rw is at holds in
        subst P (ap (λ (d : Database). d.trees 0) (ready.settled was) ∙ sym has) (passed now.0 now.1)

    -- an open store leaves its last commit alone, so what a crash could leave before is what the keeper held
    pub crash_leaves : (change : List Row → List Row) (Changes : Type 0) → IsReady (state g c)
        → Survives (state g c) (state g new) (λ db. (Changes → IsTrue (state g c).is_open)
        × (IsRowsDatabase (state g c).now → rows_of (db 0) ≡ change (rows_in (state g c).now)))
        → ((db : Trees) → IsTrue (state g c).is_open → (state g c).may_leave db → db ≡ (state g c).committed.trees)
        → IsTrue (is_sure g k) → IsTrue (state g new).is_clean → (rows held : List Row) → HoldsRows g k held
        → (db : Trees) × (state g new).may_leave db × (rows ≡ rows_of (db 0)) → (rows ≡ held) ⊎ (rows ≡ change held)
    crash_leaves change Changes ready survives settled sure clean rows held holds left =
        let known : knows c = rw is at sure in
        let was = sure_from c known in
        let before : held ≡ rows_in (state g c).now = held_is held holds ∙ ap rows_in (sym (ready.settled was)) in
        elim (survives.crash (no_doubt _ clean) left.0 left.1) [
          | inl earlier ↦
              inl (left.2 ∙ ap (λ (t : Trees). rows_of (t 0)) (settled left.0 was.1 earlier) ∙ sym (held_is held holds))
          | inr made ↦ inr (left.2 ∙ made.1 (ready.rows was) ∙ ap change (sym before))
        ]

    -- a commit of some changes over a connection that was shut adds nothing to what a crash may leave
    pub crash_adds : (change : List Row → List Row) (Changes : Type 0) → IsReady (state g c)
        → Survives (state g c) (state g new) (λ db. (Changes → IsTrue (state g c).is_open)
        × (IsRowsDatabase (state g c).now → rows_of (db 0) ≡ change (rows_in (state g c).now)))
        → IsTrue (state g new).is_clean → Changes → (rows : List Row)
        → (db : Trees) × (state g new).may_leave db × (rows ≡ rows_of (db 0))
        → MayLeave g k rows ⊎ (IsTrue (is_sure g k) × ((held : List Row) → HoldsRows g k held → rows ≡ change held))
    crash_adds change Changes ready survives clean some rows left =
        elim (survives.crash (no_doubt _ clean) left.0 left.1) [
          | inl earlier ↦
              let may : (db : Trees) × (state g c).may_leave db × (rows ≡ rows_of (db 0)) = (left.0, earlier, left.2) in
              inl (rw is may)
          | inr made ↦
              let was : IsSure (state g c) = (back (no_doubt _ clean), made.0 some) in
              let known : knows c = and_from _ _ (clean_of _ was.0) was.1 in
              let sure : IsTrue (is_sure g k) = rw is known in
              inr (
                sure,
                λ held holds.
                    let before : held ≡ rows_in (state g c).now = held_is held holds ∙ ap rows_in (sym (ready.settled was)) in
                    left.2 ∙ made.1 (ready.rows was) ∙ ap change (sym before),
              )
        ]

    -- the store was clean before
    pub clean_back : IsTrue (state g new).is_clean → IsTrue (has_clean_store g k)
    clean_back clean = let was : IsTrue (state g c).is_clean = clean_of _ (back (no_doubt _ clean)) in rw is was

    -- what a select leaves at a crash could be left before
    pub select_leaves : Survives (state g c) (state g new) (λ _. ⊥) → IsTrue (state g new).is_clean → (rows : List Row)
        → (db : Trees) × (state g new).may_leave db × (rows ≡ rows_of (db 0)) → MayLeave g k rows
    select_leaves survives clean rows left =
        elim (survives.crash (no_doubt _ clean) left.0 left.1) [
          | inl earlier ↦
              let may : (db : Trees) × (state g c).may_leave db × (rows ≡ rows_of (db 0)) = (left.0, earlier, left.2) in rw is may
          | inr made ↦ absurd made
        ]

  -- a connection that a clean store leaves open
  pub known_if_open : (new : Held S) → (HasCleanDisk (state g new) → IsTrue (state g new).is_open) → IsTrue (state g new).is_clean → knows new
  known_if_open new opens clean = and_from _ _ clean (opens (no_doubt _ clean))

  -- of an open store a crash leaves the last commit, and nothing else
  pub settled_rows : (new : Held S)
      → ((db : Trees) → IsTrue (state g new).is_open → (state g new).may_leave db → db ≡ (state g new).committed.trees)
      → (IsTrue (state g new).is_open → (state g new).may_leave (state g new).committed.trees)
      → knows new → (rows : List Row) → ((db : Trees) × (state g new).may_leave db × (rows ≡ rows_of (db 0)))
      ↔ (rows ≡ rows_of ((state g new).committed.trees 0))
  settled_rows new settled stays sure rows = (
    λ left. left.2 ∙ ap (λ (t : Trees). rows_of (t 0)) (settled left.0 (sure_from new sure).1 left.1),
    λ are. ((state g new).committed.trees, stays (sure_from new sure).1, are),
  )

-- ---- rows that were read ahead
next_from : (after : Option RowKey) (rows : List Row) (entries : List Entry) → first_row rows ≡ first_after after (rows_of entries)
    → PassesNone after entries (first_row rows) → AreNextOn rows entries → AreNext after rows entries
next_from after [] entries found passed next = tt
next_from after (row ∷ rows) entries found passed next = (found, passed, next)

-- the rows that a select read are those that come next
pub reads_next : {S : Type 0} (g : Ghosts S) (c new : Held S) → (HasCleanDisk (state g new) → HasCleanDisk (state g c)) → IsReady (state g c)
    → (HasCleanDisk (state g new) → StaysCommitted (state g c) (state g new)) → (after : Option RowKey) (rows : List Row)
    → (HasCleanDisk (state g new) → IsTrue (state g new).is_open → first_row rows ≡ first_after after (rows_in (state g c).now))
    → (HasCleanDisk (state g new) → IsTrue (state g new).is_open → PassesNone after ((state g c).now.trees 0) (first_row rows))
    → (HasCleanDisk (state g new) → IsTrue (state g new).is_open → AreNextOn rows ((state g c).now.trees 0))
    → IsSure (state g new) → AreNext after rows ((state g new).committed.trees 0)
reads_next g c new back ready stays after rows found passed next sure =
    let kept = stays sure.0 in
    let was : IsSure (state g c) = (back sure.0, kept.was_open sure.1) in
    let same = ap (λ (d : Database). d.trees 0) (ready.settled was ∙ sym (kept.committed sure.1)) in
    subst (AreNext after rows) same
    (next_from after rows ((state g c).now.trees 0) (found sure.0 sure.1) (passed sure.0 sure.1) (next sure.0 sure.1))

module _ {S : Type 0} (g : Ghosts S) (new old : SqliteKept S) (after asked : Option RowKey) (row : Row) (ahead rest : List Row)
    (asked_is : after ≡ asked) (first : ahead ≡ row ∷ rest) where
  next_by : (entries : List Entry) → AreNext after ahead entries
      → (Some row ≡ first_after asked (rows_of entries)) × PassesNone asked entries (Some row) × AreNext (Some row.key) rest entries
  next_by entries next = subst (λ l. AreNext asked l entries) first (subst (λ k. AreNext k ahead entries) asked_is next)

  ahead_found_by : (connection : Option (Held S)) → new.connection ≡ connection → old.connection ≡ connection → AreAhead g connection after ahead
      → IsTrue (is_sure g new) → (rows : List Row) → HoldsRows g old rows → Some row ≡ first_after asked rows
  ahead_found_by None new_is old_is next sure rows holds = absurd (rw old_is at holds)
  ahead_found_by (Some c) new_is old_is next sure rows holds =
      let known : IsTrue ((state g c).is_clean && (state g c).is_open) = rw new_is at sure in
      let here : rows ≡ rows_of ((state g c).committed.trees 0) = rw old_is at holds in
      (next_by ((state g c).committed.trees 0) (next (sure_from g c known))).0 ∙ ap (first_after asked) (sym here)

  ahead_passed_by : (connection : Option (Held S)) → new.connection ≡ connection → old.connection ≡ connection → AreAhead g connection after ahead
      → IsTrue (is_sure g new) → (entries : List Entry) → HasEntries g old entries → PassesNone asked entries (Some row)
  ahead_passed_by None new_is old_is next sure entries has = absurd (rw old_is at has)
  ahead_passed_by (Some c) new_is old_is next sure entries has =
      let known : IsTrue ((state g c).is_clean && (state g c).is_open) = rw new_is at sure in
      let here : entries ≡ (state g c).committed.trees 0 = rw old_is at has in
      subst (λ es. PassesNone asked es (Some row)) (sym here) (next_by ((state g c).committed.trees 0) (next (sure_from g c known))).1

  -- the row that was read ahead is the next of the rows that are held, and passes none over
  pub ahead_found : new.connection ≡ old.connection → AreAhead g old.connection after ahead
      → IsTrue (is_sure g new) → (rows : List Row) → HoldsRows g old rows → Some row ≡ first_after asked rows
  ahead_found same = ahead_found_by old.connection same refl

  pub ahead_passed : new.connection ≡ old.connection → AreAhead g old.connection after ahead
      → IsTrue (is_sure g new) → (entries : List Entry) → HasEntries g old entries → PassesNone asked entries (Some row)
  ahead_passed same = ahead_passed_by old.connection same refl

-- a keeper over a file holds what the file held
pub found_holds :
    {D : Type 0} {g : disk.Ghosts D} (k : SqliteKept (FileStore D g)) (c : Held (FileStore D g)) (db : Trees)
    → (file_state c).committed.trees ≡ db
    → (ListsRows (file_state c).committed.trees → HoldsRows over_files k (rows_of ((file_state c).committed.trees 0)))
    → ListsRows db → HoldsRows over_files k (rows_of (db 0))
found_holds k c db is holds lists =
    subst (λ (t : Trees). HoldsRows over_files k (rows_of (t 0))) is (holds (subst ListsRows (sym is) lists))
