-- The laws of a keeper in SQLite.
use Rattle.std.proofs.Common.{◌≡◌, ◌∙◌, ◌&&◌, List, [], ◌∷◌, Option, Some, None, false, true, IsTrue, refl, sym, subst}
use Rattle.std.proofs.lemmas.Bool.{and_parts}
use Rattle.sqlite_value.specs.Order.{Row as Entry}
use Rattle.sqlite_trees.specs.declared.store.Store.{Ghosts}
use Rattle.sqlite.specs.Held.{Held, state}
use Rattle.book_keeper.specs.declared.row.Row.{Row}
use Rattle.book_keeper.specs.Rows.{Rises}
use Rattle.book_keeper.proofs.RowLemmas.{rises_with}
use Rattle.book_sqlite.specs.Content.{row_held, with_held, rows_of}
use Rattle.book_sqlite.specs.KeeperInSqlite.{SqliteKept, is_sure, HoldsRows, has_clean_store}

rises_held : (held : Option Row) (rows : List Row) → Rises rows → Rises (with_held held rows)
rises_held None rows up = up
rises_held (Some row) rows up = rises_with row rows up

-- the rows that entries hold are in the order of their keys
pub rises_of : (es : List Entry) → Rises (rows_of es)
rises_of [] = tt
rises_of (e ∷ es) = rises_held (row_held e) (rows_of es) (rises_of es)

module _ {S : Type 0} (g : Ghosts S) where
  told_by :
      (connection : Option (Held S)) (k : SqliteKept S) → k.connection ≡ connection → IsTrue (is_sure g k)
      → (rows : List Row) × HoldsRows g k rows
  told_by None k is sure = absurd (let none : false ≡ true = rw is at sure in cc)
  told_by (Some c) k is sure = (rows_of ((state g c).committed.trees 0), rw is refl)

  -- a keeper that is sure holds rows
  pub told_rows : (k : SqliteKept S) → IsTrue (is_sure g k) → (rows : List Row) × HoldsRows g k rows
  told_rows k sure = told_by k.connection k refl sure

  trusted_by :
      (connection : Option (Held S)) (k : SqliteKept S) → k.connection ≡ connection → IsTrue (is_sure g k)
      → IsTrue (has_clean_store g k)
  trusted_by None k is sure = absurd (let none : false ≡ true = rw is at sure in cc)
  trusted_by (Some c) k is sure =
      let known : IsTrue ((state g c).is_clean && (state g c).is_open) = rw is at sure in
      let clean : IsTrue (state g c).is_clean = (and_parts _ _ known).0 in rw is clean

  -- the store of a keeper that is sure is clean
  pub trusted_store : (k : SqliteKept S) → IsTrue (is_sure g k) → IsTrue (has_clean_store g k)
  trusted_store k sure = trusted_by k.connection k refl sure

  rising_by :
      (connection : Option (Held S)) (k : SqliteKept S) (rows : List Row) → k.connection ≡ connection
      → HoldsRows g k rows → Rises rows
  rising_by None k rows is holds = absurd (rw is at holds)
  rising_by (Some c) k rows is holds =
      let same : rows ≡ rows_of ((state g c).committed.trees 0) = rw is at holds in
      subst Rises (sym same) (rises_of ((state g c).committed.trees 0))

  -- the rows that it holds rise
  pub rising_rows : (k : SqliteKept S) (rows : List Row) → HoldsRows g k rows → Rises rows
  rising_rows k rows holds = rising_by k.connection k rows refl holds

  only_by :
      (connection : Option (Held S)) (k : SqliteKept S) (rows other : List Row) → k.connection ≡ connection
      → HoldsRows g k rows → HoldsRows g k other → rows ≡ other
  only_by None k rows other is first second = absurd (rw is at first)
  only_by (Some c) k rows other is first second =
      let one : rows ≡ rows_of ((state g c).committed.trees 0) = rw is at first in
      let two : other ≡ rows_of ((state g c).committed.trees 0) = rw is at second in
      one ∙ sym two

  -- the rows that it holds are one list
  pub only_rows : (k : SqliteKept S) (rows other : List Row) → HoldsRows g k rows → HoldsRows g k other → rows ≡ other
  only_rows k rows other first second = only_by k.connection k rows other refl first second
