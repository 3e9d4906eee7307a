-- What calls leave of a connection, from what the kit says of them.
use Rattle.std.proofs.Common.{◌≡◌, ◌⊎◌, ◌^◌, ℕ, ℤ, ◌<◌, ◌≤◌, pos, true, false, List, [], ◌∷◌, None, Some, Result, Ok, Err, IfOk, IfErr, OnOk, OnErr, inl, inr, refl, sym, ap, subst, ◌∙◌, arith, IsTrue}
use Rattle.sqlite_value.specs.declared.value.Value.TheVariants.{Int, Null}
use Rattle.sqlite_value.specs.Order.{Row as Entry}
use Rattle.sqlite.specs.declared.error.Error.{Error}
use Rattle.sqlite.specs.Listing.{understood}
use Rattle.sqlite.specs.State.{State, HasCleanDisk, IsUnchanged, IsRolledBack, KeepsCommit, Fails, IsNotRun, RunsAlone, RunsCommand, ExecutesIn, Executes, ExecutesInside, FailsToShow, FailsToQuery, Shown, Survives, shows_rows}
use Rattle.sqlite.proofs.Callers.{IsPlain, runs_as, reads_as}
use Rattle.book_keeper.specs.declared.row.Row.{Row}
use Rattle.book_keeper.specs.declared.row.RowKey.{RowKey}
use Rattle.book_keeper.specs.Rows.{with_row, without_row}
use Rattle.book_sqlite.specs.RowsSchema.{rows_schema}
use Rattle.book_sqlite.specs.RowsDatabase.{IsRowsDatabase}
use Rattle.book_sqlite.specs.RowCalls.{IsSure, IsReady, ChangesInside, StaysCommitted, Behind, From, Shows}
use Rattle.book_sqlite.proofs.Meanings.{put_text, put_is, put_plain, take_text, take_is, take_plain, behind_text, behind_is, behind_plain, behind_terms, from_text, from_is, from_plain, from_terms, unlisted}
use Rattle.book_sqlite.proofs.EntryLemmas.{entries}
use Rattle.book_sqlite.proofs.PutLemmas.{put_params, puts}
use Rattle.book_sqlite.proofs.TakeLemmas.{take_params, takes}
use Rattle.book_sqlite.proofs.FirstLemmas.{shows_first, behind_decides, from_decides}

-- ---- either nothing changed, or the transaction was undone
abbrev pub LeavesCommit : State → State → Type 0
LeavesCommit old new = IsUnchanged old new ⊎ IsRolledBack old new

not_run : (old new : State) (sql : List ℕ) (params : Entry) (e : Error) → IsNotRun old new sql params e → LeavesCommit old new
unfolding IsNotRun
not_run old new sql params e (inl refused) = inl refused.1
not_run old new sql params e (inr failed) = inr failed.3

runs_failed : (old new : State) (sql : List ℕ) (c : _) (params : Entry) (e : Error) → RunsCommand old new sql c params (Err e) → LeavesCommit old new
runs_failed old new sql c params e (inl refused) = inl refused.1
runs_failed old new sql c params e (inr failed) = inr failed.3

alone_failed : (old new : State) (sql : List ℕ) (c : _) (params : Entry) (e : Error) → RunsAlone false old new sql c params (Err e) → LeavesCommit old new
alone_failed old new sql c params e h = go (shows_rows false c) h
  where
    go : (b : _) → Rattle.std.specs.Prelude.MatchBool b (◌≡◌ {A = Rattle.std.proofs.Common.Result ℕ Error} (Err e) (Err Rattle.sqlite.specs.declared.error.Error.TheVariants.ExecuteReturnedResults) × IsUnchanged old new) (RunsCommand old new sql c params (Err e)) → LeavesCommit old new
    go true h = inl h.1
    go false h = runs_failed old new sql c params e h

pub executes_failed : (old new : State) (sql : List ℕ) (params : Entry) (e : Error) → Executes sql params old new (Err e) → LeavesCommit old new
unfolding ExecutesIn
executes_failed old new sql params e (inl refused) = not_run old new sql params e refused
executes_failed old new sql params e (inr ran) = alone_failed old new sql ran.0 _ e ran.2

to_show_failed : (old new : State) (sql : List ℕ) (c : _) (params : Entry) (e : Error) (o : _) → FailsToShow old new sql c params e o → LeavesCommit old new
to_show_failed old new sql c params e None h = inl h.3
to_show_failed old new sql c params e (Rattle.std.proofs.Common.Some what) h = runs_failed old new sql c params e h

pub query_failed : (old new : State) (sql : List ℕ) (params : Entry) (e : Error) → FailsToQuery sql params old new e → LeavesCommit old new
unfolding FailsToQuery
query_failed old new sql params e (inl refused) = not_run old new sql params e refused
query_failed old new sql params e (inr ran) = to_show_failed old new sql ran.0 _ e _ ran.2

pub left_commit : (old new : State) → LeavesCommit old new → KeepsCommit old new
left_commit old new (inl same) = record { was_open = λ _. same.0.was_open; committed = λ _. same.0.committed_is }
left_commit old new (inr undone) = record { was_open = undone.was_open; committed = λ is. (undone.undone is).1 }

-- ---- inside a transaction
pub inside_failed : (old new : State) (sql : List ℕ) (params : Entry) (e : Error) → ExecutesInside 0 sql params old new (Err e) → KeepsCommit old new
inside_failed old new sql params e (inl ran) = left_commit old new ran.1
inside_failed old new sql params e (inr scope) = left_commit old new (inl scope.2)

pub puts_inside : (old new : State) (row : Row) (count : ℕ) → row.key.kind < 2 ^ 8 → row.key.id < 2 ^ 64
    → ExecutesInside 0 put_text (put_params row) old new (Ok count) → ChangesInside old new (with_row row)
puts_inside old new row count low fits h = record {
  was_open = h.1.was_open;
  is_open = h.1.is_open;
  committed = h.1.committed_is;
  mode = h.1.mode;
  rows = λ it. puts old new _ row count it low fits
      (runs_as put_text (put_params row) old new rows_schema it.schema _ put_is put_plain count h.0);
}

pub takes_inside : (old new : State) (key : RowKey) (count : ℕ) → key.id < 2 ^ 64
    → ExecutesInside 0 take_text (take_params key) old new (Ok count) → ChangesInside old new (without_row key)
takes_inside old new key count fits h = record {
  was_open = h.1.was_open;
  is_open = h.1.is_open;
  committed = h.1.committed_is;
  mode = h.1.mode;
  rows = λ it. takes old new _ key count it fits
      (runs_as take_text (take_params key) old new rows_schema it.schema _ take_is take_plain count h.0);
}

-- ---- between transactions
pub stays : (old new : State) → (HasCleanDisk new → HasCleanDisk old) → IsReady old → HasCleanDisk new → LeavesCommit old new → StaysCommitted old new
stays old new back ready clean (inl same) = record {
  was_open = λ _. same.0.was_open;
  now_is = λ _. same.0.now_is ∙ ready.settled (back clean, same.0.was_open);
  committed = λ _. same.0.committed_is;
}
stays old new back ready clean (inr undone) = record {
  was_open = undone.was_open;
  now_is = λ is. (undone.undone is).0;
  committed = λ is. (undone.undone is).1;
}

pub stays_ready : (old new : State) → (HasCleanDisk new → HasCleanDisk old) → IsReady old → new.in_transaction ≡ false
    → (HasCleanDisk new → StaysCommitted old new) → IsReady new
stays_ready old new back ready mode kept = record {
  autocommit = mode;
  settled = λ sure. let k = kept sure.0 in k.now_is sure.1 ∙ sym (k.committed sure.1);
  rows = λ sure.
      let k = kept sure.0 in
      let was : IsSure old = (back sure.0, k.was_open sure.1) in
      subst IsRowsDatabase (ready.settled was ∙ sym (k.now_is sure.1)) (ready.rows was);
}

pub stays_then : (a b c : State) → StaysCommitted a b → StaysCommitted b c → StaysCommitted a c
stays_then a b c one two = record {
  was_open = λ is. one.was_open (two.was_open is);
  now_is = λ is. two.now_is is ∙ one.committed (two.was_open is);
  committed = λ is. two.committed is ∙ one.committed (two.was_open is);
}

-- ---- the selects
shown_unchanged : (sql : List ℕ) (params : Entry) (old new : State) (rows : List Entry) → old.now.schema ≡ rows_schema → IsPlain (understood rows_schema sql)
    → Shown sql params old new rows → IsUnchanged old new
unfolding Shown
shown_unchanged sql params old new rows has plain h =
    let known = sym h.1.is ∙ ap (λ s. understood s sql) has in
    let bare = subst IsPlain (sym known) plain in
    (rw bare.0 at h.2).3

pub shown_behind : (old new : State) (kind id : _) (rows : List Entry) → IsRowsDatabase old.now
    → Shown behind_text (Int kind ∷ Int id ∷ []) old new rows
    → Shows (Behind kind id) (old.now.trees 0) rows × IsUnchanged old new
shown_behind old new kind id rows it h =
    let params = Int kind ∷ Int id ∷ [] in
    let read = reads_as behind_text params old new rows_schema it.schema _ behind_is behind_plain unlisted.0 rows h in (
      shows_first behind_terms (Behind kind id) old.now.trees params (entries old.now it) (behind_decides kind id) rows (read.answer Null),
      shown_unchanged behind_text params old new rows it.schema behind_plain h,
    )

pub shown_from_kind : (old new : State) (kind : _) (rows : List Entry) → IsRowsDatabase old.now
    → Shown from_text (Int kind ∷ []) old new rows
    → Shows (From kind) (old.now.trees 0) rows × IsUnchanged old new
shown_from_kind old new kind rows it h =
    let params = Int kind ∷ [] in
    let read = reads_as from_text params old new rows_schema it.schema _ from_is from_plain unlisted.1 rows h in (
      shows_first from_terms (From kind) old.now.trees params (entries old.now it) (from_decides kind) rows (read.answer Null),
      shown_unchanged from_text params old new rows it.schema from_plain h,
    )

-- ---- answers of the functions with one statement
pub put_answer :
    (old new : State) (row : Row) (params : Entry) (r : Result ℕ Error) → params ≡ put_params row → row.key.kind < 2 ^ 8 → row.key.id < 2 ^ 64
    → (HasCleanDisk new → IsTrue old.in_transaction → ExecutesInside 0 put_text params old new r)
    → OnOk r (HasCleanDisk new → IsTrue old.in_transaction → ChangesInside old new (with_row row))
put_answer old new row params (Ok count) is low fits h = λ clean inside.
    puts_inside old new row count low fits (subst (λ p. ExecutesInside 0 put_text p old new (Ok count)) is (h clean inside))
put_answer old new row params (Err e) is low fits h = tt

pub take_answer :
    (old new : State) (key : RowKey) (params : Entry) (r : Result ℕ Error) → params ≡ take_params key → key.id < 2 ^ 64
    → (HasCleanDisk new → IsTrue old.in_transaction → ExecutesInside 0 take_text params old new r)
    → OnOk r (HasCleanDisk new → IsTrue old.in_transaction → ChangesInside old new (without_row key))
take_answer old new key params (Ok count) is fits h = λ clean inside.
    takes_inside old new key count fits (subst (λ p. ExecutesInside 0 take_text p old new (Ok count)) is (h clean inside))
take_answer old new key params (Err e) is fits h = tt

pub kept_answer :
    (old new : State) (sql : List ℕ) (params : Entry) (r : Result ℕ Error)
    → (HasCleanDisk new → IsTrue old.in_transaction → ExecutesInside 0 sql params old new r)
    → OnErr r (HasCleanDisk new → IsTrue old.in_transaction → KeepsCommit old new)
kept_answer old new sql params (Ok count) h = tt
kept_answer old new sql params (Err e) h = λ clean inside. inside_failed old new sql params e (h clean inside)

-- ---- answers of the selects
shown_open_by : (old new : State) (sql : List ℕ) (c : _) (params : Entry) (rows : List Entry) (o : _)
    → Rattle.sqlite.specs.State.ShowsRows old new sql c params rows o → IsTrue old.is_open
shown_open_by old new sql c params rows None h = h.3.0.was_open
shown_open_by old new sql c params rows (Some what) h = h.1.shown.was_open

shown_open : (old new : State) (sql : List ℕ) (params : Entry) (rows : List Entry) → Shown sql params old new rows → IsTrue old.is_open
unfolding Shown
shown_open old new sql params rows h = shown_open_by old new sql h.0 _ rows _ h.2

module _ {A : Type 0} (items : A → List Entry) (old new : State) (back : HasCleanDisk new → HasCleanDisk old) (ready : IsReady old) where
  pub select_left :
      (sql : List ℕ) (params : Entry) (plain : IsPlain (understood rows_schema sql)) (r : Result A Error)
      → (HasCleanDisk new → IfOk r (λ rows. Shown sql params old new (items rows)))
      → (HasCleanDisk new → IfErr r (FailsToQuery sql params old new)) → HasCleanDisk new → StaysCommitted old new
  select_left sql params plain (Ok rows) ok err clean =
      let h = ok clean in
      let it = ready.rows (back clean, shown_open old new sql params (items rows) h) in
      stays old new back ready clean (inl (shown_unchanged sql params old new (items rows) it.schema plain h))
  select_left sql params plain (Err e) ok err clean = stays old new back ready clean (query_failed old new sql params e (err clean))

  -- a select that shows rows leaves the connection open
  pub select_open :
      (sql : List ℕ) (params : Entry) (plain : IsPlain (understood rows_schema sql)) (r : Result A Error)
      → (HasCleanDisk new → IfOk r (λ rows. Shown sql params old new (items rows)))
      → OnOk r (HasCleanDisk new → IsTrue new.is_open)
  select_open sql params plain (Ok rows) ok = λ clean.
      let h = ok clean in
      let it = ready.rows (back clean, shown_open old new sql params (items rows) h) in
      (shown_unchanged sql params old new (items rows) it.schema plain h).0.is_open
  select_open sql params plain (Err e) ok = tt

  pub behind_answer :
      (kind id : ℤ) (params : Entry) (r : Result A Error) → params ≡ Int kind ∷ Int id ∷ []
      → (HasCleanDisk new → IfOk r (λ rows. Shown behind_text params old new (items rows)))
      → IfOk r (λ rows. HasCleanDisk new → IsTrue new.is_open → Shows (Behind kind id) (old.now.trees 0) (items rows))
  behind_answer kind id params (Ok rows) same ok = λ clean is.
      let h = subst (λ p. Shown behind_text p old new (items rows)) same (ok clean) in
      let it = ready.rows (back clean, shown_open old new behind_text (Int kind ∷ Int id ∷ []) (items rows) h) in
      (shown_behind old new kind id (items rows) it h).0
  behind_answer kind id params (Err e) same ok = tt

  pub from_answer :
      (kind : ℤ) (params : Entry) (r : Result A Error) → params ≡ Int kind ∷ []
      → (HasCleanDisk new → IfOk r (λ rows. Shown from_text params old new (items rows)))
      → IfOk r (λ rows. HasCleanDisk new → IsTrue new.is_open → Shows (From kind) (old.now.trees 0) (items rows))
  from_answer kind params (Ok rows) same ok = λ clean is.
      let h = subst (λ p. Shown from_text p old new (items rows)) same (ok clean) in
      let it = ready.rows (back clean, shown_open old new from_text (Int kind ∷ []) (items rows) h) in
      (shown_from_kind old new kind (items rows) it h).0
  from_answer kind params (Err e) same ok = tt
