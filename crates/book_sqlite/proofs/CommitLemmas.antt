-- A transaction of changes, from its beginning to its end.
use Rattle.std.proofs.Common.{◌≡◌, ◌≢◌, ◌⊎◌, ◌^◌, ◌<◌, ◌+◌, ℕ, zero, suc, drop, false, List, [], ◌∷◌, Result, Ok, Err, OnOk, OnErr, IfErr, inl, inr, sym, ap, subst, ◌∙◌, IsTrue, true≢false}
use Rattle.sqlite_trees.specs.Tree.{Trees}
use Rattle.sqlite.specs.declared.error.Error.{Error}
use Rattle.sqlite.specs.State.{State, HasCleanDisk, KeepsCounts, KeepsCommit, Shows, IsRolledBack, Survives}
use Rattle.sqlite.specs.Steps.{FailsToCommit}
use Rattle.sqlite.proofs.StateLemmas.{survives_then}
use Rattle.book_keeper.specs.declared.row.Change.{Change}
use Rattle.book_keeper.specs.Rows.{rank, changed_key, AreRisingFrom, after_change, after_changes}
use Rattle.book_sqlite.specs.Content.{rows_of}
use Rattle.book_sqlite.specs.RowsDatabase.{IsRowsDatabase, rows_in}
use Rattle.book_sqlite.specs.RowCalls.{ChangesInside, Committed, StaysCommitted}
use Rattle.book_sqlite.specs.CommitCalls.{IsMaking}

-- the numbers of rising changes are small
pub fits_at : (n : ℕ) (changes : List Change) (i : ℕ) (change : Change) (rest : List Change) → AreRisingFrom n changes
    → drop i changes ≡ change ∷ rest → (changed_key change).id < 2 ^ 62
fits_at n [] zero change rest rise is = absurd cc
fits_at n [] (suc i) change rest rise is = absurd cc
fits_at n (c ∷ changes) zero change rest rise is =
    let same : c ≡ change = cc in subst (λ (x : Change). (changed_key x).id < 2 ^ 62) same rise.1
fits_at n (c ∷ changes) (suc i) change rest rise is = fits_at (rank (changed_key c) + 1) changes i change rest rise.2 is

pub making_step : (old mid new : State) (change : Change) (rest all : List Change) → IsMaking old mid (change ∷ rest) all
    → ChangesInside mid new (after_change change) → IsMaking old new rest all
making_step old mid new change rest all m step = record {
  kept = record {
    was_open = λ is. m.kept.was_open step.was_open;
    committed = λ is. step.committed ∙ m.kept.committed step.was_open;
  };
  mode = step.mode;
  began = inr (m.kept.was_open step.was_open);
  rows = λ it.
      let r = m.rows it in
      let s = step.rows r.0 in (s.0, ap (after_changes rest) s.1 ∙ r.1);
}

-- what is undone after the last commit was kept stays committed
pub undone_stays : (old last end : State) → KeepsCommit old last → IsRolledBack last end → StaysCommitted old end
undone_stays old last end kept undone = record {
  was_open = λ is. kept.was_open (undone.was_open is);
  now_is = λ is. (undone.undone is).0 ∙ kept.committed (undone.was_open is);
  committed = λ is. (undone.undone is).1 ∙ kept.committed (undone.was_open is);
}

pub kept_then : (a b c : State) → KeepsCommit a b → KeepsCommit b c → KeepsCommit a c
kept_then a b c one two = record {
  was_open = λ is. one.was_open (two.was_open is);
  committed = λ is. two.committed is ∙ one.committed (two.was_open is);
}

pub at_error : {A : Type 0} {P : Type 0} (r : Result A Error) → P → OnErr r P
at_error (Ok a) p = tt
at_error (Err e) p = p

pub at_ok : {A : Type 0} {P : Type 0} (r : Result A Error) → P → OnOk r P
at_ok (Ok a) p = p
at_ok (Err e) p = tt

module _ (old last end : State) (all : List Change) (back : HasCleanDisk end → HasCleanDisk last) (making : HasCleanDisk last → IsMaking old last [] all) where
  pub commit_made : {A : Type 0} (r : Result A Error)
      → (HasCleanDisk end → OnOk r (IsTrue last.in_transaction × Shows last end last.now last.now false × KeepsCounts last end × (end.marks ≡ [])))
      → OnOk r (HasCleanDisk end → Committed old end (after_changes all))
  commit_made (Ok a) ok = λ clean.
      let h = ok clean in
      let m = making (back clean) in
      record {
        was_open = m.kept.was_open h.1.was_open;
        is_open = h.1.is_open;
        settled = h.1.now_is ∙ sym h.1.committed_is;
        rows = λ it. let r = m.rows it in (subst IsRowsDatabase (sym h.1.now_is) r.0, ap rows_in h.1.now_is ∙ r.1);
      }
  commit_made (Err e) ok = tt

  failed : (e : Error) → FailsToCommit last end e → HasCleanDisk end → StaysCommitted old end
  failed e (inl fails) clean = undone_stays old last end (making (back clean)).kept fails.3
  failed e (inr outside) clean = absurd (true≢false (sym (making (back clean)).mode ∙ outside.1))

  pub commit_undone : {A : Type 0} (r : Result A Error) → (HasCleanDisk end → IfErr r (FailsToCommit last end))
      → OnErr r (HasCleanDisk end → StaysCommitted old end)
  commit_undone (Ok a) err = tt
  commit_undone (Err e) err = λ clean. failed e (err clean) clean

  was_open_for : ([] ≡ all) ⊎ IsTrue old.is_open → all ≢ [] → IsTrue old.is_open
  was_open_for (inl none) some = absurd (some (sym none))
  was_open_for (inr is) some = is

  pub commit_survives : Survives old last (λ _. ⊥) → Survives last end (λ db. db ≡ last.now.trees)
      → Survives old end (λ db. (all ≢ [] → IsTrue old.is_open)
      × (IsRowsDatabase old.now → rows_of (db 0) ≡ after_changes all (rows_in old.now)))
  commit_survives one two =
      survives_then old last end _ _ _ (λ _ db none. absurd none)
      (λ clean db is.
      let m = making (back clean) in
      (was_open_for m.began, λ it. ap (λ (t : Trees). rows_of (t 0)) is ∙ (m.rows it).1)) one two
