use Rattle.std.proofs.Common.{◌≡◌, ◌≢◌, [], IsTrue, refl, sym, subst, ◌∙◌, arith, rules, drop}
use Rattle.std.proofs.lemmas.List.{drop_all}
use Rattle.sqlite.specs.State.{HasCleanDisk, Survives}
use Rattle.sqlite.specs.Held.{state}
use Rattle.sqlite.proofs.StateLemmas.{survives_then}
use Rattle.book_commodity.proofs.ListLemmas.{from-item}
use Rattle.book_keeper.specs.Rows.{after_changes}
use Rattle.book_sqlite.specs.Content.{rows_of}
use Rattle.book_sqlite.specs.RowsDatabase.{IsRowsDatabase, rows_in}
use Rattle.book_sqlite.specs.RowCalls.{Committed, StaysCommitted}
use Rattle.book_sqlite.specs.CommitCalls.{IsMaking}
use Rattle.book_sqlite.proofs.CommitLemmas.{fits_at, making_step, undone_stays, kept_then, at_error, commit_made, commit_undone, commit_survives}
use Rattle.book_sqlite.proofs.commit.make_all.Goals as goal

pub make-requires : goal.make-requires
make-requires g c =
    fits_at 0 c.args.changes.now c.loop-change.change-index c.change-item.result _ c.requires.rising
    (from-item c.args.changes.now c.loop-change.change-index c.change-item.result c.loop-change-test.true c.change-item.is)

pub loop-change-preserved : goal.loop-change-preserved
loop-change-preserved g c =
    let old = state g.S.Store c.args.conn.now in
    let mid = state g.S.Store c.loop-change.tx.conn.now in
    let new = state g.S.Store c.make.new.tx.conn.now in
    let left = from-item c.args.changes.now c.loop-change.change-index c.change-item.result c.loop-change-test.true c.change-item.is in
    record {
      same = c.make.ensures.same_reference ∙ c.loop-change.invariant.same;
      survives = survives_then old mid new _ _ (λ _. ⊥) (λ _ db none. none) (λ _ db none. none) c.loop-change.invariant.survives c.make.ensures.survives;
      making = λ clean.
          let early : HasCleanDisk mid = omega (arith, clean, c.make.ensures.survives.clean) in
          let m = c.loop-change.invariant.making early in
          making_step old mid new c.change-item.result _ c.args.changes.now (subst (λ l. IsMaking old mid l c.args.changes.now) left m)
          (c.in_ok-make.ensures.made clean m.mode);
    }

pub returns-in_err-make-clause-unchanged : goal.returns-in_err-make-clause-unchanged
returns-in_err-make-clause-unchanged g c =
    let old = state g.S.Store c.args.conn.now in
    let mid = state g.S.Store c.loop-change.tx.conn.now in
    let last = state g.S.Store c.make.new.tx.conn.now in
    let same : c.drop-tx.new.self.0 ≡ c.conn-1.given.0 = search rules in
    at_error c.from_residual.result (subst (λ h. HasCleanDisk (state g.S.Store h) → StaysCommitted old (state g.S.Store h)) same (λ clean.
    let late : HasCleanDisk last = omega (arith, clean, c.drop-tx.ensures.survives.clean) in
    let early : HasCleanDisk mid = omega (arith, late, c.make.ensures.survives.clean) in
    let m = c.loop-change.invariant.making early in
    undone_stays old last (state g.S.Store c.drop-tx.new.self.0)
    (kept_then old mid last m.kept (c.in_err-make.ensures.kept late m.mode)) (c.drop-tx.ensures.undone clean)))

pub returns-clause-made : goal.returns-clause-made
returns-clause-made g c =
    let old = state g.S.Store c.args.conn.now in
    let last = state g.S.Store c.loop-change.tx.conn.now in
    let end = c.commit.new.self.0 in
    let all = c.args.changes.now in
    let same : end ≡ c.conn-2-1.given.0 = search rules in
    let none = drop_all c.loop-change.change-index all (omega (arith, c.loop-change-test.false)) in
    subst (λ h. Rattle.std.proofs.Common.OnOk c.commit.result (HasCleanDisk (state g.S.Store h) → Committed old (state g.S.Store h) (after_changes all))) same
    (commit_made old last (state g.S.Store end) all (λ clean. omega (arith, clean, c.commit.ensures.survives.clean))
    (λ clean. subst (λ l. IsMaking old last l all) none (c.loop-change.invariant.making clean)) c.commit.result c.commit.ensures.ok)

pub returns-clause-unchanged : goal.returns-clause-unchanged
returns-clause-unchanged g c =
    let old = state g.S.Store c.args.conn.now in
    let last = state g.S.Store c.loop-change.tx.conn.now in
    let end = c.commit.new.self.0 in
    let all = c.args.changes.now in
    let same : end ≡ c.conn-2-1.given.0 = search rules in
    let none = drop_all c.loop-change.change-index all (omega (arith, c.loop-change-test.false)) in
    subst (λ h. Rattle.std.proofs.Common.OnErr c.commit.result (HasCleanDisk (state g.S.Store h) → StaysCommitted old (state g.S.Store h))) same
    (commit_undone old last (state g.S.Store end) all (λ clean. omega (arith, clean, c.commit.ensures.survives.clean))
    (λ clean. subst (λ l. IsMaking old last l all) none (c.loop-change.invariant.making clean)) c.commit.result c.commit.ensures.err)

pub returns-clause-survives : goal.returns-clause-survives
returns-clause-survives g c =
    let old = state g.S.Store c.args.conn.now in
    let last = state g.S.Store c.loop-change.tx.conn.now in
    let end = c.commit.new.self.0 in
    let all = c.args.changes.now in
    let same : end ≡ c.conn-2-1.given.0 = search rules in
    let none = drop_all c.loop-change.change-index all (omega (arith, c.loop-change-test.false)) in
    subst (λ h. Survives old (state g.S.Store h) (λ db. (all ≢ [] → IsTrue old.is_open) × (IsRowsDatabase old.now → rows_of (db 0) ≡ after_changes all (rows_in old.now)))) same
    (commit_survives old last (state g.S.Store end) all (λ clean. omega (arith, clean, c.commit.ensures.survives.clean))
    (λ clean. subst (λ l. IsMaking old last l all) none (c.loop-change.invariant.making clean)) c.loop-change.invariant.survives c.commit.ensures.survives)
