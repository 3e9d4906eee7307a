use Rattle.std.proofs.Common.{◌≡◌, ◌≢◌, ◌⊎◌, false, IsTrue, List, [], refl, subst, arith}
use Rattle.std.proofs.lemmas.Bool.Decides.{nat_tests}
use Rattle.book_keeper.specs.Rows.{after_changes}
use Rattle.book_keeper.specs.declared.row.Change.{Change}
use Rattle.book_keeper.specs.declared.row.Row.{Row}
use Rattle.book_engine.specs.Planned.{commits}
use Rattle.book_engine.proofs.StandLemmas.{left_unchanged, plan_changes, stands_failed, stands_made}
use Rattle.book_engine.proofs.StandLemmas.{stands_unchanged}
use Rattle.book_engine.proofs.RoomLemmas.{same_room}
use Rattle.book_engine.proofs.engine.Engine.finish.Goals as goal

pub returns-then-not-commits-clause-stands : goal.returns-then-not-commits-clause-stands
returns-then-not-commits-clause-stands g c =
    let none : commits c.args.plan ≡ false =
    (let test = c.if-not-commits.true in let of = c.commits.ensures in grind (arith, nat_tests, test, of)) in
    stands_unchanged g.K.Keeper c.args.keeper.now c.args.self.now c.apply.new.self
    (left_unchanged c.args.self.now c.apply.new.self c.args.plan none (record {
      state = c.apply.ensures.state;
      saved = c.apply.ensures.saved;
    }))

pub returns-in-Ok-clause-stands : goal.returns-in-Ok-clause-stands
returns-in-Ok-clause-stands g c =
    let of = g.K.Keeper in
    let old = c.args.keeper.now in
    let new = c.commit.new.self in
    let some : IsTrue (commits c.args.plan) =
    (let test = c.if-not-commits.false in let of = c.commits.ensures in grind (arith, nat_tests, test, of)) in
    let Made : List Change → Type 0 = λ changes.
    IsTrue (of.sure new) → (rows : List Row) → of.holds old rows → of.holds new (after_changes changes rows) in
    stands_made of old new c.args.self.now c.apply-in-Ok.new.self c.args.plan c.in-Ok.ensures.sure
    c.in-Ok.ensures.known (subst Made c.changes.ensures c.in-Ok.ensures.made)
    c.in-Ok.ensures.settled (g.met.K.Keeper.one new) c.requires.made some (record {
      state = c.apply-in-Ok.ensures.state;
      saved = c.apply-in-Ok.ensures.saved;
    })

pub returns-in-Err-clause-stands : goal.returns-in-Err-clause-stands
returns-in-Err-clause-stands g c =
    let of = g.K.Keeper in
    let old = c.args.keeper.now in
    let new = c.commit.new.self in
    let some : IsTrue (commits c.args.plan) =
    (let test = c.if-not-commits.false in let of = c.commits.ensures in grind (arith, nat_tests, test, of)) in
    let Left : List Change → Type 0 = λ changes.
    IsTrue (of.honest new) → changes ≢ [] → (rows : List Row) → of.may_leave new rows
    → of.may_leave old rows ⊎ (IsTrue (of.sure old) × ((held : List Row) → of.holds old held
    → rows ≡ after_changes changes held)) in
    stands_failed of old new c.args.self.now c.args.self.now c.args.plan c.in-Err.ensures.sure c.in-Err.ensures.honest
    c.in-Err.ensures.unchanged (subst Left c.changes.ensures c.in-Err.ensures.left) c.requires.made some
    (record { same_state = refl; same_saved = refl })

pub returns-in-Err-clause-leaves : goal.returns-in-Err-clause-leaves
returns-in-Err-clause-leaves g c =
    let of = g.K.Keeper in
    let old = c.args.keeper.now in
    let new = c.commit.new.self in
    let some : IsTrue (commits c.args.plan) =
    (let test = c.if-not-commits.false in let of = c.commits.ensures in grind (arith, nat_tests, test, of)) in
    let Left : List Change → Type 0 = λ changes.
    IsTrue (of.honest new) → changes ≢ [] → (rows : List Row) → of.may_leave new rows
    → of.may_leave old rows ⊎ (IsTrue (of.sure old) × ((held : List Row) → of.holds old held
    → rows ≡ after_changes changes held)) in
    λ honest. subst Left c.changes.ensures c.in-Err.ensures.left honest
    (plan_changes c.args.self.now.state c.args.self.now.saved c.args.plan c.requires.made some)

pub returns-in-Err-clause-spare : goal.returns-in-Err-clause-spare
returns-in-Err-clause-spare g c = same_room c.args.self.now

pub returns-in-Err-clause-asked : goal.returns-in-Err-clause-asked
returns-in-Err-clause-asked g c none = same_room c.args.self.now
