use Rattle.std.proofs.Common.{◌≡◌, ◌≢◌, pos, [], ap, sym, subst, ◌∙◌, arith, rules}
use Rattle.std.proofs.lemmas.Int.{ints}
use Rattle.sqlite.specs.Held.{state}
use Rattle.sqlite.specs.Effect.{Database}
use Rattle.book_keeper.specs.Rows.{first_row}
use Rattle.book_sqlite.specs.RowsDatabase.{rows_in}
use Rattle.book_sqlite.specs.RowCalls.{Behind, IsFound, NoneBefore}
use Rattle.book_sqlite.proofs.FoundLemmas.{behind_next, from_next}
use Rattle.book_sqlite.proofs.PassedLemmas.{behind_passed, from_passed}
use Rattle.book_sqlite.proofs.NextLemmas.{next_kept}
use Rattle.book_sqlite.proofs.selects.rows_next.Goals as goal

pub returns-then-not-is_empty-clause-found : goal.returns-then-not-is_empty-clause-found
returns-then-not-is_empty-clause-found g c = λ clean is.
    let old = state g.S.Store c.args.conn.now in
    let some : c.in_ok-rows.rows.items ≢ [] = search rules in
    behind_next (old.now.trees 0) c.args.key (pos c.min.result) c.in_ok-rows.rows.items (omega arith) (omega (arith, ints, c.min.ensures))
    some (c.in_ok-rows.ensures.found clean is)

pub returns-clause-found : goal.returns-clause-found
returns-clause-found g c =
    let old = state g.S.Store c.args.conn.now in
    let mid = state g.S.Store c.rows_behind.new.conn in
    let none : c.in_ok-rows.rows.items ≡ [] = search rules in
    from_next (λ rows. rows.items) _ _ (old.now.trees 0) (mid.now.trees 0) c.args.key (pos c.min.result) c.rows_from.result (omega arith)
    (omega (arith, ints, c.min.ensures))
    (λ clean is. subst (λ rows. IsFound (Behind (pos c.args.key.kind) (pos c.min.result)) (rows_in old.now) (first_row rows)) none
    (c.in_ok-rows.ensures.found (c.rows_from.ensures.clean clean) ((c.rows_from.ensures.stays clean).was_open is)))
    (λ clean is.
    let early = c.rows_from.ensures.clean clean in
    let open_mid = (c.rows_from.ensures.stays clean).was_open is in
    let kept = c.rows_behind.ensures.stays early in
    ap rows_in (kept.now_is open_mid ∙ sym (c.requires.settled (c.rows_behind.ensures.clean early, kept.was_open open_mid))))
    c.rows_from.ensures.found

pub returns-then-not-is_empty-clause-none_passed : goal.returns-then-not-is_empty-clause-none_passed
returns-then-not-is_empty-clause-none_passed g c = λ clean is.
    let old = state g.S.Store c.args.conn.now in
    let some : c.in_ok-rows.rows.items ≢ [] = search rules in
    behind_passed (old.now.trees 0) c.args.key (pos c.min.result) c.in_ok-rows.rows.items (omega (arith, ints, c.min.ensures))
    some (c.in_ok-rows.ensures.found clean is) (c.in_ok-rows.ensures.none_before clean is)

pub returns-clause-none_passed : goal.returns-clause-none_passed
returns-clause-none_passed g c =
    let old = state g.S.Store c.args.conn.now in
    let mid = state g.S.Store c.rows_behind.new.conn in
    let none : c.in_ok-rows.rows.items ≡ [] = search rules in
    from_passed (λ rows. rows.items) _ _ (old.now.trees 0) (mid.now.trees 0) c.args.key (pos c.min.result) c.rows_from.result
    (omega (arith, ints, c.min.ensures))
    (λ clean is. subst (λ rows. NoneBefore (Behind (pos c.args.key.kind) (pos c.min.result)) (old.now.trees 0) (first_row rows)) none
    (c.in_ok-rows.ensures.none_before (c.rows_from.ensures.clean clean) ((c.rows_from.ensures.stays clean).was_open is)))
    (λ clean is.
    let early = c.rows_from.ensures.clean clean in
    let open_mid = (c.rows_from.ensures.stays clean).was_open is in
    let kept = c.rows_behind.ensures.stays early in
    ap (λ (d : Database). d.trees 0) (kept.now_is open_mid ∙ sym (c.requires.settled (c.rows_behind.ensures.clean early, kept.was_open open_mid))))
    c.rows_from.ensures.none_before

pub returns-clause-next : goal.returns-clause-next
returns-clause-next g c =
    let old = state g.S.Store c.args.conn.now in
    let mid = state g.S.Store c.rows_behind.new.conn in
    next_kept (λ rows. rows.items) _ _ (old.now.trees 0) (mid.now.trees 0) c.rows_from.result
    (λ clean is.
    let early = c.rows_from.ensures.clean clean in
    let open_mid = (c.rows_from.ensures.stays clean).was_open is in
    let kept = c.rows_behind.ensures.stays early in
    ap (λ (d : Database). d.trees 0) (kept.now_is open_mid ∙ sym (c.requires.settled (c.rows_behind.ensures.clean early, kept.was_open open_mid))))
    c.rows_from.ensures.next
