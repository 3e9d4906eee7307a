use Rattle.std.proofs.Common.{◌≡◌, ℕ, [], Some, None, length, ◌∙◌, subst, arith}
use Rattle.book_ledger.specs.Change.{ArePut}
use Rattle.book_ledger.proofs.ChangeLemmas.{all_put, put_more, put_none}
use Rattle.book_ledger.proofs.CountsLemmas.{free_left_before, lacks_left}
use Rattle.book_ledger.proofs.OpeningLemmas.{counts_extended, none_held, put_extended}
use Rattle.book_ledger.proofs.registers.Registers.add_rows.Goals as goal

pub loop-place-init : goal.loop-place-init
loop-place-init c = record {
  rows = put_none c.args.number (Some c.args.transaction.now) None c.args.self.now.entries;
  counts = λ free counts. counts;
  kept = λ account there. there;
}

pub loop-place-preserved : goal.loop-place-preserved
loop-place-preserved c =
    let inv = c.loop-place.invariant in
    let t = c.args.transaction.now in
    let old = c.args.self.now.entries in
    let mid = c.make_room_for.new.self.entries in
    let number = c.args.number in
    let place = c.loop-place.place in
    let put = put_extended number place (Some t) None old c.loop-place.self.entries mid inv.rows
    c.make_room_for.ensures.extends in
    record {
      rows = put_more number place (Some t) None c.left-row.result old mid c.put.new.self.entries put
          c.left-row.ensures c.put.ensures.rows;
      counts = λ free counts.
          c.put.ensures.changes []
          (lacks_left number place (Some t) None c.left-row.result [] c.left-row.ensures (none_held number))
          (free_left_before number place (Some t) None c.left-row.result old mid c.left-row.ensures free put)
          (counts_extended [] c.loop-place.self.entries mid c.make_room_for.ensures.extends
          (inv.counts free counts));
      kept = λ account there.
          c.put.ensures.there account
          ∙ c.make_room_for.ensures.extends.kept account (inv.kept account there);
    }

pub returns-in_err-make_room_for-clause-kept : goal.returns-in_err-make_room_for-clause-kept
returns-in_err-make_room_for-clause-kept c = λ account there.
    c.make_room_for.ensures.extends.kept account (c.loop-place.invariant.kept account there)

pub returns-clause-rows : goal.returns-clause-rows
returns-clause-rows c =
    let t = c.args.transaction.now in
    let old = c.args.self.now.entries in
    let new = c.loop-place.self.entries in
    let end : c.loop-place.place ≡ length t.splits =
    omega (arith, c.loop-place-test.false, c.loop-place.auto.place-end, c.len-place-end.ensures) in
    all_put c.args.number t None old new
    (subst (λ (n : ℕ). ArePut c.args.number (Some t) None n old new) end c.loop-place.invariant.rows)
