use Rattle.std.proofs.Common.{◌≡◌, ℕ, ◌<◌, Option, Some, Bor, length, refl, sym, ap, ◌∙◌, subst, arith}
use Rattle.std.specs.Option.{option_copied}
use Rattle.book_splits.specs.declared.transaction.Txn.{Txn}
use Rattle.book_ledger.specs.Change.{AllPut, ArePut}
use Rattle.book_ledger.specs.Room.{splits_on, txn_splits_on}
use Rattle.book_ledger.proofs.ChangeLemmas.{all_put, put_more, put_none}
use Rattle.book_ledger.specs.Counts.{AreFree, CountsFrom}
use Rattle.book_ledger.proofs.CountsLemmas.{free_left_before, lacks_left}
use Rattle.book_ledger.proofs.RoomLemmas.{one_less, room_for_row}
use Rattle.book_ledger.proofs.registers.Registers.put_in.Goals as goal

pub put-requires : goal.put-requires
put-requires c =
    let within : c.loop-place.place < length c.in-Some.transaction.now.splits =
    omega (arith, c.loop-place-test.true, c.len-place-end.ensures) in
    room_for_row c.args.number c.loop-place.place c.in-Some.transaction.now (option_copied c.args.old) c.left.result
    c.loop-place.self.entries c.left.ensures within c.loop-place.invariant.room

pub loop-place-init : goal.loop-place-init
loop-place-init c = record {
  rows = put_none c.args.number (Some c.in-Some.transaction.now) (option_copied c.args.old) c.args.self.now.entries;
  changes = λ first there free counts. counts;
  there = λ account. refl;
  room = λ account.
      let count = ap (λ (o : Option (Bor Txn)). txn_splits_on account (option_copied o)) c.in-Some.is in
      omega (arith, count, c.requires.room account);
  less = λ account. omega arith;
}

pub loop-place-preserved : goal.loop-place-preserved
loop-place-preserved c =
    let inv = c.loop-place.invariant in
    let t = c.in-Some.transaction.now in
    let within : c.loop-place.place < length t.splits =
    omega (arith, c.loop-place-test.true, c.len-place-end.ensures) in
    record {
      rows = put_more c.args.number c.loop-place.place (Some t)
          (option_copied c.args.old) c.left.result c.args.self.now.entries c.loop-place.self.entries
          c.put.new.self.entries inv.rows c.left.ensures c.put.ensures.rows;
      changes = λ first there free counts.
          let number = c.args.number in
          let other = option_copied c.args.old in
          let place = c.loop-place.place in
          c.put.ensures.changes first
          (lacks_left number place (Some t) other c.left.result first c.left.ensures there)
          (free_left_before number place (Some t) other c.left.result c.args.self.now.entries
          c.loop-place.self.entries c.left.ensures free inv.rows) (inv.changes first there free counts);
      there = λ account. c.put.ensures.there account ∙ inv.there account;
      room = λ account.
          let one = one_less account c.args.number c.loop-place.place t (option_copied c.args.old) c.left.result
          c.left.ensures within in
          omega (arith, one, c.put.ensures.room account, inv.room account);
      less = λ account.
          let one = one_less account c.args.number c.loop-place.place t (option_copied c.args.old) c.left.result
          c.left.ensures within in
          omega (arith, one, c.put.ensures.room account, inv.less account);
    }

pub returns-clause-rows : goal.returns-clause-rows
returns-clause-rows c =
    let t = c.in-Some.transaction.now in
    let other = option_copied c.args.old in
    let old = c.args.self.now.entries in
    let new = c.loop-place.self.entries in
    let end : c.loop-place.place ≡ length t.splits =
    omega (arith, c.loop-place-test.false, c.loop-place.auto.place-end, c.len-place-end.ensures) in
    subst (λ (o : Option (Bor Txn)). AllPut c.args.number (option_copied o) other old new) (sym c.in-Some.is)
    (all_put c.args.number t other old new
    (subst (λ (n : ℕ). ArePut c.args.number (Some t) other n old new) end c.loop-place.invariant.rows))

pub returns-clause-room : goal.returns-clause-room
returns-clause-room c = λ account.
    let t = c.in-Some.transaction.now in
    let count : txn_splits_on account (option_copied c.args.new) ≡ splits_on account t.splits =
    ap (λ (o : Option (Bor Txn)). txn_splits_on account (option_copied o)) c.in-Some.is in
    omega (arith, count, c.loop-place.invariant.less account)

pub returns-clause-changes : goal.returns-clause-changes
returns-clause-changes c = λ first there.
    let other = option_copied c.args.old in
    let Counted : Option (Bor Txn) → Type 0 = λ o.
    AreFree c.args.number (option_copied o) other c.args.self.now.entries → CountsFrom first c.args.self.now.entries
    → CountsFrom first c.loop-place.self.entries in
    subst Counted (sym c.in-Some.is) (c.loop-place.invariant.changes first there)
