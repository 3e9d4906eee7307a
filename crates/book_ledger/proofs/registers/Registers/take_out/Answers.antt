use Rattle.std.proofs.Common.{◌≡◌, ℕ, Option, Some, Bor, length, refl, sym, ◌∙◌, subst, arith}
use Rattle.std.specs.Option.{option_copied}
use Rattle.book_splits.specs.declared.transaction.Txn.{Txn}
use Rattle.book_ledger.specs.Change.{AllTaken, AreTaken}
use Rattle.book_ledger.proofs.ChangeLemmas.{all_taken, taken_more, taken_none}
use Rattle.book_ledger.specs.Counts.{CountsFrom, HasRowsOf}
use Rattle.book_ledger.proofs.CountsLemmas.{has_left, has_left_before}
use Rattle.book_ledger.proofs.registers.Registers.take_out.Goals as goal

pub loop-place-init : goal.loop-place-init
loop-place-init c = record {
  rows = taken_none c.args.number (Some c.in-Some.transaction.now) (option_copied c.args.new)
      c.args.self.now.entries;
  changes = λ first there here counts. counts;
  there = λ account. refl;
  room = λ account. omega arith;
}

pub loop-place-preserved : goal.loop-place-preserved
loop-place-preserved c =
    let inv = c.loop-place.invariant in
    record {
      rows = taken_more c.args.number c.loop-place.place (Some c.in-Some.transaction.now)
          (option_copied c.args.new) c.left.result c.args.self.now.entries c.loop-place.self.entries
          c.take.new.self.entries inv.rows c.left.ensures c.take.ensures.rows;
      changes = λ first there here counts.
          let number = c.args.number in
          let t = Some c.in-Some.transaction.now in
          let other = option_copied c.args.new in
          let place = c.loop-place.place in
          c.take.ensures.changes first (has_left number place t other c.left.result first c.left.ensures there)
          (has_left_before number place t other c.left.result c.args.self.now.entries c.loop-place.self.entries
          c.left.ensures here inv.rows) (inv.changes first there here counts);
      there = λ account. c.take.ensures.there account ∙ inv.there account;
      room = λ account. omega (arith, c.take.ensures.room account, inv.room account);
    }

pub returns-clause-rows : goal.returns-clause-rows
returns-clause-rows c =
    let t = c.in-Some.transaction.now in
    let other = option_copied c.args.new in
    let old = c.args.self.now.entries in
    let new = c.loop-place.self.entries in
    let end : c.loop-place.place ≡ length t.splits =
    omega (arith, c.loop-place-test.false, c.loop-place.auto.place-end, c.len-place-end.ensures) in
    subst (λ (o : Option (Bor Txn)). AllTaken c.args.number (option_copied o) other old new) (sym c.in-Some.is)
    (all_taken c.args.number t other old new
    (subst (λ (n : ℕ). AreTaken c.args.number (Some t) other n old new) end c.loop-place.invariant.rows))

pub returns-clause-changes : goal.returns-clause-changes
returns-clause-changes c = λ first.
    let Counted : Option (Bor Txn) → Type 0 = λ o.
    HasRowsOf c.args.number (option_copied o) first
    → HasRowsOf c.args.number (option_copied o) c.args.self.now.entries → CountsFrom first c.args.self.now.entries
    → CountsFrom first c.loop-place.self.entries in
    subst Counted (sym c.in-Some.is) (c.loop-place.invariant.changes first)
