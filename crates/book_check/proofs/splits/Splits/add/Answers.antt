-- One split more is put.
use Rattle.std.proofs.Common.{◌≡◌, ℕ, ◌+◌, ◌-◌, ◌<◌, length, cond, Some, drop, subst, ap, ◌∙◌, arith}
use Rattle.std.specs.BTreeMap.{get}
use Rattle.std.specs.Ordering.{is_eq, nat_cmp}
use Rattle.book_commodity.proofs.ListLemmas.{from-item}
use Rattle.book_check.specs.Splits.{PutsBefore}
use Rattle.book_check.proofs.SplitMapLemmas.{puts_more}
use Rattle.book_check.proofs.splits.Splits.add.Goals as goal

pub loop-place-preserved : goal.loop-place-preserved
loop-place-preserved c =
    let place : ℕ = c.loop-place.place - 1 in
    let more : c.loop-place.place ≡ place + 1 = omega arith in
    let below : place < length c.args.splits.now = omega (arith, c.loop-place.auto.place, c.loop-place-test.true) in
    puts_more c.args.splits.now place c.index-splits-place.result c.args.self.now c.loop-place.self
    (record { quantities = c.insert.new.self })
    (from-item c.args.splits.now place c.index-splits-place.result below c.index-splits-place.is)
    (subst (λ (k : ℕ). PutsBefore (drop k c.args.splits.now) c.args.self.now c.loop-place.self) more
    c.loop-place.invariant)
    (λ q. c.in_ok-insert.ensures.updates.0 q
    ∙ ap (λ v. cond (is_eq (nat_cmp c.index-splits-place.result.id q)) (Some v)
    (get nat_cmp c.loop-place.self.quantities q)) c.facts_of.ensures)
