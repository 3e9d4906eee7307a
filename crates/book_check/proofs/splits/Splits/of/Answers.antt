-- The splits of one transaction more are put.
use Rattle.std.proofs.Common.{◌≡◌, ℕ, ◌+◌, ◌-◌, drop, subst, arith}
use Rattle.book_splits.specs.Balance.{splits_of}
use Rattle.book_check.specs.Splits.{HasSplits, PutsBefore}
use Rattle.book_check.proofs.SplitMapLemmas.{puts_transaction}
use Rattle.book_check.proofs.splits.Splits.of.Goals as goal

pub loop-place-preserved : goal.loop-place-preserved
loop-place-preserved c =
    let place : ℕ = c.loop-place.place - 1 in
    let more : c.loop-place.place ≡ place + 1 = omega arith in
    let has : HasSplits (splits_of (drop (place + 1) c.args.transactions.now.entries)) c.loop-place.splits =
    subst (λ (k : ℕ). HasSplits (splits_of (drop k c.args.transactions.now.entries)) c.loop-place.splits) more
    c.loop-place.invariant in
    puts_transaction c.args.transactions.now.entries place c.value_at.result.now c.loop-place.splits c.add.new.self
    c.value_at.ensures has
    (subst (λ splits. PutsBefore splits c.loop-place.splits c.add.new.self) c.as_slice.ensures c.in_ok-add.ensures)
