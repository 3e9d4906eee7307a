-- The split of one line more is put, which is that of the first pair of the line from the place on.
use Rattle.std.proofs.Common.{◌≡◌, ℕ, ◌+◌, ◌-◌, ◌<◌, drop, length, subst, arith}
use Rattle.std.specs.BTreeMap.{get}
use Rattle.std.specs.Ordering.{nat_cmp}
use Rattle.book_step.specs.AutoMatching.{split_of}
use Rattle.book_step.proofs.MatchWalkLemmas.{takes-more}
use Rattle.book_step.proofs.pairing.splits_by_line.Goals as goal

pub loop-place-preserved : goal.loop-place-preserved
loop-place-preserved c =
    let pairs = c.args.pairs.now in
    let place : ℕ = c.loop-place.place - 1 in
    let more : c.loop-place.place ≡ place + 1 = omega (arith, c.loop-place-test.true) in
    let below : place < length pairs = omega (arith, c.loop-place.auto.place, c.loop-place-test.true) in
    takes-more pairs place _ c.loop-place.takes c.insert.new.self below c.in_ok-insert.ensures.updates.0
    (subst (λ (k : ℕ). (n : ℕ) → get nat_cmp c.loop-place.takes n ≡ split_of (drop k pairs) n) more
    c.loop-place.invariant)
