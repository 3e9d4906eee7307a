use Rattle.std.specs.Prelude.{IsTrue}
use Rattle.std.proofs.Common.{◌≡◌, true, false, refl, sym, subst, arith}
use Rattle.book_schedule.specs.DueDays.{IsAfter}
use Rattle.book_schedule.proofs.NextLemmas.{first_not_passed, none_not_passed, all_passed, passed_more}
use Rattle.book_schedule.proofs.next_day.next_occurrence.Goals as goal

pub returns-in_err-day : goal.returns-in_err-day
returns-in_err-day c =
    rw c.from_residual.ensures
    (none_not_passed c.args.recurrence.now c.args.after.now c.loop-k.k c.passed-k.ensures.start c.loop-k.invariant
    (λ has. (let e : false ≡ true = c.in_err-day.ensures.some.1 has in cc)))

pub returns-then-is_after : goal.returns-then-is_after
returns-then-is_after c =
    first_not_passed c.args.recurrence.now c.args.after.now c.loop-k.k _ c.passed-k.ensures.start c.loop-k.invariant
    (c.in_ok-day.ensures.some.0 refl) c.in_ok-day.ensures.day (c.is_after.ensures.0 c.if-is_after.true)

pub loop-k-preserved : goal.loop-k-preserved
loop-k-preserved c =
    passed_more c.args.recurrence.now c.args.after.now c.loop-k.k c.loop-k.invariant (λ later.
    (let is : IsTrue c.is_after.result =
    c.is_after.ensures.1 (subst (λ d. IsAfter c.args.after.now d) (sym c.in_ok-day.ensures.day) later) in
    absurd cc))

pub returns : goal.returns
returns c =
    all_passed c.args.recurrence.now c.args.after.now c.loop-k.k c.passed-k.ensures.start c.requires.0
    c.loop-k.invariant (omega arith)
