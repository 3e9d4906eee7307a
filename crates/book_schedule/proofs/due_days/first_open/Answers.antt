use Rattle.std.proofs.Common.{List, ℤ, ◌∷◌, [], ◌++◌, ◌≡◌, Some, sym, subst, arith}
use Rattle.std.proofs.Math.ListN.{length-append}
use Rattle.book_schedule.specs.DueDays.{IsPlanned}
use Rattle.book_schedule.specs.NextDay.{Follow}
use Rattle.book_schedule.proofs.DueLemmas.{follow_push}
use Rattle.book_schedule.proofs.due_days.first_open.Goals as goal

pub loop-upto-preserved : goal.loop-upto-preserved
loop-upto-preserved c =
    let pushed : c.push.new.self.items ≡ c.loop-upto.days.items ++ c.in-Some.day ∷ [] = c.in_ok-push.ensures.items in
    record {
      follow = subst (λ (days : List ℤ). Follow (IsPlanned c.args.timing.now c.args.upto) c.args.timing.now.last days
          (Some c.in-Some.day)) (sym pushed)
          (follow_push (IsPlanned c.args.timing.now c.args.upto) c.args.timing.now.last c.loop-upto.last
          c.loop-upto.days.items c.in-Some.day c.loop-upto.invariant.follow c.in-Some.ensures);
      count = rw pushed (omega (arith, length-append c.loop-upto.days.items (c.in-Some.day ∷ []), c.len.ensures));
    }
