use Rattle.std.proofs.Common.{◌≡◌, ℤ, true, false, refl, subst, arith}
use Rattle.std.specs.Prelude.{IfSome}
use Rattle.book_schedule.specs.Recurrence.{Repeats}
use Rattle.book_schedule.proofs.OccurrenceLemmas.{no_occurrence, some_occurrence, nth_day-parts, repeats_first}
use Rattle.book_schedule.proofs.OccurrenceLemmas.{repeats_other}
use Rattle.book_schedule.proofs.occurrences.occurrence.Goals as goal
use Rattle.book_schedule.proofs.occurrences.occurrence.Goals.{else-k-gt0-via-then-k-gt0+else-eq}
use Rattle.book_schedule.proofs.occurrences.occurrence.Goals.{else-k-gt0-via-else-k-gt0}

pub returns-in_err-day-clause-some : goal.returns-in_err-day-clause-some
returns-in_err-day-clause-some c =
    no_occurrence _ c.args.recurrence.now c.args.k _ c.from_residual.ensures c.in_err-day.ensures.start
    (rw (c.from.ensures, c.from-2.ensures) refl) c.in_err-day.ensures.some.1

pub returns-clause-some : goal.returns-clause-some
returns-clause-some c =
    let repeats : Repeats c.args.recurrence.now.kind c.args.k = elim c.else-k-gt0.branch [
      | else-k-gt0-via-then-k-gt0+else-eq w ↦
          repeats_other _ _ (λ e. (let is : false ≡ true = rw e at w.if-eq.ensures in cc))
      | else-k-gt0-via-else-k-gt0 w ↦ repeats_first _ _ (omega arith)
    ] in
    some_occurrence _ c.args.recurrence.now c.args.k _ _ _ repeats (rw (c.from.ensures, c.from-2.ensures) refl)
    c.in_ok-day.ensures.day c.adjustment.ensures c.moved.ensures.some

pub returns-clause-day : goal.returns-clause-day
returns-clause-day c =
    let e = nth_day-parts c.args.recurrence.now c.args.k _ _ _ (rw (c.from.ensures, c.from-2.ensures) refl)
    c.in_ok-day.ensures.day c.adjustment.ensures in
    subst (λ (d : ℤ). IfSome c.moved.result (λ day. day ≡ d)) e c.moved.ensures.day
