use Rattle.std.proofs.Common.{ℤ, subst, arith}
use Rattle.book_commodity.specs.Day.{IsDay}
use Rattle.book_reports.proofs.TextLemmas.{day_push}
use Rattle.book_reports.proofs.layout.add_day.Goals as goal

pub loop-byte-preserved : goal.loop-byte-preserved
loop-byte-preserved c =
    day_push c.args.day (subst (λ (d : ℤ). IsDay d) c.number.ensures.value c.number.ensures.range) c.text-text.result
    c.text-text.ensures c.loop-byte.byte-index _ _ _ (omega arith) c.loop-byte.invariant c.in_ok-push.ensures.bytes
