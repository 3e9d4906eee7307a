use Rattle.std.proofs.Common.{arith}
use Rattle.std.proofs.lemmas.Int.{ints}
use Rattle.book_schedule.proofs.next_day.is_within.Goals as goal

pub returns-then-from : goal.returns-then-from
returns-then-from c = (
  λ yes'. (
    omega (
      arith,
      ints,
      c.if-from.true,
      c.from.ensures,
      c.from-2.ensures,
      c.from-3.ensures,
      c.number.ensures.value,
      c.number-2.ensures.value,
    ),
    c.is_up_to.ensures.0 yes',
  ),
  λ within.
      c.is_up_to.ensures.1 within.1,
)
