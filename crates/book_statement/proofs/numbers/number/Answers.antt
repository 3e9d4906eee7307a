use Rattle.std.proofs.Common.{◌-◌, get_or, sym, ap, ◌∙◌, arith}
use Rattle.std.proofs.lemmas.List.{drop_all}
use Rattle.book_statement.proofs.NumberLemmas.{digit_at, power_below, power_more, number_onto, number_onto-digit}
use Rattle.book_statement.proofs.NumberLemmas.{number_onto-none}
use Rattle.book_statement.proofs.numbers.number.Goals as goal

pub loop-digit-init : goal.loop-digit-init
loop-digit-init c = (number_onto-none c.args.digits.now, omega arith)

pub overflow_mul-number : goal.overflow_mul-number
overflow_mul-number c = omega (arith, power_below c.loop-digit.digit-index 18 (omega arith), c.loop-digit.invariant.1)

pub overflow_add-number : goal.overflow_add-number
overflow_add-number c =
    let d = digit_at c.args.digits.now c.loop-digit.digit-index c.requires.digits (omega arith) in
    omega (arith, power_below c.loop-digit.digit-index 18 (omega arith), c.loop-digit.invariant.1)

pub loop-digit-preserved : goal.loop-digit-preserved
loop-digit-preserved c =
    let d = digit_at c.args.digits.now c.loop-digit.digit-index c.requires.digits (omega arith) in (
      sym (number_onto-digit c.loop-digit.number c.args.digits.now c.loop-digit.digit-index (omega arith))
          ∙ c.loop-digit.invariant.0,
      power_more c.loop-digit.number (get_or c.args.digits.now c.loop-digit.digit-index 0 - 48)
          c.loop-digit.digit-index c.loop-digit.invariant.1 (omega arith),
    )

pub returns-clause-value : goal.returns-clause-value
unfolding number_onto
returns-clause-value c =
    sym (ap (λ l. number_onto c.loop-digit.number l)
    (drop_all c.loop-digit.digit-index c.args.digits.now (omega arith)))
    ∙ c.loop-digit.invariant.0
