use Rattle.std.proofs.Common.{◌+◌, ◌*◌, refl, ap, ◌∙◌, arith}
use Rattle.std.proofs.lemmas.Int.{ints}
use Rattle.book_statement.specs.Checks.{first_bad}
use Rattle.book_statement.proofs.NumberLemmas.{IsDecimal, unit_checks-by, units-by, too_fine, too_large, sound_units}
use Rattle.book_statement.proofs.numbers.units_of.Goals as goal

pub returns-then-fine-scale-ne0 : goal.returns-then-fine-scale-ne0
returns-then-fine-scale-ne0 c =
    let fine = (c.number.result * c.pow-scale.result + c.number-2.result) * c.args.fraction in
    let is : IsDecimal c.args.whole.now c.args.decimals.now c.args.fraction c.number.result c.number-2.result
    c.pow-scale.result fine =
    record {
      scaled = c.pow-scale.ensures;
      front = c.number.ensures.value;
      back = c.number-2.ensures.value;
      all =
          refl;
    } in
    ap first_bad (unit_checks-by _ _ _ _ _ _ _ is) ∙ too_fine fine c.pow-scale.result c.if-fine-scale-ne0.true

pub returns-then-units : goal.returns-then-units
returns-then-units c =
    let fine = (c.number.result * c.pow-scale.result + c.number-2.result) * c.args.fraction in
    let is : IsDecimal c.args.whole.now c.args.decimals.now c.args.fraction c.number.result c.number-2.result
    c.pow-scale.result fine =
    record {
      scaled = c.pow-scale.ensures;
      front = c.number.ensures.value;
      back = c.number-2.ensures.value;
      all =
          refl;
    } in
    ap first_bad (unit_checks-by _ _ _ _ _ _ _ is)
    ∙ too_large fine c.pow-scale.result c.if-fine-scale-ne0.false c.if-units.true

pub returns : goal.returns
returns c =
    let fine = (c.number.result * c.pow-scale.result + c.number-2.result) * c.args.fraction in
    let is : IsDecimal c.args.whole.now c.args.decimals.now c.args.fraction c.number.result c.number-2.result
    c.pow-scale.result fine =
    record {
      scaled = c.pow-scale.ensures;
      front = c.number.ensures.value;
      back = c.number-2.ensures.value;
      all =
          refl;
    } in (
      ap first_bad (unit_checks-by _ _ _ _ _ _ _ is)
          ∙ sound_units fine c.pow-scale.result c.if-fine-scale-ne0.false c.if-units.false,
      omega (arith, ints, c.if-units.false, units-by _ _ _ _ _ _ _ is),
    )
