use Rattle.std.proofs.Common.{◌≡◌, Some, sym, ap, ◌∙◌, arith, to_z, of_z, w64}
use mir.Syntax.{w128}
use Rattle.std.specs.Ordering.{int_eq}
use Rattle.std.proofs.lemmas.Int.{ints}
use Rattle.book_statement.specs.declared.bad.Bad.TheVariants.{BalanceMismatch}
use Rattle.mt940_read.specs.Values.{reckoned}
use Rattle.mt940_read.proofs.CheckedLemmas.{reckoned_wrong, reckoned_right}
use Rattle.mt940_read.proofs.checks.check_reckoned.Goals as goal

pub returns-then-not-is_equal : goal.returns-then-not-is_equal
returns-then-not-is_equal c =
    let z = c.args.closing in
    let said : z ≡ to_z w64 (of_z w64 z) = omega (arith, ints) in
    let sum : reckoned c.args.message.now ≡ to_z w128 (of_z w128 c.from_opening-reckoned.result) =
    sym c.from_opening-reckoned.ensures ∙ omega (arith, ints) in
    let wide : z ≡ to_z w128 (of_z w128 (to_z w64 (of_z w64 z))) = omega (arith, ints) in
    reckoned_wrong c.args.message.now z
    (ap (λ x. int_eq x (reckoned c.args.message.now)) said ∙ ap (int_eq (to_z w64 (of_z w64 z))) sum
    ∙ sym c.is_equal.ensures ∙ c.if-not-is_equal.true)
    ∙ (λ i. Some (BalanceMismatch (wide i) (sum i)))

pub returns : goal.returns
returns c =
    let z = c.args.closing in
    let said : z ≡ to_z w64 (of_z w64 z) = omega (arith, ints) in
    let sum : reckoned c.args.message.now ≡ to_z w128 (of_z w128 c.from_opening-reckoned.result) =
    sym c.from_opening-reckoned.ensures ∙ omega (arith, ints) in (
      reckoned_right c.args.message.now z
          (ap (λ x. int_eq x (reckoned c.args.message.now)) said ∙ ap (int_eq (to_z w64 (of_z w64 z))) sum
          ∙ sym c.is_equal.ensures ∙ c.if-not-is_equal.false),
      omega (arith, ints),
    )
