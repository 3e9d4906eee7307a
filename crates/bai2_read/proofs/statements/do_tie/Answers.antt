use Rattle.std.proofs.Common.{◌≡◌, ℤ, ◌+ℤ◌, to_z, of_z, ap, ◌∙◌, arith}
use mir.Syntax.{w128}
use Rattle.std.specs.Ordering.{int_eq}
use Rattle.std.proofs.lemmas.Int.{ints}
use Rattle.bai2_read.specs.Statements.{sum_of_lines}
use Rattle.bai2_read.proofs.statements.do_tie.Goals as goal

pub returns : goal.returns
returns c =
    let sum : to_z w128 (of_z w128
    (to_z w128 (of_z w128 c.from.result) +ℤ to_z w128 (of_z w128 c.sum_of_lines.result))) ≡ c.args.opens +ℤ
    sum_of_lines c.args.lines.now = omega (arith, ints) in
    let closes : to_z w128 (of_z w128 c.from-2.result) ≡ c.args.closes = omega (arith, ints) in
    c.is_equal.ensures
    ∙ ap (λ (z : ℤ). int_eq z (to_z w128 (of_z w128 c.from-2.result))) sum
    ∙ ap (λ (z : ℤ). int_eq (c.args.opens +ℤ sum_of_lines c.args.lines.now) z) closes
