use Rattle.std.proofs.Common.{◌≡◌, ◌<◌, ◌^◌, ◌-ℤ◌, pos, neg_ℤ, ap, ◌∙◌, arith, to_z, of_z, w64}
use Rattle.std.proofs.lemmas.Int.{ints}
use Rattle.book_statement.specs.Numbers.{number}
use Rattle.bai2_read.specs.Amounts.{without_sign}
use Rattle.bai2_read.proofs.AmountLemmas.{signed_minus, signed_plain, small_number}
use Rattle.bai2_read.proofs.amounts.signed_number.Goals as goal

small : (c : goal.After-number-size) → c.number-size.result < 10 ^ 18
small c =
    small_number (without_sign c.args.text.now) c.number-size.result c.requires
    (rw c.without_sign.ensures at c.number-size.ensures.bound)

pub overflow_cast-size : goal.overflow_cast-size
overflow_cast-size c = let below : c.number-size.result < 10 ^ 18 = small c in omega (arith, ints)

pub overflow_sub-result : goal.overflow_sub-result
overflow_sub-result c =
    let below : c.number-size.result < 10 ^ 18 =
    small_number (without_sign c.args.text.now) c.number-size.result c.requires
    (rw c.without_sign.ensures at c.number-size.ensures.bound) in
    omega (arith, ints)

pub returns-then-text-eq45 : goal.returns-then-text-eq45
returns-then-text-eq45 c =
    let below : c.number-size.result < 10 ^ 18 =
    small_number (without_sign c.args.text.now) c.number-size.result c.requires
    (rw c.without_sign.ensures at c.number-size.ensures.bound) in
    let value : to_z w64 (of_z w64 (pos 0 -ℤ to_z w64 c.number-size.result)) ≡ neg_ℤ (pos c.number-size.result) =
    omega (arith, ints) in
    value ∙ signed_minus c.args.text.now c.number-size.result c.if-text-eq45.true
    (c.number-size.ensures.value ∙ ap number c.without_sign.ensures)

pub returns-else-text-eq45 : goal.returns-else-text-eq45
returns-else-text-eq45 c =
    let below : c.number-size.result < 10 ^ 18 =
    small_number (without_sign c.args.text.now) c.number-size.result c.requires
    (rw c.without_sign.ensures at c.number-size.ensures.bound) in
    let value : to_z w64 c.number-size.result ≡ pos c.number-size.result = omega (arith, ints) in
    value ∙ signed_plain c.args.text.now c.number-size.result c.if-text-eq45.false
    (c.number-size.ensures.value ∙ ap number c.without_sign.ensures)
