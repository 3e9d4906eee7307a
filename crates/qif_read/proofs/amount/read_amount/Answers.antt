use Rattle.std.proofs.Common.{◌≡◌, ℕ, ◌≤◌, true, false, pos, neg_ℤ, ◌-ℤ◌, to_z, of_z, w64, sym, ◌∙◌, arith}
use Rattle.std.proofs.lemmas.Int.{ints}
use Rattle.book_statement.specs.Numbers.{units}
use Rattle.qif_read.specs.QifAmount.{without_commas}
use Rattle.qif_read.proofs.AmountLemmas.{read_ok, read_bad, small_units, parts_are}
use Rattle.qif_read.proofs.amount.read_amount.Goals as goal

pub returns-then-is_negative : goal.returns-then-is_negative
returns-then-is_negative c =
    let whole = c.split_point.result.0.now in
    let decimals = c.split_point.result.1.now in
    let size : ℕ = units (without_commas whole) decimals c.args.fraction in
    let small : size ≤ 1_000_000_000_000 = small_units c.args.fraction whole decimals c.in-Ok.ensures.0 in
    let is : c.in-Ok.units ≡ pos size = c.in-Ok.ensures.1 in
    let back : to_z w64 (of_z w64 (pos 0 -ℤ to_z w64 (of_z w64 c.in-Ok.units))) ≡ neg_ℤ (pos size) =
    omega (arith, ints) in
    let parts = parts_are c.args.text.now c.unsigned.result.now whole decimals c.unsigned.ensures
    c.split_point.ensures.whole c.split_point.ensures.decimals in
    let read = read_ok c.args.fraction c.args.text.now whole decimals c.in-Ok.units true parts.0 parts.1
    (sym c.if-is_negative.true ∙ c.is_negative.ensures) c.in-Ok.ensures in
    (read.0, back ∙ read.1)

pub returns-else-is_negative : goal.returns-else-is_negative
returns-else-is_negative c =
    let whole = c.split_point.result.0.now in
    let decimals = c.split_point.result.1.now in
    let size : ℕ = units (without_commas whole) decimals c.args.fraction in
    let small : size ≤ 1_000_000_000_000 = small_units c.args.fraction whole decimals c.in-Ok.ensures.0 in
    let is : c.in-Ok.units ≡ pos size = c.in-Ok.ensures.1 in
    let back : to_z w64 (of_z w64 c.in-Ok.units) ≡ pos size = omega (arith, ints) in
    let parts = parts_are c.args.text.now c.unsigned.result.now whole decimals c.unsigned.ensures
    c.split_point.ensures.whole c.split_point.ensures.decimals in
    let read = read_ok c.args.fraction c.args.text.now whole decimals c.in-Ok.units false parts.0 parts.1
    (sym c.if-is_negative.false ∙ c.is_negative.ensures) c.in-Ok.ensures in
    (read.0, back ∙ read.1)

pub returns-in-Err : goal.returns-in-Err
returns-in-Err c =
    let whole = c.split_point.result.0.now in
    let decimals = c.split_point.result.1.now in
    let parts = parts_are c.args.text.now c.unsigned.result.now whole decimals c.unsigned.ensures
    c.split_point.ensures.whole c.split_point.ensures.decimals in
    read_bad c.args.fraction c.args.text.now whole decimals c.in-Err.bad parts.0 parts.1 c.in-Err.ensures
