use Rattle.std.proofs.Common.{FitsSigned, w64, rules, arith}
use Rattle.std.proofs.lemmas.Int.{ints}
use Rattle.book_reports.proofs.SumsLemmas.{sums_next, sums_small}
use Rattle.book_reports.proofs.sums.sums_of.Goals as goal

pub add-requires : goal.add-requires
add-requires c =
    sums_small c.args.period.now c.args.register.now.rows c.loop-place.place c.loop-place.sums.entries
    c.row-row.result.currency c.requires c.loop-place.invariant

pub loop-place-preserved : goal.loop-place-preserved
loop-place-preserved c =
    let fits : FitsSigned w64 c.value_of.result = search rules in
    sums_next c.args.period.now c.args.register.now.rows c.loop-place.place c.row-row.result _ c.loop-place.sums.entries
    c.add.new.sums.entries c.row-row.ensures.row c.loop-place.invariant c.in_ok-add.ensures
    (omega (arith, ints, fits, c.value_of.ensures))
