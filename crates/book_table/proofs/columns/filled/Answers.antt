use Rattle.std.proofs.Common.{ℕ, List, ◌+◌, ◌==◌, if◌then◌else◌, length, take, ap, sym, ◌∙◌, arith}
use Rattle.std.proofs.lemmas.List.{length-take}
use Rattle.book_table.proofs.ColumnLemmas.{filled_bound, filled_next}
use Rattle.book_table.proofs.columns.filled.Goals as goal

pub loop-place-preserved : goal.loop-place-preserved
loop-place-preserved c =
    let place = c.loop-place.place in
    let text = c.index-row-place.result in
    c.filled_after-count.ensures
    ∙ ap (λ (t : List ℕ). if length t == 0 then c.loop-place.count else place + 1) c.as_str.ensures
    ∙ ap (λ (n : ℕ). if length text == 0 then n else place + 1) c.loop-place.invariant
    ∙ sym (filled_next c.args.row.now place text c.loop-place-test.true c.index-row-place.is)

pub returns-clause-at_most : goal.returns-clause-at_most
returns-clause-at_most c =
    let so_far = take c.loop-place.place c.args.row.now in
    let bound = filled_bound so_far in
    let short = length-take c.loop-place.place c.args.row.now in
    omega (arith, bound, short, c.loop-place.invariant)
