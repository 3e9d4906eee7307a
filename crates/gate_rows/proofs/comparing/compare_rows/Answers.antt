-- Where none is counted, each row that is wanted is held.
use Rattle.std.proofs.Common.{◌<◌, ◌≤◌, ◌∙◌, ℕ, List, length, ap, sym, subst, arith}
use Rattle.std.proofs.lemmas.List.{drop_all}
use Rattle.book_keeper.specs.Faults.{next_count}
use Rattle.gate_rows.specs.declared.answers.WantedRow.{WantedRow}
use Rattle.gate_rows.specs.Comparing.{count_wrong, is_held}
use Rattle.gate_rows.proofs.ComparingLemmas.{count_right}
use Rattle.gate_rows.proofs.comparing.compare_rows.Goals as goal

pub returns-clause-right : goal.returns-clause-right
returns-clause-right c = λ less.
    let count : List WantedRow → ℕ → ℕ = count_wrong (is_held c.args.rows.now) in
    let items : List WantedRow = c.as_slice-wanted-items.result.now in
    let past : length items ≤ c.loop-wanted.wanted-index = omega (arith, c.loop-wanted-test.false) in
    let all = sym (ap (λ l. count l c.loop-wanted.report.failed) (drop_all c.loop-wanted.wanted-index items past))
    ∙ c.loop-wanted.invariant.counted ∙ ap (λ l. count l c.args.report.now.failed) c.as_slice-wanted-items.ensures.value in
    count_right (is_held c.args.rows.now) c.args.run.now.wanted.rows.items c.args.report.now.failed
    (subst (λ (n : ℕ). n < next_count c.args.report.now.failed) all less)
