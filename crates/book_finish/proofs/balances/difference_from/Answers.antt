use Rattle.std.proofs.Common.{rules, FitsSigned, w64, arith}
use Rattle.std.proofs.lemmas.Int.{ints}
use Rattle.book_register.specs.Weights.{is_cleared, is_reconciled}
use Rattle.book_finish.proofs.BoundLemmas.{small-all, small-until}
use Rattle.book_finish.proofs.balances.difference_from.Goals as goal

pub overflow_sub-result : goal.overflow_sub-result
overflow_sub-result c =
    let rows = c.args.register.now.rows in
    let fits : FitsSigned w64 c.args.closing = search rules in
    let all = small-all (λ row. is_reconciled row.mark) rows c.requires.limits in
    omega (arith, ints, fits, all.0, all.1, c.requires.opening)

pub overflow_sub-result-2 : goal.overflow_sub-result-2
overflow_sub-result-2 c =
    let rows = c.args.register.now.rows in
    let fits : FitsSigned w64 c.args.closing = search rules in
    let all = small-all (λ row. is_reconciled row.mark) rows c.requires.limits in
    let one = small-until (λ row. is_cleared row.mark) c.args.day rows c.requires.limits in
    let two = small-until (λ row. is_reconciled row.mark) c.args.day rows c.requires.limits in
    omega (arith, ints, fits, all.0, all.1, one.0, one.1, two.0, two.1, c.requires.opening, c.cleared_balance.ensures)

pub returns : goal.returns
returns c =
    let rows = c.args.register.now.rows in
    let fits : FitsSigned w64 c.args.closing = search rules in
    let all = small-all (λ row. is_reconciled row.mark) rows c.requires.limits in
    let one = small-until (λ row. is_cleared row.mark) c.args.day rows c.requires.limits in
    let two = small-until (λ row. is_reconciled row.mark) c.args.day rows c.requires.limits in
    omega (arith, ints, fits, all.0, all.1, one.0, one.1, two.0, two.1, c.requires.opening, c.cleared_balance.ensures)
