use Rattle.std.proofs.Common.{ap, arith}
use Rattle.std.proofs.lemmas.Int.{ints}
use Rattle.book_register.specs.Weights.{is_cleared, is_reconciled}
use Rattle.book_register.specs.declared.balances.Balances.{Balances}
use Rattle.book_finish.proofs.BoundLemmas.{small-until}
use Rattle.book_finish.proofs.balances.cleared_balance.Goals as goal

pub overflow_sub-result : goal.overflow_sub-result
overflow_sub-result c =
    let rows = c.args.register.now.rows in
    let one = small-until (λ row. is_cleared row.mark) c.args.day rows c.requires in
    let two = small-until (λ row. is_reconciled row.mark) c.args.day rows c.requires in
    let cleared = ap (λ (b : Balances). b.cleared) c.balances_at-balances.ensures.balances in
    let reconciled = ap (λ (b : Balances). b.reconciled) c.balances_at-balances.ensures.balances in
    omega (arith, ints, one.0, one.1, two.0, two.1, cleared, reconciled)

pub returns : goal.returns
returns c =
    let rows = c.args.register.now.rows in
    let one = small-until (λ row. is_cleared row.mark) c.args.day rows c.requires in
    let two = small-until (λ row. is_reconciled row.mark) c.args.day rows c.requires in
    let cleared = ap (λ (b : Balances). b.cleared) c.balances_at-balances.ensures.balances in
    let reconciled = ap (λ (b : Balances). b.reconciled) c.balances_at-balances.ensures.balances in
    omega (arith, ints, one.0, one.1, two.0, two.1, cleared, reconciled)
