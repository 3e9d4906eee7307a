use Rattle.std.proofs.Common.{rules, ◌≡◌, ◌-◌, ℕ, List, Some, FitsSigned, slice_get, ap, subst, ◌∙◌, arith}
use mir.Syntax.{w128}
use Rattle.std.proofs.lemmas.Int.{to_z-of_z}
use Rattle.std.proofs.lemmas.Option.{slice_get_within}
use Rattle.book_register.specs.Register.{balances}
use Rattle.book_register.specs.declared.balances.Balances.{Balances}
use Rattle.book_register.specs.declared.entry.Entry.{Entry}
use Rattle.book_finish.proofs.BoundLemmas.{until-end}
use Rattle.book_finish.proofs.balances.opening_balance.Goals as goal

pub returns : goal.returns
returns c =
    let rows = c.args.register.now.rows in
    let last = c.row-last.result in
    let fits : FitsSigned w128 c.balances_at.result.reconciled = search rules in
    let within = slice_get_within rows (c.len-len.result - 1) last c.row-last.ensures.row in
    let there = subst (λ (n : ℕ). slice_get rows (n - 1) ≡ Some last) c.len-len.ensures.len c.row-last.ensures.row in
    let all = until-end rows last (omega (arith, within)) c.len-len.ensures.sorted there in
    to_z-of_z w128 c.balances_at.result.reconciled fits
    ∙ ap (λ (b : Balances). b.reconciled) c.balances_at.ensures.balances
    ∙ ap (λ (l : List Entry). (balances l).reconciled) all
