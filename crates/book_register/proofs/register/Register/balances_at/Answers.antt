use Rattle.std.proofs.Common.{rules, pos, take, slice_index_or, FitsSigned, ap, sym, ◌∙◌, subst}
use mir.Syntax.{w128}
use Rattle.std.proofs.lemmas.Int.{to_z-of_z}
use Rattle.book_register.specs.Register.{IsBound, Rows, balances, rows_until}
use Rattle.book_register.specs.declared.key.Key.{Key}
use Rattle.book_register.proofs.BalanceLemmas.{all_sum, cleared_sum, reconciled_sum, same_balances, until_is}
use Rattle.book_register.proofs.register.Register.balances_at.Goals as goal

pub returns-clause-balances : goal.returns-clause-balances
returns-clause-balances g c =
    let result = c.sum_before-sums.result in
    let rows = take c.count_before-count.result c.self.inside.rows.list in
    let one : FitsSigned w128 (slice_index_or result 0 (pos 0)) = search rules in
    let two : FitsSigned w128 (slice_index_or result 1 (pos 0)) = search rules in
    let three : FitsSigned w128 (slice_index_or result 2 (pos 0)) = search rules in
    let until = until_is c.self.inside.rows.list c.args.day c.count_before-count.result
    (subst (λ (k : Key). IsBound k c.self.inside.rows.list c.count_before-count.result) c.key_past.ensures
    c.count_before-count.ensures.bound) in
    same_balances _ (balances rows)
    (to_z-of_z w128 (slice_index_or result 0 (pos 0)) one
    ∙ ap (λ l. slice_index_or l 0 (pos 0)) c.sum_before-sums.ensures.sums ∙ all_sum rows)
    (to_z-of_z w128 (slice_index_or result 1 (pos 0)) two
    ∙ ap (λ l. slice_index_or l 1 (pos 0)) c.sum_before-sums.ensures.sums ∙ cleared_sum rows)
    (to_z-of_z w128 (slice_index_or result 2 (pos 0)) three
    ∙ ap (λ l. slice_index_or l 2 (pos 0)) c.sum_before-sums.ensures.sums ∙ reconciled_sum rows)
    ∙ ap balances (sym until) ∙ ap (λ (v : Rows). balances (rows_until c.args.day v.rows)) c.self.view_is
