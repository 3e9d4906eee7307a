use Rattle.std.proofs.Common.{rules, ◌+◌, pos, take, slice_index_or, FitsSigned, ap, ◌∙◌}
use mir.Syntax.{w128}
use Rattle.std.proofs.lemmas.Int.{to_z-of_z}
use Rattle.book_register.specs.Register.{Rows, balance}
use Rattle.book_register.proofs.BalanceLemmas.{all_sum}
use Rattle.book_register.proofs.register.Register.balance_after.Goals as goal

pub returns-clause-balance : goal.returns-clause-balance
returns-clause-balance g c =
    let fits : FitsSigned w128 (slice_index_or c.sum_before.result 0 (pos 0)) = search rules in
    to_z-of_z w128 (slice_index_or c.sum_before.result 0 (pos 0)) fits
    ∙ ap (λ l. slice_index_or l 0 (pos 0)) c.sum_before.ensures.sums
    ∙ all_sum (take (c.args.place + 1) c.self.inside.rows.list)
    ∙ ap (λ (v : Rows). balance (take (c.args.place + 1) v.rows)) c.self.view_is
