-- The one at the place is the same, or it isn't.
use Rattle.std.proofs.Common.{ℕ, nat_lt, ◌&&◌, Bool, Some, sym, ap, ◌∙◌}
use Rattle.book_accounts.specs.AccountRules.{has_same_name}
use Rattle.book_accounts.specs.declared.account.Account.{Account}
use Rattle.book_broken.proofs.ListLemmas.{any_behind, any_there}
use Rattle.book_broken.proofs.accounts.has_same_before.Goals as goal

pub returns-then-is_same_before : goal.returns-then-is_same_before
returns-then-is_same_before c =
    sym (c.loop-place.invariant
    ∙ any_there (λ (e : ℕ × Account). nat_lt e.0 c.args.number && has_same_name c.args.account.now e.1)
    c.args.accounts.now.entries c.loop-place.place
    (c.is_same_before.ensures ∙ ap (λ (t : Bool). Some t) c.if-is_same_before.true))

pub loop-place-preserved : goal.loop-place-preserved
loop-place-preserved c =
    c.loop-place.invariant
    ∙ any_behind (λ (e : ℕ × Account). nat_lt e.0 c.args.number && has_same_name c.args.account.now e.1)
    c.args.accounts.now.entries c.loop-place.place
    (c.is_same_before.ensures ∙ ap (λ (t : Bool). Some t) c.if-is_same_before.false)
