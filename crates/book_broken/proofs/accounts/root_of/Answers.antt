-- The one at the place is of the root's kind, or it isn't.
use Rattle.std.proofs.Common.{ℕ, Bool, Some, ap, sym, ◌∙◌, option_map}
use Rattle.book_commodity.proofs.ListLemmas.{find_here, find_skips}
use Rattle.book_accounts.specs.AccountRules.{is_root}
use Rattle.book_accounts.specs.declared.account.Account.{Account}
use Rattle.book_check.proofs.SeenLemmas.{entry_at, value_test}
use Rattle.book_broken.proofs.accounts.root_of.Goals as goal

pub returns-then-is_root : goal.returns-then-is_root
returns-then-is_root c =
    let there = entry_at c.args.accounts.now.entries c.loop-place.place c.number_at.result c.value_at.result.now
    c.number_at.ensures c.value_at.ensures in
    let yes = sym c.is_root.ensures ∙ c.if-is_root.true in
    sym (c.loop-place.invariant
    ∙ find_here (λ (e : ℕ × Account). e.0) (λ (e : ℕ × Account). is_root e.1.kind) c.args.accounts.now.entries
    c.loop-place.place c.number_at.result
    (ap (option_map (λ (e : ℕ × Account). is_root e.1.kind)) there ∙ ap (λ (b : Bool). Some b) yes)
    c.number_at.ensures)

pub loop-place-preserved : goal.loop-place-preserved
loop-place-preserved c =
    let no = sym c.is_root.ensures ∙ c.if-is_root.false in
    let test =
    value_test (λ (a : Account). is_root a.kind) c.args.accounts.now.entries c.loop-place.place c.value_at.result.now
    c.value_at.ensures ∙ ap (λ (b : Bool). Some b) no in
    c.loop-place.invariant
    ∙ ap (option_map (λ (e : ℕ × Account). e.0))
    (find_skips (λ (e : ℕ × Account). is_root e.1.kind) c.args.accounts.now.entries c.loop-place.place test)
