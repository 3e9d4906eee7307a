use Rattle.std.proofs.Common.{rules, ◌≡◌, ℕ, Some, option_map, slice_get, true, false, sym, ap, ◌∙◌}
use Rattle.book_accounts.specs.Rules.{is_namesake}
use Rattle.book_accounts.specs.declared.account.Account.{Account}
use Rattle.book_commodity.proofs.ListLemmas.{find_here, find_skips}
use Rattle.book_accounts.proofs.tree.Tree.namesake.Goals as goal

pub returns-then-is_namesake : goal.returns-then-is_namesake
returns-then-is_namesake c =
    let found : option_map (is_namesake c.args.apart c.args.parent c.args.name.now)
    (slice_get c.args.self.now.entries c.loop-place.place) ≡ Some true = search rules in
    sym (find_here (λ entry. entry.0) (is_namesake c.args.apart c.args.parent c.args.name.now) c.args.self.now.entries
    c.loop-place.place c.number_at.result found c.number_at.ensures)
    ∙ ap (option_map (λ (entry : ℕ × Account). entry.0)) c.loop-place.invariant

pub loop-place-preserved : goal.loop-place-preserved
loop-place-preserved c =
    let other : option_map (is_namesake c.args.apart c.args.parent c.args.name.now)
    (slice_get c.args.self.now.entries c.loop-place.place) ≡ Some false = search rules in
    sym (find_skips (is_namesake c.args.apart c.args.parent c.args.name.now) c.args.self.now.entries
    c.loop-place.place other) ∙ c.loop-place.invariant
