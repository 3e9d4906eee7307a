use Rattle.std.proofs.Common.{◌≡◌, ℕ, ◌+◌, ◌-◌, drop, subst, arith}
use Rattle.book_accounts.specs.Children.{IsIndexOf}
use Rattle.book_accounts.proofs.ChildrenLemmas.{index_more}
use Rattle.book_accounts.proofs.children.Children.of_tree.Goals as goal

pub loop-place-preserved : goal.loop-place-preserved
loop-place-preserved c =
    let place : ℕ = c.loop-place.place - 1 in
    let more : c.loop-place.place ≡ place + 1 = omega arith in
    let index : IsIndexOf (drop (place + 1) c.args.tree.now.entries) c.loop-place.children =
    subst (λ (k : ℕ). IsIndexOf (drop k c.args.tree.now.entries) c.loop-place.children) more c.loop-place.invariant in
    index_more c.args.tree.now.entries place c.loop-place.children c.add.new.self c.number_at.result
    c.value_at.result.now c.number_at.ensures c.value_at.ensures index c.in_ok-add.ensures
