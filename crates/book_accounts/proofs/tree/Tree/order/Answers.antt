use Rattle.std.proofs.Common.{rules, ◌≡◌, ℕ, [], ◌∷◌, ◌++◌, Some, List, reverse, length, sym, ap, subst, ◌∙◌, arith}
use Rattle.std.proofs.Common.{append_assoc}
use Rattle.std.specs.List.{flat_map}
use Rattle.book_accounts.specs.Order.{ListsEachOnce, depth_first, with_all_under}
use Rattle.book_accounts.specs.Tree.{children_of}
use Rattle.book_accounts.proofs.OnceLemmas.{listed_once}
use Rattle.book_accounts.proofs.OrderLemmas.{listed_on}
use Rattle.book_accounts.proofs.tree.Tree.order.Goals as goal

listed : (c : goal.In_ok-extend_from_slice-2)
    → flat_map (with_all_under c.args.self.now.entries) (reverse c.loop-number.pending.items)
    ≡ c.in-Some.number ∷ flat_map (with_all_under c.args.self.now.entries)
    (reverse c.extend_from_slice-in-Some.new.self.items)
listed c =
    let top : c.loop-number.pending.items ≡ c.pop.new.self.items ++ c.in-Some.number ∷ [] = c.in-Some.ensures.items in
    let under : c.of.result.now ≡ reverse (children_of c.args.self.now.entries (Some c.in-Some.number)) =
    c.of.ensures ∙ c.in_ok-children.ensures.index.lists (Some c.in-Some.number) in
    listed_on c.args.self.now.entries c.in-Some.number c.loop-number.pending.items c.pop.new.self.items
    c.of.result.now c.of_tree.ensures.rises c.requires top under
    ∙ ap (λ (l : List ℕ). c.in-Some.number ∷ flat_map (with_all_under c.args.self.now.entries) (reverse l))
    (sym c.in_ok-extend_from_slice-2.ensures.items)

pub loop-number-smaller : goal.loop-number-smaller
loop-number-smaller c = omega (arith, ap length (listed c))

pub loop-number-preserved : goal.loop-number-preserved
loop-number-preserved c =
    let rest : List ℕ = flat_map (with_all_under c.args.self.now.entries)
    (reverse c.extend_from_slice-in-Some.new.self.items) in
    ap (λ (l : List ℕ). l ++ rest) c.in_ok-push.ensures.added
    ∙ append_assoc c.loop-number.order (c.in-Some.number ∷ []) rest
    ∙ ap (λ (l : List ℕ). c.loop-number.order ++ l) (sym (listed c))
    ∙ c.loop-number.invariant

pub returns-clause-each_once : goal.returns-clause-each_once
returns-clause-each_once c =
    let is : c.loop-number.order ≡ depth_first c.args.self.now.entries = search rules in
    subst (λ (order : List ℕ). ListsEachOnce c.args.self.now.entries order) (sym is)
    (listed_once c.args.self.now.entries c.of_tree.ensures.rises c.requires)
