use Rattle.std.proofs.Common.{◌≡◌, ◌++◌, length, reverse}
use Rattle.std.specs.List.{flat_map}
use Rattle.book_accounts.specs.Order.{depth_first, with_all_under}
use Rattle.book_accounts.proofs.tree.Tree.order.Given as goal

abbrev pub invariant-loop-number : goal.invariant-loop-number
invariant-loop-number l =
    l.order ++ flat_map (with_all_under l.self.entries) (reverse l.pending.items) ≡ depth_first l.self.entries

abbrev pub decreases-loop-number : goal.decreases-loop-number
decreases-loop-number l = length (flat_map (with_all_under l.self.entries) (reverse l.pending.items))
