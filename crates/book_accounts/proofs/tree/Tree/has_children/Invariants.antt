use Rattle.std.proofs.Common.{◌≡◌, drop, Some}
use Rattle.book_accounts.specs.Tree.{children_of}
use Rattle.book_accounts.proofs.tree.Tree.has_children.Given as goal

abbrev pub invariant-loop-place : goal.invariant-loop-place
invariant-loop-place l =
    children_of (drop l.place l.self.entries) (Some l.number) ≡ children_of l.self.entries (Some l.number)
