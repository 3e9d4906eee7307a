use Rattle.std.proofs.Common.{drop}
use Rattle.book_accounts.specs.Children.{IsIndexOf}
use Rattle.book_accounts.proofs.children.Children.of_tree.Given as goal

abbrev pub invariant-loop-place : goal.invariant-loop-place
invariant-loop-place l = IsIndexOf (drop l.place l.tree.entries) l.children
