use Rattle.std.proofs.Common.{◌≡◌, drop, find}
use Rattle.book_accounts.specs.Rules.{is_namesake}
use Rattle.book_accounts.proofs.tree.Tree.namesake.Given as goal

abbrev pub invariant-loop-place : goal.invariant-loop-place
invariant-loop-place l =
    find (is_namesake l.apart l.parent l.name) (drop l.place l.self.entries) ≡ find
    (is_namesake l.apart l.parent l.name) l.self.entries
