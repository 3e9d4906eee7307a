use Rattle.std.proofs.Common.{◌≡◌, string_bytes, map, take}
use Rattle.std.specs.List.{join_with_byte}
use Rattle.book_accounts.specs.Path.{name_at}
use Rattle.book_accounts.proofs.tree.Tree.joined_names.Given as goal

abbrev pub invariant-loop-place : goal.invariant-loop-place
invariant-loop-place l =
    string_bytes l.names ≡ join_with_byte 58 (map (name_at l.self.entries) (take l.place l.numbers))
