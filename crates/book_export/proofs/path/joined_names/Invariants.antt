use Rattle.std.proofs.Common.{◌≡◌, map, take}
use Rattle.std.specs.List.{join_with_byte}
use Rattle.book_accounts.specs.Path.{name_at}
use Rattle.book_export.specs.Names.{journal_name}
use Rattle.book_export.proofs.path.joined_names.Given as goal

-- the names so far are joined
abbrev pub invariant-loop-place : goal.invariant-loop-place
invariant-loop-place l =
    l.names.items
    ≡ join_with_byte 58 (map (λ n. journal_name (name_at l.accounts.entries n)) (take l.place l.numbers))
