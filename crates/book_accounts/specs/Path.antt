-- The path of an account: the names on the way down to it.
use Rattle.std.specs.Prelude.{ℕ, List, [], ◌∷◌, map, reverse, drop}
use Rattle.std.specs.List.{join_with_byte}
use Rattle.std.specs.Option.{option_map_or}
use Rattle.book_commodity.specs.Table.{value_of}
use Rattle.book_accounts.specs.Tree.{ancestors}
use Rattle.book_accounts.specs.declared.account.Account.{Account}

-- The name of the account with a number, empty where there is none.
abbrev pub name_at : List (ℕ × Account) → ℕ → List ℕ
name_at tree number = option_map_or (λ account. account.name) (value_of number tree) []

-- The accounts on the way down from the root to an account, which stands last; the root itself is left out.
abbrev pub way_down : List (ℕ × Account) → ℕ → List ℕ
way_down tree number = drop 1 (reverse (number ∷ ancestors tree number))

-- The names on the way down, separated by colons (58); the root's path is empty.
abbrev pub path : List (ℕ × Account) → ℕ → List ℕ
path tree number = join_with_byte 58 (map (name_at tree) (way_down tree number))
