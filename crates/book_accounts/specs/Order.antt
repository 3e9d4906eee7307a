-- The order in which the accounts of a tree are listed: depth first.
use Rattle.std.specs.Prelude.{◌≡◌, ℕ, zero, suc, nat_eq, if◌then◌else◌, List, [], ◌∷◌, length, count_by, Some, None}
use Rattle.std.specs.Prelude.{is_some}
use Rattle.std.specs.List.{flat_map}
use Rattle.book_commodity.specs.Table.{value_of}
use Rattle.book_accounts.specs.Tree.{children_of}
use Rattle.book_accounts.specs.declared.account.Account.{Account}

-- An account, followed at once by its children by number, each with all that stands under it; so many generations.
unfoldable pub with_generations : ℕ → List (ℕ × Account) → ℕ → List ℕ
with_generations zero tree number = number ∷ []
with_generations (suc most) tree number =
    number ∷ flat_map (with_generations most tree) (children_of tree (Some number))

-- An account with all that stands under it: a rooted tree has no more generations than accounts.
abbrev pub with_all_under : List (ℕ × Account) → ℕ → List ℕ
with_all_under tree number = with_generations (length tree) tree number

-- The accounts of a tree, depth first: those at the top by number, each with all that stands under it.
abbrev pub depth_first : List (ℕ × Account) → List ℕ
depth_first tree = flat_map (with_all_under tree) (children_of tree None)

-- Every account of the tree is listed once, and nothing else is.
abbrev pub ListsEachOnce : List (ℕ × Account) → List ℕ → Type 0
ListsEachOnce tree order =
    (number : ℕ) → count_by (nat_eq number) order ≡ (if is_some (value_of number tree) then 1 else 0)
