-- The tree that accounts form by their parents. A tree is given as its accounts by rising numbers.
use Rattle.std.specs.Prelude.{◌≡◌, ℕ, zero, suc, nat_eq, List, [], ◌∷◌, length, map, filter, Option, Some, None, IsSome}
use Rattle.std.specs.Option.{option_and_then, option_eq}
use Rattle.book_commodity.specs.Table.{value_of}
use Rattle.book_accounts.specs.declared.account.Account.{Account}

-- The parent of the account with a number; none where it has no parent, or no account has the number.
abbrev pub parent_of : List (ℕ × Account) → ℕ → Option ℕ
parent_of tree number = option_and_then (λ account. account.parent) (value_of number tree)

-- The way up from an account: its parent, the parent of that, and so on, each of them there, to an account without
-- one.
abbrev pub IsWayUp : List (ℕ × Account) → ℕ → List ℕ → Type 0
IsWayUp tree number [] = IsSome (value_of number tree) × (parent_of tree number ≡ None)
IsWayUp tree number (parent ∷ above) = (parent_of tree number ≡ Some parent) × IsWayUp tree parent above

-- A tree is rooted where each of its accounts has a way up.
pub record IsRooted (tree : List (ℕ × Account)) : Type 0 where
  pub up : (number : ℕ) → IsSome (value_of number tree) → (way : List ℕ) × IsWayUp tree number way

-- The parent, if there is one, and the way further up from it.
abbrev pub followed_up : Option ℕ → (ℕ → List ℕ) → List ℕ
followed_up None more = []
followed_up (Some parent) more = parent ∷ more parent

-- The parents of an account from the nearest on, at most so many.
unfoldable pub nearest_parents : ℕ → List (ℕ × Account) → ℕ → List ℕ
nearest_parents zero tree number = []
nearest_parents (suc most) tree number = followed_up (parent_of tree number) (nearest_parents most tree)

-- All the accounts that an account stands under, from the nearest on: the way up, which has fewer accounts than the
-- tree.
abbrev pub ancestors : List (ℕ × Account) → ℕ → List ℕ
ancestors tree number = nearest_parents (length tree) tree number

-- The numbers of the accounts that have this parent, in rising order; without a parent, of those at the top.
abbrev pub children_of : List (ℕ × Account) → Option ℕ → List ℕ
children_of tree parent = map (λ entry. entry.0) (filter (λ entry. option_eq nat_eq entry.1.parent parent) tree)
