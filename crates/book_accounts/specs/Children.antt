-- What the index of children says, by which a tree is listed depth first.
use Rattle.std.specs.Prelude.{◌≡◌, nat_eq, ℕ, List, [], ◌∷◌, ◌++◌, reverse, Option, Some, None, unwrap_or}
use Rattle.std.specs.Prelude.{if◌then◌else◌}
use Rattle.std.specs.Option.{option_eq}
use Rattle.std.specs.BTreeMap.{get}
use Rattle.std.specs.Ordering.{nat_cmp}
use Rattle.book_accounts.specs.Tree.{children_of}
use Rattle.book_accounts.specs.declared.account.Account.{Account}
use Rattle.book_accounts.specs.declared.children.Children.{Children}

-- The children that the index has for a parent.
abbrev pub listed : Children → Option ℕ → List ℕ
listed children None = children.top
listed children (Some parent) = unwrap_or (get nat_cmp children.under parent) []

-- The index has the children of each account, from the greatest number to the least.
pub record IsIndexOf (tree : List (ℕ × Account)) (children : Children) : Type 0 where
  pub lists : (parent : Option ℕ) → listed children parent ≡ reverse (children_of tree parent)

-- The new index has one child more for a parent, and for the others what the old one had.
pub record Adds (old new : Children) (parent : Option ℕ) (child : ℕ) : Type 0 where
  pub lists :
      (other : Option ℕ)
      → listed new other ≡ (if option_eq nat_eq parent other then listed old other ++ child ∷ [] else listed old other)
