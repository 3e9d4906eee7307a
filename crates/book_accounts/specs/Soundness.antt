-- Which changes of the accounts leave each of them its rules, and what accounts form that keep their rules: one tree
-- under one root.
use Rattle.std.specs.Prelude.{◌≡◌, ℕ, false, List, Some, None, IsTrue, is_some}
use Rattle.book_commodity.specs.Rules.{EachKeeps}
use Rattle.book_commodity.specs.Table.{value_of, with_entry, without_entry}
use Rattle.book_commodity.specs.declared.commodity.Commodity.{Commodity}
use Rattle.book_accounts.specs.AccountRules.{account_rules, fits_basis, is_root}
use Rattle.book_accounts.specs.Group.{fits_under, is_security}
use Rattle.book_accounts.specs.Rules.{kind_at}
use Rattle.book_accounts.specs.Tree.{IsRooted}
use Rattle.book_accounts.specs.declared.account.Account.{Account}
use Rattle.book_accounts.specs.declared.kind.AccountKind.TheVariants.{Root}

-- The accounts form one tree: every account's parents lead to the one root, siblings have different names, and each
-- account is of a kind that fits under its parent's.
pub record IsTree (tree : List (ℕ × Account)) : Type 0 where
  pub rooted : IsRooted tree
  -- One account at most is at the top, and that is the root.
  pub one_top :
      (m n : ℕ) (a b : Account) → value_of m tree ≡ Some a → value_of n tree ≡ Some b → a.parent ≡ None
      → b.parent ≡ None → m ≡ n
  pub top_is_root : (n : ℕ) (a : Account) → value_of n tree ≡ Some a → a.parent ≡ None → a.kind ≡ Root
  pub names_differ :
      (m n : ℕ) (a b : Account) → value_of m tree ≡ Some a → value_of n tree ≡ Some b → a.parent ≡ b.parent
      → a.name ≡ b.name → m ≡ n
  pub kinds_fit :
      (n p : ℕ) (a above : Account) → value_of n tree ≡ Some a → a.parent ≡ Some p → value_of p tree ≡ Some above
      → IsTrue (fits_under a.kind above.kind)

-- What an account is after a move: it has the name and the parent given, and the kind that it had.
pub record IsMoved (tree : List (ℕ × Account)) (number : ℕ) (name : List ℕ) (parent : ℕ) (account : Account)
    : Type 0 where
  pub named : account.name ≡ name
  pub under : account.parent ≡ Some parent
  pub same_kind : kind_at tree number ≡ Some account.kind

-- All accounts keep their rules after a change, where all kept them before.
abbrev pub StayKept : List (ℕ × Commodity) → List (ℕ × Account) → List (ℕ × Account) → Type 0
StayKept commodities old new =
    EachKeeps (account_rules commodities old) old → EachKeeps (account_rules commodities new) new

-- What an account needs of the commodities of a book: its own is there, and its basis fits its kind.
pub record FitsCommodities (commodities : List (ℕ × Commodity)) (account : Account) : Type 0 where
  pub commodity : IsTrue (is_some (value_of account.commodity commodities))
  pub basis : IsTrue (fits_basis commodities (is_security account.kind) account.basis)

-- An account can be added, under any number that is free: in each book whose commodities it fits, all accounts keep
-- their rules with it.
abbrev pub CanBeAdded : List (ℕ × Account) → Account → Type 0
CanBeAdded tree account =
    (commodities : List (ℕ × Commodity)) (number : ℕ) → value_of number tree ≡ None
    → FitsCommodities commodities account → StayKept commodities tree (with_entry number account tree)

-- An account can be given the name and the parent: in each book whose commodities it fits, all accounts keep their
-- rules.
abbrev pub CanBeMoved : List (ℕ × Account) → ℕ → List ℕ → ℕ → Type 0
CanBeMoved tree number name parent =
    (commodities : List (ℕ × Commodity)) (account : Account) → IsMoved tree number name parent account
    → FitsCommodities commodities account → StayKept commodities tree (with_entry number account tree)

-- An account can be taken out, unless it is the root: in each book all other accounts keep their rules.
abbrev pub CanBeTaken : List (ℕ × Account) → ℕ → Type 0
CanBeTaken tree number =
    (commodities : List (ℕ × Commodity)) (account : Account) → value_of number tree ≡ Some account
    → is_root account.kind ≡ false → StayKept commodities tree (without_entry number tree)
