-- The rules of an account in two groups: what it has, and where it stands.
use Rattle.std.specs.Prelude.{ℕ, Bool, List, [], ◌∷◌, is_some}
use Rattle.book_commodity.specs.Table.{value_of}
use Rattle.book_commodity.specs.declared.commodity.Commodity.{Commodity}
use Rattle.book_accounts.specs.AccountRules.{fits_basis, fits_parent, has_parent_unless_root, is_placeholder_if_root}
use Rattle.book_accounts.specs.AccountRules.{is_root_if_of_kind, leads_to_root}
use Rattle.book_accounts.specs.Group.{is_security}
use Rattle.book_accounts.specs.declared.account.Account.{Account}
use Rattle.book_check.specs.FirstUnsound.{all_hold}

-- Whether what an account has fits: its commodity is in the book, its basis fits its kind, it has a parent unless it
-- is a root, and takes no splits if it is one.
abbrev pub is_whole : List (ℕ × Commodity) → Account → Bool
is_whole commodities account = all_hold (
    is_some (value_of account.commodity commodities)
    ∷ fits_basis commodities (is_security account.kind) account.basis
    ∷ has_parent_unless_root account
    ∷ is_placeholder_if_root account
    ∷ [])

-- Whether an account stands under the root: it is the only root or none, its parent is there and of a fitting kind, and
-- its parents lead up to the root.
abbrev pub is_under_root : List (ℕ × Account) → ℕ → Account → Bool
is_under_root accounts number account = all_hold (
    is_root_if_of_kind accounts number account
    ∷ fits_parent accounts account.kind account.parent
    ∷ leads_to_root accounts number
    ∷ [])
