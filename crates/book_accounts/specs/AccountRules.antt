-- The rules that each account of a book keeps.
use Rattle.std.specs.Prelude.{ℕ, nat_eq, not, Bool, true, false, ◌&&◌, ◌||◌, List, [], ◌∷◌, Option, Some, None, is_none}
use Rattle.std.specs.Prelude.{is_some, option_map, find}
use Rattle.std.specs.Bool.{beq}
use Rattle.std.specs.List.{list_any}
use Rattle.std.specs.Option.{option_eq}
use lib.Pointwise.{pointwise}
use Rattle.book_commodity.specs.Currency.{is_currency_of}
use Rattle.book_commodity.specs.Rules.{stands_before}
use Rattle.book_commodity.specs.Table.{value_of}
use Rattle.book_commodity.specs.declared.commodity.Commodity.{Commodity}
use Rattle.book_accounts.specs.Group.{fits_under, is_security}
use Rattle.book_accounts.specs.Rules.{kind_at}
use Rattle.book_accounts.specs.Tree.{ancestors}
use Rattle.book_accounts.specs.declared.account.Account.{Account}
use Rattle.book_accounts.specs.declared.kind.AccountKind.{AccountKind}
use Rattle.book_accounts.specs.declared.kind.AccountKind.TheVariants.{Root}

-- Whether it is the kind of the account that all others stand under (GnuCash SQL schema, column root_account_guid of
-- books).
abbrev pub is_root : AccountKind → Bool
is_root Root = true
is_root _ = false

-- Whether the basis fits the kind: a security account has a currency as its basis, in which it is bought and sold
-- (GnuCash Concepts Guide, buying shares); another account has none.
abbrev pub fits_basis : List (ℕ × Commodity) → Bool → Option ℕ → Bool
fits_basis commodities true (Some basis) = is_currency_of (value_of basis commodities)
fits_basis commodities true None = false
fits_basis commodities false basis = is_none basis

-- Whether an account has no parent where it is a root, and a parent where it is none (GnuCash SQL schema, column
-- parent_guid of accounts).
abbrev pub has_parent_unless_root : Account → Bool
has_parent_unless_root account = beq (is_none account.parent) (is_root account.kind)

-- Whether an account takes no splits where it is a root: it only groups all others (GnuCash Concepts Guide,
-- placeholder accounts).
abbrev pub is_placeholder_if_root : Account → Bool
is_placeholder_if_root account = not (is_root account.kind) || account.placeholder

-- Whether there is a kind above, and the kind may stand under it.
abbrev pub fits_below : AccountKind → Option AccountKind → Bool
fits_below kind None = false
fits_below kind (Some above) = fits_under kind above

-- Whether the parent, if there is to be one, is an account of the book and of a kind under which this kind may stand.
abbrev pub fits_parent : List (ℕ × Account) → AccountKind → Option ℕ → Bool
fits_parent accounts kind None = true
fits_parent accounts kind (Some parent) = fits_below kind (kind_at accounts parent)

-- Whether another account has the same parent and the same name.
abbrev pub has_same_name : Account → Account → Bool
has_same_name account other = option_eq nat_eq other.parent account.parent && pointwise nat_eq other.name account.name

-- The root: of the accounts of its kind the one with the least number.
abbrev pub root_of : List (ℕ × Account) → Option ℕ
root_of accounts = option_map (λ entry. entry.0) (find (λ entry. is_root entry.1.kind) accounts)

-- Whether it is the number of the root.
abbrev pub is_root_number : List (ℕ × Account) → ℕ → Bool
is_root_number accounts number = option_eq nat_eq (root_of accounts) (Some number)

-- Whether an account is the root where it is of its kind: there is no second one.
abbrev pub is_root_if_of_kind : List (ℕ × Account) → ℕ → Account → Bool
is_root_if_of_kind accounts number account = not (is_root account.kind) || is_root_number accounts number

-- Whether the parents of an account lead up to the root: it is the root, or its parent is, or the parent of that, and
-- so on.
abbrev pub leads_to_root : List (ℕ × Account) → ℕ → Bool
leads_to_root accounts number = list_any (is_root_number accounts) (number ∷ ancestors accounts number)

-- The rules of an account: its commodity is in the book; its basis fits its kind; it has a parent unless it is the
-- root, which takes no splits and is the only one; the parent is there and of a fitting kind; no sibling before it has
-- its name; and its parents lead up to the root.
abbrev pub account_rules : List (ℕ × Commodity) → List (ℕ × Account) → ℕ → Account → List Bool
account_rules commodities accounts number account =
    is_some (value_of account.commodity commodities)
    ∷ fits_basis commodities (is_security account.kind) account.basis
    ∷ has_parent_unless_root account
    ∷ is_placeholder_if_root account
    ∷ is_root_if_of_kind accounts number account
    ∷ fits_parent accounts account.kind account.parent
    ∷ not (stands_before (has_same_name account) number accounts)
    ∷ leads_to_root accounts number
    ∷ []
