-- The rules by which an account may be added to a tree, or moved and renamed in it. A broken rule is reported with its
-- fields, and of several the first in the order given.
use Rattle.std.specs.Prelude.{◌≡◌, ℕ, ◌==◌, nat_eq, Bool, ◌&&◌, not, if◌then◌else◌, List, [], ◌∷◌, Option, Some, None}
use Rattle.std.specs.Prelude.{is_none, option_map, find, Result, Ok, Err}
use Rattle.std.specs.List.{list_any}
use Rattle.std.specs.Option.{option_eq}
use lib.Pointwise.{pointwise}
use Rattle.book_commodity.specs.Rules.{first_broken}
use Rattle.book_commodity.specs.Table.{value_of}
use Rattle.book_accounts.specs.Group.{fits_under}
use Rattle.book_accounts.specs.Tree.{ancestors}
use Rattle.book_accounts.specs.declared.account.Account.{Account}
use Rattle.book_accounts.specs.declared.kind.AccountKind.{AccountKind}
use Rattle.book_accounts.specs.declared.rule.TreeRule.{TreeRule}
use Rattle.book_accounts.specs.declared.rule.TreeRule.TheVariants.{UnknownAccount, NameTaken, Cycle, ParentKind}

-- No account has the number.
abbrev pub unknown_account : List (ℕ × Account) → ℕ → Option TreeRule
unknown_account tree number = if is_none (value_of number tree) then Some (UnknownAccount number) else None

-- Whether an account has this parent and this name.
abbrev pub is_named : ℕ → List ℕ → Account → Bool
is_named parent name account = option_eq nat_eq account.parent (Some parent) && pointwise nat_eq account.name name

-- Whether an account other than the one set apart has this parent and this name.
abbrev pub is_namesake : Option ℕ → ℕ → List ℕ → ℕ × Account → Bool
is_namesake apart parent name entry = not (option_eq nat_eq apart (Some entry.0)) && is_named parent name entry.1

-- The least number of an account that has this parent and this name, one account set apart.
abbrev pub namesake : List (ℕ × Account) → Option ℕ → ℕ → List ℕ → Option ℕ
namesake tree apart parent name = option_map (λ entry. entry.0) (find (is_namesake apart parent name) tree)

-- A sibling has the name already.
abbrev pub name_taken : List (ℕ × Account) → Option ℕ → ℕ → List ℕ → Option TreeRule
name_taken tree apart parent name = option_map (λ id. NameTaken id) (namesake tree apart parent name)

-- Whether an account is the upper one or stands under it.
abbrev pub is_within : List (ℕ × Account) → ℕ → ℕ → Bool
is_within tree upper number = list_any (λ n. n == upper) (number ∷ ancestors tree number)

-- The new parent is the account itself or stands under it.
abbrev pub cycle : List (ℕ × Account) → ℕ → ℕ → Option TreeRule
cycle tree number parent = if is_within tree number parent then Some Cycle else None

-- The kinds of the account and of its parent are of different groups, or the account is a root.
abbrev pub parent_kind : Option AccountKind → Option AccountKind → Option TreeRule
parent_kind (Some kind) (Some above) = if fits_under kind above then None else Some ParentKind
parent_kind _ _ = None

-- The kind of the account under a number, if there is one.
abbrev pub kind_at : List (ℕ × Account) → ℕ → Option AccountKind
kind_at tree number = option_map (λ account. account.kind) (value_of number tree)

-- The rule that a new account breaks under the parent that it is given.
abbrev pub add_rule_under : List (ℕ × Account) → Account → Option ℕ → Option TreeRule
add_rule_under tree account None = Some ParentKind
add_rule_under tree account (Some parent) =
    first_broken (unknown_account tree parent ∷ name_taken tree None parent account.name
    ∷ parent_kind (Some account.kind) (kind_at tree parent) ∷ [])

-- The first rule that adding an account would break; without a parent it breaks the rule of kinds.
abbrev pub add_rule : List (ℕ × Account) → Account → Option TreeRule
add_rule tree account = add_rule_under tree account account.parent

-- The first rule that giving an account this name and this parent would break.
abbrev pub move_rule : List (ℕ × Account) → ℕ → List ℕ → ℕ → Option TreeRule
move_rule tree number name parent =
    first_broken (unknown_account tree number ∷ unknown_account tree parent ∷ name_taken tree (Some number) parent name
    ∷ cycle tree number parent ∷ parent_kind (kind_at tree number) (kind_at tree parent) ∷ [])

-- What a check of one rule reports: the rule that is broken, and Ok exactly where none is.
abbrev pub Reports : {T : Type 0} → Option TreeRule → Result T TreeRule → Type 0
Reports rule (Ok _) = rule ≡ None
Reports rule (Err broken) = rule ≡ Some broken
