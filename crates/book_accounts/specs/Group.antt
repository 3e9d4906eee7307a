-- Groups of account kinds, and which kind may stand under which (GnuCash Concepts Guide, account types).
use Rattle.std.specs.Prelude.{Bool, true, false, Option, Some, None}
use Rattle.book_accounts.specs.declared.kind.AccountKind.{AccountKind}
use Rattle.book_accounts.specs.declared.kind.AccountKind.TheVariants.{Root, Asset, Bank, Cash, Credit, Liability, Stock}
use Rattle.book_accounts.specs.declared.kind.AccountKind.TheVariants.{Mutual, Receivable, Payable, Income, Expense}
use Rattle.book_accounts.specs.declared.kind.AccountKind.TheVariants.{Equity}
use Rattle.book_accounts.specs.declared.kind.AccountGroup.{AccountGroup}
use Rattle.book_accounts.specs.declared.kind.AccountGroup.TheVariants as group

-- The group of a kind; the root is of none.
abbrev pub group_of : AccountKind → Option AccountGroup
group_of Root = None
group_of Asset = Some group.AssetsAndLiabilities
group_of Bank = Some group.AssetsAndLiabilities
group_of Cash = Some group.AssetsAndLiabilities
group_of Credit = Some group.AssetsAndLiabilities
group_of Liability = Some group.AssetsAndLiabilities
group_of Stock = Some group.AssetsAndLiabilities
group_of Mutual = Some group.AssetsAndLiabilities
group_of Receivable = Some group.AssetsAndLiabilities
group_of Payable = Some group.AssetsAndLiabilities
group_of Income = Some group.IncomeAndExpenses
group_of Expense = Some group.IncomeAndExpenses
group_of Equity = Some group.Equity

-- Whether accounts of this kind hold securities.
abbrev pub is_security : AccountKind → Bool
is_security Stock = true
is_security Mutual = true
is_security _ = false

-- Whether two groups are the same.
abbrev pub is_same_group : AccountGroup → AccountGroup → Bool
is_same_group group.AssetsAndLiabilities group.AssetsAndLiabilities = true
is_same_group group.IncomeAndExpenses group.IncomeAndExpenses = true
is_same_group group.Equity group.Equity = true
is_same_group _ _ = false

-- Whether an account of the one group may stand under one of the other: a root has no group.
abbrev pub is_group_under : Option AccountGroup → Option AccountGroup → Bool
is_group_under None above = false
is_group_under (Some lower) None = true
is_group_under (Some lower) (Some upper) = is_same_group lower upper

-- Whether an account of the first kind may stand right under one of the second: both are of one group, or the second
-- is the root. The root itself stands under nothing.
abbrev pub fits_under : AccountKind → AccountKind → Bool
fits_under kind above = is_group_under (group_of kind) (group_of above)
