-- The rules of a transaction, in the order in which they are asked.
use Rattle.std.specs.Prelude.{◌≡◌, All, ℕ, ◌+◌, ◌==◌, nat_lt, ◌≤◌, ℤ, pos, unsigned_abs, Bool, false, ◌&&◌}
use Rattle.std.specs.Prelude.{◌||◌, not, List, [], ◌∷◌, ◌++◌, length, Option, Some, None}
use Rattle.std.specs.Ordering.{int_eq}
use Rattle.book_commodity.specs.Currency.{is_currency}
use Rattle.book_commodity.specs.Table.{value_of}
use Rattle.book_commodity.specs.declared.commodity.Commodity.{Commodity}
use Rattle.book_commodity.specs.declared.counted.Counted.TheVariants.{Amount}
use Rattle.book_commodity.specs.declared.kind.Kind.TheVariants as kind
use Rattle.book_accounts.specs.Group.{is_security}
use Rattle.book_accounts.specs.declared.account.Account.{Account}
use Rattle.book_limits.specs.Limits.{largest_split_amount}
use Rattle.book_splits.specs.Balance.{sum_of_values}
use Rattle.book_commodity.specs.Rules.{broken_where}
use Rattle.book_splits.specs.declared.rule.TxnRule.{TxnRule}
use Rattle.book_splits.specs.declared.rule.TxnRule.TheVariants.{SplitCount, Unknown, WrongCurrency, Placeholder}
use Rattle.book_splits.specs.declared.rule.TxnRule.TheVariants.{Limit, Basis, ValueNotQuantity, Unbalanced}
use Rattle.book_splits.specs.declared.split.Split.{Split}
use Rattle.book_splits.specs.declared.transaction.Txn.{Txn}

-- A transaction has 1 to 500 splits (a limit of this project).
abbrev pub split_count : List Split → Option TxnRule
split_count splits = broken_where (nat_lt (length splits) 1 || nat_lt 500 (length splits)) (SplitCount (length splits))

-- The currency of a transaction is a commodity of the book, and a currency.
abbrev pub currency_rules : ℕ → Option Commodity → List (Option TxnRule)
currency_rules currency None = Some (Unknown kind.Commodity currency) ∷ []
currency_rules currency (Some commodity) = broken_where (not (is_currency commodity)) (WrongCurrency currency) ∷ []

-- A placeholder only groups the accounts under it, and takes no splits (GnuCash Concepts Guide, placeholder accounts).
abbrev pub placeholder : Split → Account → Option TxnRule
placeholder split account = broken_where account.placeholder (Placeholder split.account)

-- Whether the amount of a split is above 10^13 in size.
abbrev pub is_over_limit : ℤ → Bool
is_over_limit amount = nat_lt largest_split_amount (unsigned_abs amount)

-- The value and the quantity of a split are at most 10^13 in size (a limit of this project).
abbrev pub amount_limit : Split → Option TxnRule
amount_limit split =
    broken_where (is_over_limit split.value || is_over_limit split.quantity) (Limit Amount largest_split_amount)

-- Whether the basis of an account is the currency.
abbrev pub is_basis : ℕ → Option ℕ → Bool
is_basis currency None = false
is_basis currency (Some basis) = basis == currency

-- Each split on a security account stands in a transaction of the account's basis, so that its costs are in one
-- currency.
abbrev pub basis : ℕ → Split → Account → Option TxnRule
basis currency split account =
    broken_where (is_security account.kind && not (is_basis currency account.basis)) (Basis split.account)

-- A split on an account in the transaction's currency has its value as its quantity (GnuCash SQL schema, table
-- splits).
abbrev pub value_not_quantity : ℕ → ℕ → Split → Account → Option TxnRule
value_not_quantity currency place split account =
    broken_where ((account.commodity == currency) && not (int_eq split.value split.quantity)) (ValueNotQuantity place)

-- The rules of a split at a place, counted from 0: its account is one of the book, and of those on that account.
abbrev pub split_rules : ℕ → ℕ → Split → Option Account → List (Option TxnRule)
split_rules currency place split None = Some (Unknown kind.Account split.account) ∷ []
split_rules currency place split (Some account) =
    placeholder split account ∷ amount_limit split ∷ basis currency split account
    ∷ value_not_quantity currency place split account ∷ []

-- The rules of a split at a place among these accounts.
abbrev pub rules_at : List (ℕ × Account) → ℕ → ℕ → Split → List (Option TxnRule)
rules_at accounts currency place split = split_rules currency place split (value_of split.account accounts)

-- The rules of splits from a place on, all of one split before those of the next.
abbrev pub rules_of_splits : List (ℕ × Account) → ℕ → ℕ → List Split → List (Option TxnRule)
rules_of_splits accounts currency place [] = []
rules_of_splits accounts currency place (split ∷ more) =
    rules_at accounts currency place split ++ rules_of_splits accounts currency (place + 1) more

-- The values of a transaction sum to zero (GnuCash Concepts Guide, double entry).
abbrev pub unbalanced : List Split → Option TxnRule
unbalanced splits = broken_where (not (int_eq (sum_of_values splits) (pos 0))) (Unbalanced (sum_of_values splits))

-- The rules of a transaction among these commodities and accounts.
abbrev pub txn_rules : List (ℕ × Commodity) → List (ℕ × Account) → Txn → List (Option TxnRule)
txn_rules commodities accounts txn =
    split_count txn.splits ∷ (currency_rules txn.currency (value_of txn.currency commodities)
    ++ (rules_of_splits accounts txn.currency 0 txn.splits ++ (unbalanced txn.splits ∷ [])))

-- The value and the quantity of a split are at most 10^13 in size.
abbrev pub HasAmounts : Split → Type 0
HasAmounts split =
    (unsigned_abs split.value ≤ largest_split_amount) × (unsigned_abs split.quantity ≤ largest_split_amount)

-- The splits of a transaction that breaks no rule: their values sum to zero, and they keep the limits.
pub record IsSound (splits : List Split) : Type 0 where
  pub balanced : sum_of_values splits ≡ pos 0
  pub amounts : All HasAmounts splits
  pub some : 1 ≤ length splits
  pub few : length splits ≤ 500
