-- Tests that the rules of several kinds make.
use Rattle.std.specs.Prelude.{ℕ, nat_lt, not, Bool, ◌||◌, List, is_none, is_some}
use Rattle.book_commodity.specs.Rules.{first_broken}
use Rattle.book_commodity.specs.Table.{value_of}
use Rattle.book_commodity.specs.declared.commodity.Commodity.{Commodity}
use Rattle.book_accounts.specs.declared.account.Account.{Account}
use Rattle.book_splits.specs.Check.{txn_rules}
use Rattle.book_splits.specs.declared.transaction.Txn.{Txn}

-- Whether a thing stands under a number.
abbrev pub is_live : {T : Type 0} → List (ℕ × T) → ℕ → Bool
is_live entries number = is_some (value_of number entries)

-- Whether a number lies in a range, both ends among it.
abbrev pub is_within : ℕ → ℕ → ℕ → Bool
is_within least most number = not (nat_lt number least || nat_lt most number)

-- Whether a transaction breaks no rule of transactions among these commodities and accounts.
abbrev pub passes_check : List (ℕ × Commodity) → List (ℕ × Account) → Txn → Bool
passes_check commodities accounts transaction = is_none (first_broken (txn_rules commodities accounts transaction))
