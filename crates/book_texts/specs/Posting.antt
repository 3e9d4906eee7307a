-- The answers of the commands on transactions, each with the version after it.
use Rattle.std.specs.Prelude.{ℕ, ℤ, List, [], ◌∷◌, codes}
use Rattle.serde_json.specs.Data.{Members}
use Rattle.book_command.specs.declared.word.Word.TheVariants.{Post, Edit, Drop}
use Rattle.book_command.specs.declared.word.Word.TheVariants.{Mark}
use Rattle.book_texts.specs.Fields.{answered}
use Rattle.book_texts.specs.Shown.{list_data, number_data, sum_data}

-- `post`: the number of the new transaction, the numbers of its splits, and the balances of their accounts.
abbrev pub post : ℕ → List ℕ → List ℤ → ℕ → Members
post transaction splits balances =
    answered Post
    ((codes "balances", list_data sum_data balances)
    ∷ (codes "splits", list_data number_data splits)
    ∷ (codes "transaction", number_data transaction)
    ∷ [])

-- `edit`: the numbers of the transaction's splits, and the balances of their accounts.
abbrev pub edit : List ℕ → List ℤ → ℕ → Members
edit splits balances =
    answered Edit
    ((codes "balances", list_data sum_data balances) ∷ (codes "splits", list_data number_data splits) ∷ [])

-- `drop` has no field of its own.
abbrev pub drop : ℕ → Members
drop = answered Drop []

-- `mark` has none either.
abbrev pub mark : ℕ → Members
mark = answered Mark []
