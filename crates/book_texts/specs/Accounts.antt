-- The answers of the commands on accounts, each with the version after it.
use Rattle.std.specs.Prelude.{ℕ, [], ◌∷◌, codes}
use Rattle.serde_json.specs.Data.{Members}
use Rattle.book_command.specs.declared.word.Word.TheVariants.{AccountAdd, AccountEdit, AccountDrop}
use Rattle.book_texts.specs.Fields.{answered}
use Rattle.book_texts.specs.Shown.{number_data}

-- `account_add`: the number of the new account.
abbrev pub account_add : ℕ → ℕ → Members
account_add account = answered AccountAdd ((codes "account", number_data account) ∷ [])

-- `account_edit` has no field of its own.
abbrev pub account_edit : ℕ → Members
account_edit = answered AccountEdit []

-- `account_drop` has none either.
abbrev pub account_drop : ℕ → Members
account_drop = answered AccountDrop []
