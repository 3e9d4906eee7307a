-- The rules that each binding of a book keeps.
use Rattle.std.specs.Prelude.{ℕ, not, Bool, false, List, [], ◌∷◌, Option, Some, None}
use Rattle.book_commodity.specs.Rules.{stands_before}
use Rattle.book_commodity.specs.Table.{value_of}
use Rattle.book_accounts.specs.declared.account.Account.{Account}
use Rattle.book_statement.specs.Keys.{same_text}
use Rattle.book_statement.specs.declared.binding.Binding.{Binding}

-- Whether another binding has the same text.
abbrev pub is_same_binding : Binding → Binding → Bool
is_same_binding binding other = same_text other.text binding.text

-- Whether there is an account, and it takes splits (GnuCash Concepts Guide, placeholder accounts).
abbrev pub takes_splits : Option Account → Bool
takes_splits None = false
takes_splits (Some account) = not account.placeholder

-- The rules of a binding: no binding before it has its text, and its account is in the book and takes splits (rules of
-- this project).
abbrev pub binding_rules : List (ℕ × Account) → List (ℕ × Binding) → ℕ → Binding → List Bool
binding_rules accounts bindings number binding =
    not (stands_before (is_same_binding binding) number bindings)
    ∷ takes_splits (value_of binding.account accounts)
    ∷ []
