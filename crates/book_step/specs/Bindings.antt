-- The command on bindings: which account of the book an account text of a statement stands for.
use Rattle.std.specs.Prelude.{ℕ, ◌+◌, ◌==◌, nat_lt, Bool, false, if◌then◌else◌, List, [], ◌∷◌, ◌++◌, find, length}
use Rattle.std.specs.Prelude.{Option, Some, None}
use Rattle.book_commodity.specs.Rules.{broken_where}
use Rattle.book_commodity.specs.Table.{value_of}
use Rattle.book_commodity.specs.declared.counted.Counted.TheVariants as counted
use Rattle.book_accounts.specs.declared.account.Account.{Account}
use Rattle.book_statement.specs.Keys.{same_text}
use Rattle.book_statement.specs.declared.binding.Binding.{Binding}
use Rattle.book_undo.specs.Book.{Book, with_thing}
use Rattle.book_undo.specs.declared.thing.Thing.TheVariants as thing
use Rattle.book_command.specs.declared.answer.Answer.TheVariants as answer
use Rattle.book_command.specs.declared.rule.Rule.{Rule}
use Rattle.book_command.specs.declared.rule.Rule.TheVariants.{Limit, Placeholder}
use Rattle.book_step.specs.Accounts.{unknown_account}
use Rattle.book_step.specs.Outcome.{Outcome, changing, leaving}
use Rattle.book_step.specs.State.{State}

-- Whether there is an account, and it is a placeholder.
abbrev pub is_placeholder : Option Account → Bool
is_placeholder None = false
is_placeholder (Some account) = account.placeholder

-- The account takes no splits (GnuCash Concepts Guide, placeholder accounts).
abbrev pub placeholder : List (ℕ × Account) → ℕ → Option Rule
placeholder accounts number = broken_where (is_placeholder (value_of number accounts)) (Placeholder number)

-- The rules of a binding: its account is in the book, and takes splits.
abbrev pub account_rules : List (ℕ × Account) → ℕ → List (Option Rule)
account_rules accounts number = unknown_account accounts number ∷ placeholder accounts number ∷ []

-- A book has at most 10,000 bindings (a limit of this project).
abbrev pub too_many_bindings : List (ℕ × Binding) → Option Rule
too_many_bindings bindings = broken_where (nat_lt 10000 (length bindings + 1)) (Limit counted.Bindings 10000)

-- The rules of a new binding: those of its account, and the book has room for it.
abbrev pub new_rules : Book → ℕ → List (Option Rule)
new_rules book account = account_rules book.accounts account ++ too_many_bindings book.bindings ∷ []

-- The binding of an account text under its number, if there is one: it is the only one (a rule of this project).
abbrev pub binding_of : List ℕ → List (ℕ × Binding) → Option (ℕ × Binding)
binding_of text bindings = find (λ entry. same_text entry.1.text text) bindings

-- The binding of an account text to an account.
abbrev pub binding_to : List ℕ → ℕ → Binding
binding_to text account = record { text = text; account = account }

-- A binding where none of its text is, under the next number; else in the place of that one, under its number. One that
-- is there already leaves the book as it is.
abbrev pub bind_at : State → Binding → Option (ℕ × Binding) → Outcome
bind_at state binding None =
    changing state (new_rules state.book binding.account) (with_thing state.next (thing.Binding binding) state.book) 1
    answer.Bind
bind_at state binding (Some old) =
    if old.1.account == binding.account
    then leaving state (account_rules state.book.accounts binding.account) answer.Bind
    else changing state (account_rules state.book.accounts binding.account)
    (with_thing old.0 (thing.Binding binding) state.book) 0 answer.Bind

-- The account text of a binding stands for its account from now on.
abbrev pub bind : State → Binding → Outcome
bind state binding = bind_at state binding (binding_of binding.text state.book.bindings)
