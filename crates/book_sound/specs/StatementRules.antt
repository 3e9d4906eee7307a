-- The rules that each statement of a book keeps.
use Rattle.std.specs.Prelude.{ℕ, ◌==◌, not, Bool, ◌&&◌, List, [], ◌∷◌}
use Rattle.std.specs.Bool.{beq}
use Rattle.std.specs.Option.{option_eq}
use Rattle.std.specs.Ordering.{int_eq}
use Rattle.book_commodity.specs.Rules.{stands_before}
use Rattle.book_accounts.specs.declared.account.Account.{Account}
use Rattle.book_statement.specs.Keys.{same_text}
use Rattle.book_statement.specs.declared.held.Held.{Held}
use Rattle.book_sound.specs.Tests.{is_live}

-- Whether another statement is equal in all fields.
abbrev pub is_same_statement : Held → Held → Bool
is_same_statement statement other =
    (other.account == statement.account) && (same_text other.account_text statement.account_text
    && (same_text other.number statement.number && (option_eq int_eq other.opening statement.opening
    && (option_eq int_eq other.closing statement.closing
    && (int_eq other.day statement.day && option_eq beq other.ties statement.ties)))))

-- The rules of a statement: its account is in the book, and no statement before it is equal in all fields, so that a
-- file that is imported again adds none (a rule of this project).
abbrev pub statement_rules : List (ℕ × Account) → List (ℕ × Held) → ℕ → Held → List Bool
statement_rules accounts statements number statement =
    is_live accounts statement.account
    ∷ not (stands_before (is_same_statement statement) number statements)
    ∷ []
