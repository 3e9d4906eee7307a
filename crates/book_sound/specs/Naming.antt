-- Which accounts the things of a book name.
use Rattle.std.specs.Prelude.{ℕ, ◌==◌, Bool, ◌||◌, List}
use Rattle.std.specs.List.{list_any}
use Rattle.book_splits.specs.Balance.{has_splits}
use Rattle.book_splits.specs.declared.reconciliation.Recon.{Recon}
use Rattle.book_splits.specs.declared.split.Split.{Split}
use Rattle.book_statement.specs.declared.binding.Binding.{Binding}
use Rattle.book_statement.specs.declared.held.Held.{Held}
use Rattle.book_statement.specs.declared.line.Line.{Line}
use Rattle.book_undo.specs.Book.{Book}
use Rattle.book_undo.specs.declared.schedule.Schedule.{Schedule}

-- Whether one of some splits is on an account.
abbrev pub is_on_some : ℕ → List Split → Bool
is_on_some account splits = list_any (λ split. split.account == account) splits

-- Whether the template of a schedule has a split on an account.
abbrev pub schedule_names : ℕ → Schedule → Bool
schedule_names account schedule = is_on_some account schedule.template.splits

-- Whether a statement is of an account.
abbrev pub statement_names : ℕ → Held → Bool
statement_names account statement = statement.account == account

-- Whether a statement's line is of an account.
abbrev pub line_names : ℕ → Line → Bool
line_names account line = line.account == account

-- Whether a binding stands for an account.
abbrev pub binding_names : ℕ → Binding → Bool
binding_names account binding = binding.account == account

-- Whether a reconciliation is of an account.
abbrev pub reconciliation_names : ℕ → Recon → Bool
reconciliation_names account reconciliation = reconciliation.account == account

-- Whether a thing of a table passes a test.
abbrev pub has_thing : {T : Type 0} → (T → Bool) → List (ℕ × T) → Bool
has_thing test entries = list_any (λ entry. test entry.1) entries

-- Whether an account has a split, or a schedule, a statement, a line, a binding or a reconciliation names it.
abbrev pub is_in_use : Book → ℕ → Bool
is_in_use book account =
    has_splits book.transactions account || (has_thing (schedule_names account) book.schedules
    || (has_thing (statement_names account) book.statements || (has_thing (line_names account) book.lines
    || (has_thing (binding_names account) book.bindings
    || has_thing (reconciliation_names account) book.reconciliations))))
