-- An account that something of the book names, besides an account under it and a split, is in use.
use Rattle.std.specs.Prelude.{ℕ, Bool, List, [], ◌∷◌, Option, option_map, find}
use Rattle.book_commodity.specs.declared.kind.Kind.{Kind}
use Rattle.book_commodity.specs.declared.kind.Kind.TheVariants as kind
use Rattle.book_undo.specs.Book.{Book}
use Rattle.book_sound.specs.Naming.{binding_names, line_names, reconciliation_names, schedule_names, statement_names}
use Rattle.book_command.specs.declared.rule.Rule.{Rule}
use Rattle.book_command.specs.declared.rule.Rule.TheVariants.{InUse}

-- A thing of a kind names the account; the rule carries the least number of such.
abbrev pub in_use_by : {T : Type 0} → Kind → (T → Bool) → List (ℕ × T) → Option Rule
in_use_by kind names entries = option_map (λ entry. InUse kind entry.0) (find (λ entry. names entry.1) entries)

-- The rules of an account that is to be used no more: no schedule names it, no statement, no line of one, no binding
-- and no reconciliation (a rule of this project).
abbrev pub in_use_rules : Book → ℕ → List (Option Rule)
in_use_rules book account =
    in_use_by kind.Schedule (schedule_names account) book.schedules
    ∷ in_use_by kind.Statement (statement_names account) book.statements
    ∷ in_use_by kind.Line (line_names account) book.lines
    ∷ in_use_by kind.Binding (binding_names account) book.bindings
    ∷ in_use_by kind.Reconciliation (reconciliation_names account) book.reconciliations
    ∷ []
