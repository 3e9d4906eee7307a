-- The line that answers a command which would break a rule.
use Rattle.std.specs.Prelude.{ℕ, List, [], ◌∷◌, codes}
use Rattle.serde_json.specs.Data.{Data, Members, string}
use Rattle.book_commodity.specs.declared.kind.Kind.{Kind}
use Rattle.book_command.specs.declared.rule.Rule.{Rule}
use Rattle.book_command.specs.declared.rule.Rule.TheVariants.{Stale, Unknown, NameTaken, Cycle, ParentKind, Root}
use Rattle.book_command.specs.declared.rule.Rule.TheVariants.{Placeholder, NotEmpty, InUse, FractionShape}
use Rattle.book_command.specs.declared.rule.Rule.TheVariants.{BasisShape, SplitCount, WrongCurrency, Basis}
use Rattle.book_command.specs.declared.rule.Rule.TheVariants.{ValueNotQuantity, Unbalanced, Reconciled, PriceShape}
use Rattle.book_command.specs.declared.rule.Rule.TheVariants.{DayRange, RecurrenceShape, NothingToUndo}
use Rattle.book_command.specs.declared.rule.Rule.TheVariants.{NothingToRedo, Limit, BadStatement, Unbound, LineTaken}
use Rattle.book_command.specs.declared.rule.Rule.TheVariants.{LineAmount, NoClosing, Difference, Voided, NotVoided}
use Rattle.book_texts.specs.Fields.{broken, line_of}
use Rattle.book_texts.specs.Shown.{number_data, sum_data}
use Rattle.book_texts.specs.StatementFaults.{bad_statement}
use Rattle.book_texts.specs.Words.{kind_data, limit_data}

-- A thing by its kind and its number.
abbrev pub named_by : Kind → ℕ → List (List ℕ × Data)
named_by kind id = (codes "kind", kind_data kind) ∷ (codes "id", number_data id) ∷ []

-- Each rule by its name and its own fields, with the version, which stays.
abbrev pub rule_members : Rule → ℕ → Members
rule_members (Stale now) = broken (codes "Stale") ((codes "now", number_data now) ∷ [])
rule_members (Unknown kind id) = broken (codes "Unknown") (named_by kind id)
rule_members (NameTaken id) = broken (codes "NameTaken") ((codes "id", number_data id) ∷ [])
rule_members Cycle = broken (codes "Cycle") []
rule_members ParentKind = broken (codes "ParentKind") []
rule_members Root = broken (codes "Root") []
rule_members (Placeholder account) = broken (codes "Placeholder") ((codes "account", number_data account) ∷ [])
rule_members (NotEmpty account) = broken (codes "NotEmpty") ((codes "account", number_data account) ∷ [])
rule_members (InUse kind id) = broken (codes "InUse") (named_by kind id)
rule_members FractionShape = broken (codes "FractionShape") []
rule_members BasisShape = broken (codes "BasisShape") []
rule_members (SplitCount count) = broken (codes "SplitCount") ((codes "count", number_data count) ∷ [])
rule_members (WrongCurrency commodity) = broken (codes "WrongCurrency")
    ((codes "commodity", number_data commodity) ∷ [])
rule_members (Basis account) = broken (codes "Basis") ((codes "account", number_data account) ∷ [])
rule_members (ValueNotQuantity place) = broken (codes "ValueNotQuantity") ((codes "place", number_data place) ∷ [])
rule_members (Unbalanced sum) = broken (codes "Unbalanced") ((codes "sum", sum_data sum) ∷ [])
rule_members (Reconciled split) = broken (codes "Reconciled") ((codes "split", number_data split) ∷ [])
rule_members (Voided transaction) = broken (codes "Voided") ((codes "transaction", number_data transaction) ∷ [])
rule_members (NotVoided transaction) = broken (codes "NotVoided")
    ((codes "transaction", number_data transaction) ∷ [])
rule_members (BadStatement fault) = bad_statement fault
rule_members (Unbound text) = broken (codes "Unbound") ((codes "text", string text) ∷ [])
rule_members (LineTaken line) = broken (codes "LineTaken") ((codes "line", number_data line) ∷ [])
rule_members (LineAmount line) = broken (codes "LineAmount") ((codes "line", number_data line) ∷ [])
rule_members (NoClosing statement) = broken (codes "NoClosing") ((codes "statement", number_data statement) ∷ [])
rule_members (Difference by) = broken (codes "Difference") ((codes "by", sum_data by) ∷ [])
rule_members PriceShape = broken (codes "PriceShape") []
rule_members DayRange = broken (codes "DayRange") []
rule_members (RecurrenceShape place) = broken (codes "RecurrenceShape") ((codes "place", number_data place) ∷ [])
rule_members NothingToUndo = broken (codes "NothingToUndo") []
rule_members NothingToRedo = broken (codes "NothingToRedo") []
rule_members (Limit which at) = broken (codes "Limit")
    ((codes "which", limit_data which) ∷ (codes "at", number_data at) ∷ [])

-- Its line.
abbrev pub rule_bytes : Rule → ℕ → List ℕ
rule_bytes rule version = line_of (rule_members rule version)
