-- What the fields of a message give: the last value of a kind, and the lines.
use Rattle.std.specs.Prelude.{ℕ, List, [], ◌∷◌, ◌++◌, Option, Some, None, unwrap_or, if◌then◌else◌}
use Rattle.std.specs.Option.{option_or}
use Rattle.book_commodity.specs.declared.commodity.Commodity.{Commodity}
use Rattle.book_statement.specs.declared.statement_line.StatementLine.{StatementLine}
use Rattle.book_statement.specs.Currencies.{fraction_of}
use Rattle.mt940_read.specs.declared.tag.Tag.{Tag}
use Rattle.mt940_read.specs.declared.tag.Tag.TheVariants.{Opening}
use Rattle.mt940_read.specs.Balances.{balance_currency}
use Rattle.mt940_read.specs.LineField.{line}
use Rattle.mt940_read.specs.Order.{is_line, is_text}
use Rattle.mt940_read.specs.Tree.{FieldLines}

-- What the last field gives that gives something. What a field gives may hang on the fields before it, its tag and its
-- text.
abbrev pub last_given : {X : Type 0} → (List FieldLines → Tag → List ℕ → Option X) → List FieldLines
    → List FieldLines → Option X
last_given gives before [] = None
last_given gives before (f ∷ fs) = option_or (last_given gives (before ++ f ∷ []) fs) (gives before f.tag f.first)

-- The tag of the last field.
abbrev pub last_tag : List FieldLines → Option Tag
last_tag [] = None
last_tag (f ∷ []) = Some f.tag
last_tag (f ∷ g ∷ gs) = last_tag (g ∷ gs)

-- The fraction of a currency; 1 where the book has no such currency.
abbrev pub fraction_in : List (ℕ × Commodity) → List ℕ → ℕ
fraction_in known code = unwrap_or (fraction_of code known) 1

-- The fraction that a field 60 gives: that of the currency of its balance.
abbrev pub fraction_given : List (ℕ × Commodity) → List FieldLines → Tag → List ℕ → Option ℕ
fraction_given known before (Opening goes_on) text = Some (fraction_in known (balance_currency text))
fraction_given known before _ text = None

-- The fraction in which the amounts behind some fields are counted: that of the 60 among them.
abbrev pub fraction_behind : List (ℕ × Commodity) → List FieldLines → ℕ
fraction_behind known fields = unwrap_or (last_given (fraction_given known) [] fields) 1

-- The pieces of text that a 61 has from an 86 directly behind it (SWIFT, MT940 field 86).
abbrev pub text_behind : List FieldLines → List (List ℕ)
text_behind [] = []
text_behind (f ∷ fs) = if is_text f.tag then f.first ∷ f.more else []

-- The line that a 61 gives, with its further lines and then those of the 86 as its text; another field gives none.
abbrev pub entry : List (ℕ × Commodity) → List FieldLines → FieldLines → List FieldLines → List StatementLine
entry known before f behind =
    if is_line f.tag then line (fraction_behind known before) f.first (f.more ++ text_behind behind) ∷ [] else []

-- The lines of a message, in the order of its fields (SWIFT, MT940: any number of 61, each perhaps with an 86).
abbrev pub entries : List (ℕ × Commodity) → List FieldLines → List FieldLines → List StatementLine
entries known before [] = []
entries known before (f ∷ fs) = entry known before f fs ++ entries known (before ++ f ∷ []) fs
