-- The statement that a register gives: an account with the entries of its transactions.
use Rattle.std.specs.Prelude.{ℕ, ◌-◌, ◌==◌, nat_le, Bool, ◌&&◌, ◌||◌, List, [], ◌∷◌, length, map, fold, take, drop}
use Rattle.std.specs.Prelude.{slice_index, codes, Option, Some, None, if◌then◌else◌, ℤ}
use Rattle.std.specs.Int.{int_max}
use Rattle.book_statement.specs.Keys.{same_text}
use Rattle.book_statement.specs.Texts.{is_nothing}
use Rattle.book_statement.specs.declared.statement.Statement.{Statement}
use Rattle.book_statement.specs.declared.statement_line.StatementLine.{StatementLine}
use Rattle.qif_read.specs.Entries.{text_of, amount_of, day_of, line_in}
use Rattle.qif_read.specs.Tree.{Line, Entry}
use Rattle.qif_read.specs.declared.form.Form.{Form}
use Rattle.qif_read.specs.declared.kind.Code.TheVariants.{Payee, Category}

-- An account in brackets stands in the place of a category.
unfoldable pub is_in_brackets : List ℕ → Bool
is_in_brackets text =
    nat_le 2 (length text) && ((slice_index text 0 == 91) && (slice_index text (length text - 1) == 93))

-- What stands between the brackets.
unfoldable pub inside : List ℕ → List ℕ
inside text = take (length text - 2) (drop 1 text)

-- The account in brackets of an entry.
abbrev pub account_named : List Line → List ℕ
account_named fields = inside (text_of Category fields)

-- A text that is the payee of an entry and one that is its category make it the opening balance of an account with
-- this name, or of one without a name.
unfoldable pub is_opening_text : List ℕ → List ℕ → List ℕ → Bool
is_opening_text name payee category =
    same_text payee (codes "Opening Balance") && (is_in_brackets category
    && (is_nothing name || same_text name (inside category)))

-- An entry that gives the opening balance of an account with this name, or of one without a name.
abbrev pub is_opening : List ℕ → List Line → Bool
is_opening name fields = is_opening_text name (text_of Payee fields) (text_of Category fields)

-- The latest of some days.
abbrev pub latest : ℤ → List ℤ → ℤ
latest day days = fold int_max day days

-- The days of entries.
abbrev pub days_of : Form → List Entry → List ℤ
days_of form entries = map (λ entry. day_of form entry.fields) entries

-- A line for each entry.
abbrev pub line_of_each : Form → List Entry → List StatementLine
line_of_each form entries = map (λ entry. line_in form entry.fields) entries

-- The account: that of a first entry which gives the opening balance, else the one with the register's name.
abbrev pub account_in : List ℕ → List Entry → List ℕ
account_in name [] = name
account_in name (first ∷ later) = if is_opening name first.fields then account_named first.fields else name

-- The opening balance, which only a first entry gives.
abbrev pub opening_in : Form → List ℕ → List Entry → Option ℤ
opening_in form name [] = None
opening_in form name (first ∷ later) =
    if is_opening name first.fields then Some (amount_of form first.fields) else None

-- The lines: one for each entry, but for a first one that gives the opening balance.
abbrev pub lines_in : Form → List ℕ → List Entry → List StatementLine
lines_in form name [] = []
lines_in form name (first ∷ later) =
    if is_opening name first.fields then line_of_each form later
    else line_in form first.fields ∷ line_of_each form later

-- A register with an entry is a statement, on the latest of its days; QIF has no number and no closing balance.
abbrev pub statement_in : Form → List ℕ → List Entry → List Statement
statement_in form name [] = []
statement_in form name (first ∷ later) = record {
  account_text = account_in name (first ∷ later);
  number = [];
  currency = form.currency;
  opening = opening_in form name (first ∷ later);
  closing = None;
  day = latest (day_of form first.fields) (days_of form later);
  ties = None;
  lines = lines_in form name (first ∷ later);
} ∷ []
