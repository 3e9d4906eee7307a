-- What an entry of a register says, by its lines (Quicken's description of QIF, codes of a register).
use Rattle.std.specs.Prelude.{ℕ, ◌==◌, List, [], ◌∷◌, map, Option, Some, None, option_map, unwrap_or, if◌then◌else◌, ℤ}
use Rattle.std.specs.Prelude.{pos, ◌+ℤ◌}
use Rattle.std.specs.Option.{option_or}
use Rattle.book_statement.specs.Texts.{joined}
use Rattle.book_statement.specs.declared.part.Part.{Part}
use Rattle.book_statement.specs.declared.statement_line.StatementLine.{StatementLine}
use Rattle.qif_read.specs.QifDate.{day_read}
use Rattle.qif_read.specs.QifAmount.{amount}
use Rattle.qif_read.specs.Tree.{Line}
use Rattle.qif_read.specs.declared.form.Form.{Form}
use Rattle.qif_read.specs.declared.kind.Code.{Code}
use Rattle.qif_read.specs.declared.kind.Code.TheVariants.{Date, Total, OtherTotal, Number, Payee, Memo, Category, Split}
use Rattle.qif_read.specs.declared.kind.Code.TheVariants.{SplitMemo, SplitAmount, Other}

-- The place of a code among the codes.
abbrev pub place_of : Code → ℕ
place_of Date = 0
place_of Total = 1
place_of OtherTotal = 2
place_of Number = 3
place_of Payee = 4
place_of Memo = 5
place_of Category = 6
place_of Split = 7
place_of SplitMemo = 8
place_of SplitAmount = 9
place_of Other = 10

-- The text of the first line with a code.
abbrev pub first_of : Code → List Line → Option (List ℕ)
first_of code [] = None
first_of code (f ∷ fs) = if place_of f.code == place_of code then Some f.text else first_of code fs

-- The text that a line gives, empty where no such line stands.
abbrev pub text_or_empty : Option (List ℕ) → List ℕ
text_or_empty text = unwrap_or text []

-- The text of the first line with a code, empty where no line has it.
abbrev pub text_of : Code → List Line → List ℕ
text_of code fields = text_or_empty (first_of code fields)

-- The day of an entry: that of its first D.
abbrev pub day_in : Form → List Line → Option ℤ
day_in form fields = option_map (day_read form.order) (first_of Date fields)

-- The amount of an entry: that of its first T, or else that of its first U.
abbrev pub total_in : Form → List Line → Option ℤ
total_in form fields =
    option_or (option_map (amount form.fraction) (first_of Total fields))
    (option_map (amount form.fraction) (first_of OtherTotal fields))

-- The day of an entry; it only matters where there is one.
abbrev pub day_of : Form → List Line → ℤ
day_of form fields = unwrap_or (day_in form fields) (pos 0)

-- The amount of an entry; it only matters where there is one.
abbrev pub amount_of : Form → List Line → ℤ
amount_of form fields = unwrap_or (total_in form fields) (pos 0)

-- A part of an entry: the category of the S that begins it, and the lines behind it up to the next S.
pub record SplitLines : Type 0 where
  pub category : List ℕ
  pub fields : List Line

-- What some lines of an entry mean, whatever stands before them: the lines that continue a part before them, and the
-- parts that begin among them.
pub record SplitsRest : Type 0 where
  pub loose : List Line
  pub splits : List SplitLines

-- The same with one line more in front: an S begins a part.
abbrev pub split_in_front : Line → SplitsRest → SplitsRest
split_in_front f rest =
    if place_of f.code == place_of Split
    then record { loose = []; splits = record { category = f.text; fields = rest.loose } ∷ rest.splits }
    else record { loose = f ∷ rest.loose; splits = rest.splits }

-- What the lines of an entry say of parts.
abbrev pub splits_rest : List Line → SplitsRest
splits_rest [] = record { loose = []; splits = [] }
splits_rest (f ∷ fs) = split_in_front f (splits_rest fs)

-- The parts of an entry.
abbrev pub splits_in : List Line → List SplitLines
splits_in fields = (splits_rest fields).splits

-- The amount of a part, in smallest units of a commodity with this fraction: that of its first $.
abbrev pub split_amount : ℕ → SplitLines → Option ℤ
split_amount fraction split = option_map (amount fraction) (first_of SplitAmount split.fields)

-- A part as a statement's line has it; its memo is the first E.
abbrev pub part_of : ℕ → SplitLines → Part
part_of fraction split = record {
  category = split.category;
  memo = text_of SplitMemo split.fields;
  amount = unwrap_or (split_amount fraction split) (pos 0);
}

-- The parts of an entry as a statement's line has them.
abbrev pub parts_in : ℕ → List Line → List Part
parts_in fraction fields = map (part_of fraction) (splits_in fields)

-- The sum of the amounts of parts.
abbrev pub sum_of_parts : List Part → ℤ
sum_of_parts [] = pos 0
sum_of_parts (p ∷ ps) = p.amount +ℤ sum_of_parts ps

-- The line of a statement that an entry gives: its text is payee (P) and memo (M), its own reference the number (N).
abbrev pub line_in : Form → List Line → StatementLine
line_in form fields = record {
  day = day_of form fields;
  value_day = day_of form fields;
  amount = amount_of form fields;
  kind = [];
  ref_own = text_of Number fields;
  ref_bank = [];
  text = joined (text_of Payee fields ∷ text_of Memo fields ∷ []);
  category = text_of Category fields;
  parts = parts_in form.fraction fields;
}
