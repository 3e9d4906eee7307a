-- The reader's own: what the values that it keeps of an entry say, and what is asked of them at its end. No public
-- clause rests on this; what an entry says stands in Entries.
use Rattle.std.specs.Prelude.{ℕ, nat_lt, Bool, ◌||◌, List, [], ◌∷◌, map, Option, unwrap_or, is_some, ℤ, pos, ◌+ℤ◌}
use Rattle.std.specs.Option.{option_or}
use Rattle.std.specs.Ordering.{int_eq}
use Rattle.std.specs.List.{list_all}
use Rattle.book_statement.specs.Checks.{Check, check}
use Rattle.book_statement.specs.Texts.{is_nothing, joined}
use Rattle.book_statement.specs.declared.bad.Bad.TheVariants.{FieldForm, SplitSum, CutOff, TooMany}
use Rattle.book_statement.specs.declared.part.Part.{Part}
use Rattle.book_statement.specs.declared.statement_line.StatementLine.{StatementLine}
use Rattle.qif_read.specs.Entries.{text_or_empty}
use Rattle.qif_read.specs.Registers.{inside, is_opening_text}
use Rattle.qif_read.specs.declared.said.Said.{Said}
use Rattle.qif_read.specs.declared.split.SplitSaid.{SplitSaid}

-- The amount kept: that of the T, or else that of the U.
abbrev pub total_said : Said → Option ℤ
total_said said = option_or said.total said.other_total

-- That amount; it only matters where there is one.
abbrev pub amount_said : Said → ℤ
amount_said said = unwrap_or (total_said said) (pos 0)

-- The day kept; it only matters where there is one.
abbrev pub day_said : Said → ℤ
day_said said = unwrap_or said.day (pos 0)

-- A part as a statement's line has it.
abbrev pub part_said : SplitSaid → Part
part_said split = record {
  category = split.category;
  memo = text_or_empty split.memo;
  amount = unwrap_or split.amount (pos 0);
}

-- The sum of the amounts of the parts.
abbrev pub sum_of_splits : List SplitSaid → ℤ
sum_of_splits [] = pos 0
sum_of_splits (s ∷ ss) = unwrap_or s.amount (pos 0) +ℤ sum_of_splits ss

-- The line of a statement that the values give.
abbrev pub line_said : Said → StatementLine
line_said said = record {
  day = day_said said;
  value_day = day_said said;
  amount = amount_said said;
  kind = [];
  ref_own = text_or_empty said.number;
  ref_bank = [];
  text = joined (text_or_empty said.payee ∷ text_or_empty said.memo ∷ []);
  category = text_or_empty said.category;
  parts = map part_said said.splits;
}

-- The account in brackets that the values name.
abbrev pub account_said : Said → List ℕ
account_said said = inside (text_or_empty said.category)

-- Whether they give the opening balance of an account with this name, or of one without a name.
abbrev pub opens_with : List ℕ → Said → Bool
opens_with name said = is_opening_text name (text_or_empty said.payee) (text_or_empty said.category)

-- What is asked of them at the end of the entry, whole or broken off, with so many lines of its register and so many
-- statements before it.
unfoldable pub end_checks : Bool → ℕ → ℕ → Said → List Check
end_checks whole lines statements said =
    check whole CutOff
    ∷ check (is_some said.day) FieldForm
    ∷ check (is_some (total_said said)) FieldForm
    ∷ check (list_all (λ split. is_some split.amount) said.splits) FieldForm
    ∷ check (is_nothing said.splits || int_eq (sum_of_splits said.splits) (amount_said said))
    (SplitSum (amount_said said) (sum_of_splits said.splits))
    ∷ check (nat_lt statements 1000) TooMany
    ∷ check (nat_lt lines 10000) TooMany ∷ []
