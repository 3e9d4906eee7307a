-- A detail (BAI2, record 16): type, amount, funds type with its further fields, bank reference, customer reference,
-- text.
use Rattle.std.specs.Prelude.{ℕ, ◌+◌, nat_le, Bool, List, [], ◌∷◌, drop, if◌then◌else◌, Option, Some, None, ℤ}
use Rattle.book_statement.specs.Numbers.{has_digits, number}
use Rattle.book_statement.specs.Texts.{add_piece}
use Rattle.book_statement.specs.declared.statement_line.StatementLine.{StatementLine}
use Rattle.bai2_read.specs.Amounts.{amount, line_amount}
use Rattle.bai2_read.specs.Fields.{after_fields, field, field_count, further, value_day}

-- The fields of a detail from its funds type on.
abbrev pub funds_part : List ℕ → List ℕ
funds_part body = after_fields 2 body

-- How many fields a detail has up to its customer reference (BAI2, record 16).
unfoldable pub full_count : List ℕ → ℕ
full_count body = 5 + further (funds_part body)

-- The fields of a detail reach its customer reference, also where that is empty.
unfoldable pub is_complete : List ℕ → Bool
is_complete body = nat_le (full_count body) (field_count body)

-- The bank reference stands behind the funds type with its fields.
unfoldable pub bank_reference : List ℕ → List ℕ
bank_reference body = field (3 + further (funds_part body)) body

-- The customer reference stands behind it.
unfoldable pub customer_reference : List ℕ → List ℕ
customer_reference body = field (4 + further (funds_part body)) body

-- All that remains behind it is text, commas included.
unfoldable pub own_text : List ℕ → List ℕ
own_text body = drop 1 (after_fields (full_count body) body)

-- The type of a detail is three digits.
abbrev pub is_type : List ℕ → Bool
is_type text = has_digits 3 3 text

-- The line of a statement that a detail of this amount gives; `more` is the text of its continuations.
unfoldable pub line_of : ℤ → List ℕ → List ℕ → ℤ → StatementLine
line_of day body more given = record {
  day = day;
  value_day = value_day day (funds_part body);
  amount = given;
  kind = field 0 body;
  ref_own = customer_reference body;
  ref_bank = bank_reference body;
  text = add_piece (own_text body) more;
  category = [];
  parts = [];
}

-- The line that a detail gives where its type gives a line of this amount.
abbrev pub lines_with : ℤ → List ℕ → List ℕ → Option ℤ → List StatementLine
lines_with day body more None = []
lines_with day body more (Some given) = line_of day body more given ∷ []

-- The amount of the line that a detail gives, where its type gives one.
unfoldable pub detail_amount : List ℕ → Option ℤ
detail_amount body =
    if is_type (field 0 body) then line_amount (number (field 0 body)) (amount (field 1 body)) else None

-- The line that a detail gives on this day, or none.
abbrev pub lines_of_detail : ℤ → List ℕ → List ℕ → List StatementLine
lines_of_detail day body more = lines_with day body more (detail_amount body)
