-- The bytes of statements, their lines, and bindings.
use Rattle.std.specs.Prelude.{ℕ, ℤ, Bool, List, [], ◌∷◌, ◌++◌, Option, IfSome}
use Rattle.book_commodity.specs.Day.{IsDay}
use Rattle.book_codec.specs.Words.{number, signed, flag, string, optional, listed}
use Rattle.book_rows.specs.Values.{IsNumber, IsSigned, IsFlag, IsString, AreItems}
use Rattle.book_statement.specs.declared.line_state.LineState.{LineState}
use Rattle.book_statement.specs.declared.line_state.LineState.TheVariants.{Open, Matched, Dismissed}
use Rattle.book_statement.specs.declared.held.Held.{Held}
use Rattle.book_statement.specs.declared.part.Part.{Part}
use Rattle.book_statement.specs.declared.statement_line.StatementLine.{StatementLine}
use Rattle.book_statement.specs.declared.line.Line.{Line}
use Rattle.book_statement.specs.declared.binding.Binding.{Binding}

-- The state of a line: the byte 1 where it is open; 2 and the split that it is matched with; or 3 where it is
-- dismissed.
abbrev pub line_state_bytes : LineState → List ℕ
line_state_bytes Open = 1 ∷ []
line_state_bytes (Matched value) = 2 ∷ number value
line_state_bytes Dismissed = 3 ∷ []

-- A state that has a spelling: the number of a matched split is of 64 bits.
abbrev pub IsLineState : LineState → Type 0
IsLineState Open = Unit {0}
IsLineState (Matched value) = IsNumber value
IsLineState Dismissed = Unit {0}

-- The bytes of the fields from `closing` on.
abbrev pub held_rest : Held → List ℕ
held_rest it =
    optional signed it.closing ++ (signed it.day ++ optional flag it.ties)

-- The fields from `closing` on have a spelling.
abbrev pub IsHeldRest : Held → Type 0
IsHeldRest it =
    IfSome it.closing IsSigned × (IsDay it.day × IfSome it.ties IsFlag)

-- A statement in the book: its account, its account text, its number, its two balances, its day, and whether it ties.
abbrev pub held_bytes : Held → List ℕ
held_bytes it =
    number it.account ++ (string it.account_text ++ (string it.number ++ (optional signed it.opening ++ held_rest it)))

-- A statement that has a spelling: its texts are UTF-8, its day is one of 1900 to 2199, and its numbers and balances
-- are of 64 bits.
abbrev pub IsHeld : Held → Type 0
IsHeld it =
    IsNumber it.account × (IsString it.account_text × (IsString it.number × (IfSome it.opening IsSigned
    × IsHeldRest it)))

-- The statement whose fields these are, in the order of its bytes.
abbrev pub held_made : (ℕ × (List ℕ × (List ℕ × (Option ℤ × (Option ℤ × (ℤ × Option Bool)))))) → Held
held_made fields =
    record {
      account = fields.0;
      account_text = fields.1.0;
      number = fields.1.1.0;
      opening = fields.1.1.1.0;
      closing = fields.1.1.1.1.0;
      day = fields.1.1.1.1.1.0;
      ties = fields.1.1.1.1.1.1;
    }

-- A part of a line: its category, its memo and its amount.
abbrev pub part_bytes : Part → List ℕ
part_bytes it =
    string it.category ++ (string it.memo ++ signed it.amount)

-- A part that has a spelling: its texts are UTF-8, and its amount is of 64 bits.
abbrev pub IsPart : Part → Type 0
IsPart it =
    IsString it.category × (IsString it.memo × IsSigned it.amount)

-- The part whose fields these are, in the order of its bytes.
abbrev pub part_made : (List ℕ × (List ℕ × ℤ)) → Part
part_made fields =
    record { category = fields.0; memo = fields.1.0; amount = fields.1.1 }

-- The bytes of the fields from `ref_own` on.
abbrev pub statement_line_rest : StatementLine → List ℕ
statement_line_rest it =
    string it.ref_own ++ (string it.ref_bank ++ (string it.text ++ (string it.category ++ listed part_bytes it.parts)))

-- The fields from `ref_own` on have a spelling.
abbrev pub IsStatementLineRest : StatementLine → Type 0
IsStatementLineRest it =
    IsString it.ref_own × (IsString it.ref_bank × (IsString it.text × (IsString it.category
    × AreItems IsPart it.parts)))

-- What a line says: its two days, its amount, its kind, its two references, its text, its category and its parts.
abbrev pub statement_line_bytes : StatementLine → List ℕ
statement_line_bytes it =
    signed it.day ++ (signed it.value_day ++ (signed it.amount ++ (string it.kind ++ statement_line_rest it)))

-- A line of a statement file that has a spelling: its texts are UTF-8, its days are of 1900 to 2199, its amount is of
-- 64 bits, and its parts have a spelling.
abbrev pub IsStatementLine : StatementLine → Type 0
IsStatementLine it =
    IsDay it.day × (IsDay it.value_day × (IsSigned it.amount × (IsString it.kind × IsStatementLineRest it)))

-- The line of a statement file whose fields these are, in the order of its bytes.
abbrev pub statement_line_made : (ℤ × (ℤ × (ℤ × (List ℕ × (List ℕ × (List ℕ × (List ℕ × (List ℕ × List Part))))))))
    → StatementLine
statement_line_made fields =
    record {
      day = fields.0;
      value_day = fields.1.0;
      amount = fields.1.1.0;
      kind = fields.1.1.1.0;
      ref_own = fields.1.1.1.1.0;
      ref_bank = fields.1.1.1.1.1.0;
      text = fields.1.1.1.1.1.1.0;
      category = fields.1.1.1.1.1.1.1.0;
      parts = fields.1.1.1.1.1.1.1.1;
    }

-- A line: its account, its statement, its ordinal, what it says, and its state.
abbrev pub line_bytes : Line → List ℕ
line_bytes it =
    number it.account ++ (number it.statement ++ (number it.ordinal ++ (statement_line_bytes it.body
    ++ line_state_bytes it.state)))

-- A line that has a spelling: its numbers are of 64 bits, and what it says and its state have a spelling.
abbrev pub IsLine : Line → Type 0
IsLine it =
    IsNumber it.account × (IsNumber it.statement × (IsNumber it.ordinal × (IsStatementLine it.body
    × IsLineState it.state)))

-- The line whose fields these are, in the order of its bytes.
abbrev pub line_made : (ℕ × (ℕ × (ℕ × (StatementLine × LineState)))) → Line
line_made fields =
    record {
      account = fields.0;
      statement = fields.1.0;
      ordinal = fields.1.1.0;
      body = fields.1.1.1.0;
      state = fields.1.1.1.1;
    }

-- A binding: its text and its account.
abbrev pub binding_bytes : Binding → List ℕ
binding_bytes it =
    string it.text ++ number it.account

-- A binding that has a spelling: its text is UTF-8, and its account a number of 64 bits.
abbrev pub IsBinding : Binding → Type 0
IsBinding it =
    IsString it.text × IsNumber it.account

-- The binding whose fields these are, in the order of its bytes.
abbrev pub binding_made : (List ℕ × ℕ) → Binding
binding_made fields =
    record { text = fields.0; account = fields.1 }
