-- The reader's own: what it keeps of the lines that it has read, and how a line changes it. No public clause rests on
-- this; what a file says stands in Reading.
use Rattle.std.specs.Prelude.{
  ℕ,
  ◌+◌,
  ◌≡◌,
  Bool,
  false,
  ◌&&◌,
  ◌||◌,
  List,
  [],
  ◌∷◌,
  length,
  Option,
  Some,
  None,
  is_some,
  Result,
  Ok,
  Err,
  if◌then◌else◌,
  ⊤,
}
use Rattle.book_commodity.specs.declared.commodity.Commodity.{Commodity}
use Rattle.book_statement.specs.declared.bad.Bad.TheVariants.{CutOff, NoStatement}
use Rattle.book_statement.specs.declared.fault.StatementFault.{StatementFault}
use Rattle.book_statement.specs.declared.statement.Statement.{Statement}
use Rattle.book_statement.specs.declared.read_error.ReadError.{ReadError}
use Rattle.book_statement.specs.declared.read_error.ReadError.TheVariants.{Fault, OutOfMemory}
use Rattle.book_statement.specs.Checks.{Check, check, first_bad, fault_at, unless_fault}
use Rattle.mt940_read.specs.declared.reader.Reader.{Reader}
use Rattle.mt940_read.specs.declared.tag.Kind.{Kind}
use Rattle.mt940_read.specs.declared.tag.Kind.TheVariants.{Begins, Field, Passed, Ends, More}
use Rattle.mt940_read.specs.declared.tag.Tag.TheVariants.{Reference}
use Rattle.mt940_read.specs.FieldChecks.{field_checks}
use Rattle.mt940_read.specs.Kinds.{field_text}
use Rattle.mt940_read.specs.Order.{is_line, is_text}
use Rattle.mt940_read.specs.Pages.{Past, page_of, with_message}
use Rattle.mt940_read.specs.Statements.{last_lines}
use Rattle.mt940_read.specs.Values.{after, after_more, ends_in_line, values}

-- What the statements before are to the message that is read.
abbrev pub past_kept : Reader → Past
past_kept k = record { page = k.page; statements = length k.done; lines = last_lines k.done }

-- Whether a message has begun.
abbrev pub is_within : Reader → Bool
is_within k = is_some k.message.last

-- The reader behind the end of a message: a page of the last statement, or a statement of its own.
abbrev pub ended : List (ℕ × Commodity) → Reader → Reader
ended known k =
    if is_within k then record {
      done = with_message k.page k.message k.done;
      page = Some (page_of k.message);
      message = values known [];
      text_goes_on = false;
    } else k

-- The reader behind the field 20 that begins a message.
abbrev pub begun : Reader → Reader
begun k = record k { message = record k.message { last = Some Reference } }

-- The reader behind one line more.
abbrev pub next : List (ℕ × Commodity) → Kind → List ℕ → Reader → Reader
next known Begins line k = begun (ended known k)
next known (Field tag) line k =
    if is_within k then record k {
      message = after known k.message tag (field_text line);
      text_goes_on = is_line tag || (is_text tag && ends_in_line k.message.last);
    } else k
next known Passed line k = record k { text_goes_on = false }
next known Ends line k = ended known k
next known More line k = if k.text_goes_on then record k { message = after_more k.message line } else k

-- The checks that the end of a message brings.
abbrev pub end_checks : Reader → List Check
end_checks k = if is_within k then check (is_some k.message.closing) CutOff ∷ [] else []

-- The checks that a line brings.
abbrev pub line_checks_of : List (ℕ × Commodity) → Kind → List ℕ → Reader → List Check
line_checks_of known Begins line k = end_checks k
line_checks_of known (Field tag) line k =
    if is_within k then field_checks known (past_kept k) k.message tag (field_text line) else []
line_checks_of known Passed line k = []
line_checks_of known Ends line k = end_checks k
line_checks_of known More line k = []

-- The line at which the checks of a line fail: its own for a field, the one before it for the end of a message.
abbrev pub line_of_fault : Kind → ℕ → ℕ
line_of_fault (Field tag) n = n + 1
line_of_fault _ n = n

-- What a call answers that makes these checks for a line, and what it then keeps.
abbrev pub Steps : {X : Type 0} → ℕ → List Check → Reader → Result X ReadError → Reader → Type 0
Steps line checks after' (Ok _) new = (first_bad checks ≡ None) × (new ≡ after')
Steps line checks after' (Err OutOfMemory) new = ⊤
Steps line checks after' (Err (Fault fault)) new = fault_at line (first_bad checks) None ≡ Some fault

-- No statement in the whole file.
abbrev pub no_statement : List Statement → Option StatementFault
no_statement [] = Some (record { line = 0; bad = NoStatement })
no_statement (s ∷ ss) = None

-- What is said at the end of the file, behind so many lines.
abbrev pub finished : List (ℕ × Commodity) → ℕ → Reader → Result (List Statement) StatementFault
finished known last k =
    unless_fault (fault_at last (first_bad (end_checks k)) (no_statement (ended known k).done)) (ended known k).done
