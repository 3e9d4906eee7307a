-- The reader's own: what it keeps of the lines that it has read, and how a line changes it. No public clause rests on
-- this; what a file says stands in Qif.
use Rattle.std.specs.Prelude.{ℕ, ◌≡◌, ◌+◌, Bool, true, false, ◌&&◌, not, List, [], ◌∷◌, ◌++◌, length, Option, Some}
use Rattle.std.specs.Prelude.{None, is_none, Result, Ok, Err, if◌then◌else◌, ℤ, ⊤}
use Rattle.std.specs.Int.{int_max}
use Rattle.std.specs.Option.{option_or}
use Rattle.book_statement.specs.Checks.{Check, check, first_bad, fault_at}
use Rattle.book_statement.specs.Lists.{on_last}
use Rattle.book_statement.specs.Texts.{is_nothing}
use Rattle.book_statement.specs.declared.bad.Bad.TheVariants.{CutOff}
use Rattle.book_statement.specs.declared.fault.StatementFault.{StatementFault}
use Rattle.book_statement.specs.declared.read_error.ReadError.{ReadError}
use Rattle.book_statement.specs.declared.read_error.ReadError.TheVariants.{Fault, OutOfMemory}
use Rattle.qif_read.specs.Kinds.{behind_code}
use Rattle.qif_read.specs.QifDate.{day_read}
use Rattle.qif_read.specs.QifAmount.{amount}
use Rattle.qif_read.specs.Entries.{text_or_empty}
use Rattle.qif_read.specs.Kept.{amount_said, day_said, line_said, account_said, opens_with, end_checks}
use Rattle.qif_read.specs.Sections.{no_entries, statements_in}
use Rattle.book_statement.specs.declared.statement.Statement.{Statement}
use Rattle.book_statement.specs.declared.statement_line.StatementLine.{StatementLine}
use Rattle.qif_read.specs.Qif.{line_checks, answer_of}
use Rattle.qif_read.specs.declared.form.Form.{Form}
use Rattle.qif_read.specs.declared.kind.Code.{Code}
use Rattle.qif_read.specs.declared.kind.Code.TheVariants.{Date, Total, OtherTotal, Number, Payee, Memo, Category, Split}
use Rattle.qif_read.specs.declared.kind.Code.TheVariants.{SplitMemo, SplitAmount, Other}
use Rattle.qif_read.specs.declared.kind.Topic.{Topic}
use Rattle.qif_read.specs.declared.kind.Topic.TheVariants.{Register, Accounts, Passed}
use Rattle.qif_read.specs.declared.kind.LineKind.{LineKind}
use Rattle.qif_read.specs.declared.kind.LineKind.TheVariants.{Header, Switch, End, Empty, Field}
use Rattle.qif_read.specs.declared.reader.Reader.{Reader}
use Rattle.qif_read.specs.declared.said.Said.{Said}
use Rattle.qif_read.specs.declared.section.Section.{Section}
use Rattle.qif_read.specs.declared.split.SplitSaid.{SplitSaid}

-- A call that takes something in: it answers exactly the fault, or else leaves what is stated; out of memory at any
-- time.
abbrev pub Takes : {S X : Type 0} → Option StatementFault → S → S → Result X ReadError → Type 0
Takes fault after new (Ok _) = (fault ≡ None) × (new ≡ after)
Takes fault after new (Err (Fault found)) = fault ≡ Some found
Takes fault after new (Err OutOfMemory) = ⊤

-- The fault at a line whose checks these are.
abbrev pub fault_in : ℕ → List Check → Option StatementFault
fault_in line checks = fault_at line (first_bad checks) None

-- A part at its first line.
abbrev pub begun_split : List ℕ → SplitSaid
begun_split category = record { category = category; memo = None; amount = None }

-- A part with a memo, where it had none.
abbrev pub with_memo : List ℕ → SplitSaid → SplitSaid
with_memo text split = record split { memo = option_or split.memo (Some text) }

-- A part with an amount, where it had none.
abbrev pub with_amount : ℤ → SplitSaid → SplitSaid
with_amount amount split = record split { amount = option_or split.amount (Some amount) }

-- What an entry says before its first line.
abbrev pub nothing : Said
nothing = record {
  day = None;
  total = None;
  other_total = None;
  number = None;
  payee = None;
  memo = None;
  category = None;
  splits = [];
}

-- What an entry of a register says with a line more.
abbrev pub after_line : Form → Said → Code → List ℕ → Said
after_line form said Date text = record said { day = option_or said.day (Some (day_read form.order text)) }
after_line form said Total text = record said { total = option_or said.total (Some (amount form.fraction text)) }
after_line form said OtherTotal text =
    record said { other_total = option_or said.other_total (Some (amount form.fraction text)) }
after_line form said Number text = record said { number = option_or said.number (Some text) }
after_line form said Payee text = record said { payee = option_or said.payee (Some text) }
after_line form said Memo text = record said { memo = option_or said.memo (Some text) }
after_line form said Category text = record said { category = option_or said.category (Some text) }
after_line form said Split text = record said { splits = said.splits ++ begun_split text ∷ [] }
after_line form said SplitMemo text = record said { splits = on_last (with_memo text) said.splits }
after_line form said SplitAmount text =
    record said { splits = on_last (with_amount (amount form.fraction text)) said.splits }
after_line form said Other text = said

-- What a line of an entry of a register finds wrong.
abbrev pub line_fault : Form → Said → ℕ → Code → List ℕ → Option StatementFault
line_fault form said line code text = fault_in line (line_checks form (not (is_nothing said.splits)) code text)

-- What is kept of an entry of a list of accounts with a line more: its name alone.
abbrev pub after_account_line : Said → Code → List ℕ → Said
after_account_line said Number text = record said { number = option_or said.number (Some text) }
after_account_line said _ text = said

-- Whether an entry gives the opening balance of a register: its first entry alone does.
abbrev pub opens : Section → Said → Bool
opens section said = is_none section.day && opens_with section.account said

-- The later of two days, of which the first may be missing.
abbrev pub later : Option ℤ → ℤ → ℤ
later None day = day
later (Some last) day = int_max last day

-- A register with the entry that gives its opening balance.
abbrev pub with_opening : Section → List ℕ → ℤ → ℤ → Section
with_opening section account day amount =
    record section { account = account; opening = Some amount; day = Some (later section.day day) }

-- A register with an entry that gives a line.
abbrev pub with_line : Section → ℤ → StatementLine → Section
with_line section day line =
    record section { day = Some (later section.day day); lines = section.lines ++ line ∷ [] }

-- A register with an entry more.
abbrev pub with_entry : Section → Said → Section
with_entry section said =
    if opens section said then with_opening section (account_said said) (day_said said) (amount_said said)
    else with_line section (day_said said) (line_said said)

-- The fault of a line in a list, where one is known already or the line has one.
abbrev pub field_fault : Topic → Form → Reader → ℕ → Code → List ℕ → Option StatementFault
field_fault Register form old line code text = option_or old.pending (line_fault form old.said line code text)
field_fault Accounts form old line code text = None
field_fault Passed form old line code text = None

-- The reader after a line of an entry.
abbrev pub with_field : Topic → Form → Reader → Code → List ℕ → Reader
with_field Register form old code text = record old { started = true; said = after_line form old.said code text }
with_field Accounts form old code text = record old { started = true; said = after_account_line old.said code text }
with_field Passed form old code text = old

-- What is asked at the end of an entry of a register.
abbrev pub checks_at_end : Bool → Reader → List Check
checks_at_end whole old = end_checks whole (length old.section.lines) (length old.done) old.said

-- The fault of an entry that ends, or is broken off, at a line.
abbrev pub entry_fault : Reader → Bool → ℕ → Option StatementFault
entry_fault old whole line = fault_in line (checks_at_end whole old)

-- The fault of an entry of a list of accounts that ends, or is broken off, at a line.
abbrev pub account_fault : Bool → ℕ → Option StatementFault
account_fault whole line = fault_in line (check whole CutOff ∷ [])

-- The same, which waits while no statement has come.
abbrev pub account_end_fault : Reader → Bool → ℕ → Option StatementFault
account_end_fault old whole line = if is_nothing old.done then None else account_fault whole line

-- The reader after an entry of a register.
abbrev pub with_transaction : Reader → Reader
with_transaction old = record old { section = with_entry old.section old.said; started = false; said = nothing }

-- The reader after an entry of a list of accounts.
abbrev pub with_account : Reader → Bool → ℕ → Reader
with_account old whole line = record old {
  name = text_or_empty old.said.number;
  started = false;
  said = nothing;
  pending = option_or old.pending (account_fault whole line);
}

-- The fault at the end of an entry, where one has begun.
abbrev pub end_fault : Topic → Reader → Bool → ℕ → Option StatementFault
end_fault Register old whole line = if old.started then entry_fault old whole line else None
end_fault Accounts old whole line = if old.started then account_end_fault old whole line else None
end_fault Passed old whole line = None

-- The reader after the end of an entry, where one has begun.
abbrev pub with_end : Topic → Reader → Bool → ℕ → Reader
with_end Register old whole line = if old.started then with_transaction old else old
with_end Accounts old whole line = if old.started then with_account old whole line else old
with_end Passed old whole line = old

-- The name for a list: that which the list of accounts before it gave, for a register.
abbrev pub name_for : Topic → List ℕ → List ℕ
name_for Register name = name
name_for Accounts name = []
name_for Passed name = []

-- The reader at the beginning of a list: the list before it may have been a statement.
abbrev pub with_list : Form → Topic → Reader → Reader
with_list form topic old = record old {
  done = old.done ++ statements_in form old.section;
  topic = topic;
  name = [];
  section = no_entries (name_for topic old.name);
}

-- The fault at a line behind n lines.
abbrev pub fault_of : Form → ℕ → List ℕ → LineKind → Reader → Option StatementFault
fault_of form n text (Header topic) old = end_fault old.topic old false n
fault_of form n text Switch old = end_fault old.topic old false n
fault_of form n text End old = end_fault old.topic old true (n + 1)
fault_of form n text Empty old = None
fault_of form n text (Field code) old = field_fault old.topic form old (n + 1) code (behind_code text)

-- The reader after a line behind n lines.
abbrev pub after : Form → ℕ → List ℕ → LineKind → Reader → Reader
after form n text (Header topic) old = with_list form topic (with_end old.topic old false n)
after form n text Switch old = with_end old.topic old false n
after form n text End old = with_end old.topic old true (n + 1)
after form n text Empty old = old
after form n text (Field code) old = with_field old.topic form old code (behind_code text)

-- The reader before the first line.
abbrev pub fresh : Reader
fresh = record {
  done = [];
  topic = Passed;
  name = [];
  section = no_entries [];
  started = false;
  said = nothing;
  pending = None;
}

-- A fault, or else another answer.
abbrev pub fault_or : {X : Type 0} → Option StatementFault → Result X StatementFault → Result X StatementFault
fault_or (Some fault) answer = Err fault
fault_or None answer = answer

-- What the reader answers at the end of a file of n lines.
abbrev pub answer_after : Form → ℕ → Reader → Result (List Statement) StatementFault
answer_after form n old =
    let ended = with_list form Passed (with_end old.topic old false n) in
    fault_or (end_fault old.topic old false n) (answer_of None ended.done)
