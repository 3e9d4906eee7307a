-- The reader's own: what it keeps of a register without an entry, and the statement that it makes of what it keeps. No
-- public clause rests on this; the statement of a register stands in Registers.
use Rattle.std.specs.Prelude.{ℕ, List, [], ◌∷◌, Option, Some, None, ℤ}
use Rattle.book_statement.specs.declared.statement.Statement.{Statement}
use Rattle.qif_read.specs.declared.form.Form.{Form}
use Rattle.qif_read.specs.declared.section.Section.{Section}

-- A register without an entry, of an account with this name.
abbrev pub no_entries : List ℕ → Section
no_entries name = record { account = name; opening = None; day = None; lines = [] }

-- The statement of a register whose entries have a latest day; QIF has no number and no closing balance.
abbrev pub statement_on : Form → Section → Option ℤ → List Statement
statement_on form section None = []
statement_on form section (Some day) = record {
  account_text = section.account;
  number = [];
  currency = form.currency;
  opening = section.opening;
  closing = None;
  day = day;
  ties = None;
  lines = section.lines;
} ∷ []

-- A register with an entry is a statement.
abbrev pub statements_in : Form → Section → List Statement
statements_in form section = statement_on form section section.day
