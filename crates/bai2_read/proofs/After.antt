-- What the records say with one record more, from what those before it say.
use Rattle.std.proofs.Common.{ℕ, ◌+◌, List, [], ◌∷◌, ◌++◌, ℤ, pos, ◌+ℤ◌}
use Rattle.std.specs.Prelude.{if◌then◌else◌}
use Rattle.book_statement.specs.declared.level.Level.{Level}
use Rattle.book_statement.specs.declared.level.Level.TheVariants.{Account, Group, File}
use Rattle.book_statement.specs.declared.statement.Statement.{Statement}
use Rattle.book_statement.specs.declared.statement_line.StatementLine.{StatementLine}
use Rattle.bai2_read.specs.Kinds.{counts_anew, is_account_header, is_account_trailer, is_file_header, is_group_header}
use Rattle.bai2_read.specs.Records.{Record}
use Rattle.bai2_read.specs.Said.{Said, Sums, amount_in, lines_in, part_in}
use Rattle.bai2_read.specs.Statements.{currency_in, day_in, number_in, statement_with}

-- the sums of no records
abbrev pub no_sums : Sums
no_sums = record { total = pos 0; parts = 0; records = 0 }

-- sums with those of one record more
abbrev pub added : Sums → ℤ → ℕ → ℕ → Sums
added sums total parts records =
    record { total = sums.total +ℤ total; parts = sums.parts + parts; records = sums.records + records }

-- the sums of a level, which begin anew where the record begins a new account, group or file
abbrev pub next_sums : Level → Sums → Record → Sums
next_sums level sums r =
    added (if counts_anew level r.kind then no_sums else sums)
    (amount_in level r.kind r.body) (part_in level r.kind) r.lines

-- the lines of the account that goes on
abbrev pub next_lines : Said → Record → List StatementLine
next_lines before r =
    if counts_anew Account r.kind then [] else before.lines ++ lines_in before.day r.kind r.body r.text

-- the statement that the record completes
abbrev pub next_statements : Said → Record → List Statement
next_statements before r =
    if is_account_trailer r.kind
    then statement_with before.number before.day before.currency before.account before.lines ∷ []
    else []

-- all of it
abbrev pub after : Said → Record → Said
after before r = record {
  last = r.kind;
  number = if is_file_header r.kind then number_in r.body else before.number;
  day = if is_group_header r.kind then day_in r.body else before.day;
  currency = if is_group_header r.kind then currency_in r.body else before.currency;
  account = if is_account_header r.kind then r.body else before.account;
  lines = next_lines before r;
  of_account = next_sums Account before.of_account r;
  of_group = next_sums Group before.of_group r;
  of_file = next_sums File before.of_file r;
  statements = before.statements ++ next_statements before r;
}
