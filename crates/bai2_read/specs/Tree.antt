-- The tree of a BAI2 file: a file has groups, a group has accounts, and an account has details (BAI2, file structure).
-- Sums and counts are those of a whole subtree. Each record has its continuations with it, and each line is counted as
-- a record.
use Rattle.std.specs.Prelude.{ℕ, ◌+◌, List, [], ◌∷◌, ◌++◌, map, sum_by, ℤ, ◌+ℤ◌}
use Rattle.std.specs.List.{flat_map}
use Rattle.book_statement.specs.declared.statement.Statement.{Statement}
use Rattle.book_statement.specs.declared.statement_line.StatementLine.{StatementLine}
use Rattle.bai2_read.specs.Amounts.{amount, total}
use Rattle.bai2_read.specs.Details.{lines_of_detail}
use Rattle.bai2_read.specs.Fields.{field}
use Rattle.bai2_read.specs.Records.{Record}
use Rattle.bai2_read.specs.Statements.{currency_in, day_in, number_in, statement_with}
use Rattle.bai2_read.specs.Summaries.{items, sum_of_items}
use Rattle.bai2_read.specs.Totals.{total_over}

-- An account: its header, record 03, its details, records 16, and its trailer, record 49.
pub record AccountTree : Type 0 where
  pub header : Record
  pub details : List Record
  pub trailer : Record

-- A group: its header, record 02, its accounts, and its trailer, record 98.
pub record GroupTree : Type 0 where
  pub header : Record
  pub accounts : List AccountTree
  pub trailer : Record

-- A file: its header, record 01, its groups, and its trailer, record 99.
pub record FileTree : Type 0 where
  pub header : Record
  pub groups : List GroupTree
  pub trailer : Record

-- The records of an account in their order.
abbrev pub records_of_account : AccountTree → List Record
records_of_account a = a.header ∷ (a.details ++ a.trailer ∷ [])

-- The records of a group in their order.
abbrev pub records_of_group : GroupTree → List Record
records_of_group g = g.header ∷ (flat_map records_of_account g.accounts ++ g.trailer ∷ [])

-- The records of a file in their order.
abbrev pub records_of_file : FileTree → List Record
records_of_file f = f.header ∷ (flat_map records_of_group f.groups ++ f.trailer ∷ [])

-- The amount of a detail, as it is said: debits are not negated.
abbrev pub amount_said : Record → ℤ
amount_said d = amount (field 1 d.body)

-- The control total of an account: the amounts of its header and of its details (BAI2, record 49).
abbrev pub total_of_account : AccountTree → ℤ
total_of_account a = sum_of_items (items a.header.body) +ℤ total_over amount_said a.details

-- The control total that a trailer says.
abbrev pub total_said : Record → ℤ
total_said trailer = total (field 0 trailer.body)

-- The control total of a group: those that the trailers of its accounts say (BAI2, record 98).
abbrev pub total_of_group : GroupTree → ℤ
total_of_group g = total_over (λ (a : AccountTree). total_said a.trailer) g.accounts

-- The control total of a file: those that the trailers of its groups say (BAI2, record 99).
abbrev pub total_of_file : FileTree → ℤ
total_of_file f = total_over (λ (g : GroupTree). total_said g.trailer) f.groups

-- How many records an account has, counted as lines, those of its header and its trailer included (BAI2, record 49).
abbrev pub size_of_account : AccountTree → ℕ
size_of_account a = a.header.lines + sum_by (λ (d : Record). d.lines) a.details + a.trailer.lines

-- How many records a group has, counted as lines (BAI2, record 98).
abbrev pub size_of_group : GroupTree → ℕ
size_of_group g = g.header.lines + sum_by size_of_account g.accounts + g.trailer.lines

-- How many records a file has, counted as lines (BAI2, record 99).
abbrev pub size_of_file : FileTree → ℕ
size_of_file f = f.header.lines + sum_by size_of_group f.groups + f.trailer.lines

-- The lines that details give on a day.
abbrev pub lines_of_details : ℤ → List Record → List StatementLine
lines_of_details day details = flat_map (λ (d : Record). lines_of_detail day d.body d.text) details

-- The statement of an account, in a file and a group with these headers: its number is the file identification, its
-- day the group's as-of date, and its currency the account's, else the group's, else US dollars.
abbrev pub statement_of_account : Record → Record → AccountTree → Statement
statement_of_account file group a =
    statement_with (number_in file.body) (day_in group.body) (currency_in group.body) a.header.body
    (lines_of_details (day_in group.body) a.details)

-- The statements of a group, one for each account.
abbrev pub statements_of_group : Record → GroupTree → List Statement
statements_of_group file g = map (statement_of_account file g.header) g.accounts

-- The statements of a file, those of its groups in their order.
abbrev pub statements_of_file : FileTree → List Statement
statements_of_file f = flat_map (statements_of_group f.header) f.groups
