-- What the records before a record say: the accounts of a group and the groups of a file, their sums and counts, and
-- the statements. A broken file has no tree, so this is asked of any list of records. An account is a header 03 with
-- the records behind it up to its trailer 49, a group a header 02 with its accounts up to its trailer 98, and a file a
-- header 01 with its groups up to its trailer 99. Each sum, count and list is one over a whole section of the list of
-- records, and each text is that of the last header of its kind.
use Rattle.std.specs.Prelude.{ℕ, Bool, true, List, [], ◌∷◌, reverse, sum_by, if◌then◌else◌, ℤ, pos}
use Rattle.std.specs.List.{find, flat_map, list_any}
use Rattle.std.specs.Option.{option_map_or}
use Rattle.book_statement.specs.Lists.{each_after}
use Rattle.book_statement.specs.declared.level.Level.{Level}
use Rattle.book_statement.specs.declared.level.Level.TheVariants.{Account, Group, File}
use Rattle.book_statement.specs.declared.statement.Statement.{Statement}
use Rattle.book_statement.specs.declared.statement_line.StatementLine.{StatementLine}
use Rattle.bai2_read.specs.Amounts.{amount, total}
use Rattle.bai2_read.specs.Details.{lines_of_detail}
use Rattle.bai2_read.specs.Fields.{field}
use Rattle.bai2_read.specs.Kinds.{counts_anew, is_account_header, is_account_trailer, is_file_header, is_group_header}
use Rattle.bai2_read.specs.Records.{Record}
use Rattle.bai2_read.specs.Statements.{currency_in, day_in, number_in, statement_with}
use Rattle.bai2_read.specs.Summaries.{items, sum_of_items}
use Rattle.bai2_read.specs.Totals.{total_over}
use Rattle.bai2_read.specs.declared.kind.Kind.{Kind}
use Rattle.bai2_read.specs.declared.kind.Kind.TheVariants.{Blank, GroupHeader, AccountHeader, Detail, AccountTrailer}
use Rattle.bai2_read.specs.declared.kind.Kind.TheVariants.{GroupTrailer}

-- The sums of an account, a group or a file: its control total, the number of its accounts or groups, and the number
-- of its records, counted as lines.
pub record Sums : Type 0 where
  pub total : ℤ
  pub parts : ℕ
  pub records : ℕ

-- All that is asked of the records before a record: the kind of the last one, Blank where there is none; the number of
-- the file's statements; the day and the currency of the group; the fields of the account's header, and the lines of
-- the account; the sums of the account, of the group and of the file; and the statements.
pub record Said : Type 0 where
  pub last : Kind
  pub number : List ℕ
  pub day : ℤ
  pub currency : List ℕ
  pub account : List ℕ
  pub lines : List StatementLine
  pub of_account : Sums
  pub of_group : Sums
  pub of_file : Sums
  pub statements : List Statement

-- The list from its last item on that passes the test; the whole list where none does.
abbrev pub from_last : {X : Type 0} → (X → Bool) → List X → List X
from_last test [] = []
from_last test (x ∷ xs) = if list_any test xs then from_last test xs else x ∷ xs

-- The records of the account, the group or the file that goes on at the end of the records.
abbrev pub section : Level → List Record → List Record
section level records = from_last (λ r. counts_anew level r.kind) records

-- What a record adds to the control total of a level: to an account's the amounts of its header and its details, to a
-- group's the totals that its accounts' trailers say, and to the file's those that its groups' trailers say (BAI2,
-- records 49, 98 and 99).
abbrev pub amount_in : Level → Kind → List ℕ → ℤ
amount_in Account AccountHeader body = sum_of_items (items body)
amount_in Account Detail body = amount (field 1 body)
amount_in Group AccountTrailer body = total (field 0 body)
amount_in File GroupTrailer body = total (field 0 body)
amount_in _ _ body = pos 0

-- What a record adds to the number of accounts of a group, or of groups of a file.
abbrev pub part_in : Level → Kind → ℕ
part_in Group AccountHeader = 1
part_in File GroupHeader = 1
part_in _ _ = 0

-- The sums over some records of a level.
abbrev pub sums_over : Level → List Record → Sums
sums_over level records = record {
  total = total_over (λ r. amount_in level r.kind r.body) records;
  parts = sum_by (λ r. part_in level r.kind) records;
  records = sum_by (λ r. r.lines) records;
}

-- The sums of a level: those over its section.
abbrev pub sums_of : Level → List Record → Sums
sums_of level records = sums_over level (section level records)

-- What the last record says that passes the test; the answer for none where no record does.
abbrev pub last_said : {X : Type 0} → (Kind → Bool) → (Record → X) → X → List Record → X
last_said test said none records = option_map_or said (find (λ r. test r.kind) (reverse records)) none

-- The kind of the last record; Blank where there is none.
abbrev pub last_kind : List Record → Kind
last_kind records = last_said (λ _. true) (λ r. r.kind) Blank records

-- The number of the statements: that of the last file's header.
abbrev pub number_of : List Record → List ℕ
number_of records = last_said is_file_header (λ r. number_in r.body) [] records

-- The day of the statements: that of the last group's header.
abbrev pub day_of : List Record → ℤ
day_of records = last_said is_group_header (λ r. day_in r.body) (pos 0) records

-- The currency of the group: that of the last group's header.
abbrev pub currency_of : List Record → List ℕ
currency_of records = last_said is_group_header (λ r. currency_in r.body) [] records

-- The fields of the last account's header.
abbrev pub account_of : List Record → List ℕ
account_of records = last_said is_account_header (λ r. r.body) [] records

-- The lines that a record gives on this day: a detail gives one or none, other records none.
abbrev pub lines_in : ℤ → Kind → List ℕ → List ℕ → List StatementLine
lines_in day Detail body more = lines_of_detail day body more
lines_in day _ body more = []

-- The lines that some records give on this day.
abbrev pub lines_on : ℤ → List Record → List StatementLine
lines_on day records = flat_map (λ r. lines_in day r.kind r.body r.text) records

-- The lines of the account.
abbrev pub lines_of : List Record → List StatementLine
lines_of records = lines_on (day_of records) (section Account records)

-- The statement of an account is complete with the account's trailer (BAI2, record 49).
abbrev pub statements_at : List Record → Record → List Statement
statements_at before r =
    if is_account_trailer r.kind
    then
    statement_with (number_of before) (day_of before) (currency_of before) (account_of before) (lines_of before) ∷ []
    else []

-- The statements of a file, one for each account.
abbrev pub statements_of : List Record → List Statement
statements_of records = each_after statements_at [] records

-- All that is asked of the records before a record.
abbrev pub said_by : List Record → Said
said_by records = record {
  last = last_kind records;
  number = number_of records;
  day = day_of records;
  currency = currency_of records;
  account = account_of records;
  lines = lines_of records;
  of_account = sums_of Account records;
  of_group = sums_of Group records;
  of_file = sums_of File records;
  statements = statements_of records;
}
