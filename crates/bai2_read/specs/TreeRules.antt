-- The rules of BAI2 on the tree of a file: which trees are accepted. Totals, counts and limits are conditions on a
-- whole account, group or file.
use Rattle.std.specs.Prelude.{ℕ, ◌≡◌, ◌<◌, ◌≤◌, IsTrue, List, length, codes, is_some, Result, Ok, Err, ⊤, ℤ}
use Rattle.std.specs.List.{All, AllPass}
use Rattle.book_statement.specs.Currencies.{fraction_of}
use Rattle.book_statement.specs.Dates.{short_date}
use Rattle.book_statement.specs.Keys.{same_text}
use Rattle.book_statement.specs.declared.read_error.ReadError.{ReadError}
use Rattle.book_statement.specs.declared.read_error.ReadError.TheVariants.{Fault, OutOfMemory}
use Rattle.book_statement.specs.declared.statement.Statement.{Statement}
use Rattle.bai2_read.specs.Amounts.{is_amount, is_total, total}
use Rattle.bai2_read.specs.Details.{funds_part, is_type}
use Rattle.bai2_read.specs.Fields.{count, field, funds_date, funds_form, is_count}
use Rattle.bai2_read.specs.Reading.{Known}
use Rattle.bai2_read.specs.Records.{Record}
use Rattle.bai2_read.specs.Statements.{currency_in, currency_with, day_in}
use Rattle.bai2_read.specs.Summaries.{has_amount, has_date, has_form, items}
use Rattle.bai2_read.specs.Tree.{AccountTree, FileTree, GroupTree, lines_of_details, records_of_file, size_of_account}
use Rattle.bai2_read.specs.Tree.{size_of_file, size_of_group, statements_of_file, total_of_account, total_of_file}
use Rattle.bai2_read.specs.Tree.{total_of_group}
use Rattle.bai2_read.specs.declared.kind.Kind.TheVariants.{FileHeader, GroupHeader, AccountHeader, Detail}
use Rattle.bai2_read.specs.declared.kind.Kind.TheVariants.{AccountTrailer, GroupTrailer, FileTrailer}

-- A text that is a control total, and says this one.
pub record SaysTotal (text : List ℕ) (reckoned : ℤ) : Type 0 where
  pub form : IsTrue (is_total text)
  pub value : total text ≡ reckoned

-- A text that is a count, and says this one.
pub record SaysCount (text : List ℕ) (reckoned : ℕ) : Type 0 where
  pub form : IsTrue (is_count text)
  pub value : count text ≡ reckoned

-- A detail, record 16: its type is three digits, its funds type has its further fields, a value date is a day or
-- empty, and its amount is an amount.
pub record DetailRules (d : Record) : Type 0 where
  pub kind : d.kind ≡ Detail
  pub type_form : IsTrue (is_type (field 0 d.body))
  pub funds : IsTrue (funds_form (funds_part d.body))
  pub value_date : IsTrue (funds_date (funds_part d.body))
  pub amount : IsTrue (is_amount (field 1 d.body))

-- The header of an account, record 03: it names an account, each of its items is well formed, and the currency of its
-- statement is one of the book.
pub record AccountHeaderRules (known : Known) (group header : Record) : Type 0 where
  pub kind : header.kind ≡ AccountHeader
  pub account : 0 < length (field 0 header.body)
  pub forms : AllPass has_form (items header.body)
  pub dates : AllPass has_date (items header.body)
  pub amounts : AllPass has_amount (items header.body)
  pub currency : IsTrue (is_some (fraction_of (currency_with (currency_in group.body) header.body) known))

-- An account: its trailer, record 49, says its control total and its number of records; its statement has 10,000
-- lines at most.
pub record AccountRules (known : Known) (group : Record) (a : AccountTree) : Type 0 where
  pub header : AccountHeaderRules known group a.header
  pub details : All DetailRules a.details
  pub few_lines : length (lines_of_details (day_in group.body) a.details) ≤ 10_000
  pub trailer : a.trailer.kind ≡ AccountTrailer
  pub total : SaysTotal (field 0 a.trailer.body) (total_of_account a)
  pub records : SaysCount (field 1 a.trailer.body) (size_of_account a)

-- The header of a group, record 02: its status is 1, update, and its as-of date is a day.
pub record GroupHeaderRules (header : Record) : Type 0 where
  pub kind : header.kind ≡ GroupHeader
  pub status : IsTrue (same_text (field 2 header.body) (codes "1"))
  pub as_of : IsTrue (is_some (short_date (field 3 header.body)))

-- A group: its trailer, record 98, says its control total, its number of accounts and its number of records.
pub record GroupRules (known : Known) (g : GroupTree) : Type 0 where
  pub header : GroupHeaderRules g.header
  pub accounts : All (AccountRules known g.header) g.accounts
  pub trailer : g.trailer.kind ≡ GroupTrailer
  pub total : SaysTotal (field 0 g.trailer.body) (total_of_group g)
  pub parts : SaysCount (field 1 g.trailer.body) (length g.accounts)
  pub records : SaysCount (field 2 g.trailer.body) (size_of_group g)

-- The header of a file, record 01: its version is 2.
pub record FileHeaderRules (header : Record) : Type 0 where
  pub kind : header.kind ≡ FileHeader
  pub version : IsTrue (same_text (field 7 header.body) (codes "2"))

-- A file: it has a group, and its trailer, record 99, says its control total, its number of groups and its number of
-- records; it has 1,000 statements at most.
pub record FileRules (known : Known) (f : FileTree) : Type 0 where
  pub header : FileHeaderRules f.header
  pub some_group : 0 < length f.groups
  pub groups : All (GroupRules known) f.groups
  pub few_statements : length (statements_of_file f) ≤ 1000
  pub trailer : f.trailer.kind ≡ FileTrailer
  pub total : SaysTotal (field 0 f.trailer.body) (total_of_file f)
  pub parts : SaysCount (field 1 f.trailer.body) (length f.groups)
  pub records : SaysCount (field 2 f.trailer.body) (size_of_file f)

-- These records are laid out as this tree, which keeps the rules and has these statements.
pub record IsTreeOf (known : Known) (records : List Record) (said : List Statement) (f : FileTree) : Type 0 where
  pub layout : records_of_file f ≡ records
  pub rules : FileRules known f
  pub statements : statements_of_file f ≡ said

-- The records have a tree with these statements.
abbrev pub HasTree : Known → List Record → List Statement → Type 0
HasTree known records said = (f : FileTree) × IsTreeOf known records said f

-- What a reader answers of an accepted file: its statements, or out of memory.
abbrev pub Reads : List Statement → Result (List Statement) ReadError → Type 0
Reads statements (Ok given) = given ≡ statements
Reads statements (Err OutOfMemory) = ⊤
Reads statements (Err (Fault fault)) = ⊥

-- Each tree of these records that keeps the rules is read.
abbrev pub ReadsTrees : Known → List Record → Result (List Statement) ReadError → Type 0
ReadsTrees known records result =
    (f : FileTree) → records_of_file f ≡ records → FileRules known f → Reads (statements_of_file f) result
