-- The grammar of a BAI2 file: the checks of each record, and what a text says, its statements or its fault.
use Rattle.std.specs.Prelude.{ℕ, ◌+◌, ◌==◌, nat_lt, Bool, false, ◌&&◌, ◌||◌, not, List, [], ◌∷◌, ◌++◌, length, codes}
use Rattle.std.specs.Prelude.{is_some, is_none, if◌then◌else◌, Result, pos}
use Rattle.std.specs.Ordering.{int_eq}
use Rattle.std.specs.List.{list_all}
use Rattle.book_commodity.specs.declared.commodity.Commodity.{Commodity}
use Rattle.book_statement.specs.Checks.{Check, Place, check, first_fault, place, unless_fault}
use Rattle.book_statement.specs.Currencies.{fraction_of}
use Rattle.book_statement.specs.Dates.{short_date}
use Rattle.book_statement.specs.Keys.{same_text}
use Rattle.book_statement.specs.Lists.{each_after}
use Rattle.book_statement.specs.Texts as texts
use Rattle.book_statement.specs.declared.bad.Bad.TheVariants.{NoStatement, RecordOrder, FieldForm, DateForm, AmountForm}
use Rattle.book_statement.specs.declared.bad.Bad.TheVariants.{UnknownCurrency, Version, GroupStatus, ControlTotal}
use Rattle.book_statement.specs.declared.bad.Bad.TheVariants.{Count, CutOff, TooMany}
use Rattle.book_statement.specs.declared.count_of.CountOf.{CountOf}
use Rattle.book_statement.specs.declared.count_of.CountOf.TheVariants.{AccountRecords, GroupAccounts, GroupRecords}
use Rattle.book_statement.specs.declared.count_of.CountOf.TheVariants.{FileGroups, FileRecords}
use Rattle.book_statement.specs.declared.fault.StatementFault.{StatementFault}
use Rattle.book_statement.specs.declared.level.Level.{Level}
use Rattle.book_statement.specs.declared.level.Level.TheVariants.{Account, Group, File}
use Rattle.book_statement.specs.declared.statement.Statement.{Statement}
use Rattle.bai2_read.specs.Amounts.{is_amount, is_total, total}
use Rattle.bai2_read.specs.Details.{detail_amount, funds_part, is_type}
use Rattle.bai2_read.specs.Fields.{count, field, funds_date, funds_form, is_count}
use Rattle.bai2_read.specs.Kinds.{is_blank, is_file_header, is_file_trailer, may_follow}
use Rattle.bai2_read.specs.Lines.{records_of}
use Rattle.bai2_read.specs.Records.{Record}
use Rattle.bai2_read.specs.Said.{Said, Sums, last_kind, said_by, statements_of}
use Rattle.bai2_read.specs.Statements.{currency_with}
use Rattle.bai2_read.specs.Summaries.{has_amount, has_date, has_form, items}
use Rattle.bai2_read.specs.declared.kind.Kind.{Kind}
use Rattle.bai2_read.specs.declared.kind.Kind.TheVariants.{Blank, FileHeader, GroupHeader, AccountHeader, Detail}
use Rattle.bai2_read.specs.declared.kind.Kind.TheVariants.{AccountTrailer, Continuation, GroupTrailer, FileTrailer}
use Rattle.bai2_read.specs.declared.kind.Kind.TheVariants.{Unknown, NoRecord}

-- The commodities of a book under their numbers.
abbrev pub Known : Type 0
Known = List (ℕ × Commodity)

-- The file's header, record 01: sender, receiver, date, time, file identification, record length, block size, version.
-- The version is 2.
unfoldable pub file_checks : List ℕ → List Check
file_checks body = check (same_text (field 7 body) (codes "2")) Version ∷ []

-- A group's header, record 02: receiver, originator, status, as-of date, time, currency, modifier. The status is 1,
-- update.
unfoldable pub group_checks : List ℕ → List Check
group_checks body =
    check (same_text (field 2 body) (codes "1")) GroupStatus
    ∷ check (is_some (short_date (field 3 body))) DateForm ∷ []

-- An account's header, record 03: account, currency, items. A file has 1,000 statements at most.
unfoldable pub account_checks : Known → Said → List ℕ → List Check
account_checks known before body =
    check (not (length (field 0 body) == 0) && list_all has_form (items body)) FieldForm
    ∷ check (list_all has_date (items body)) DateForm
    ∷ check (list_all has_amount (items body)) AmountForm
    ∷ check (is_some (fraction_of (currency_with before.currency body) known)) UnknownCurrency
    ∷ check (nat_lt (length before.statements) 1000) TooMany ∷ []

-- A detail, record 16. A statement has 10,000 lines at most; a detail that gives no line is not counted.
unfoldable pub detail_checks : Said → List ℕ → List Check
detail_checks before body =
    check (is_type (field 0 body) && funds_form (funds_part body)) FieldForm
    ∷ check (funds_date (funds_part body)) DateForm
    ∷ check (is_amount (field 1 body)) AmountForm
    ∷ check (is_none (detail_amount body) || nat_lt (length before.lines) 10_000) TooMany ∷ []

-- The counts of a trailer: an account's trailer has the number of records, the others the number of parts before it.
abbrev pub has_counts : Level → List ℕ → Bool
has_counts Account body = is_count (field 1 body)
has_counts Group body = is_count (field 1 body) && is_count (field 2 body)
has_counts File body = is_count (field 1 body) && is_count (field 2 body)

-- A count of a trailer says what was counted.
abbrev pub count_check : CountOf → List ℕ → ℕ → Check
count_check what text reckoned =
    check (count text == reckoned) (Count what (pos (count text)) (pos reckoned))

-- A count of parts, and then the count of records, the trailer's own lines included.
abbrev pub count_checks : Level → Sums → ℕ → List ℕ → List Check
count_checks Account sums own body = count_check AccountRecords (field 1 body) (sums.records + own) ∷ []
count_checks Group sums own body =
    count_check GroupAccounts (field 1 body) sums.parts
    ∷ count_check GroupRecords (field 2 body) (sums.records + own) ∷ []
count_checks File sums own body =
    count_check FileGroups (field 1 body) sums.parts
    ∷ count_check FileRecords (field 2 body) (sums.records + own) ∷ []

-- A trailer, record 49, 98 or 99: the control total, then the counts of what it closes.
unfoldable pub trailer_checks : Level → Sums → ℕ → List ℕ → List Check
trailer_checks level sums own body =
    check (has_counts level body) FieldForm
    ∷ check (is_total (field 0 body)) AmountForm
    ∷ check (int_eq (total (field 0 body)) sums.total) (ControlTotal level (total (field 0 body)) sums.total)
    ∷ count_checks level sums own body

-- What is checked of a record by itself and against the records before it, in this order.
abbrev pub own_checks : Known → Said → Kind → ℕ → List ℕ → List Check
own_checks known before Blank own body = []
own_checks known before FileHeader own body = file_checks body
own_checks known before GroupHeader own body = group_checks body
own_checks known before AccountHeader own body = account_checks known before body
own_checks known before Detail own body = detail_checks before body
own_checks known before AccountTrailer own body = trailer_checks Account before.of_account own body
own_checks known before Continuation own body = []
own_checks known before GroupTrailer own body = trailer_checks Group before.of_group own body
own_checks known before FileTrailer own body = trailer_checks File before.of_file own body
own_checks known before Unknown own body = []
own_checks known before NoRecord own body = check false FieldForm ∷ []

-- The checks of a record: that it may stand behind the last record, and then its own.
unfoldable pub checks : Known → Said → Record → List Check
checks known before r =
    check (may_follow before.last r.kind) RecordOrder ∷ own_checks known before r.kind r.lines r.body

-- A file that does not begin with a file's header has no statement; that is said of line 0.
abbrev pub no_statement : Place
no_statement = place 0 (check false NoStatement ∷ [])

-- The place of a record with its checks.
unfoldable pub record_place : Known → Said → Record → Place
record_place known before r =
    if is_blank before.last && not (is_file_header r.kind) then no_statement else place r.line (checks known before r)

-- The place of the file's end: its last line, where the file's trailer is missing.
unfoldable pub end_place : ℕ → Kind → Place
end_place lines last = if is_blank last then no_statement else place lines (check (is_file_trailer last) CutOff ∷ [])

-- The places of the records.
abbrev pub places : Known → List Record → List Place
places known records = each_after (λ before r. record_place known (said_by before) r ∷ []) [] records

-- What records say, with the number of lines of their file.
abbrev pub result_of : Known → ℕ → List Record → Result (List Statement) StatementFault
result_of known lines records =
    unless_fault (first_fault (places known records ++ end_place lines (last_kind records) ∷ []))
    (statements_of records)

-- What the text of a BAI2 file says: its statements or its fault.
abbrev pub reading : Known → List ℕ → Result (List Statement) StatementFault
reading known text = let lines = texts.lines_of text in result_of known (length lines) (records_of lines)
