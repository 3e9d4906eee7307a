-- The sections of a balance sheet and of an income report: the accounts of some kinds with what they are worth.
use Rattle.std.specs.Prelude.{ℕ, ◌&&◌, ℤ, pos, neg_ℤ, not, Bool, true, false, if◌then◌else◌, List, [], ◌∷◌, ◌++◌}
use Rattle.std.specs.Prelude.{◌≤◌, ◌^◌, unsigned_abs, All, length, map, count_by, codes, decimal, Option, Some, None}
use Rattle.std.specs.List.{filter_map, flat_map}
use Rattle.std.specs.Ordering.{int_eq}
use Rattle.book_accounts.specs.Order.{depth_first}
use Rattle.book_accounts.specs.Path.{path}
use Rattle.book_accounts.specs.declared.account.Account.{Account}
use Rattle.book_accounts.specs.declared.kind.AccountKind.{AccountKind}
use Rattle.book_accounts.specs.declared.kind.AccountKind.TheVariants as kind
use Rattle.book_commodity.specs.Amount.{amount_text}
use Rattle.book_commodity.specs.Table.{value_of}
use Rattle.book_prices.specs.declared.valuation.Valuation.{Valuation}
use Rattle.book_prices.specs.declared.valuation.Valuation.TheVariants.{Amount, NoPrice, Over}
use Rattle.book_splits.specs.Balance.{total}
use Rattle.book_undo.specs.Book.{Book}
use Rattle.book_reports.specs.Layout.{amount_line, record_text}
use Rattle.book_reports.specs.Measure.{sum_in, worth}
use Rattle.book_reports.specs.declared.lines.Line.{Line}
use Rattle.book_reports.specs.declared.period.Period.{Period}
use Rattle.book_reports.specs.declared.section.Section.{Section}
use Rattle.book_reports.specs.declared.section.Section.TheVariants.{Assets, Earnings, Equity, Expenses, Income}
use Rattle.book_reports.specs.declared.section.Section.TheVariants.{Liabilities}

-- The kinds of accounts that hold what is owned (GnuCash Concepts Guide, assets).
abbrev pub is_asset : AccountKind → Bool
is_asset kind.Asset = true
is_asset kind.Bank = true
is_asset kind.Cash = true
is_asset kind.Stock = true
is_asset kind.Mutual = true
is_asset kind.Receivable = true
is_asset _ = false

-- The kinds of accounts that hold what is owed (GnuCash Concepts Guide, liabilities).
abbrev pub is_liability : AccountKind → Bool
is_liability kind.Credit = true
is_liability kind.Liability = true
is_liability kind.Payable = true
is_liability _ = false

abbrev pub is_equity : AccountKind → Bool
is_equity kind.Equity = true
is_equity _ = false

abbrev pub is_income : AccountKind → Bool
is_income kind.Income = true
is_income _ = false

abbrev pub is_expense : AccountKind → Bool
is_expense kind.Expense = true
is_expense _ = false

-- Which kinds of accounts stand in a section. The earnings are those of income and expenses together.
abbrev pub holds : Section → AccountKind → Bool
holds Assets kind = is_asset kind
holds Liabilities kind = is_liability kind
holds Equity kind = is_equity kind
holds Income kind = is_income kind
holds Expenses kind = is_expense kind
holds Earnings kind = if is_income kind then true else is_expense kind

-- Whether a section shows credits as positive amounts, as of what is owed and what is earned (GnuCash Concepts Guide,
-- debits and credits).
abbrev pub is_turned : Section → Bool
is_turned Assets = false
is_turned Expenses = false
is_turned Liabilities = true
is_turned Equity = true
is_turned Income = true
is_turned Earnings = true

-- The name of a section; that of the earnings is the line of the balance sheet that has their sum.
abbrev pub section_name : Section → List ℕ
section_name Assets = codes "Assets"
section_name Liabilities = codes "Liabilities"
section_name Equity = codes "Equity"
section_name Income = codes "Income"
section_name Expenses = codes "Expenses"
section_name Earnings = codes "Retained earnings"

-- A worth with the other sign.
abbrev pub turned : Valuation → Valuation
turned (Amount amount) = Amount (neg_ℤ amount)
turned NoPrice = NoPrice
turned Over = Over

-- A worth with the sign that a section shows it with.
abbrev pub signed_in : Section → Valuation → Valuation
signed_in section worth = if is_turned section then turned worth else worth

-- The line of an account in a section: its path and its worth on the last day of the period. There is none where the
-- account is of another kind, or the sum is zero.
abbrev pub line_with : Book → Period → Section → ℕ → Option Account → Option Line
line_with book period section number None = None
line_with book period section number (Some account) =
    if holds section account.kind && not (int_eq (sum_in book period number) (pos 0))
    then Some (record {
      path = path book.accounts number;
      worth = signed_in section (worth book period.to account.commodity (sum_in book period number));
    })
    else None

unfoldable pub line_of : Book → Period → Section → ℕ → Option Line
line_of book period section number = line_with book period section number (value_of number book.accounts)

-- The lines of a section, in the order of the tree of accounts.
unfoldable pub lines_of : Book → Period → Section → List Line
lines_of book period section = filter_map (line_of book period section) (depth_first book.accounts)

-- What a worth adds to the sum of its section: nothing where there is none.
abbrev pub amount_in : Valuation → ℤ
amount_in (Amount amount) = amount
amount_in NoPrice = pos 0
amount_in Over = pos 0

-- The sum of a section.
unfoldable pub sum_of : List Line → ℤ
sum_of lines = total (map (λ line. amount_in line.worth) lines)

-- The lines of a section are so few, and their worths so small, that they can be added up.
pub record CanBeAdded (lines : List Line) : Type 0 where
  pub few : length lines ≤ 10000
  pub small : All (λ line. unsigned_abs (amount_in line.worth) ≤ 10 ^ 30) lines

-- Whether an account is left out of the sums.
abbrev pub is_left_out : Valuation → Bool
is_left_out (Amount amount) = false
is_left_out NoPrice = true
is_left_out Over = true

-- How many accounts of a section are left out of the sums.
unfoldable pub left_out : List Line → ℕ
left_out lines = count_by (λ line. is_left_out line.worth) lines

-- The text of a worth in a currency with this fraction.
unfoldable pub worth_text : ℕ → Valuation → List ℕ
worth_text fraction (Amount amount) = amount_text amount fraction
worth_text fraction NoPrice = codes "no price"
worth_text fraction Over = codes "over"

-- ---- plain text

-- The lines of a section, without its name and its sum.
abbrev pub plain_lines : ℕ → List Line → List ℕ
plain_lines fraction lines = flat_map (λ line. amount_line (worth_text fraction line.worth) line.path) lines

-- A section: its name, its lines, and its sum behind the word Total.
unfoldable pub plain_section : ℕ → Section → List Line → List ℕ
plain_section fraction section lines =
    section_name section ++ 10 ∷ [] ++ plain_lines fraction lines
    ++ amount_line (amount_text (sum_of lines) fraction) (codes "Total " ++ section_name section)

-- How many accounts are left out of the sums of a report.
unfoldable pub left_out_line : ℕ → List ℕ
left_out_line count = codes "Left out: " ++ decimal count ++ 10 ∷ []

-- ---- comma-separated values

-- A record of a section, an account and an amount.
abbrev pub csv_record : List ℕ → List ℕ → List ℕ → List ℕ
csv_record section account amount = record_text (section ∷ account ∷ amount ∷ [])

abbrev pub csv_header : List ℕ
csv_header = csv_record (codes "section") (codes "account") (codes "worth")

abbrev pub csv_lines : ℕ → Section → List Line → List ℕ
csv_lines fraction section lines =
    flat_map (λ line. csv_record (section_name section) line.path (worth_text fraction line.worth)) lines

-- A section: its lines and its sum, which stands as an account Total.
unfoldable pub csv_section : ℕ → Section → List Line → List ℕ
csv_section fraction section lines =
    csv_lines fraction section lines
    ++ csv_record (section_name section) (codes "Total") (amount_text (sum_of lines) fraction)

-- A figure of the whole report, in the section Summary.
unfoldable pub csv_summary : List ℕ → List ℕ → List ℕ
csv_summary name amount = csv_record (codes "Summary") name amount
