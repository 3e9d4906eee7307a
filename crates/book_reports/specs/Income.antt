-- The report of income and expenses over a period, in the currency of the book at the rates of its last day (GnuCash
-- Manual, reports: income statement).
use Rattle.std.specs.Prelude.{ℕ, ◌+◌, ℤ, ◌-ℤ◌, List, [], ◌∷◌, ◌++◌, Some, codes, decimal}
use Rattle.book_commodity.specs.Amount.{amount_text}
use Rattle.book_commodity.specs.Day.{day_text}
use Rattle.book_undo.specs.Book.{Book}
use Rattle.book_reports.specs.Layout.{amount_line, printed}
use Rattle.book_reports.specs.Measure.{fraction_of, name_of}
use Rattle.book_reports.specs.Sections.{csv_header, csv_section, csv_summary, left_out, left_out_line, lines_of}
use Rattle.book_reports.specs.Sections.{plain_section, sum_of}
use Rattle.book_reports.specs.declared.form.Form.{Form}
use Rattle.book_reports.specs.declared.form.Form.TheVariants.{Csv, Plain}
use Rattle.book_reports.specs.declared.income_report.Parts.{Parts}
use Rattle.book_reports.specs.declared.period.Period.{Period}
use Rattle.book_reports.specs.declared.section.Section.TheVariants.{Expenses, Income}

-- The days from one to another, both among them.
abbrev pub between : ℤ → ℤ → Period
between first last = record { from = Some first; to = last }

-- The lines of the sections over a period, by what the accounts change by in it.
abbrev pub parts_of : Book → Period → Parts
parts_of book period =
    record { income = lines_of book period Income; expenses = lines_of book period Expenses }

-- Income less expenses.
abbrev pub net : Parts → ℤ
net parts = sum_of parts.income -ℤ sum_of parts.expenses

-- How many accounts are left out of the sums.
abbrev pub parts_left_out : Parts → ℕ
parts_left_out parts = left_out parts.income + left_out parts.expenses

abbrev pub plain_parts : ℕ → Parts → List ℕ
plain_parts fraction parts =
    plain_section fraction Income parts.income ++ plain_section fraction Expenses parts.expenses
    ++ amount_line (amount_text (net parts) fraction) (codes "Net")
    ++ left_out_line (parts_left_out parts)

-- The two days, with a space behind each.
unfoldable pub days : ℤ → ℤ → List ℕ
days first last = day_text first ++ 32 ∷ [] ++ day_text last ++ 32 ∷ []

abbrev pub heading : Book → ℤ → ℤ → List ℕ
heading book first last =
    codes "Income and expenses " ++ days first last ++ printed (name_of book.commodities book.currency) ++ 10 ∷ []

abbrev pub csv_parts : ℕ → Parts → List ℕ
csv_parts fraction parts =
    csv_section fraction Income parts.income ++ csv_section fraction Expenses parts.expenses
    ++ csv_summary (codes "Net") (amount_text (net parts) fraction)
    ++ csv_summary (codes "Left out") (decimal (parts_left_out parts))

-- The report of a book from one day to another.
unfoldable pub income : Book → ℤ → ℤ → Form → List ℕ
income book first last Plain =
    heading book first last
    ++ plain_parts (fraction_of book.commodities book.currency) (parts_of book (between first last))
income book first last Csv =
    csv_header ++ csv_parts (fraction_of book.commodities book.currency) (parts_of book (between first last))
