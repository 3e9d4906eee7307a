-- The balance sheet: what is owned, what is owed and what is left of it on a day, in the currency of the book (GnuCash
-- Manual, reports: balance sheet).
use Rattle.std.specs.Prelude.{◌≡◌, ℕ, ◌+◌, ℤ, pos, ◌-ℤ◌, All, List, [], ◌∷◌, ◌++◌, None, codes, decimal}
use Rattle.book_commodity.specs.Amount.{amount_text}
use Rattle.book_commodity.specs.Day.{day_text}
use Rattle.book_splits.specs.Balance.{splits_of}
use Rattle.book_undo.specs.Book.{Book}
use Rattle.book_reports.specs.Layout.{amount_line, printed}
use Rattle.book_reports.specs.Measure.{commodity_of, fraction_of, name_of}
use Rattle.book_reports.specs.Sections.{csv_header, csv_section, csv_summary, left_out, left_out_line, lines_of}
use Rattle.book_reports.specs.Sections.{plain_section}
use Rattle.book_reports.specs.Sections.{section_name, sum_of}
use Rattle.book_reports.specs.declared.form.Form.{Form}
use Rattle.book_reports.specs.declared.form.Form.TheVariants.{Csv, Plain}
use Rattle.book_reports.specs.declared.period.Period.{Period}
use Rattle.book_reports.specs.declared.section.Section.TheVariants.{Assets, Earnings, Equity, Liabilities}
use Rattle.book_reports.specs.declared.balance_sheet.Parts.{Parts}

-- All days up to a day.
abbrev pub until : ℤ → Period
until day = record { from = None; to = day }

-- The lines of the sections on a day, by the balances of the accounts.
abbrev pub parts_of : Book → ℤ → Parts
parts_of book day = record {
  assets = lines_of book (until day) Assets;
  liabilities = lines_of book (until day) Liabilities;
  equity = lines_of book (until day) Equity;
  earnings = lines_of book (until day) Earnings;
}

-- Assets less liabilities and equity.
abbrev pub rest_of : Parts → ℤ
rest_of parts = sum_of parts.assets -ℤ sum_of parts.liabilities -ℤ sum_of parts.equity

-- The same less retained earnings: what prices added that no transaction says.
abbrev pub unbooked : Parts → ℤ
unbooked parts = rest_of parts -ℤ sum_of parts.earnings

-- A book has but one currency: each transaction is in the currency of the book, and each account with splits holds it.
pub record IsInOneCurrency (book : Book) : Type 0 where
  pub transactions : All (λ entry. entry.1.currency ≡ book.currency) book.transactions
  pub accounts : All (λ split. commodity_of book split.account ≡ book.currency) (splits_of book.transactions)

-- Where a book has but one currency, no gains are unbooked (GnuCash Concepts Guide, the accounting equation).
abbrev pub IsClosed : Book → ℤ → Type 0
IsClosed book day = IsInOneCurrency book → unbooked (parts_of book day) ≡ pos 0

-- How many accounts are left out of the sums.
abbrev pub parts_left_out : Parts → ℕ
parts_left_out parts =
    left_out parts.assets + left_out parts.liabilities + left_out parts.equity + left_out parts.earnings

-- The figures below the sections.
abbrev pub plain_summary : ℕ → Parts → List ℕ
plain_summary fraction parts =
    amount_line (amount_text (sum_of parts.earnings) fraction) (section_name Earnings)
    ++ amount_line (amount_text (unbooked parts) fraction) (codes "Unbooked gains")
    ++ left_out_line (parts_left_out parts)

abbrev pub plain_parts : ℕ → Parts → List ℕ
plain_parts fraction parts =
    plain_section fraction Assets parts.assets ++ plain_section fraction Liabilities parts.liabilities
    ++ plain_section fraction Equity parts.equity ++ plain_summary fraction parts

abbrev pub heading : Book → ℤ → List ℕ
heading book day =
    codes "Balance sheet " ++ day_text day ++ 32 ∷ [] ++ printed (name_of book.commodities book.currency) ++ 10 ∷ []

abbrev pub csv_figures : ℕ → Parts → List ℕ
csv_figures fraction parts =
    csv_summary (section_name Earnings) (amount_text (sum_of parts.earnings) fraction)
    ++ csv_summary (codes "Unbooked gains") (amount_text (unbooked parts) fraction)
    ++ csv_summary (codes "Left out") (decimal (parts_left_out parts))

abbrev pub csv_parts : ℕ → Parts → List ℕ
csv_parts fraction parts =
    csv_section fraction Assets parts.assets ++ csv_section fraction Liabilities parts.liabilities
    ++ csv_section fraction Equity parts.equity ++ csv_figures fraction parts

-- The balance sheet of a book on a day.
unfoldable pub sheet : Book → ℤ → Form → List ℕ
sheet book day Plain =
    heading book day ++ plain_parts (fraction_of book.commodities book.currency) (parts_of book day)
sheet book day Csv = csv_header ++ csv_parts (fraction_of book.commodities book.currency) (parts_of book day)
