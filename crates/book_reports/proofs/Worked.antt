-- Worked reports: a broker's account with three shares left, and cash.
use Rattle.std.proofs.Common.{◌≡◌, ℕ, ℤ, pos, negsuc, true, false, List, [], ◌∷◌, ◌++◌, Some, None, codes, refl}
use Rattle.std.specs.Fmt.{digits}
use Rattle.book_accounts.specs.Order.{with_generations}
use Rattle.book_accounts.specs.Tree.{nearest_parents}
use Rattle.book_accounts.specs.declared.account.Account.{Account}
use Rattle.book_accounts.specs.declared.kind.AccountKind.{AccountKind}
use Rattle.book_accounts.specs.declared.kind.AccountKind.TheVariants.{Bank, Root, Stock}
use Rattle.book_commodity.specs.Amount.{amount_text, decimals_of, scaled}
use Rattle.book_commodity.specs.Day.{day_text}
use Rattle.book_commodity.specs.declared.commodity.Commodity.{Commodity}
use Rattle.book_splits.specs.declared.split.Mark.TheVariants.{New}
use Rattle.book_splits.specs.declared.split.Split.{Split}
use Rattle.book_splits.specs.declared.transaction.Txn.{Txn}
use Rattle.book_undo.specs.Book.{Book, empty_book}
use Rattle.csv.specs.Writing.{escaped, fields_text, is_blank}
use Rattle.book_reports.specs.Income.{income}
use Rattle.book_reports.specs.Layout.{amount_line, printed, record_text, right}
use Rattle.book_reports.specs.Measure.{sum_in, value_in, worth}
use Rattle.book_reports.specs.RegisterText.{columns, register_text, row_in, title}
use Rattle.book_reports.specs.Sections as sections
use Rattle.book_reports.specs.Sections.{csv_section, csv_summary, left_out, left_out_line, line_of, plain_section, sum_of, worth_text}
use Rattle.book_reports.specs.Sheet.{sheet}
use Rattle.book_reports.specs.Trial as trials
use Rattle.book_reports.specs.Trial.{credits, debits, part_of, plain_line, side_text, trial}
use Rattle.book_reports.specs.declared.form.Form.TheVariants.{Csv, Plain}

abbrev commodity : List ℕ → List ℕ → ℕ → Commodity
commodity space name fraction = record { space = space; name = name; full_name = []; fraction = fraction }

abbrev account : List ℕ → AccountKind → ℕ → Account
account name kind commodity = record {
  name = name;
  kind = kind;
  commodity = commodity;
  parent = Some 2;
  code = [];
  note = [];
  hidden = false;
  placeholder = false;
  basis = None;
}

abbrev split : ℕ → ℕ → ℤ → ℤ → Split
split id account value quantity = record {
  id = id;
  account = account;
  memo = [];
  action = [];
  mark = New;
  recon = None;
  value = value;
  quantity = quantity;
}

abbrev transaction : ℤ → List Split → Txn
transaction day splits = record { currency = 1; day = day; num = []; description = []; splits = splits; voided = None }

-- ten shares bought on day 9 for 10.00, five on day 40 for 7.00, twelve sold on day 69 for 18.00, and on day 60 a price
-- of 1.50 a share
abbrev book : Book
book = record (empty_book 1) {
  commodities = (1, commodity (codes "CURRENCY") (codes "EUR") 100) ∷ (3, commodity (codes "NYSE") (codes "ACME") 1) ∷ [];
  accounts = (2, record (account (codes "Root") Root 1) { parent = None; placeholder = true })
      ∷ (4, account (codes "Broker") Stock 3) ∷ (5, account (codes "Cash") Bank 1) ∷ [];
  transactions = (6, transaction (pos 9) (split 7 4 (pos 1000) (pos 10) ∷ split 8 5 (negsuc 999) (negsuc 999) ∷ []))
      ∷ (9, transaction (pos 40) (split 10 4 (pos 700) (pos 5) ∷ split 11 5 (negsuc 699) (negsuc 699) ∷ []))
      ∷ (12, transaction (pos 69) (split 13 4 (negsuc 1799) (negsuc 11) ∷ split 14 5 (pos 1800) (pos 1800) ∷ [])) ∷ [];
  prices = (15, record { commodity = 3; currency = 1; day = pos 60; num = 150; denom = 100 }) ∷ [];
}

plain_sheet :
    sheet book (pos 90) Plain
    ≡ codes "Balance sheet " ++ day_text (pos 90) ++ codes " EUR\n" ++ codes "Assets\n"
    ++ codes "                    4.50  Broker\n" ++ codes "                    1.00  Cash\n"
    ++ codes "                    5.50  Total Assets\n" ++ codes "Liabilities\n"
    ++ codes "                    0.00  Total Liabilities\n" ++ codes "Equity\n"
    ++ codes "                    0.00  Total Equity\n" ++ codes "                    0.00  Retained earnings\n"
    ++ codes "                    5.50  Unbooked gains\n" ++ codes "Left out: 0\n"
unfolding sheet sections.lines_of line_of sum_in worth sum_of left_out worth_text plain_section left_out_line amount_line right
    printed amount_text decimals_of scaled with_generations nearest_parents digits day_text
plain_sheet = refl

csv_sheet :
    sheet book (pos 90) Csv
    ≡ codes "section,account,worth\n" ++ codes "Assets,Broker,4.50\n" ++ codes "Assets,Cash,1.00\n"
    ++ codes "Assets,Total,5.50\n" ++ codes "Liabilities,Total,0.00\n" ++ codes "Equity,Total,0.00\n"
    ++ codes "Summary,Retained earnings,0.00\n" ++ codes "Summary,Unbooked gains,5.50\n"
    ++ codes "Summary,Left out,0\n"
unfolding sheet sections.lines_of line_of sum_in worth sum_of left_out worth_text csv_section csv_summary record_text amount_text
    decimals_of scaled with_generations nearest_parents digits escaped fields_text is_blank
csv_sheet = refl

-- before the day of the price the shares have no worth, and are left out
without_price :
    sheet book (pos 59) Csv
    ≡ codes "section,account,worth\n" ++ codes "Assets,Broker,no price\n" ++ codes "Assets,Cash,-17.00\n"
    ++ codes "Assets,Total,-17.00\n" ++ codes "Liabilities,Total,0.00\n" ++ codes "Equity,Total,0.00\n"
    ++ codes "Summary,Retained earnings,0.00\n" ++ codes "Summary,Unbooked gains,-17.00\n"
    ++ codes "Summary,Left out,1\n"
unfolding sheet sections.lines_of line_of sum_in worth sum_of left_out worth_text csv_section csv_summary record_text amount_text
    decimals_of scaled with_generations nearest_parents digits escaped fields_text is_blank
without_price = refl

plain_trial :
    trial book (pos 90) Plain
    ≡ codes "Trial balance " ++ day_text (pos 90) ++ codes "\nEUR\n"
    ++ codes "                                            1.00  Broker\n"
    ++ codes "                    1.00                          Cash\n"
    ++ codes "                    1.00                    1.00  Total\n"
unfolding trial part_of trials.lines_of value_in debits credits side_text plain_line right printed amount_text
    decimals_of with_generations nearest_parents digits day_text
plain_trial = refl

no_income :
    income book (pos 0) (pos 90) Csv
    ≡ codes "section,account,worth\n" ++ codes "Income,Total,0.00\n" ++ codes "Expenses,Total,0.00\n"
    ++ codes "Summary,Net,0.00\n" ++ codes "Summary,Left out,0\n"
unfolding income sections.lines_of line_of sum_in worth sum_of left_out worth_text csv_section csv_summary record_text amount_text
    decimals_of scaled with_generations nearest_parents digits escaped fields_text is_blank
no_income = refl

-- the balance counts the rows before the period too
plain_register :
    register_text book 5 (pos 40) (pos 60) Plain
    ≡ codes "Register Cash EUR\n" ++ day_text (pos 40)
    ++ codes "  n                 -7.00                    -17.00    \n"
unfolding register_text row_in columns title right printed amount_text decimals_of with_generations nearest_parents
    digits day_text
plain_register = refl
