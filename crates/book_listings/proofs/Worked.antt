-- Worked texts: a book with a broker's account, a hidden account, an entry of three splits, and one that is voided.
use Rattle.std.proofs.Common.{◌≡◌, ℕ, ℤ, pos, negsuc, Bool, true, false, List, [], ◌∷◌, ◌++◌, Some, None, codes, refl}
use Rattle.std.specs.Fmt.{digits}
use Rattle.book_accounts.specs.Order.{with_generations}
use Rattle.book_accounts.specs.Tree.{nearest_parents}
use Rattle.book_accounts.specs.declared.account.Account.{Account}
use Rattle.book_accounts.specs.declared.kind.AccountKind.{AccountKind}
use Rattle.book_accounts.specs.declared.kind.AccountKind.TheVariants.{Bank, Expense, Root, Stock}
use Rattle.book_commodity.specs.Amount.{amount_text, decimals_of}
use Rattle.book_commodity.specs.Day.{day_text}
use Rattle.book_commodity.specs.declared.commodity.Commodity.{Commodity}
use Rattle.book_splits.specs.declared.split.Mark.TheVariants.{New, Voided}
use Rattle.book_splits.specs.declared.split.Split.{Split}
use Rattle.book_splits.specs.declared.transaction.Txn.{Txn}
use Rattle.book_undo.specs.Book.{Book, empty_book}
use Rattle.csv.specs.Writing.{escaped, fields_text, is_blank}
use Rattle.book_reports.specs.Layout.{record_text}
use Rattle.book_reports.specs.declared.form.Form.TheVariants.{Csv, Plain}
use Rattle.unicode_width.proofs.Computing.{unicode_width}
use Rattle.book_listings.specs.Accounts.{account_columns, account_rows, kind_word}
use Rattle.book_table.specs.Columns.{lines, placed, table_text, width}
use Rattle.book_listings.specs.Command.{edit_line, lines_of, unvoid_line}
use Rattle.book_listings.specs.Journal.{dated, rows_of}
use Rattle.book_listings.specs.Account.{line_of}
use Rattle.book_listings.specs.Schedules.{end_text}
use Rattle.book_schedule.specs.declared.timing.End.TheVariants.{After}
use Rattle.book_table.specs.declared.columns.Side.TheVariants.{Free, Left, Right}

abbrev commodity : List ℕ → List ℕ → ℕ → Commodity
commodity space name fraction = record { space = space; name = name; full_name = []; fraction = fraction }

abbrev account : List ℕ → AccountKind → ℕ → Bool → Account
account name kind commodity hidden = record {
  name = name;
  kind = kind;
  commodity = commodity;
  parent = Some 2;
  code = [];
  note = [];
  hidden = hidden;
  placeholder = false;
  basis = None;
}

abbrev split : ℕ → ℕ → List ℕ → ℤ → ℤ → Split
split id account memo value quantity = record {
  id = id;
  account = account;
  memo = memo;
  action = [];
  mark = New;
  recon = None;
  value = value;
  quantity = quantity;
}

-- ten shares for 100.00, with a fee of 1.50
abbrev buy : Txn
buy = record {
  currency = 1;
  day = pos 40;
  num = codes "7";
  description = codes "Buy";
  splits = split 8 4 [] (pos 10000) (pos 10) ∷ split 9 6 (codes "fee") (pos 150) (pos 150)
      ∷ split 10 5 [] (negsuc 10149) (negsuc 10149) ∷ [];
  voided = None;
}

abbrev book : Book
book = record (empty_book 1) {
  commodities = (1, commodity (codes "CURRENCY") (codes "EUR") 100) ∷ (3, commodity (codes "NYSE") (codes "ACME") 1) ∷ [];
  accounts = (2, record (account (codes "Root") Root 1 false) { parent = None; placeholder = true })
      ∷ (4, account (codes "Broker") Stock 3 false) ∷ (5, account (codes "Cash") Bank 1 true)
      ∷ (6, account (codes "Fees") Expense 1 false) ∷ [];
  transactions = (7, buy) ∷ [];
}

-- every account has its row, the hidden one too
all_accounts :
    account_rows book
    ≡ account_columns
    ∷ (codes "2" ∷ codes "0.00" ∷ codes "EUR" ∷ codes "ROOT" ∷ codes "p" ∷ codes "Root" ∷ [])
    ∷ (codes "4" ∷ codes "10" ∷ codes "ACME" ∷ codes "STOCK" ∷ [] ∷ codes "Broker" ∷ [])
    ∷ (codes "5" ∷ codes "-101.50" ∷ codes "EUR" ∷ codes "BANK" ∷ codes "h" ∷ codes "Cash" ∷ [])
    ∷ (codes "6" ∷ codes "1.50" ∷ codes "EUR" ∷ codes "EXPENSE" ∷ [] ∷ codes "Fees" ∷ [])
    ∷ []
unfolding amount_text decimals_of with_generations nearest_parents digits kind_word
all_accounts = refl

-- a split is named by its own number, and not by its place
rows_of_buy :
    rows_of Plain book 7 buy
    ≡ (day_text (pos 40) ∷ codes "7" ∷ [] ∷ codes "EUR" ∷ [] ∷ codes "7" ∷ [] ∷ codes "Buy" ∷ [] ∷ [])
    ∷ ([] ∷ codes "8" ∷ codes "n" ∷ codes "100.00" ∷ codes "10 ACME" ∷ [] ∷ codes "4" ∷ codes "Broker" ∷ []
    ∷ [])
    ∷ ([] ∷ codes "9" ∷ codes "n" ∷ codes "1.50" ∷ [] ∷ [] ∷ codes "6" ∷ codes "Fees" ∷ codes "fee" ∷ [])
    ∷ ([] ∷ codes "10" ∷ codes "n" ∷ codes "-101.50" ∷ [] ∷ [] ∷ codes "5" ∷ codes "Cash" ∷ [] ∷ [])
    ∷ []
unfolding amount_text decimals_of with_generations nearest_parents digits
rows_of_buy = refl

-- a voided transaction says why among the memos, and its splits have a mark of their own
abbrev voided : Txn
voided = record {
  currency = 1;
  day = pos 41;
  num = [];
  description = codes "Twice";
  splits = record (split 12 6 (codes "fee") (pos 0) (pos 0)) { mark = Voided }
      ∷ record (split 13 5 [] (pos 0) (pos 0)) { mark = Voided } ∷ [];
  voided = Some (record {
    reason = codes "entered twice";
    kept = record { value = pos 150; quantity = pos 150 } ∷ record { value = negsuc 149; quantity = negsuc 149 } ∷ [];
  });
}

rows_of_voided :
    rows_of Plain book 11 voided
    ≡ (day_text (pos 41) ∷ codes "11" ∷ [] ∷ codes "EUR" ∷ [] ∷ [] ∷ [] ∷ codes "Twice"
    ∷ codes "voided: entered twice" ∷ [])
    ∷ ([] ∷ codes "12" ∷ codes "v" ∷ codes "0.00" ∷ [] ∷ [] ∷ codes "6" ∷ codes "Fees" ∷ codes "fee" ∷ [])
    ∷ ([] ∷ codes "13" ∷ codes "v" ∷ codes "0.00" ∷ [] ∷ [] ∷ codes "5" ∷ codes "Cash" ∷ [] ∷ [])
    ∷ []
unfolding amount_text decimals_of with_generations nearest_parents digits
rows_of_voided = refl

-- for a program each row says why
csv_rows_of_voided :
    rows_of Csv book 11 voided
    ≡ (codes "11" ∷ day_text (pos 41) ∷ [] ∷ codes "Twice" ∷ codes "EUR" ∷ codes "12" ∷ codes "v" ∷ codes "6"
    ∷ codes "Fees" ∷ codes "0.00" ∷ codes "0.00" ∷ codes "EUR" ∷ [] ∷ codes "fee" ∷ codes "entered twice" ∷ [])
    ∷ (codes "11" ∷ day_text (pos 41) ∷ [] ∷ codes "Twice" ∷ codes "EUR" ∷ codes "13" ∷ codes "v" ∷ codes "5"
    ∷ codes "Cash" ∷ codes "0.00" ∷ codes "0.00" ∷ codes "EUR" ∷ [] ∷ [] ∷ codes "entered twice" ∷ [])
    ∷ []
unfolding amount_text decimals_of with_generations nearest_parents digits
csv_rows_of_voided = refl

-- it is brought back first, and has then what was kept
restored_by_two_lines :
    lines_of 11 voided
    ≡ unvoid_line 11
    ++ edit_line 11 (record voided {
      splits = split 12 6 (codes "fee") (pos 150) (pos 150) ∷ split 13 5 [] (negsuc 149) (negsuc 149) ∷ [];
      voided = None;
    })
restored_by_two_lines = refl

-- the two characters of U+4E1C and U+4EAC
abbrev wide : List ℕ
wide = 228 ∷ 184 ∷ 156 ∷ 228 ∷ 186 ∷ 172 ∷ []

-- columns are as wide as what a terminal shows: each of these characters takes two places
wide_columns :
    lines (Left ∷ Right ∷ Free ∷ [])
    ((codes "abc" ∷ codes "n" ∷ codes "text" ∷ []) ∷ (wide ∷ codes "10" ∷ codes "x" ∷ []) ∷ [])
    ≡ codes "abc    n  text\n" ++ wide ++ codes "  10  x\n"
unfolding width placed unicode_width
wide_columns = refl

-- no line ends in the spaces of a column
no_spaces :
    lines (Left ∷ Right ∷ Left ∷ [])
    ((codes "abc" ∷ codes "n" ∷ codes "text" ∷ []) ∷ (codes "x" ∷ codes "10" ∷ [] ∷ []) ∷ (codes "y" ∷ [] ∷ [] ∷ []) ∷ [])
    ≡ codes "abc   n  text\nx    10\ny\n"
unfolding width placed unicode_width
no_spaces = refl

-- comma-separated values quote what has a comma
csv_rows :
    table_text Csv (Left ∷ []) ((codes "a" ∷ codes "b" ∷ []) ∷ (codes "1,5" ∷ [] ∷ []) ∷ [])
    ≡ codes "a,b\n" ++ codes "\"1,5\",\n"
unfolding table_text record_text escaped fields_text is_blank
csv_rows = refl

-- the transactions of days that have none
no_days : dated (Some (record { from = pos 41; to = pos 50 })) book.transactions ≡ []
no_days = refl

-- the end of a schedule
end_of_twelve : end_text (After 12) 3 ≡ codes "3 of 12"
unfolding digits
end_of_twelve = refl

-- a split is matched with the line that names it
line_nine : line_of 8 ((7, 3) ∷ (8, 9) ∷ []) ≡ Some 9
line_nine = refl
