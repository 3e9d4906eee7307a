-- Worked lines: a book with a broker's account, an account that is hidden, and a name with a semicolon.
use Rattle.std.proofs.Common.{◌≡◌, ℕ, ℤ, pos, negsuc, Bool, true, false, List, [], ◌∷◌, ◌++◌, Some, None, codes, refl}
use Rattle.std.specs.Fmt.{digits}
use Rattle.book_accounts.specs.Tree.{nearest_parents}
use Rattle.book_accounts.specs.declared.account.Account.{Account}
use Rattle.book_accounts.specs.declared.kind.AccountKind.{AccountKind}
use Rattle.book_accounts.specs.declared.kind.AccountKind.TheVariants.{Bank, Expense, Income, Root, Stock}
use Rattle.book_commodity.specs.Amount.{amount_text, decimals_of}
use Rattle.book_commodity.specs.Day.{day_text}
use Rattle.book_commodity.specs.declared.commodity.Commodity.{Commodity}
use Rattle.book_prices.specs.declared.price.Price.{Price}
use Rattle.book_splits.specs.declared.split.Mark.{Mark}
use Rattle.book_splits.specs.declared.split.Mark.TheVariants.{Cleared, New, Reconciled, Voided}
use Rattle.book_splits.specs.declared.split.Split.{Split}
use Rattle.book_splits.specs.declared.transaction.Txn.{Txn}
use Rattle.book_undo.specs.Book.{Book, empty_book}
use Rattle.book_export.specs.Entries.{head_line, posting_end, posting_line, posting_start, transaction_lines, void_line}
use Rattle.book_export.specs.Export.{accounts_text, commodities_text, prices_text}
use Rattle.book_export.specs.Names.{journal_name, written_from}
use Rattle.book_export.specs.Prices.{power_for, price_line}
use Rattle.book_export.specs.Symbols.{amount_in, commodity_lines, exponent_of}
use Rattle.book_export.specs.Texts.{code, shown}

abbrev commodity : List ℕ → List ℕ → ℕ → Commodity
commodity space name fraction = record { space = space; name = name; full_name = []; fraction = fraction }

abbrev account : List ℕ → AccountKind → ℕ → ℕ → Bool → Account
account name kind commodity parent hidden = record {
  name = name;
  kind = kind;
  commodity = commodity;
  parent = Some parent;
  code = [];
  note = [];
  hidden = hidden;
  placeholder = false;
  basis = None;
}

abbrev split : ℕ → List ℕ → Mark → ℤ → ℤ → Split
split account memo mark value quantity = record {
  id = 20;
  account = account;
  memo = memo;
  action = [];
  mark = mark;
  recon = None;
  value = value;
  quantity = quantity;
}

abbrev transaction : ℤ → List ℕ → List ℕ → List Split → Txn
transaction day num description splits = record {
  currency = 1;
  day = day;
  num = num;
  description = description;
  splits = splits;
  voided = None;
}

abbrev price : ℕ → ℕ → Price
price num denom = record { commodity = 3; currency = 1; day = pos 40; num = num; denom = denom }

abbrev book : Book
book = record (empty_book 1) {
  commodities = (1, commodity (codes "CURRENCY") (codes "EUR") 100) ∷ (3, commodity (codes "NYSE") (codes "ACME") 1)
      ∷ (4, commodity (codes "US") (codes "NOTE") 8) ∷ [];
  accounts = (2, record (account (codes "Root") Root 1 0 false) { parent = None; placeholder = true })
      ∷ (5, account (codes "Bank") Bank 1 2 false) ∷ (6, account (codes "Pay") Income 1 2 false)
      ∷ (7, account (codes "Broker") Stock 3 5 true) ∷ (8, account (codes "Food; drink") Expense 1 2 false) ∷ [];
  prices = (9, price 601 4) ∷ (10, price 1 3) ∷ [];
}

-- a salary
salary :
    transaction_lines book
    (transaction (pos 40) (codes "7") (codes "Salary")
    (split 5 [] New (pos 250000) (pos 250000) ∷ split 6 [] New (negsuc 249999) (negsuc 249999) ∷ []))
    ≡ (codes "\n" ++ day_text (pos 40) ++ codes " (7) Salary\n") ++ codes "    Bank  2500.00 EUR\n    Pay  -2500.00 EUR\n"
unfolding amount_in amount_text day_text decimals_of digits exponent_of head_line nearest_parents posting_end
    posting_line posting_start shown transaction_lines void_line written_from
salary = refl

-- ten shares for 100.00: the value is the cost of the quantity
purchase :
    transaction_lines book
    (transaction (pos 41) [] (codes "Buy")
    (split 7 [] New (pos 10000) (pos 10) ∷ split 5 [] New (negsuc 9999) (negsuc 9999) ∷ []))
    ≡ (codes "\n" ++ day_text (pos 41) ++ codes " Buy\n") ++ codes "    Bank:Broker  10 \"NYSE:ACME\" @@ 100.00 EUR\n"
    ++ codes "    Bank  -100.00 EUR\n"
unfolding amount_in amount_text day_text decimals_of digits exponent_of head_line nearest_parents posting_end
    posting_line posting_start shown transaction_lines void_line written_from
purchase = refl

-- a correction of the cost alone: one share has it, and one is taken back for nothing
correction :
    transaction_lines book
    (transaction (pos 42) [] (codes "Fee")
    (split 7 [] New (pos 150) (pos 0) ∷ split 5 [] New (negsuc 149) (negsuc 149) ∷ []))
    ≡ (codes "\n" ++ day_text (pos 42) ++ codes " Fee\n")
    ++ codes "    Bank:Broker  1 \"NYSE:ACME\" @@ 1.50 EUR\n    Bank:Broker  -1 \"NYSE:ACME\" @@ 0.00 EUR\n"
    ++ codes "    Bank  -1.50 EUR\n"
unfolding amount_in amount_text day_text decimals_of digits exponent_of head_line nearest_parents posting_end
    posting_line posting_start shown transaction_lines void_line written_from
correction = refl

-- splits that are marked, a name with a semicolon, a memo with a colon, and a description that begins as a mark
marked :
    transaction_lines book
    (transaction (pos 43) [] (codes "*Market; stall 3")
    (split 8 [] Cleared (pos 5) (pos 5) ∷ split 5 (codes "ref: 9") Reconciled (negsuc 4) (negsuc 4) ∷ []))
    ≡ (codes "\n" ++ day_text (pos 43) ++ codes " () *Market%3B stall 3\n")
    ++ codes "    ! Food%3B drink  0.05 EUR\n    * Bank  -0.05 EUR  ; ref : 9\n"
unfolding amount_in amount_text day_text decimals_of digits exponent_of head_line nearest_parents posting_end
    posting_line posting_start shown transaction_lines void_line written_from
marked = refl

-- a voided transaction: a comment says why, with a blank before its colon, and its splits are postings of zero
voided :
    transaction_lines book
    (record (transaction (pos 43) [] (codes "Twice")
    (split 7 [] Voided (pos 0) (pos 0) ∷ split 5 (codes "fee") Voided (pos 0) (pos 0) ∷ [])) {
      voided = Some (record {
        reason = codes "see: 20";
        kept = record { value = pos 150; quantity = pos 1 } ∷ record { value = negsuc 149; quantity = negsuc 149 } ∷ [];
      });
    })
    ≡ (codes "\n" ++ day_text (pos 43) ++ codes " Twice\n") ++ codes "    ; voided : see : 20\n"
    ++ codes "    Bank:Broker  0 \"NYSE:ACME\"\n    Bank  0.00 EUR  ; fee\n"
unfolding amount_in amount_text day_text decimals_of digits exponent_of head_line nearest_parents posting_end
    posting_line posting_start shown transaction_lines void_line written_from
voided = refl

-- every account has its directive, the hidden one too, and the root has none
directives :
    accounts_text book ≡ codes "account Bank\naccount Pay\naccount Bank:Broker\naccount Food%3B drink\n"
unfolding nearest_parents written_from
directives = refl

-- two decimals; none; and eighths, which are counted
commodities :
    commodities_text book
    ≡ codes "commodity EUR\n  format 1000.00 EUR\ncommodity \"NYSE:ACME\"\ncommodity \"US:NOTE:1/8\"\n"
unfolding amount_text commodity_lines decimals_of digits exponent_of written_from
commodities = refl

-- an exact price, and one that no decimal number is
prices :
    prices_text book
    ≡ (codes "P " ++ day_text (pos 40) ++ codes " \"NYSE:ACME\" 150.25 EUR\n")
    ++ (codes "; P " ++ day_text (pos 40) ++ codes " \"NYSE:ACME\" 1/3 EUR\n") ++ []
unfolding amount_text day_text decimals_of digits exponent_of power_for price_line written_from
prices = refl

-- names that are common stay as they are, and those that would be read as more don't
common : journal_name (codes "Checking, 2nd account (old)") ≡ codes "Checking, 2nd account (old)"
unfolding written_from
common = refl

spaced : journal_name (codes " A  B ") ≡ codes "%20A %20B%20"
unfolding written_from
spaced = refl

bracketed : journal_name (codes "(old)") ≡ codes "%28old)"
unfolding written_from
bracketed = refl

command : journal_name (codes "check it") ≡ codes "%63heck it"
unfolding written_from
command = refl

no_command : journal_name (codes "checking") ≡ codes "checking"
unfolding written_from
no_command = refl

-- a colon within a name is none between names, and a percent sign begins nothing
joined : journal_name (codes "A:B 5%") ≡ codes "A%3AB 5%25"
unfolding written_from
joined = refl

-- each byte of a Unicode blank is encoded, wherever it stands, and other bytes from 128 on aren't: of "Konto", U+00A0
-- and "Ä", and of "a", U+2003, a blank, U+3000, U+200B and "b"
no_break :
    journal_name (codes "Konto" ++ 194 ∷ 160 ∷ 195 ∷ 132 ∷ []) ≡ codes "Konto%C2%A0" ++ 195 ∷ 132 ∷ []
unfolding written_from
no_break = refl

wide :
    journal_name (97 ∷ 226 ∷ 128 ∷ 131 ∷ 32 ∷ 227 ∷ 128 ∷ 128 ∷ 226 ∷ 128 ∷ 139 ∷ 98 ∷ [])
    ≡ codes "a%E2%80%83 %E3%80%80" ++ 226 ∷ 128 ∷ 139 ∷ 98 ∷ []
unfolding written_from
wide = refl

-- a description that begins with U+00A0 and a star: a num stands before it, since hledger passes over the blank
blank_and_star : code [] (194 ∷ 160 ∷ codes "*") ≡ codes "() "
unfolding shown
blank_and_star = refl
