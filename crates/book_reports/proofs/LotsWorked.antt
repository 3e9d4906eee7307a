-- Worked texts of lots: ten shares bought for 10.00, five for 7.00, and twelve sold for 18.00; a thousandth of a share
-- sold before it is bought; and a split with a value alone.
use Rattle.std.proofs.Common.{◌≡◌, ℕ, ℤ, pos, negsuc, true, false, List, [], ◌∷◌, ◌++◌, Some, None, codes, refl}
use Rattle.std.specs.Fmt.{digits}
use Rattle.book_accounts.specs.Order.{with_generations}
use Rattle.book_accounts.specs.Tree.{nearest_parents}
use Rattle.book_accounts.specs.declared.account.Account.{Account}
use Rattle.book_accounts.specs.declared.kind.AccountKind.TheVariants.{Root, Stock}
use Rattle.book_commodity.specs.Amount.{amount_text, decimals_of}
use Rattle.book_commodity.specs.Day.{day_text}
use Rattle.book_commodity.specs.declared.commodity.Commodity.{Commodity}
use Rattle.book_lots.specs.Lots.{bought_in, lots_of, pairs_of, sold_in}
use Rattle.book_splits.specs.declared.split.Mark.TheVariants.{New}
use Rattle.book_splits.specs.declared.transaction.Txn.{Txn}
use Rattle.book_undo.specs.Book.{Book, empty_book}
use Rattle.csv.specs.Writing.{escaped, fields_text, is_blank}
use Rattle.book_reports.specs.Layout.{printed, record_text}
use Rattle.book_reports.specs.LotsText.{gains, lots_text, row_text, rows_text, title}
use Rattle.book_reports.specs.declared.form.Form.TheVariants.{Csv, Plain}

abbrev commodity : List ℕ → ℕ → Commodity
commodity name fraction = record { space = codes "NYSE"; name = name; full_name = []; fraction = fraction }

abbrev broker : Account
broker = record {
  name = codes "Broker";
  kind = Stock;
  commodity = 3;
  parent = Some 2;
  code = [];
  note = [];
  hidden = false;
  placeholder = false;
  basis = Some 1;
}

abbrev root : Account
root = record broker { name = codes "Root"; kind = Root; commodity = 1; parent = None; placeholder = true; basis = None }

-- a transaction of one split on the broker's account; what pays for it isn't shown in the text
abbrev trade : ℕ → ℤ → ℤ → ℤ → ℕ × Txn
trade number day value quantity = (
  number,
  record {
    currency = 1;
    day = day;
    num = [];
    description = [];
    voided = None;
    splits = record {
      id = number;
      account = 4;
      memo = [];
      action = [];
      mark = New;
      recon = None;
      value = value;
      quantity = quantity;
    } ∷ [];
  },
)

abbrev book : ℕ → List (ℕ × Txn) → Book
book fraction transactions = record (empty_book 1) {
  commodities = (1, commodity (codes "EUR") 100) ∷ (3, commodity (codes "ACME") fraction) ∷ [];
  accounts = (2, root) ∷ (4, broker) ∷ [];
  transactions = transactions;
}

abbrev three_left : Book
three_left = book 1
    (trade 7 (pos 9) (pos 1000) (pos 10) ∷ trade 10 (pos 40) (pos 700) (pos 5)
    ∷ trade 13 (pos 69) (negsuc 1799) (negsuc 11) ∷ [])

plain_lots :
    lots_text three_left 4 Plain
    ≡ codes "Lots Broker\npair 7 13 10 " ++ day_text (pos 69) ++ codes " 5.00\npair 10 13 2 " ++ day_text (pos 69)
    ++ codes " 0.20\nopen 10 3 4.20\nAdjustments 0.00\nGains 5.20\nOpen cost 4.20\n"
unfolding lots_text rows_text row_text title printed amount_text decimals_of pairs_of lots_of bought_in sold_in
    with_generations nearest_parents digits day_text
plain_lots = refl

gain_of_the_days : gains three_left 4 (pos 0) (pos 365) ≡ pos 520
unfolding pairs_of bought_in sold_in
gain_of_the_days = refl

-- units have three decimals; the split of a short lot stands under minus
abbrev short : Book
short = book 1000 (trade 7 (pos 9) (negsuc 399) (negsuc 3) ∷ trade 10 (pos 40) (negsuc 6) (pos 0) ∷ [])

plain_short :
    lots_text short 4 Plain
    ≡ codes "Lots Broker\nopen 7 -0.004 -4.00\nAdjustments -0.07\nGains 0.00\nOpen cost -4.00\n"
unfolding lots_text rows_text row_text title printed amount_text decimals_of pairs_of lots_of bought_in sold_in
    with_generations nearest_parents digits
plain_short = refl

csv_short :
    lots_text short 4 Csv
    ≡ codes "what,plus,minus,units,day,amount\nopen,,7,-0.004,,-4.00\nAdjustments,,,,,-0.07\nGains,,,,,0.00\n"
    ++ codes "Open cost,,,,,-4.00\n"
unfolding lots_text rows_text row_text record_text amount_text decimals_of pairs_of lots_of bought_in sold_in
    digits escaped fields_text is_blank
csv_short = refl
