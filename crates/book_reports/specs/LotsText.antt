-- The text of the lots of a security account: its pairs with their gains, its open lots with their costs, and the sums
-- (GnuCash Concepts Guide, selling securities; the text is this project's own).
use Rattle.std.specs.Prelude.{ℕ, ℤ, pos, int_lt, not, if◌then◌else◌, List, [], ◌∷◌, ◌++◌, codes, unwrap_or}
use Rattle.std.specs.List.{flat_map}
use Rattle.std.specs.Option.{option_map_or}
use Rattle.std.specs.Fmt.{decimal}
use Rattle.book_accounts.specs.Path.{path}
use Rattle.book_commodity.specs.Amount.{amount_text}
use Rattle.book_commodity.specs.Day.{day_text}
use Rattle.book_commodity.specs.Table.{value_of}
use Rattle.book_ledger.specs.Ledger.{register_of}
use Rattle.book_lots.specs.Lots.{adjustments_of, all_gains, cost_of, gains_within, lots_of, pairs_of}
use Rattle.book_lots.specs.declared.open_lot.OpenLot.{OpenLot}
use Rattle.book_lots.specs.declared.pair.Pair.{Pair}
use Rattle.book_register.specs.declared.entry.Entry.{Entry}
use Rattle.book_undo.specs.Book.{Book}
use Rattle.book_reports.specs.Layout.{printed, record_text}
use Rattle.book_reports.specs.Measure.{commodity_of, fraction_of}
use Rattle.book_reports.specs.declared.form.Form.{Form}
use Rattle.book_reports.specs.declared.form.Form.TheVariants.{Csv, Plain}
use Rattle.book_reports.specs.declared.lots_report.Style.{Style}

-- The currency in which the values of an account's splits stand; 0, where the account has no basis or isn't there.
abbrev pub basis_of : Book → ℕ → ℕ
basis_of book account = option_map_or (λ a. unwrap_or a.basis 0) (value_of account book.accounts) 0

-- Units are shown in the commodity of the account, and amounts in its basis.
abbrev pub style_of : Book → ℕ → Form → Style
style_of book account form = record {
  form = form;
  units = fraction_of book.commodities (commodity_of book account);
  amounts = fraction_of book.commodities (basis_of book account);
}

-- ---- Rows

-- The texts of a row, of which some may be empty: what it is, a split that buys, one that sells, units, day and amount.
pub record Fields : Type 0 where
  pub what : List ℕ
  pub plus : List ℕ
  pub minus : List ℕ
  pub units : List ℕ
  pub day : List ℕ
  pub amount : List ℕ

-- A text behind a space, and nothing where it is empty.
abbrev pub word : List ℕ → List ℕ
word [] = []
word (letter ∷ more) = 32 ∷ letter ∷ more

-- A row for a person shows the texts that aren't empty; as a record it has all six.
unfoldable pub row_text : Form → Fields → List ℕ
row_text Plain row =
    row.what ++ word row.plus ++ word row.minus ++ word row.units ++ word row.day ++ word row.amount ++ 10 ∷ []
row_text Csv row =
    record_text (row.what ∷ row.plus ∷ row.minus ∷ row.units ∷ row.day ∷ row.amount ∷ [])

-- The row of a pair has its gain as amount.
abbrev pub pair_fields : Style → Pair → Fields
pair_fields style pair = record {
  what = codes "pair";
  plus = decimal pair.plus;
  minus = decimal pair.minus;
  units = amount_text pair.units style.units;
  day = day_text pair.day;
  amount = amount_text pair.gain style.amounts;
}

-- The row of an open lot has its cost as amount; the split of a short lot is one that sells.
abbrev pub lot_fields : Style → OpenLot → Fields
lot_fields style lot = record {
  what = codes "open";
  plus = if int_lt lot.units (pos 0) then [] else decimal lot.split;
  minus = if not (int_lt lot.units (pos 0)) then [] else decimal lot.split;
  units = amount_text lot.units style.units;
  day = [];
  amount = amount_text lot.cost style.amounts;
}

-- The row of a sum has a name and the amount alone.
abbrev pub sum_fields : Style → List ℕ → ℤ → Fields
sum_fields style name amount = record {
  what = name;
  plus = [];
  minus = [];
  units = [];
  day = [];
  amount = amount_text amount style.amounts;
}

abbrev pub pair_row : Style → Pair → List ℕ
pair_row style pair = row_text style.form (pair_fields style pair)

abbrev pub lot_row : Style → OpenLot → List ℕ
lot_row style lot = row_text style.form (lot_fields style lot)

abbrev pub sum_row : Style → List ℕ → ℤ → List ℕ
sum_row style name amount = row_text style.form (sum_fields style name amount)

-- The rows of the pairs, of the open lots, and of the sums: the adjustments, the gains of all days, and the costs of
-- the open lots.
unfoldable pub rows_text : Style → List Entry → List ℕ
rows_text style entries =
    flat_map (pair_row style) (pairs_of entries) ++ flat_map (lot_row style) (lots_of entries)
    ++ sum_row style (codes "Adjustments") (adjustments_of entries)
    ++ sum_row style (codes "Gains") (all_gains entries)
    ++ sum_row style (codes "Open cost") (cost_of (lots_of entries))

-- ---- The text

-- The names of the fields.
abbrev pub header : Fields
header = record {
  what = codes "what";
  plus = codes "plus";
  minus = codes "minus";
  units = codes "units";
  day = codes "day";
  amount = codes "amount";
}

-- The title has the path of the account.
unfoldable pub title : Book → ℕ → List ℕ
title book account = codes "Lots " ++ printed (path book.accounts account) ++ 10 ∷ []

abbrev pub heading : Form → Book → ℕ → List ℕ
heading Plain book account = title book account
heading Csv book account = row_text Csv header

-- The lots of an account of a book: those of its register.
unfoldable pub lots_text : Book → ℕ → Form → List ℕ
lots_text book account form =
    heading form book account ++ rows_text (style_of book account form) (register_of account book.transactions)

-- The gains of an account of a book on the days from one to another, both included.
abbrev pub gains : Book → ℕ → ℤ → ℤ → ℤ
gains book account from to = gains_within from to (register_of account book.transactions)
