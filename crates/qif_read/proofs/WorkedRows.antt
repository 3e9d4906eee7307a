-- A worked file, computed from the definitions: day before month, in euros.
use Rattle.std.proofs.Common.{◌≡◌, ℕ, List, [], ◌∷◌, ◌++◌, None, Ok, Err, refl, pos, negsuc}
use Rattle.std.specs.Prelude.{codes}
use Rattle.jiff_core.specs.Calendar.{days_from_civil, day_count, days_of_years, days_of_months}
use Rattle.book_commodity.specs.declared.commodity.Commodity.{Commodity}
use Rattle.book_statement.specs.Dates.{date}
use Rattle.book_statement.specs.Numbers.{number, units, unit_checks}
use Rattle.book_statement.specs.declared.bad.Bad.TheVariants.{SplitSum, CutOff}
use Rattle.qif_read.specs.Kinds.{is_header, kind_of}
use Rattle.qif_read.specs.QifDate.{behind_spaces, numeral, behind_numeral, is_date_form, year_said, day_named}
use Rattle.qif_read.specs.QifAmount.{unsigned, whole_part, decimal_part, are_commas_placed, without_commas}
use Rattle.qif_read.specs.QifAmount.{is_number, amount_checks, amount}
use Rattle.qif_read.specs.Registers.{is_in_brackets, inside, is_opening_text}
use Rattle.qif_read.specs.Qif.{entry_checks, reading}
use Rattle.qif_read.specs.declared.order.DateOrder.TheVariants.{DayMonth}

abbrev euro : Commodity
euro = record { space = codes "CURRENCY"; name = codes "EUR"; full_name = codes "Euro"; fraction = 100 }

-- a line with its line feed
abbrev line : List ℕ → List ℕ
line text = text ++ 10 ∷ []

-- the file up to the amount of the last part
abbrev shop : List ℕ
shop =
    line (codes "!Type:Bank") ++ line (codes "D15/1'24") ++ line (codes "T-1,234.50") ++ line
    (codes "PShop") ++ line (codes "LFood")
    ++ line (codes "SFood") ++ line (codes "$-1,000.00") ++ line (codes "SHome") ++ line (codes "$-200.00") ++ line
    (codes "SGifts")

-- one line of 2024-01-15, of -1,234.50 in three parts
pub shop_is_read : reading euro DayMonth (shop ++ line (codes "$-34.50") ++ line (codes "^")) ≡ Ok (record {
  account_text = [];
  number = [];
  currency = codes "EUR";
  opening = None;
  closing = None;
  day = pos 19737;
  ties = None;
  lines = record {
    day = pos 19737;
    value_day = pos 19737;
    amount = negsuc 123449;
    kind = [];
    ref_own = [];
    ref_bank = [];
    text = codes "Shop";
    category = codes "Food";
    parts = record { category = codes "Food"; memo = []; amount = negsuc 99999 }
        ∷ record { category = codes "Home"; memo = []; amount = negsuc 19999 }
        ∷ record { category = codes "Gifts"; memo = []; amount = negsuc 3449 } ∷ [];
  } ∷ [];
} ∷ [])
unfolding reading is_header kind_of behind_spaces numeral behind_numeral is_date_form year_said day_named unsigned
    whole_part decimal_part are_commas_placed without_commas is_number amount_checks amount is_in_brackets inside
    is_opening_text entry_checks date number units unit_checks days_from_civil day_count days_of_years
    days_of_months
shop_is_read = refl

-- parts that do not sum to the amount
pub parts_differ : reading euro DayMonth (shop ++ line (codes "$-34.51") ++ line (codes "^")) ≡ Err (record {
  line = 12;
  bad = SplitSum (negsuc 123449) (negsuc 123450);
})
unfolding reading is_header kind_of behind_spaces numeral behind_numeral is_date_form year_said day_named unsigned
    whole_part decimal_part are_commas_placed without_commas is_number amount_checks amount is_in_brackets inside
    is_opening_text entry_checks date number units unit_checks days_from_civil day_count days_of_years
    days_of_months
parts_differ = refl

-- the same without the end of the entry
pub entry_cut_off : reading euro DayMonth (shop ++ line (codes "$-34.50")) ≡ Err (record { line = 11; bad = CutOff })
unfolding reading is_header kind_of behind_spaces numeral behind_numeral is_date_form year_said day_named unsigned
    whole_part decimal_part are_commas_placed without_commas is_number amount_checks amount is_in_brackets inside
    is_opening_text entry_checks date number units unit_checks days_from_civil day_count days_of_years
    days_of_months
entry_cut_off = refl
