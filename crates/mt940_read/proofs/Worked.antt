-- Worked files, computed from the definition.
use Rattle.std.proofs.Common.{◌≡◌, ℕ, List, [], ◌∷◌, ◌++◌, Some, true, refl, pos, negsuc, codes, Ok, Err}
use Rattle.std.specs.List.{flat_map}
use Rattle.jiff_core.specs.Calendar.{days_from_civil, day_count, days_of_years, days_of_months}
use Rattle.book_commodity.specs.declared.commodity.Commodity.{Commodity}
use Rattle.book_statement.specs.declared.bad.Bad.TheVariants.{BalanceMismatch, CutOff, PageOrder, NoStatement}
use Rattle.book_statement.specs.declared.statement.Statement.{Statement}
use Rattle.book_statement.specs.declared.statement_line.StatementLine.{StatementLine}
use Rattle.book_statement.specs.Currencies.{fraction_of}
use Rattle.book_statement.specs.Dates.{date, short_date}
use Rattle.book_statement.specs.Numbers.{number, units, unit_checks}
use Rattle.mt940_read.specs.Amounts.{is_amount, amount, amount_checks}
use Rattle.mt940_read.specs.Balances.{
  balance_mark,
  balance_date,
  balance_currency,
  balance_amount,
  is_debit,
  balance_form,
  balance,
  balance_day,
}
use Rattle.mt940_read.specs.EntryDate.{entry_day, entry_date}
use Rattle.mt940_read.specs.Kinds.{field_text, tag_of, kind_of}
use Rattle.mt940_read.specs.LineField.{
  entry_place,
  mark_place,
  funds_place,
  amount_place,
  kind_place,
  value_day,
  line_day,
  line_days,
  line_form,
  is_taken,
  line_amount,
  line,
}
use Rattle.mt940_read.specs.Reading.{reading}
use Rattle.mt940_read.specs.Messages.{number_part}

abbrev known_here : List (ℕ × Commodity)
known_here = (1, record { space = codes "CURRENCY"; name = codes "EUR"; full_name = []; fraction = 100 }) ∷ []

-- lines with their line feeds
abbrev file : List (List ℕ) → List ℕ
file lines = flat_map (λ line. line ++ 10 ∷ []) lines

abbrev front : List (List ℕ)
front =
    codes ":20:STMT1" ∷ codes ":25:NL01BANK0123456789" ∷ codes ":28C:1/1" ∷ codes ":60F:C240101EUR1000,00"
    ∷ codes ":61:2401050105D200,00NTRFRENT//B77" ∷ codes ":86:January rent" ∷ codes ":61:240108RD50,00NTRFNONREF" ∷ []

abbrev rent : StatementLine
rent = record {
  day = pos 19727;
  value_day = pos 19727;
  amount = negsuc 19999;
  kind = codes "NTRF";
  ref_own = codes "RENT";
  ref_bank = codes "B77";
  text = codes "January rent";
  category = [];
  parts = [];
}

abbrev reversal : StatementLine
reversal = record {
  day = pos 19730;
  value_day = pos 19730;
  amount = pos 5000;
  kind = codes "NTRF";
  ref_own = codes "NONREF";
  ref_bank = [];
  text = [];
  category = [];
  parts = [];
}

abbrev statement : Statement
statement = record {
  account_text = codes "NL01BANK0123456789";
  number = codes "1";
  currency = codes "EUR";
  opening = Some (pos 100000);
  closing = Some (pos 85000);
  day = pos 19753;
  ties = Some true;
  lines = rent ∷ reversal ∷ [];
}

-- the file of one page
worked_file : reading known_here (file (front ++ codes ":62F:C240131EUR850,00" ∷ [])) ≡ Ok (statement ∷ [])
unfolding reading days_from_civil day_count days_of_years days_of_months fraction_of date short_date number units
    unit_checks is_amount amount amount_checks balance_mark balance_date balance_currency balance_amount is_debit
    balance_form balance balance_day entry_day entry_date field_text tag_of kind_of entry_place mark_place funds_place
    amount_place kind_place value_day line_day line_days line_form is_taken line_amount line number_part
worked_file = refl

-- a closing balance that is 100 units too large
closing_off : reading known_here (file (front ++ codes ":62F:C240131EUR950,00" ∷ [])) ≡ Err (record
    { line = 8; bad = BalanceMismatch (pos 95000) (pos 85000) })
unfolding reading days_from_civil day_count days_of_years days_of_months fraction_of date short_date number units
    unit_checks is_amount amount amount_checks balance_mark balance_date balance_currency balance_amount is_debit
    balance_form balance balance_day entry_day entry_date field_text tag_of kind_of entry_place mark_place funds_place
    amount_place kind_place value_day line_day line_days line_form is_taken line_amount line number_part
closing_off = refl

-- no closing balance
without_closing : reading known_here (file front) ≡ Err (record { line = 7; bad = CutOff })
unfolding reading days_from_civil day_count days_of_years days_of_months fraction_of date short_date number units
    unit_checks is_amount amount amount_checks balance_mark balance_date balance_currency balance_amount is_debit
    balance_form balance balance_day entry_day entry_date field_text tag_of kind_of entry_place mark_place funds_place
    amount_place kind_place value_day line_day line_days line_form is_taken line_amount line number_part
without_closing = refl

-- two pages
pages : reading known_here (file (front ++ codes ":62M:C240131EUR850,00" ∷ codes ":20:P2"
    ∷ codes ":25:NL01BANK0123456789" ∷ codes ":28C:1/2" ∷ codes ":60M:C240131EUR850,00"
    ∷ codes ":62F:C240131EUR850,00" ∷ [])) ≡ Ok (statement ∷ [])
unfolding reading days_from_civil day_count days_of_years days_of_months fraction_of date short_date number units
    unit_checks is_amount amount amount_checks balance_mark balance_date balance_currency balance_amount is_debit
    balance_form balance balance_day entry_day entry_date field_text tag_of kind_of entry_place mark_place funds_place
    amount_place kind_place value_day line_day line_days line_form is_taken line_amount line number_part
pages = refl

-- a second page that opens with another balance
page_off : reading known_here (file (front ++ codes ":62M:C240131EUR850,00" ∷ codes ":20:P2"
    ∷ codes ":25:NL01BANK0123456789" ∷ codes ":28C:1/2" ∷ codes ":60M:C240131EUR851,00"
    ∷ codes ":62F:C240131EUR850,00" ∷ [])) ≡ Err (record { line = 12; bad = PageOrder })
unfolding reading days_from_civil day_count days_of_years days_of_months fraction_of date short_date number units
    unit_checks is_amount amount amount_checks balance_mark balance_date balance_currency balance_amount is_debit
    balance_form balance balance_day entry_day entry_date field_text tag_of kind_of entry_place mark_place funds_place
    amount_place kind_place value_day line_day line_days line_form is_taken line_amount line number_part
page_off = refl

-- no text
no_lines : reading known_here [] ≡ Err (record { line = 0; bad = NoStatement })
unfolding reading days_from_civil day_count days_of_years days_of_months fraction_of date short_date number units
    unit_checks is_amount amount amount_checks balance_mark balance_date balance_currency balance_amount is_debit
    balance_form balance balance_day entry_day entry_date field_text tag_of kind_of entry_place mark_place funds_place
    amount_place kind_place value_day line_day line_days line_form is_taken line_amount line number_part
no_lines = refl

-- a reference alone
reference_alone : reading known_here (file (codes ":20:X" ∷ [])) ≡ Err (record { line = 1; bad = CutOff })
unfolding reading days_from_civil day_count days_of_years days_of_months fraction_of date short_date number units
    unit_checks is_amount amount amount_checks balance_mark balance_date balance_currency balance_amount is_debit
    balance_form balance balance_day entry_day entry_date field_text tag_of kind_of entry_place mark_place funds_place
    amount_place kind_place value_day line_day line_days line_form is_taken line_amount line number_part
reference_alone = refl
