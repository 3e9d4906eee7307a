-- Worked files, computed from the definition.
use Rattle.std.proofs.Common.{◌≡◌, ℕ, List, [], ◌∷◌, ◌++◌, Some, Ok, Err, true, refl, pos, negsuc, length}
use Rattle.std.specs.Prelude.{codes}
use Rattle.std.specs.List.{flat_map}
use Rattle.jiff_core.specs.Calendar.{days_from_civil, day_count, days_of_years, days_of_months}
use Rattle.book_commodity.specs.declared.commodity.Commodity.{Commodity}
use Rattle.book_statement.specs.Currencies.{fraction_of}
use Rattle.book_statement.specs.Dates.{date, short_date}
use Rattle.book_statement.specs.Numbers.{number}
use Rattle.book_statement.specs.Texts as texts
use Rattle.book_statement.specs.declared.bad.Bad.TheVariants.{Count, CutOff}
use Rattle.book_statement.specs.declared.count_of.CountOf.TheVariants.{GroupRecords}
use Rattle.book_statement.specs.declared.statement.Statement.{Statement}
use Rattle.bai2_read.specs.Amounts.{amount, line_amount, total}
use Rattle.bai2_read.specs.Statements.{statement_with}
use Rattle.bai2_read.specs.Details.{bank_reference, customer_reference, detail_amount, full_count, is_complete, line_of}
use Rattle.bai2_read.specs.Details.{own_text}
use Rattle.bai2_read.specs.Fields.{count, field, funds_date, funds_form, further, value_day}
use Rattle.bai2_read.specs.Kinds.{body_of, kind_of}
use Rattle.bai2_read.specs.Lines.{records_of}
use Rattle.bai2_read.specs.Reading.{account_checks, checks, detail_checks, end_place, file_checks, group_checks}
use Rattle.bai2_read.specs.Reading.{reading}
use Rattle.bai2_read.specs.Reading.{record_place, trailer_checks}
use Rattle.bai2_read.specs.Summaries.{given_amount, has_amount, has_date, has_form, item_amount, width}
use Rattle.bai2_read.specs.Tree.{FileTree, records_of_file}
use Rattle.bai2_read.specs.TreeRules.{FileRules}
use Rattle.bai2_read.proofs.FileLemmas.{records_of_tree}

-- lines with their line feeds
abbrev file : List (List ℕ) → List ℕ
file lines = flat_map (λ line. line ++ 10 ∷ []) lines

abbrev pub dollar : List (ℕ × Commodity)
dollar = (1, record { space = codes "CURRENCY"; name = codes "USD"; full_name = []; fraction = 100 }) ∷ []

-- a file of one account, with what its group's trailer says
abbrev pub one_account : List ℕ → List ℕ
one_account group =
    file (codes "01,BANK,FIRM,240105,1200,1,80,1,2/"
    ∷ codes "02,FIRM,BANK,1,240105,1200,USD,2/"
    ∷ codes "03,123456789,USD,010,500000,,,015,515000,,/"
    ∷ codes "16,165,20000,0,B1,C1,DEPOSIT"
    ∷ codes "16,475,5000,0,,1234,CHECK"
    ∷ codes "49,1040000,4/"
    ∷ group
    ∷ codes "99,1040000,1,8/" ∷ [])

-- 2024-01-05 is day 19727
abbrev pub one_account_said : List Statement
one_account_said =
    record {
      account_text = codes "123456789";
      number = codes "1";
      currency = codes "USD";
      opening = Some (pos 500000);
      closing = Some (pos 515000);
      day = pos 19727;
      ties = Some true;
      lines =
          record {
            day = pos 19727;
            value_day = pos 19727;
            amount = pos 20000;
            kind = codes "165";
            ref_own = codes "C1";
            ref_bank = codes "B1";
            text = codes "DEPOSIT";
            category = [];
            parts = [];
          }
          ∷ record {
            day = pos 19727;
            value_day = pos 19727;
            amount = negsuc 4999;
            kind = codes "475";
            ref_own = codes "1234";
            ref_bank = [];
            text = codes "CHECK";
            category = [];
            parts = [];
          } ∷ [];
    } ∷ []

one_account_is : reading dollar (one_account (codes "98,1040000,1,6/")) ≡ Ok one_account_said
unfolding days_from_civil day_count days_of_years days_of_months fraction_of date short_date number amount
    line_amount total statement_with bank_reference customer_reference detail_amount full_count is_complete line_of
    own_text count field funds_date funds_form further value_day body_of kind_of account_checks checks detail_checks
    end_place file_checks group_checks record_place trailer_checks given_amount has_amount has_date has_form item_amount
    width
one_account_is = refl

-- with one record too few in the group's trailer
one_record_short :
    reading dollar (one_account (codes "98,1040000,1,5/"))
    ≡ Err (record { line = 7; bad = Count GroupRecords (pos 5) (pos 6) })
unfolding days_from_civil day_count days_of_years days_of_months fraction_of date short_date number amount
    line_amount total statement_with bank_reference customer_reference detail_amount full_count is_complete line_of
    own_text count field funds_date funds_form further value_day body_of kind_of account_checks checks detail_checks
    end_place file_checks group_checks record_place trailer_checks given_amount has_amount has_date has_form item_amount
    width
one_record_short = refl

-- the first line alone
header_alone :
    reading dollar (file (codes "01,BANK,FIRM,240105,1200,1,80,1,2/" ∷ [])) ≡ Err (record { line = 1; bad = CutOff })
unfolding field body_of kind_of checks end_place file_checks record_place
header_alone = refl

-- with one record too few in the group's trailer no tree keeps the rules
one_record_short_has_no_tree :
    (f : FileTree) → records_of_file f ≡ records_of (texts.lines_of (one_account (codes "98,1040000,1,5/")))
    → FileRules dollar f → ⊥
one_record_short_has_no_tree f laid rules =
    let lines = texts.lines_of (one_account (codes "98,1040000,1,5/")) in
    let read = records_of_tree dollar (length lines) (records_of lines) f laid rules in
    absurd (cc (read, one_record_short))
