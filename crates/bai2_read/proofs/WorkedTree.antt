-- The tree of a worked file, computed from the definition: it keeps the rules, and its statement is the one expected.
use Rattle.std.proofs.Common.{◌≡◌, ℕ, ◌<◌, ◌≤◌, List, [], ◌∷◌, Option, Some, true, refl, sym, ap, ◌∙◌, pos}
use Rattle.std.proofs.Common.{arith, length}
use Rattle.std.specs.Prelude.{codes, is_some, ℤ, ◌+ℤ◌}
use Rattle.std.specs.List.{list_all}
use Rattle.std.proofs.lemmas.List.Elements.{All-cons, All-nil}
use Rattle.std.proofs.lemmas.List.Sums.{AllPass-from_list_all}
use Rattle.jiff_core.specs.Calendar.{days_from_civil, day_count, days_of_years, days_of_months}
use Rattle.book_statement.specs.Currencies.{fraction_of}
use Rattle.book_statement.specs.Dates.{date, short_date}
use Rattle.book_statement.specs.Numbers.{number}
use Rattle.book_statement.specs.Texts as texts
use Rattle.book_statement.specs.declared.statement.Statement.{Statement}
use Rattle.book_statement.specs.declared.statement_line.StatementLine.{StatementLine}
use Rattle.bai2_read.specs.Amounts.{amount, is_total, line_amount, total}
use Rattle.bai2_read.specs.Statements.{currency_in, currency_with, day_in, number_in, statement_with, ties_with}
use Rattle.bai2_read.specs.Details.{bank_reference, customer_reference, detail_amount, full_count, is_complete, line_of}
use Rattle.bai2_read.specs.Details.{own_text}
use Rattle.bai2_read.specs.Fields.{after_fields, count, field, funds_date, funds_form, further, value_day}
use Rattle.bai2_read.specs.Kinds.{body_of, kind_of}
use Rattle.bai2_read.specs.Lines.{records_of}
use Rattle.bai2_read.specs.Records.{Record, whole}
use Rattle.bai2_read.specs.Summaries.{BeginsField, balance, closing, given_amount, has_amount, has_date, has_form}
use Rattle.bai2_read.specs.Summaries.{item_amount, items, items_after, opening, sum_of_items, width}
use Rattle.bai2_read.specs.Tree.{AccountTree, FileTree, GroupTree, amount_said, lines_of_details, records_of_file}
use Rattle.bai2_read.specs.Tree.{size_of_account, statements_of_file, total_of_account}
use Rattle.bai2_read.specs.Totals.{total_over}
use Rattle.bai2_read.specs.TreeRules.{AccountHeaderRules, AccountRules, DetailRules, FileRules, GroupRules, IsTreeOf}
use Rattle.bai2_read.specs.TreeRules.{SaysCount, SaysTotal}
use Rattle.bai2_read.specs.declared.kind.Kind.{Kind}
use Rattle.bai2_read.specs.declared.kind.Kind.TheVariants.{FileHeader, GroupHeader, AccountHeader, Detail}
use Rattle.bai2_read.specs.declared.kind.Kind.TheVariants.{AccountTrailer, GroupTrailer, FileTrailer}
use Rattle.bai2_read.proofs.SummaryLemmas.{behind_item, items_after-rest}
use Rattle.bai2_read.proofs.WorkedRows.{dollar, one_account, one_account_said}

abbrev alone : ℕ → Kind → List ℕ → Record
alone line kind body = whole line kind body []

-- the header of the account, and its two items
header_fields : List ℕ
header_fields = codes ",123456789,USD,010,500000,,,015,515000,,"

first_item : List ℕ
first_item = codes ",010,500000,,,015,515000,,"

second_item : List ℕ
second_item = codes ",015,515000,,"

abbrev header : Record
header = alone 3 AccountHeader header_fields

abbrev deposit : Record
deposit = alone 4 Detail (codes ",165,20000,0,B1,C1,DEPOSIT")

abbrev cheque : Record
cheque = alone 5 Detail (codes ",475,5000,0,,1234,CHECK")

abbrev account : AccountTree
account = record {
  header = header;
  details = deposit ∷ cheque ∷ [];
  trailer = alone 6 AccountTrailer (codes ",1040000,4");
}

abbrev group : GroupTree
group = record {
  header = alone 2 GroupHeader (codes ",FIRM,BANK,1,240105,1200,USD,2");
  accounts = account ∷ [];
  trailer = alone 7 GroupTrailer (codes ",1040000,1,6");
}

abbrev whole_file : FileTree
whole_file = record {
  header = alone 1 FileHeader (codes ",BANK,FIRM,240105,1200,1,80,1,2");
  groups = group ∷ [];
  trailer = alone 8 FileTrailer (codes ",1040000,1,8");
}

-- its records are those of the file
laid : records_of_file whole_file ≡ records_of (texts.lines_of (one_account (codes "98,1040000,1,6/")))
unfolding header_fields body_of kind_of full_count is_complete further field count number
laid = refl

-- the items of the header
one_on : (item next : List ℕ) → 0 < length item → BeginsField item → width item ≡ 4 → after_fields 4 item ≡ next
    → items_after 0 item ≡ item ∷ items_after 0 next
one_on item next some begins wide rest =
    let b = behind_item item some begins (omega (arith, wide)) in
    b.items
    ∙ ap (λ (l : List ℕ). item ∷ items_after 0 l) (ap (λ (n : ℕ). after_fields n item) wide ∙ rest)

behind_account : after_fields 2 header_fields ≡ first_item
unfolding header_fields first_item
behind_account = refl

first_on : items_after 0 first_item ≡ first_item ∷ items_after 0 second_item
unfolding first_item second_item count field further width number
first_on = one_on first_item second_item (omega arith) (λ h. refl) refl refl

second_on : items_after 0 second_item ≡ second_item ∷ []
unfolding second_item count field further width number
second_on = one_on second_item [] (omega arith) (λ h. refl) refl refl

items_are : items header_fields ≡ first_item ∷ second_item ∷ []
items_are =
    items_after-rest 2 header_fields
    ∙ ap (λ (l : List ℕ). items_after 0 l) behind_account
    ∙ first_on
    ∙ ap (λ (l : List (List ℕ)). first_item ∷ l) second_on

forms_here : list_all has_form (first_item ∷ second_item ∷ []) ≡ true
unfolding header_fields first_item second_item days_from_civil day_count days_of_years days_of_months fraction_of date
    short_date number amount line_amount total statement_with bank_reference customer_reference detail_amount
    full_count is_complete line_of own_text count field funds_date funds_form further value_day body_of kind_of
    given_amount has_amount has_date has_form item_amount width
forms_here = refl

dates_here : list_all has_date (first_item ∷ second_item ∷ []) ≡ true
unfolding header_fields first_item second_item days_from_civil day_count days_of_years days_of_months fraction_of date
    short_date number amount line_amount total statement_with bank_reference customer_reference detail_amount
    full_count is_complete line_of own_text count field funds_date funds_form further value_day body_of kind_of
    given_amount has_amount has_date has_form item_amount width
dates_here = refl

amounts_here : list_all has_amount (first_item ∷ second_item ∷ []) ≡ true
unfolding header_fields first_item second_item days_from_civil day_count days_of_years days_of_months fraction_of date
    short_date number amount line_amount total statement_with bank_reference customer_reference detail_amount
    full_count is_complete line_of own_text count field funds_date funds_form further value_day body_of kind_of
    given_amount has_amount has_date has_form item_amount width
amounts_here = refl

-- the rules of each part
deposit_rules : DetailRules deposit
unfolding header_fields first_item second_item days_from_civil day_count days_of_years days_of_months fraction_of date
    short_date number amount line_amount total statement_with bank_reference customer_reference detail_amount
    full_count is_complete line_of own_text count field funds_date funds_form further value_day body_of kind_of
    given_amount has_amount has_date has_form item_amount width
deposit_rules = record { kind = refl; type_form = refl; funds = refl; value_date = refl; amount = refl }

cheque_rules : DetailRules cheque
unfolding header_fields first_item second_item days_from_civil day_count days_of_years days_of_months fraction_of date
    short_date number amount line_amount total statement_with bank_reference customer_reference detail_amount
    full_count is_complete line_of own_text count field funds_date funds_form further value_day body_of kind_of
    given_amount has_amount has_date has_form item_amount width
cheque_rules = record { kind = refl; type_form = refl; funds = refl; value_date = refl; amount = refl }

some_account : 0 < length (field 0 header_fields)
unfolding header_fields first_item second_item days_from_civil day_count days_of_years days_of_months fraction_of date
    short_date number amount line_amount total statement_with bank_reference customer_reference detail_amount
    full_count is_complete line_of own_text count field funds_date funds_form further value_day body_of kind_of
    given_amount has_amount has_date has_form item_amount width
some_account = omega arith

known_currency : is_some (fraction_of (currency_with (currency_in group.header.body) header_fields) dollar) ≡ true
unfolding header_fields first_item second_item days_from_civil day_count days_of_years days_of_months fraction_of date
    short_date number amount line_amount total statement_with bank_reference customer_reference detail_amount
    full_count is_complete line_of own_text count field funds_date funds_form further value_day body_of kind_of
    given_amount has_amount has_date has_form item_amount width
known_currency = refl

header_rules : AccountHeaderRules dollar group.header header
header_rules = record {
  kind = refl;
  account = some_account;
  forms =
      AllPass-from_list_all has_form (items header_fields)
      (ap (λ (l : List (List ℕ)). list_all has_form l) items_are ∙ forms_here);
  dates =
      AllPass-from_list_all has_date (items header_fields)
      (ap (λ (l : List (List ℕ)). list_all has_date l) items_are ∙ dates_here);
  amounts =
      AllPass-from_list_all has_amount (items header_fields)
      (ap (λ (l : List (List ℕ)). list_all has_amount l) items_are ∙ amounts_here);
  currency = known_currency;
}

total_here :
    sum_of_items (first_item ∷ second_item ∷ []) +ℤ total_over amount_said (deposit ∷ cheque ∷ [])
    ≡ total (field 0 account.trailer.body)
unfolding header_fields first_item second_item days_from_civil day_count days_of_years days_of_months fraction_of date
    short_date number amount line_amount total statement_with bank_reference customer_reference detail_amount
    full_count is_complete line_of own_text count field funds_date funds_form further value_day body_of kind_of
    given_amount has_amount has_date has_form item_amount width
total_here = refl

total_form : is_total (field 0 account.trailer.body) ≡ true
unfolding header_fields first_item second_item days_from_civil day_count days_of_years days_of_months fraction_of date
    short_date number amount line_amount total statement_with bank_reference customer_reference detail_amount
    full_count is_complete line_of own_text count field funds_date funds_form further value_day body_of kind_of
    given_amount has_amount has_date has_form item_amount width
total_form = refl

account_total : SaysTotal (field 0 account.trailer.body) (total_of_account account)
account_total = record {
  form = total_form;
  value =
      sym (ap (λ (l : List (List ℕ)). sum_of_items l +ℤ total_over amount_said (deposit ∷ cheque ∷ [])) items_are
      ∙ total_here);
}

account_records : SaysCount (field 1 account.trailer.body) (size_of_account account)
unfolding header_fields first_item second_item days_from_civil day_count days_of_years days_of_months fraction_of date
    short_date number amount line_amount total statement_with bank_reference customer_reference detail_amount
    full_count is_complete line_of own_text count field funds_date funds_form further value_day body_of kind_of
    given_amount has_amount has_date has_form item_amount width
account_records = record { form = refl; value = refl }

few_lines : length (lines_of_details (day_in group.header.body) (deposit ∷ cheque ∷ [])) ≤ 10_000
unfolding header_fields first_item second_item days_from_civil day_count days_of_years days_of_months fraction_of date
    short_date number amount line_amount total statement_with bank_reference customer_reference detail_amount
    full_count is_complete line_of own_text count field funds_date funds_form further value_day body_of kind_of
    given_amount has_amount has_date has_form item_amount width
few_lines = omega arith

account_rules : AccountRules dollar group.header account
account_rules = record {
  header = header_rules;
  details =
      All-cons DetailRules deposit (cheque ∷ []) deposit_rules
      (All-cons DetailRules cheque [] cheque_rules (All-nil DetailRules));
  few_lines = few_lines;
  trailer = refl;
  total = account_total;
  records = account_records;
}

group_rules : GroupRules dollar group
unfolding header_fields first_item second_item days_from_civil day_count days_of_years days_of_months fraction_of date
    short_date number amount line_amount total statement_with bank_reference customer_reference detail_amount
    full_count is_complete line_of own_text count field funds_date funds_form further value_day body_of kind_of
    given_amount has_amount has_date has_form item_amount width
group_rules = record {
  header = record { kind = refl; status = refl; as_of = refl };
  accounts =
      All-cons (AccountRules dollar group.header) account [] account_rules (All-nil (AccountRules dollar group.header));
  trailer = refl;
  total = record { form = refl; value = refl };
  parts = record { form = refl; value = refl };
  records = record { form = refl; value = refl };
}

file_rules : FileRules dollar whole_file
unfolding header_fields first_item second_item days_from_civil day_count days_of_years days_of_months fraction_of date
    short_date number amount line_amount total statement_with bank_reference customer_reference detail_amount
    full_count is_complete line_of own_text count field funds_date funds_form further value_day body_of kind_of
    given_amount has_amount has_date has_form item_amount width
file_rules = record {
  header = record { kind = refl; version = refl };
  some_group = omega arith;
  groups = All-cons (GroupRules dollar) group [] group_rules (All-nil (GroupRules dollar));
  few_statements = omega arith;
  trailer = refl;
  total = record { form = refl; value = refl };
  parts = record { form = refl; value = refl };
  records = record { form = refl; value = refl };
}

-- its statement
opening_here : balance (48 ∷ 49 ∷ 48 ∷ []) (first_item ∷ second_item ∷ []) ≡ Some (pos 500000)
unfolding header_fields first_item second_item days_from_civil day_count days_of_years days_of_months fraction_of date
    short_date number amount line_amount total statement_with bank_reference customer_reference detail_amount
    full_count is_complete line_of own_text count field funds_date funds_form further value_day body_of kind_of
    given_amount has_amount has_date has_form item_amount width
opening_here = refl

closing_here : balance (48 ∷ 49 ∷ 53 ∷ []) (first_item ∷ second_item ∷ []) ≡ Some (pos 515000)
unfolding header_fields first_item second_item days_from_civil day_count days_of_years days_of_months fraction_of date
    short_date number amount line_amount total statement_with bank_reference customer_reference detail_amount
    full_count is_complete line_of own_text count field funds_date funds_form further value_day body_of kind_of
    given_amount has_amount has_date has_form item_amount width
closing_here = refl

with_balances :
    (number : List ℕ) (day : ℤ) (currency fields : List ℕ) (lines : List StatementLine) (opens closes : Option ℤ)
    → opening fields ≡ opens → closing fields ≡ closes
    → statement_with number day currency fields lines
    ≡ record {
      account_text = field 0 fields;
      number = number;
      currency = currency_with currency fields;
      opening = opens;
      closing = closes;
      day = day;
      ties = ties_with opens closes lines;
      lines = lines;
    }
unfolding statement_with
with_balances number day currency fields lines opens closes opens_so closes_so = cc

abbrev statement_here : Statement
statement_here = record {
  account_text = field 0 header_fields;
  number = number_in whole_file.header.body;
  currency = currency_with (currency_in group.header.body) header_fields;
  opening = Some (pos 500000);
  closing = Some (pos 515000);
  day = day_in group.header.body;
  ties =
      ties_with (Some (pos 500000)) (Some (pos 515000))
      (lines_of_details (day_in group.header.body) (deposit ∷ cheque ∷ []));
  lines = lines_of_details (day_in group.header.body) (deposit ∷ cheque ∷ []);
}

said_here : statement_here ∷ [] ≡ one_account_said
unfolding header_fields first_item second_item days_from_civil day_count days_of_years days_of_months fraction_of date
    short_date number amount line_amount total statement_with bank_reference customer_reference detail_amount
    full_count is_complete line_of own_text count field funds_date funds_form further value_day body_of kind_of
    given_amount has_amount has_date has_form item_amount width
said_here = refl

said : statements_of_file whole_file ≡ one_account_said
said =
    ap (λ (s : Statement). s ∷ [])
    (with_balances (number_in whole_file.header.body) (day_in group.header.body) (currency_in group.header.body)
    header_fields (lines_of_details (day_in group.header.body) (deposit ∷ cheque ∷ []))
    (Some (pos 500000)) (Some (pos 515000))
    (ap (λ (l : List (List ℕ)). balance (48 ∷ 49 ∷ 48 ∷ []) l) items_are ∙ opening_here)
    (ap (λ (l : List (List ℕ)). balance (48 ∷ 49 ∷ 53 ∷ []) l) items_are ∙ closing_here))
    ∙ said_here

is_its_tree :
    IsTreeOf dollar (records_of (texts.lines_of (one_account (codes "98,1040000,1,6/")))) one_account_said whole_file
is_its_tree = record { layout = laid; rules = file_rules; statements = said }
