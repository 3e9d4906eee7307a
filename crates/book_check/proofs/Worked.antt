-- The first unsound key, computed on a small book: none, and then one for each rule that is broken.
use Rattle.std.proofs.Common.{◌≡◌, ℕ, pos, negsuc, true, false, List, [], ◌∷◌, Option, Some, None, codes}
use Rattle.std.proofs.Common.{◌++◌, drop, refl}
use Rattle.book_accounts.specs.Tree.{nearest_parents}
use Rattle.book_accounts.specs.declared.kind.AccountKind.TheVariants.{Root, Asset, Expense, Stock}
use Rattle.book_splits.specs.declared.split.Mark.TheVariants.{New, Cleared, Reconciled}
use Rattle.book_schedule.specs.declared.timing.End.TheVariants.{After}
use Rattle.book_statement.specs.declared.line.Line.{Line}
use Rattle.book_statement.specs.declared.line_state.LineState.TheVariants.{Open, Matched}
use Rattle.book_undo.specs.Book.{Book}
use Rattle.book_keeper.specs.declared.row.RowKey.{RowKey}
use Rattle.book_check.specs.FirstUnsound.{first_unsound}
use Rattle.book_sound.proofs.WorkedBook.{account, accounts, binding, book_with, commodities, line, monthly, opening}
use Rattle.book_sound.proofs.WorkedBook.{price, prices, reconciliation, reconciliations, schedule, split, statement}
use Rattle.book_sound.proofs.WorkedBook.{template, timing, transactions, txn}

abbrev lines : List (ℕ × Line)
lines = (22, line 0 (negsuc 199) (Matched 14)) ∷ (23, line 1 (negsuc 199) Open) ∷ []

abbrev book : Book
book = book_with lines

abbrev at : ℕ → ℕ → Option RowKey
at kind id = Some (record { kind = kind; id = id })

abbrev found : Book → Option RowKey
found changed = first_unsound changed 26

kept : found book ≡ None
unfolding nearest_parents
kept = refl

currency_that_is_a_share : found (record book { currency = 7 }) ≡ at 1 0
unfolding nearest_parents
currency_that_is_a_share = refl

no_currency : found (record book { currency = 9 }) ≡ at 1 0
unfolding nearest_parents
no_currency = refl

no_root : found (record book { accounts = [] }) ≡ at 1 0
unfolding nearest_parents
no_root = refl

commodity_not_drawn :
    found (record book {
      commodities = commodities
          ++ (26, record { space = codes "NYSE"; name = codes "B"; full_name = []; fraction = 1 }) ∷ [];
    }) ≡ at 1 0
unfolding nearest_parents
commodity_not_drawn = refl

line_not_drawn : found (record book { lines = lines ++ (26, line 2 (negsuc 199) Open) ∷ [] }) ≡ at 1 0
unfolding nearest_parents
line_not_drawn = refl

split_not_drawn :
    found (record book {
      transactions = (10, opening)
          ∷ (13, txn (split 14 3 (negsuc 199) Cleared None ∷ split 26 4 (pos 200) New None ∷ [])) ∷ [];
    }) ≡ at 1 0
unfolding nearest_parents
split_not_drawn = refl

marked_split_not_drawn :
    found
    (record book {
      reconciliations = (
        18,
        record {
          account = 3;
          day = pos 19753;
          opening = pos 0;
          closing = pos 1;
          marked = record
              { split = 26; quantity = pos 1 } ∷ [];
        },
      ) ∷ reconciliations;
    }) ≡ at 1 0
unfolding nearest_parents
marked_split_not_drawn = refl

made_count_not_drawn :
    found (record book { schedules = (16, schedule (record timing { made = 26 }) template) ∷ [] }) ≡ at 1 0
unfolding nearest_parents
made_count_not_drawn = refl

pair_twice :
    found (record book {
      commodities = commodities
          ++ (9, record { space = codes "NYSE"; name = codes "ACME"; full_name = []; fraction = 2 }) ∷ [];
    }) ≡ at 2 9
unfolding nearest_parents
pair_twice = refl

fraction_of_zero :
    found (record book {
      commodities = commodities
          ++ (9, record { space = codes "NYSE"; name = codes "B"; full_name = []; fraction = 0 }) ∷ [];
    }) ≡ at 2 9
unfolding nearest_parents
fraction_of_zero = refl

account_in_no_commodity :
    found (record book {
      accounts = accounts
          ++ (6, record (account (codes "A") Asset (Some 2) false) { commodity = 9 }) ∷ [];
    }) ≡ at 3 6
unfolding nearest_parents
account_in_no_commodity = refl

basis_of_a_bank :
    found (record book {
      accounts = accounts
          ++ (6, record (account (codes "A") Asset (Some 2) false) { basis = Some 1 }) ∷ [];
    }) ≡ at 3 6
unfolding nearest_parents
basis_of_a_bank = refl

stock_without_basis :
    found (record book { accounts = accounts ++ (6, account (codes "A") Stock (Some 5) false) ∷ [] }) ≡ at 3 6
unfolding nearest_parents
stock_without_basis = refl

no_parent : found (record book { accounts = accounts ++ (6, account (codes "A") Asset None false) ∷ [] }) ≡ at 3 6
unfolding nearest_parents
no_parent = refl

second_root : found (record book { accounts = accounts ++ (6, account (codes "Root") Root None true) ∷ [] }) ≡ at 3 6
unfolding nearest_parents
second_root = refl

root_takes_splits :
    found (record book { accounts = (2, account (codes "Root") Root None false) ∷ drop 1 accounts }) ≡ at 3 2
unfolding nearest_parents
root_takes_splits = refl

parent_of_no_account :
    found (record book { accounts = accounts ++ (6, account (codes "A") Asset (Some 9) false) ∷ [] }) ≡ at 3 6
unfolding nearest_parents
parent_of_no_account = refl

expense_under_an_asset :
    found (record book { accounts = accounts ++ (6, account (codes "A") Expense (Some 5) false) ∷ [] }) ≡ at 3 6
unfolding nearest_parents
expense_under_an_asset = refl

name_twice :
    found (record book { accounts = accounts ++ (6, account (codes "Rent") Expense (Some 2) false) ∷ [] }) ≡ at 3 6
unfolding nearest_parents
name_twice = refl

own_parent : found (record book { accounts = accounts ++ (6, account (codes "A") Asset (Some 6) false) ∷ [] }) ≡ at 3 6
unfolding nearest_parents
own_parent = refl

without_splits : found (record book { transactions = transactions ++ (17, txn []) ∷ [] }) ≡ at 4 17
unfolding nearest_parents
without_splits = refl

unbalanced :
    found (record book { transactions = transactions ++ (17, txn (split 17 3 (pos 1) New None ∷ [])) ∷ [] }) ≡ at 4 17
unfolding nearest_parents
unbalanced = refl

on_a_placeholder :
    found (record book { transactions = transactions ++ (17, txn (split 17 5 (pos 0) New None ∷ [])) ∷ [] }) ≡ at 4 17
unfolding nearest_parents
on_a_placeholder = refl

in_a_share :
    found (record book {
      transactions = transactions
          ++ (17, record (txn (split 17 3 (pos 0) New None ∷ [])) { currency = 7 }) ∷ [];
    }) ≡ at 4 17
unfolding nearest_parents
in_a_share = refl

split_number_twice :
    found (record book { transactions = transactions ++ (17, txn (split 11 3 (pos 0) New None ∷ [])) ∷ [] }) ≡ at 4 17
unfolding nearest_parents
split_number_twice = refl

split_number_twice_within :
    found (record book {
      transactions = transactions
          ++ (17, txn (split 17 3 (pos 0) New None ∷ split 17 4 (pos 0) New None ∷ [])) ∷ [];
    }) ≡ at 4 17
unfolding nearest_parents
split_number_twice_within = refl

reconciled_by_none :
    found (record book { transactions = transactions ++ (17, txn (split 17 3 (pos 0) Reconciled None ∷ [])) ∷ [] })
    ≡ at 4 17
unfolding nearest_parents
reconciled_by_none = refl

reconciled_unlisted :
    found (record book {
      transactions = transactions ++ (17, txn (split 17 3 (pos 0) Reconciled (Some 19) ∷ []))
          ∷ [];
    }) ≡ at 4 17
unfolding nearest_parents
reconciled_unlisted = refl

new_with_a_reconciliation :
    found (record book { transactions = transactions ++ (17, txn (split 17 3 (pos 0) New (Some 19) ∷ [])) ∷ [] })
    ≡ at 4 17
unfolding nearest_parents
new_with_a_reconciliation = refl

reconciliation_gone : found (record book { reconciliations = [] }) ≡ at 4 10
unfolding nearest_parents
reconciliation_gone = refl

price_of_nothing : found (record book { prices = prices ++ (9, record price { commodity = 9 }) ∷ [] }) ≡ at 5 9
unfolding nearest_parents
price_of_nothing = refl

price_in_a_share :
    found (record book { prices = prices ++ (9, record price { commodity = 1; currency = 7 }) ∷ [] }) ≡ at 5 9
unfolding nearest_parents
price_in_a_share = refl

price_of_zero : found (record book { prices = prices ++ (9, record price { day = pos 1; num = 0 }) ∷ [] }) ≡ at 5 9
unfolding nearest_parents
price_of_zero = refl

price_of_itself : found (record book { prices = prices ++ (9, record price { commodity = 1 }) ∷ [] }) ≡ at 5 9
unfolding nearest_parents
price_of_itself = refl

price_twice : found (record book { prices = prices ++ (9, price) ∷ [] }) ≡ at 5 9
unfolding nearest_parents
price_twice = refl

every_zero :
    found
    (record book {
      schedules = (
        16,
        schedule (record timing { recurrences = record monthly { every = 0 } ∷ [] })
            (template),
      ) ∷ [];
    }) ≡ at 6 16
unfolding nearest_parents
every_zero = refl

without_recurrence :
    found (record book { schedules = (16, schedule (record timing { recurrences = [] }) (template)) ∷ [] }) ≡ at 6 16
unfolding nearest_parents
without_recurrence = refl

after_none :
    found (record book { schedules = (16, schedule (record timing { end = After 0 }) (template)) ∷ [] }) ≡ at 6 16
unfolding nearest_parents
after_none = refl

far_in_advance :
    found (record book { schedules = (16, schedule (record timing { advance = 367 }) (template)) ∷ [] }) ≡ at 6 16
unfolding nearest_parents
far_in_advance = refl

template_unbalanced :
    found (record book { schedules = (16, schedule (timing) (txn (split 0 3 (pos 1) New None ∷ []))) ∷ [] }) ≡ at 6 16
unfolding nearest_parents
template_unbalanced = refl

template_numbered :
    found (record book { schedules = (16, schedule (timing) (txn (split 17 3 (pos 0) New None ∷ []))) ∷ [] }) ≡ at 6 16
unfolding nearest_parents
template_numbered = refl

statement_of_nothing :
    found (record book { statements = (20, statement) ∷ (21, record statement { account = 9 }) ∷ [] }) ≡ at 7 21
unfolding nearest_parents
statement_of_nothing = refl

statement_twice : found (record book { statements = (20, statement) ∷ (21, statement) ∷ [] }) ≡ at 7 21
unfolding nearest_parents
statement_twice = refl

line_of_no_account :
    found (record book { lines = lines ++ (25, record (line 2 (negsuc 199) Open) { account = 9 }) ∷ [] }) ≡ at 8 25
unfolding nearest_parents
line_of_no_account = refl

line_of_no_statement :
    found (record book { lines = lines ++ (25, record (line 2 (negsuc 199) Open) { statement = 9 }) ∷ [] }) ≡ at 8 25
unfolding nearest_parents
line_of_no_statement = refl

line_past_the_limit : found (record book { lines = lines ++ (25, line 2 (negsuc 1000000000000) Open) ∷ [] }) ≡ at 8 25
unfolding nearest_parents
line_past_the_limit = refl

line_twice : found (record book { lines = lines ++ (25, line 1 (negsuc 199) Open) ∷ [] }) ≡ at 8 25
unfolding nearest_parents
line_twice = refl

line_on_no_split : found (record book { lines = lines ++ (25, line 2 (negsuc 199) (Matched 25)) ∷ [] }) ≡ at 8 25
unfolding nearest_parents
line_on_no_split = refl

line_on_a_taken_split : found (record book { lines = lines ++ (25, line 2 (negsuc 199) (Matched 14)) ∷ [] }) ≡ at 8 25
unfolding nearest_parents
line_on_a_taken_split = refl

binding_twice : found (record book { bindings = (24, binding 3) ∷ (25, binding 4) ∷ [] }) ≡ at 9 25
unfolding nearest_parents
binding_twice = refl

binding_of_nothing :
    found (record book { bindings = (24, binding 3) ∷ (25, record { text = codes "B"; account = 9 }) ∷ [] }) ≡ at 9 25
unfolding nearest_parents
binding_of_nothing = refl

binding_of_a_placeholder :
    found (record book { bindings = (24, binding 3) ∷ (25, record { text = codes "B"; account = 5 }) ∷ [] }) ≡ at 9 25
unfolding nearest_parents
binding_of_a_placeholder = refl

reconciliation_of_nothing :
    found (record book { reconciliations = reconciliations ++ (25, record reconciliation { account = 9 }) ∷ [] })
    ≡ at 10 25
unfolding nearest_parents
reconciliation_of_nothing = refl

reconciliation_twice_listed :
    found (record book {
      reconciliations = reconciliations
          ++ (
            25,
            record reconciliation {
              marked = record { split = 11; quantity = pos 1000 }
                  ∷ record { split = 11; quantity = pos 0 } ∷ [];
            },
          ) ∷ [];
    }) ≡ at 10 25
unfolding nearest_parents
reconciliation_twice_listed = refl

reconciliation_open :
    found (record book {
      reconciliations = reconciliations ++ (25, record reconciliation { closing = pos 999 })
          ∷ [];
    }) ≡ at 10 25
unfolding nearest_parents
reconciliation_open = refl

least_of_two : found (record book { prices = prices ++ (9, price) ∷ []; bindings = (24, binding 9) ∷ [] }) ≡ at 5 9
unfolding nearest_parents
least_of_two = refl
