-- The rules, computed on a small book: each kept once, and each broken once. What is named is the places, from 0, of
-- the rules that are broken.
use Rattle.std.proofs.Common.{◌≡◌, ℕ, ◌+◌, ℤ, pos, negsuc, Bool, true, false, List, [], ◌∷◌, Some, None, codes}
use Rattle.std.proofs.Common.{map, replicate, refl, arith}
use Rattle.book_commodity.specs.CommodityRules.{commodity_rules}
use Rattle.book_accounts.specs.AccountRules.{account_rules}
use Rattle.book_accounts.specs.Tree.{nearest_parents}
use Rattle.book_splits.specs.declared.reconciliation.MarkedSplit.{MarkedSplit}
use Rattle.book_splits.specs.declared.split.Mark.TheVariants.{New, Cleared, Reconciled, Voided}
use Rattle.book_splits.specs.declared.split.Split.{Split}
use Rattle.book_splits.specs.declared.transaction.Txn.{Txn}
use Rattle.book_splits.specs.declared.void.KeptSplit.{KeptSplit}
use Rattle.book_void.specs.Voiding.{restored, voided_for}
use Rattle.book_schedule.specs.declared.timing.End.TheVariants.{Until, After}
use Rattle.book_statement.specs.declared.held.Held.{Held}
use Rattle.book_statement.specs.declared.line.Line.{Line}
use Rattle.book_statement.specs.declared.line_state.LineState.{LineState}
use Rattle.book_statement.specs.declared.line_state.LineState.TheVariants.{Open, Matched, Dismissed}
use Rattle.book_undo.specs.Book.{Book, empty_book}
use Rattle.book_undo.specs.declared.schedule.Schedule.{Schedule}
use Rattle.book_sound.specs.BindingRules.{binding_rules}
use Rattle.book_sound.specs.Dismissal.{lines_after}
use Rattle.book_sound.specs.LineRules.{line_rules}
use Rattle.book_sound.specs.MarkedTransactionRules.{marked_transaction_rules}
use Rattle.book_sound.specs.Naming.{is_in_use}
use Rattle.book_sound.specs.PriceRules.{price_rules}
use Rattle.book_sound.specs.ReconciliationRules.{reconciliation_rules}
use Rattle.book_sound.specs.ScheduleRules.{schedule_rules}
use Rattle.book_sound.specs.Soundness.{IsSoundBook}
use Rattle.book_sound.specs.StatementRules.{statement_rules}
use Rattle.book_sound.proofs.WalkLemmas.{each_of}
use Rattle.book_sound.proofs.WorkedBook.{accounts, binding, body, book_with, commodities, line, monthly}
use Rattle.book_sound.proofs.WorkedBook.{opening, price, prices, reconciliation, reconciliations, rent, schedule}
use Rattle.book_sound.proofs.WorkedBook.{split, statement, template, timing, transactions, txn}

abbrev broken_from : ℕ → List Bool → List ℕ
broken_from place [] = []
broken_from place (true ∷ more) = broken_from (place + 1) more
broken_from place (false ∷ more) = place ∷ broken_from (place + 1) more

abbrev broken : List Bool → List ℕ
broken rules = broken_from 0 rules

-- ---- prices

price_kept : broken (price_rules commodities prices 8 price) ≡ []
price_kept = refl

price_of_nothing : broken (price_rules commodities prices 8 (record price { commodity = 9 })) ≡ 0 ∷ []
price_of_nothing = refl

price_in_a_share :
    broken (price_rules commodities prices 8 (record price { commodity = 1; currency = 7 })) ≡ 1 ∷ []
price_in_a_share = refl

price_in_nothing : broken (price_rules commodities prices 8 (record price { currency = 9 })) ≡ 1 ∷ []
price_in_nothing = refl

price_of_zero : broken (price_rules commodities prices 8 (record price { num = 0 })) ≡ 2 ∷ []
price_of_zero = refl

price_above : broken (price_rules commodities prices 8 (record price { denom = 1000000001 })) ≡ 2 ∷ []
price_above = refl

price_at_the_limit : broken (price_rules commodities prices 8 (record price { denom = 1000000000 })) ≡ []
price_at_the_limit = refl

price_of_itself : broken (price_rules commodities prices 8 (record price { commodity = 1 })) ≡ 3 ∷ []
price_of_itself = refl

-- at the greater number alone
price_twice : broken (price_rules commodities ((8, price) ∷ (9, price) ∷ []) 9 price) ≡ 4 ∷ []
price_twice = refl

price_first : broken (price_rules commodities ((8, price) ∷ (9, price) ∷ []) 8 price) ≡ []
price_first = refl

-- ---- transactions

abbrev of_txn : Txn → List ℕ
of_txn transaction = broken (marked_transaction_rules commodities accounts reconciliations transactions 13 transaction)

txn_reconciled :
    broken (marked_transaction_rules commodities accounts reconciliations transactions 10 opening) ≡ []
txn_reconciled = refl

txn_cleared : of_txn rent ≡ []
txn_cleared = refl

txn_unbalanced : of_txn (txn (split 14 3 (pos 1) New None ∷ [])) ≡ 0 ∷ []
txn_unbalanced = refl

txn_number_twice : of_txn (txn (split 14 3 (pos 0) New None ∷ split 14 4 (pos 0) New None ∷ [])) ≡ 1 ∷ []
txn_number_twice = refl

txn_number_before : of_txn (txn (split 11 3 (pos 0) New None ∷ [])) ≡ 2 ∷ []
txn_number_before = refl

-- a reconciled split that names no reconciliation,
txn_names_none : of_txn (txn (split 14 3 (pos 0) Reconciled None ∷ [])) ≡ 3 ∷ []
txn_names_none = refl

-- one that the reconciliation hasn't marked,
txn_unlisted : of_txn (txn (split 14 3 (pos 0) Reconciled (Some 19) ∷ [])) ≡ 3 ∷ []
txn_unlisted = refl

-- a new one that names a reconciliation,
txn_names_one : of_txn (txn (split 14 3 (pos 0) New (Some 19) ∷ [])) ≡ 3 ∷ []
txn_names_one = refl

-- one with another quantity than was marked, and one on another account
abbrev of_opening : Txn → List ℕ
of_opening transaction =
    broken (marked_transaction_rules commodities accounts reconciliations transactions 10 transaction)

txn_other_quantity : of_opening (txn (split 11 3 (pos 0) Reconciled (Some 19) ∷ [])) ≡ 3 ∷ []
txn_other_quantity = refl

txn_other_account :
    of_opening (txn (split 12 3 (negsuc 999) New None ∷ split 11 4 (pos 1000) Reconciled (Some 19) ∷ [])) ≡ 3 ∷ []
txn_other_account = refl

-- a split that is voided in a transaction that isn't
txn_voided_split : of_txn (txn (split 14 3 (pos 0) Voided None ∷ [])) ≡ 3 ∷ []
txn_voided_split = refl

-- a transaction that is voided, and one that is brought back
abbrev wrong : Txn
wrong = voided_for (codes "wrong") rent

txn_voided : of_txn wrong ≡ []
txn_voided = refl

txn_restored : of_txn (restored wrong) ≡ []
txn_restored = refl

-- one whose reconciled split was voided
txn_opening_voided : of_opening (voided_for [] opening) ≡ []
txn_opening_voided = refl

-- one of which a split is not voided, has a value, has a quantity, or names a reconciliation
abbrev with_first : Split → Txn
with_first first = record wrong { splits = first ∷ split 15 4 (pos 0) Voided None ∷ [] }

txn_voided_but_for_one : of_txn (with_first (split 14 3 (pos 0) New None)) ≡ 3 ∷ []
txn_voided_but_for_one = refl

txn_voided_with_amounts : of_txn (with_first (split 14 3 (pos 1) Voided None)) ≡ 3 ∷ []
txn_voided_with_amounts = refl

txn_voided_with_a_quantity :
    of_txn (with_first (record (split 14 3 (pos 0) Voided None) { quantity = pos 1 })) ≡ 3 ∷ []
txn_voided_with_a_quantity = refl

txn_voided_and_marked : of_opening (with_first (split 11 3 (pos 0) Voided (Some 19))) ≡ 3 ∷ []
txn_voided_and_marked = refl

-- one of which the amounts of no split are kept, of a split too few, or of one too many
abbrev keeping : List KeptSplit → Txn
keeping kept = record wrong { voided = Some (record { reason = []; kept = kept }) }

abbrev nothing : KeptSplit
nothing = record { value = pos 0; quantity = pos 0 }

txn_voided_keeps_none : of_txn (keeping []) ≡ 0 ∷ 4 ∷ []
txn_voided_keeps_none = refl

txn_voided_keeps_one : of_txn (keeping (nothing ∷ [])) ≡ 4 ∷ []
txn_voided_keeps_one = refl

txn_voided_keeps_three : of_txn (keeping (nothing ∷ nothing ∷ nothing ∷ [])) ≡ 4 ∷ []
txn_voided_keeps_three = refl

-- one whose kept amounts don't balance, or are above the limit
txn_voided_unbalanced : of_txn (keeping (record { value = pos 1; quantity = pos 1 } ∷ nothing ∷ [])) ≡ 0 ∷ []
txn_voided_unbalanced = refl

abbrev keeping_so : ℤ → ℤ → Txn
keeping_so value other =
    keeping (record { value = value; quantity = value } ∷ record { value = other; quantity = other } ∷ [])

txn_voided_at_the_limit : of_txn (keeping_so (pos 10000000000000) (negsuc 9999999999999)) ≡ []
txn_voided_at_the_limit = refl

txn_voided_past_the_limit : of_txn (keeping_so (pos 10000000000001) (negsuc 10000000000000)) ≡ 0 ∷ []
txn_voided_past_the_limit = refl

-- ---- reconciliations

reconciliation_kept : broken (reconciliation_rules accounts 19 reconciliation) ≡ []
reconciliation_kept = refl

reconciliation_of_nothing : broken (reconciliation_rules accounts 19 (record reconciliation { account = 9 })) ≡ 0 ∷ []
reconciliation_of_nothing = refl

abbrev marked_twice : List MarkedSplit
marked_twice = record { split = 11; quantity = pos 1000 } ∷ record { split = 11; quantity = pos 0 } ∷ []

reconciliation_twice :
    broken (reconciliation_rules accounts 19 (record reconciliation { marked = marked_twice })) ≡ 1 ∷ []
reconciliation_twice = refl

reconciliation_open : broken (reconciliation_rules accounts 19 (record reconciliation { closing = pos 999 })) ≡ 2 ∷ []
reconciliation_open = refl

-- ---- schedules

abbrev of_schedule : Schedule → List ℕ
of_schedule scheduled = broken (schedule_rules commodities accounts 16 scheduled)

schedule_kept : of_schedule (schedule timing template) ≡ []
schedule_kept = refl

schedule_every_zero :
    of_schedule (schedule (record timing { recurrences = record monthly { every = 0 } ∷ [] }) template) ≡ 0 ∷ []
schedule_every_zero = refl

schedule_every_10001 :
    of_schedule (schedule (record timing { recurrences = record monthly { every = 10001 } ∷ [] }) template) ≡ 0 ∷ []
schedule_every_10001 = refl

schedule_without_recurrence : of_schedule (schedule (record timing { recurrences = [] }) template) ≡ 1 ∷ []
schedule_without_recurrence = refl

schedule_of_twelve : of_schedule (schedule (record timing { recurrences = replicate 12 monthly }) template) ≡ []
schedule_of_twelve = refl

schedule_of_thirteen :
    of_schedule (schedule (record timing { recurrences = replicate 13 monthly }) template) ≡ 1 ∷ []
schedule_of_thirteen = refl

schedule_after_none : of_schedule (schedule (record timing { end = After 0 }) template) ≡ 2 ∷ []
schedule_after_none = refl

schedule_until : of_schedule (schedule (record timing { end = Until (pos 19753) }) template) ≡ []
schedule_until = refl

schedule_far_ahead : of_schedule (schedule (record timing { advance = 367 }) template) ≡ 3 ∷ []
schedule_far_ahead = refl

schedule_voided :
    of_schedule (schedule timing (record template { voided = Some (record { reason = []; kept = [] }) })) ≡ 6 ∷ []
schedule_voided = refl

schedule_unbalanced : of_schedule (schedule timing (txn (split 0 3 (pos 1) New None ∷ []))) ≡ 4 ∷ []
schedule_unbalanced = refl

schedule_numbered : of_schedule (schedule timing (txn (split 17 3 (pos 0) New None ∷ []))) ≡ 5 ∷ []
schedule_numbered = refl

schedule_cleared : of_schedule (schedule timing (txn (split 0 3 (pos 0) Cleared None ∷ []))) ≡ 5 ∷ []
schedule_cleared = refl

schedule_reconciled : of_schedule (schedule timing (txn (split 0 3 (pos 0) New (Some 19) ∷ []))) ≡ 5 ∷ []
schedule_reconciled = refl

-- ---- statements

abbrev of_statement : Held → List ℕ
of_statement held = broken (statement_rules accounts ((20, statement) ∷ (21, held) ∷ []) 21 held)

statement_kept : broken (statement_rules accounts ((20, statement) ∷ []) 20 statement) ≡ []
statement_kept = refl

statement_of_nothing : of_statement (record statement { account = 9 }) ≡ 0 ∷ []
statement_of_nothing = refl

statement_twice : of_statement statement ≡ 1 ∷ []
statement_twice = refl

-- one field that differs is enough
statement_of_another_account : of_statement (record statement { account = 4 }) ≡ []
statement_of_another_account = refl

statement_with_another_text : of_statement (record statement { account_text = codes "NL01" }) ≡ []
statement_with_another_text = refl

statement_with_another_number : of_statement (record statement { number = codes "2" }) ≡ []
statement_with_another_number = refl

statement_without_opening : of_statement (record statement { opening = None }) ≡ []
statement_without_opening = refl

statement_with_another_closing : of_statement (record statement { closing = Some (pos 801) }) ≡ []
statement_with_another_closing = refl

statement_of_another_day : of_statement (record statement { day = pos 19754 }) ≡ []
statement_of_another_day = refl

statement_that_ties_not : of_statement (record statement { ties = Some false }) ≡ []
statement_that_ties_not = refl

-- ---- lines

-- the first line is matched with the split 14
abbrev of_line : Line → List ℕ
of_line second =
    broken (line_rules accounts ((20, statement) ∷ []) transactions
    ((22, line 0 (negsuc 199) (Matched 14)) ∷ (23, second) ∷ []) 23 second)

line_kept : of_line (line 1 (negsuc 199) Open) ≡ []
line_kept = refl

line_matched : of_line (line 0 (pos 1000) (Matched 11)) ≡ []
line_matched = refl

line_dismissed : of_line (line 1 (negsuc 199) Dismissed) ≡ []
line_dismissed = refl

line_of_no_account : of_line (record (line 1 (negsuc 199) Open) { account = 9 }) ≡ 0 ∷ []
line_of_no_account = refl

line_of_no_statement : of_line (record (line 1 (negsuc 199) Open) { statement = 21 }) ≡ 1 ∷ []
line_of_no_statement = refl

line_at_the_limit : of_line (line 1 (negsuc 999999999999) Open) ≡ []
line_at_the_limit = refl

line_past_the_limit : of_line (line 1 (negsuc 1000000000000) Open) ≡ 2 ∷ []
line_past_the_limit = refl

line_key_twice : of_line (line 0 (negsuc 199) Open) ≡ 3 ∷ []
line_key_twice = refl

-- the value day and the category aren't in the key
line_key_but_for_category :
    of_line (record (line 0 (negsuc 199) Open) { body = record (body (negsuc 199)) { category = codes "Rent" } })
    ≡ 3 ∷ []
line_key_but_for_category = refl

line_on_no_split : of_line (line 1 (negsuc 199) (Matched 16)) ≡ 4 ∷ []
line_on_no_split = refl

line_of_another_amount : of_line (line 1 (negsuc 198) (Matched 11)) ≡ 4 ∷ []
line_of_another_amount = refl

line_on_another_account : of_line (line 1 (pos 200) (Matched 15)) ≡ 4 ∷ []
line_on_another_account = refl

line_on_a_taken_split : of_line (line 1 (negsuc 199) (Matched 14)) ≡ 5 ∷ []
line_on_a_taken_split = refl

-- a voided split fits no line, not even one with an amount of zero
line_on_a_voided_split :
    broken (line_rules accounts ((20, statement) ∷ []) ((13, wrong) ∷ []) [] 23 (line 1 (pos 0) (Matched 14))) ≡ 4 ∷ []
line_on_a_voided_split = refl

-- ---- bindings

binding_kept : broken (binding_rules accounts ((24, binding 3) ∷ []) 24 (binding 3)) ≡ []
binding_kept = refl

binding_twice : broken (binding_rules accounts ((24, binding 3) ∷ (25, binding 4) ∷ []) 25 (binding 4)) ≡ 0 ∷ []
binding_twice = refl

binding_of_nothing : broken (binding_rules accounts ((24, binding 9) ∷ []) 24 (binding 9)) ≡ 1 ∷ []
binding_of_nothing = refl

binding_of_a_placeholder : broken (binding_rules accounts ((24, binding 5) ∷ []) 24 (binding 5)) ≡ 1 ∷ []
binding_of_a_placeholder = refl

-- ---- accounts in use

abbrev none : Book
none = empty_book 1

unused : is_in_use none 3 ≡ false
unused = refl

used_by_a_split : is_in_use (record none { transactions = transactions }) 3 ≡ true
used_by_a_split = refl

used_by_a_schedule : is_in_use (record none { schedules = (16, schedule timing template) ∷ [] }) 3 ≡ true
used_by_a_schedule = refl

used_by_a_statement : is_in_use (record none { statements = (20, statement) ∷ [] }) 3 ≡ true
used_by_a_statement = refl

used_by_a_line : is_in_use (record none { lines = (22, line 0 (negsuc 199) Open) ∷ [] }) 3 ≡ true
used_by_a_line = refl

used_by_a_binding : is_in_use (record none { bindings = (24, binding 3) ∷ [] }) 3 ≡ true
used_by_a_binding = refl

used_by_a_reconciliation : is_in_use (record none { reconciliations = reconciliations }) 3 ≡ true
used_by_a_reconciliation = refl

-- ---- lines that lose their splits: one is matched with the split 14 of the rent, and one with the split 11

abbrev lines : List (ℕ × Line)
lines = (22, line 0 (negsuc 199) (Matched 14)) ∷ (23, line 0 (pos 1000) (Matched 11)) ∷ []

abbrev states_after : List Split → List LineState
states_after splits = map (λ entry. entry.1.state) (lines_after rent.splits splits lines)

deleted : states_after [] ≡ Dismissed ∷ Matched 11 ∷ []
deleted = refl

another_number : states_after (split 17 3 (negsuc 199) Cleared None ∷ []) ≡ Dismissed ∷ Matched 11 ∷ []
another_number = refl

another_account : states_after (split 14 4 (negsuc 199) Cleared None ∷ []) ≡ Dismissed ∷ Matched 11 ∷ []
another_account = refl

another_quantity : states_after (split 14 3 (negsuc 198) Cleared None ∷ []) ≡ Dismissed ∷ Matched 11 ∷ []
another_quantity = refl

another_mark : states_after (split 14 3 (negsuc 199) New None ∷ []) ≡ Matched 14 ∷ Matched 11 ∷ []
another_mark = refl

voided_split : states_after (split 14 3 (negsuc 199) Voided None ∷ []) ≡ Dismissed ∷ Matched 11 ∷ []
voided_split = refl

-- a line with an amount of zero loses a split of zero that is voided
voided_zero :
    map (λ entry. entry.1.state)
    (lines_after (split 14 3 (pos 0) New None ∷ []) (split 14 3 (pos 0) Voided None ∷ [])
    ((22, line 0 (pos 0) (Matched 14)) ∷ []))
    ≡ Dismissed ∷ []
voided_zero = refl

-- ---- the whole book is sound

abbrev book : Book
book = book_with lines

sound : IsSoundBook book
unfolding nearest_parents
sound = record {
  commodities = record {
    rise = ((omega arith, tt), (tt, tt));
    keep = each_of (commodity_rules commodities) commodities refl;
    few = omega arith;
  };
  accounts = record {
    rise = (
      (omega arith, (omega arith, (omega arith, tt))),
      (
        (omega arith, (omega arith, tt)),
        ((omega arith, tt), (tt, tt)),
      ),
    );
    keep = each_of (account_rules commodities accounts) accounts refl;
    few = omega arith;
  };
  transactions = record {
    rise = ((omega arith, tt), (tt, tt));
    keep = each_of (marked_transaction_rules commodities accounts reconciliations transactions) transactions refl;
    few = omega arith;
  };
  prices = record { rise = (tt, tt); keep = each_of (price_rules commodities prices) prices refl; few = omega arith };
  schedules = record {
    rise = (tt, tt);
    keep = each_of (schedule_rules commodities accounts) book.schedules refl;
    few = omega arith;
  };
  statements = record {
    rise = (tt, tt);
    keep = each_of (statement_rules accounts book.statements) book.statements refl;
    few = omega arith;
  };
  lines = record {
    rise = ((omega arith, tt), (tt, tt));
    keep = each_of (line_rules accounts book.statements transactions lines) lines refl;
    few = omega arith;
  };
  bindings = record {
    rise = (tt, tt);
    keep = each_of (binding_rules accounts book.bindings) book.bindings refl;
    few = omega arith;
  };
  reconciliations = record {
    rise = (tt, tt);
    keep = each_of (reconciliation_rules accounts) reconciliations refl;
    few = omega arith;
  };
  few_splits = omega arith;
  root = refl;
  currency = refl;
}
