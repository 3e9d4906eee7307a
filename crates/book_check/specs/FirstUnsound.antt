-- The first key of a book at which it isn't sound. Keys are in order by kind, and then by number; the kind 1 is that of
-- the head, which has what belongs to the whole book.
use Rattle.std.specs.Prelude.{ℕ, ◌+◌, nat_lt, not, Bool, ◌&&◌, if◌then◌else◌, List, [], ◌∷◌, length, Option, Some, None}
use Rattle.std.specs.Prelude.{option_map, is_some}
use Rattle.std.specs.List.{list_all}
use Rattle.book_keeper.specs.declared.row.RowKey.{RowKey}
use Rattle.book_commodity.specs.CommodityRules.{commodity_rules}
use Rattle.book_commodity.specs.Currency.{is_currency_of}
use Rattle.book_commodity.specs.Rules.{broken_where, first_broken}
use Rattle.book_commodity.specs.Table.{value_of}
use Rattle.book_accounts.specs.AccountRules.{account_rules, root_of}
use Rattle.book_splits.specs.Balance.{splits_of}
use Rattle.book_splits.specs.declared.transaction.Txn.{Txn}
use Rattle.book_undo.specs.Book.{Book}
use Rattle.book_sound.specs.BindingRules.{binding_rules}
use Rattle.book_sound.specs.LineRules.{line_rules}
use Rattle.book_sound.specs.MarkedTransactionRules.{marked_transaction_rules}
use Rattle.book_sound.specs.PriceRules.{price_rules}
use Rattle.book_sound.specs.ReconciliationRules.{reconciliation_rules}
use Rattle.book_sound.specs.ScheduleRules.{schedule_rules}
use Rattle.book_sound.specs.StatementRules.{statement_rules}

-- Whether each test of a list holds.
abbrev pub all_hold : List Bool → Bool
all_hold tests = list_all (λ test. test) tests

-- The first number of a table at which a thing breaks a rule of its kind, or goes past a limit: there are at most so
-- many things, and what they weigh together is at most so much. Before these entries stand things and weight already.
abbrev pub first_in :
    {T : Type 0} → (ℕ → T → List Bool) → ℕ → (T → ℕ) → ℕ → ℕ → ℕ → List (ℕ × T) → Option ℕ
first_in rules most weight heaviest count sum [] = None
first_in rules most weight heaviest count sum (entry ∷ more) =
    if nat_lt count most && (not (nat_lt heaviest (sum + weight entry.1)) && all_hold (rules entry.0 entry.1))
    then first_in rules most weight heaviest (count + 1) (sum + weight entry.1) more
    else Some entry.0

-- The same where nothing is weighed.
abbrev pub first_of_table : {T : Type 0} → (ℕ → T → List Bool) → ℕ → List (ℕ × T) → Option ℕ
first_of_table rules most entries = first_in rules most (λ _. 0) 0 0 0 entries

-- Whether each number of a table is below the next.
abbrev pub are_below : {T : Type 0} → ℕ → List (ℕ × T) → Bool
are_below next entries = list_all (λ entry. nat_lt entry.0 next) entries

-- The rules of the head: the book's currency is one of its commodities, and a currency; there is a root; and every
-- number is below the next, that of each thing and of each split, also in the lists of reconciliations, and the count
-- that each schedule has made.
abbrev pub head_rules : Book → ℕ → List Bool
head_rules book next =
    is_currency_of (value_of book.currency book.commodities)
    ∷ is_some (root_of book.accounts)
    ∷ are_below next book.commodities
    ∷ are_below next book.accounts
    ∷ are_below next book.transactions
    ∷ are_below next book.prices
    ∷ are_below next book.schedules
    ∷ are_below next book.statements
    ∷ are_below next book.lines
    ∷ are_below next book.bindings
    ∷ are_below next book.reconciliations
    ∷ list_all (λ split. nat_lt split.id next) (splits_of book.transactions)
    ∷ list_all (λ entry. list_all (λ marked. nat_lt marked.split next) entry.1.marked) book.reconciliations
    ∷ list_all (λ entry. nat_lt entry.1.timing.made next) book.schedules
    ∷ []

-- The key of a number, if there is one.
abbrev pub key_in : ℕ → Option ℕ → Option RowKey
key_in kind number = option_map (λ id. record { kind = kind; id = id }) number

-- How many splits a transaction has.
abbrev pub splits_in : Txn → ℕ
splits_in transaction = length transaction.splits

-- The first unsound key of each table, in the order of the kinds: a thing there breaks a rule of its kind, or goes past
-- a limit of this project.
abbrev pub thing_keys : Book → List (Option RowKey)
thing_keys book =
    key_in 2 (first_of_table (commodity_rules book.commodities) 10000 book.commodities)
    ∷ key_in 3 (first_of_table (account_rules book.commodities book.accounts) 10000 book.accounts)
    ∷ key_in 4 (first_in
    (marked_transaction_rules book.commodities book.accounts book.reconciliations book.transactions)
    200000 splits_in 1000000 0 0 book.transactions)
    ∷ key_in 5 (first_of_table (price_rules book.commodities book.prices) 1000000 book.prices)
    ∷ key_in 6 (first_of_table (schedule_rules book.commodities book.accounts) 1000 book.schedules)
    ∷ key_in 7 (first_of_table (statement_rules book.accounts book.statements) 100000 book.statements)
    ∷ key_in 8 (first_of_table
    (line_rules book.accounts book.statements book.transactions book.lines) 1000000 book.lines)
    ∷ key_in 9 (first_of_table (binding_rules book.accounts book.bindings) 10000 book.bindings)
    ∷ key_in 10 (first_of_table (reconciliation_rules book.accounts) 100000 book.reconciliations)
    ∷ []

-- The same with that of the head before them.
abbrev pub unsound_keys : Book → ℕ → List (Option RowKey)
unsound_keys book next =
    broken_where (not (all_hold (head_rules book next))) (record { kind = 1; id = 0 }) ∷ thing_keys book

-- The first key at which a book isn't sound, or a number isn't below the next.
abbrev pub first_unsound : Book → ℕ → Option RowKey
first_unsound book next = first_broken (unsound_keys book next)
