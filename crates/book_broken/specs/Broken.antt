-- Which rule is broken at a key at which a state is unsound.
use Rattle.std.specs.Prelude.{◌≡◌, ℕ, ◌==◌, nat_lt, not, Bool, if◌then◌else◌, List, [], ◌∷◌, Option, Some, None}
use Rattle.std.specs.Prelude.{option_map}
use Rattle.book_keeper.specs.declared.row.RowKey.{RowKey}
use Rattle.book_commodity.specs.CommodityRules.{commodity_rules}
use Rattle.book_commodity.specs.Table.{value_of}
use Rattle.book_accounts.specs.AccountRules.{account_rules}
use Rattle.book_opening.specs.State.{State, head_of}
use Rattle.book_opening.specs.Steps.{counts_fit}
use Rattle.book_undo.specs.Book.{Book}
use Rattle.book_sound.specs.BindingRules.{binding_rules}
use Rattle.book_sound.specs.LineRules.{line_rules}
use Rattle.book_sound.specs.PriceRules.{price_rules}
use Rattle.book_sound.specs.ReconciliationRules.{reconciliation_rules}
use Rattle.book_sound.specs.ScheduleRules.{schedule_rules}
use Rattle.book_sound.specs.StatementRules.{statement_rules}
use Rattle.book_check.specs.FirstUnsound.{head_rules}
use Rattle.book_broken.specs.Names.{account_names, binding_names, commodity_names, head_names, line_names, price_names}
use Rattle.book_broken.specs.Names.{reconciliation_names, schedule_names, statement_names, told_rules, transaction_names}
use Rattle.book_broken.specs.declared.first.Broken.{Broken}
use Rattle.book_broken.specs.declared.rule.BrokenRule.{BrokenRule}
use Rattle.book_broken.specs.declared.rule.BrokenRule.TheVariants.{StepBack, StepForth, TooMany}

-- The name of the first test that fails: the names of tests stand in the order of these. Where each test holds, a thing
-- at which a book is unsound is one too many.
abbrev pub first_failing : List Bool → List BrokenRule → BrokenRule
first_failing [] names = TooMany
first_failing (test ∷ tests) [] = TooMany
first_failing (test ∷ tests) (name ∷ names) = if test then first_failing tests names else name

-- The rule that the thing under a number breaks, if a thing is there.
abbrev pub broken_in :
    {T : Type 0} → (ℕ → T → List Bool) → (T → List BrokenRule) → ℕ → List (ℕ × T) → Option BrokenRule
broken_in rules names number entries =
    option_map (λ thing. first_failing (rules number thing) (names thing)) (value_of number entries)

-- The same for the things of a book, by their kinds.
unfoldable pub broken_thing : Book → RowKey → Option BrokenRule
broken_thing book key =
    if key.kind == 2
    then broken_in (commodity_rules book.commodities) (λ _. commodity_names) key.id book.commodities
    else if key.kind == 3
    then broken_in (account_rules book.commodities book.accounts) (λ _. account_names) key.id book.accounts
    else if key.kind == 4
    then broken_in (told_rules book.commodities book.accounts book.reconciliations book.transactions)
    (transaction_names book.commodities book.accounts) key.id book.transactions
    else if key.kind == 5
    then broken_in (price_rules book.commodities book.prices) (λ _. price_names) key.id book.prices
    else if key.kind == 6
    then broken_in (schedule_rules book.commodities book.accounts) (schedule_names book.commodities book.accounts)
    key.id book.schedules
    else if key.kind == 7
    then broken_in (statement_rules book.accounts book.statements) (λ _. statement_names) key.id book.statements
    else if key.kind == 8
    then broken_in (line_rules book.accounts book.statements book.transactions book.lines) (λ _. line_names) key.id
    book.lines
    else if key.kind == 9
    then broken_in (binding_rules book.accounts book.bindings) (λ _. binding_names) key.id book.bindings
    else if key.kind == 10
    then broken_in (reconciliation_rules book.accounts) (λ _. reconciliation_names) key.id book.reconciliations
    else None

-- The rules of the head: its position is at most its version, its counts of steps fit, and those of the book.
abbrev pub head_tests : State → List Bool
head_tests state =
    not (nat_lt state.version state.position) ∷ counts_fit (head_of state) ∷ head_rules state.book state.next

-- The rule that the head breaks; it stands under 0.
abbrev pub broken_head : State → ℕ → Option BrokenRule
broken_head state number = if number == 0 then Some (first_failing (head_tests state) head_names) else None

-- The rule that is broken at a key where a state is unsound; none, where nothing stands under the key. A step has one
-- rule: it can be taken, and leads to a sound book.
unfoldable pub broken_at : State → RowKey → Option BrokenRule
broken_at state key =
    if key.kind == 1 then broken_head state key.id
    else if key.kind == 11 then option_map (λ _. StepBack) (value_of key.id state.back)
    else if key.kind == 12 then option_map (λ _. StepForth) (value_of key.id state.forth)
    else broken_thing state.book key

-- The key of what was found, if anything was.
abbrev pub broken_key : Option Broken → Option RowKey
broken_key found = option_map (λ broken. broken.key) found

-- The rule is the one that a state breaks at the key.
abbrev pub HasRule : State → Broken → Type 0
HasRule state broken = broken_at state broken.key ≡ Some broken.rule
