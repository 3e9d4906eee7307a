-- At the first key at which a state is unsound, a rule is named.
use Rattle.std.proofs.Common.{◌≡◌, ℕ, ◌+◌, ◌==◌, nat_lt, not, Bool, true, false, ◌&&◌, ◌||◌, List, [], ◌∷◌, drop}
use Rattle.std.proofs.Common.{Option, Some, None, if◌then◌else◌, is_some, option_map, refl, reverse, subst, sym, ap, ◌∙◌}
use Rattle.std.proofs.Common.{arith}
use Rattle.std.specs.List.{list_any}
use Rattle.std.proofs.lemmas.List.{reverse-append}
use Rattle.std.proofs.lemmas.List.Folds.{list_any-append}
use Rattle.std.proofs.lemmas.Bool.Decides.{nat_tests}
use Rattle.book_keeper.specs.declared.row.RowKey.{RowKey}
use Rattle.book_commodity.specs.CommodityRules.{commodity_rules}
use Rattle.book_commodity.specs.Rules.{broken_where, first_broken}
use Rattle.book_commodity.specs.Table.{value_of}
use Rattle.book_accounts.specs.AccountRules.{account_rules}
use Rattle.book_opening.specs.Opening.{head_key}
use Rattle.book_opening.specs.State.{State}
use Rattle.book_sound.specs.BindingRules.{binding_rules}
use Rattle.book_sound.specs.LineRules.{line_rules}
use Rattle.book_sound.specs.MarkedTransactionRules.{marked_transaction_rules}
use Rattle.book_sound.specs.PriceRules.{price_rules}
use Rattle.book_sound.specs.ReconciliationRules.{reconciliation_rules}
use Rattle.book_sound.specs.ScheduleRules.{schedule_rules}
use Rattle.book_sound.specs.StatementRules.{statement_rules}
use Rattle.book_check.specs.FirstUnsound.{all_hold, first_in, first_of_table, first_unsound, head_rules, key_in}
use Rattle.book_check.specs.FirstUnsound.{splits_in, thing_keys}
use Rattle.book_history.specs.Steps.{first_fault, is_broken}
use Rattle.book_undo.specs.Book.{Book}
use Rattle.book_undo.specs.Edit.{edited}
use Rattle.book_undo.specs.declared.edit.Edit.{Edit}
use Rattle.book_broken.specs.Broken.{broken_at, broken_thing}
use Rattle.book_broken.specs.declared.rule.BrokenRule.TheVariants.{StepBack, StepForth}

-- ---- a number that is found is that of an entry
there_first :
    {T : Type 0} (n : ℕ) (e : ℕ × T) (es : List (ℕ × T)) → e.0 ≡ n → is_some (value_of n (e ∷ es)) ≡ true
there_first n e es is = grind (arith, nat_tests, is)

there_later :
    {T : Type 0} (n : ℕ) (e : ℕ × T) (es : List (ℕ × T)) → is_some (value_of n es) ≡ true
    → is_some (value_of n (e ∷ es)) ≡ true
there_later n e es there =
    let Later : Bool → Type 0 = λ t. is_some (if t then Some e.1 else value_of n es) ≡ true in
    elim (n == e.0) as Later [
      | true ↦ refl
      | false ↦ there
    ]

first_there :
    {T : Type 0} (rules : ℕ → T → List Bool) (most : ℕ) (weight : T → ℕ) (heaviest count sum n : ℕ)
    (es : List (ℕ × T)) → first_in rules most weight heaviest count sum es ≡ Some n → is_some (value_of n es) ≡ true
first_there rules most weight heaviest count sum n [] found = absurd cc
first_there rules most weight heaviest count sum n (e ∷ es) found =
    let Found : Bool → Type 0 =
    λ t. (if t then first_in rules most weight heaviest (count + 1) (sum + weight e.1) es else Some e.0) ≡ Some n
    → is_some (value_of n (e ∷ es)) ≡ true in
    elim (nat_lt count most && (not (nat_lt heaviest (sum + weight e.1)) && all_hold (rules e.0 e.1))) as Found [
      | true ↦ λ later.
          there_later n e es
          (first_there rules most weight heaviest (count + 1) (sum + weight e.1) n es later)
      | false ↦ λ here. (let same : e.0 ≡ n = cc in there_first n e es same)
    ] found

-- so it is mapped to something
mapped : {X Y : Type 0} (f : X → Y) (o : Option X) → is_some o ≡ true → is_some (option_map f o) ≡ true
mapped f None there = absurd cc
mapped f (Some x) there = refl

-- ---- the first of some keys
key_step :
    (state : State) (kind : ℕ) (number : Option ℕ) (more : List (Option RowKey)) (key : RowKey)
    → ((id : ℕ) → number ≡ Some id → is_some (broken_at state (record { kind = kind; id = id })) ≡ true)
    → (first_broken more ≡ Some key → is_some (broken_at state key) ≡ true)
    → first_broken (key_in kind number ∷ more) ≡ Some key → is_some (broken_at state key) ≡ true
key_step state kind None more key here later found = later found
key_step state kind (Some id) more key here later found =
    let same : record { kind = kind; id = id } ≡ key = cc in
    subst (λ (k : RowKey). is_some (broken_at state k) ≡ true) same (here id refl)

head_step :
    (state : State) (broken : Bool) (more : List (Option RowKey)) (key : RowKey)
    → (first_broken more ≡ Some key → is_some (broken_at state key) ≡ true)
    → first_broken (broken_where broken head_key ∷ more) ≡ Some key → is_some (broken_at state key) ≡ true
unfolding broken_at
head_step state true more key later found =
    let same : head_key ≡ key = cc in subst (λ (k : RowKey). is_some (broken_at state k) ≡ true) same refl
head_step state false more key later found = later found

-- where a book is unsound at a key, a rule is named there
pub rule_there :
    (state : State) (key : RowKey) → first_unsound state.book state.next ≡ Some key
    → is_some (broken_at state key) ≡ true
unfolding broken_at broken_thing
rule_there state key found =
    let book = state.book in
    let keys = thing_keys book in
    head_step state (not (all_hold (head_rules book state.next))) keys key
    (key_step state 2 (first_of_table (commodity_rules book.commodities) 10000 book.commodities) (drop 1 keys) key
    (λ id e. mapped _ (value_of id book.commodities)
    (first_there (commodity_rules book.commodities)
    10000 (λ _. 0) 0 0 0 id book.commodities e))
    (key_step state 3 (first_of_table (account_rules book.commodities book.accounts) 10000 book.accounts)
    (drop 2 keys) key
    (λ id e. mapped _ (value_of id book.accounts)
    (first_there (account_rules book.commodities book.accounts)
    10000 (λ _. 0) 0 0 0 id book.accounts e))
    (key_step state 4
    (first_in (marked_transaction_rules book.commodities book.accounts book.reconciliations book.transactions)
    200000 splits_in 1000000 0 0 book.transactions) (drop 3 keys) key
    (λ id e. mapped _ (value_of id book.transactions)
    (first_there (marked_transaction_rules book.commodities book.accounts book.reconciliations book.transactions)
    200000 splits_in 1000000 0 0 id book.transactions e))
    (key_step state 5 (first_of_table (price_rules book.commodities book.prices) 1000000 book.prices)
    (drop 4 keys) key
    (λ id e. mapped _ (value_of id book.prices)
    (first_there (price_rules book.commodities book.prices)
    1000000 (λ _. 0) 0 0 0 id book.prices e))
    (key_step state 6 (first_of_table (schedule_rules book.commodities book.accounts) 1000 book.schedules)
    (drop 5 keys) key
    (λ id e. mapped _ (value_of id book.schedules)
    (first_there (schedule_rules book.commodities book.accounts)
    1000 (λ _. 0) 0 0 0 id book.schedules e))
    (key_step state 7 (first_of_table (statement_rules book.accounts book.statements) 100000 book.statements)
    (drop 6 keys) key
    (λ id e. mapped _ (value_of id book.statements)
    (first_there (statement_rules book.accounts book.statements)
    100000 (λ _. 0) 0 0 0 id book.statements e))
    (key_step state 8
    (first_of_table (line_rules book.accounts book.statements book.transactions book.lines) 1000000 book.lines)
    (drop 7 keys) key
    (λ id e. mapped _ (value_of id book.lines)
    (first_there (line_rules book.accounts book.statements book.transactions book.lines)
    1000000 (λ _. 0) 0 0 0 id book.lines e))
    (key_step state 9 (first_of_table (binding_rules book.accounts book.bindings) 10000 book.bindings)
    (drop 8 keys) key
    (λ id e. mapped _ (value_of id book.bindings)
    (first_there (binding_rules book.accounts book.bindings)
    10000 (λ _. 0) 0 0 0 id book.bindings e))
    (key_step state 10
    (first_of_table (reconciliation_rules book.accounts) 100000 book.reconciliations) [] key
    (λ id e. mapped _ (value_of id book.reconciliations)
    (first_there (reconciliation_rules book.accounts)
    100000 (λ _. 0) 0 0 0 id book.reconciliations e))
    (λ none. absurd cc)))))))))) found

-- ---- steps
fault_there :
    (next n : ℕ) (steps : List (ℕ × Edit)) (book : Book) → first_fault next steps book ≡ Some n
    → is_some (value_of n steps) ≡ true
fault_there next n [] book found = absurd cc
fault_there next n (step ∷ steps) book found =
    let Found : Bool → Type 0 =
    λ t. (if t then Some step.0 else first_fault next steps (edited step.1 book)) ≡ Some n
    → is_some (value_of n (step ∷ steps)) ≡ true in
    elim (is_broken next book step.1) as Found [
      | true ↦ λ here. (let same : step.0 ≡ n = cc in there_first n step steps same)
      | false ↦ λ later. there_later n step steps (fault_there next n steps (edited step.1 book) later)
    ] found

swapped : (a b : Bool) → (a || (b || false)) ≡ (b || a)
swapped true true = refl
swapped true false = refl
swapped false true = refl
swapped false false = refl

any_reversed : {X : Type 0} (p : X → Bool) (xs : List X) → list_any p (reverse xs) ≡ list_any p xs
any_reversed p [] = refl
any_reversed p (x ∷ xs) =
    ap (list_any p) (reverse-append (x ∷ []) xs) ∙ list_any-append p (reverse xs) (x ∷ [])
    ∙ swapped (list_any p (reverse xs)) (p x) ∙ ap (λ (t : Bool). p x || t) (any_reversed p xs)

some_any : {T : Type 0} (n : ℕ) (es : List (ℕ × T)) → is_some (value_of n es) ≡ list_any (λ e. n == e.0) es
some_any n [] = refl
some_any n (e ∷ es) =
    let Same : Bool → Type 0 =
    λ t. is_some (if t then Some e.1 else value_of n es) ≡ (t || list_any (λ x. n == x.0) es) in
    elim (n == e.0) as Same [
      | true ↦ refl
      | false ↦ some_any n es
    ]

ruled : {T R : Type 0} (rule : R) (o : Option T) → is_some o ≡ true → option_map (λ _. rule) o ≡ Some rule
ruled rule None there = absurd cc
ruled rule (Some x) there = refl

pub back_there :
    (state : State) (id : ℕ) → first_fault state.next (reverse state.back) state.book ≡ Some id
    → broken_at state (record { kind = 11; id = id }) ≡ Some StepBack
unfolding broken_at
back_there state id found =
    ruled StepBack (value_of id state.back)
    (some_any id state.back ∙ sym (any_reversed (λ (e : ℕ × Edit). id == e.0) state.back)
    ∙ sym (some_any id (reverse state.back)) ∙ fault_there state.next id (reverse state.back) state.book found)

pub forth_there :
    (state : State) (id : ℕ) → first_fault state.next state.forth state.book ≡ Some id
    → broken_at state (record { kind = 12; id = id }) ≡ Some StepForth
unfolding broken_at
forth_there state id found =
    ruled StepForth (value_of id state.forth) (fault_there state.next id state.forth state.book found)
