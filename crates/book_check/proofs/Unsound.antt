-- A book has no first unsound key exactly where it is sound and its numbers are drawn.
use Rattle.std.proofs.Common.{◌≡◌, ℕ, ◌+◌, ◌<◌, ◌≤◌, nat_lt, ◌==◌, not, Bool, true, false, ◌&&◌, if◌then◌else◌}
use Rattle.std.proofs.Common.{List, []}
use Rattle.std.proofs.Common.{◌∷◌, length, Option, Some, None, refl, ap, ◌∙◌, subst, arith, All}
use Rattle.std.specs.Prelude.{IsTrue}
use Rattle.std.specs.List.{AllByRecursion, list_all}
use Rattle.std.proofs.lemmas.Bool.Decides.{nat_tests}
use Rattle.std.proofs.lemmas.List.Elements.{All-nil, All-cons, All-head, All-tail}
use Rattle.std.proofs.Common.{length-append}
use Rattle.book_keeper.specs.declared.row.RowKey.{RowKey}
use Rattle.book_commodity.specs.CommodityRules.{commodity_rules}
use Rattle.book_commodity.specs.Rules.{AllHold, IsSoundTable, broken_where}
use Rattle.book_commodity.specs.Table.{AllAbove, Rises, value_of}
use Rattle.book_commodity.proofs.RuleLemmas.{kept_of, none_broken}
use Rattle.book_commodity.proofs.TableLemmas.{above_value}
use Rattle.book_accounts.specs.AccountRules.{account_rules}
use Rattle.book_splits.specs.Balance.{splits_of}
use Rattle.book_splits.specs.declared.split.Split.{Split}
use Rattle.book_splits.specs.declared.reconciliation.MarkedSplit.{MarkedSplit}
use Rattle.book_splits.specs.declared.reconciliation.Recon.{Recon}
use Rattle.book_splits.specs.declared.transaction.Txn.{Txn}
use Rattle.book_undo.specs.Book.{Book, IsRising}
use Rattle.book_undo.specs.declared.schedule.Schedule.{Schedule}
use Rattle.book_sound.specs.BindingRules.{binding_rules}
use Rattle.book_sound.specs.LineRules.{line_rules}
use Rattle.book_sound.specs.MarkedTransactionRules.{marked_transaction_rules}
use Rattle.book_sound.specs.PriceRules.{price_rules}
use Rattle.book_sound.specs.ReconciliationRules.{reconciliation_rules}
use Rattle.book_sound.specs.ScheduleRules.{schedule_rules}
use Rattle.book_sound.specs.Soundness.{AreDrawn, IsSoundBook}
use Rattle.book_sound.specs.StatementRules.{statement_rules}
use Rattle.book_check.specs.FirstUnsound.{all_hold, are_below, first_in, first_of_table, first_unsound, head_rules}
use Rattle.book_check.specs.FirstUnsound.{key_in, splits_in, unsound_keys}

-- ---- tests
and_both : (s t : Bool) → (s && t) ≡ true → (s ≡ true) × (t ≡ true)
and_both true t e = (refl, e)
and_both false t e = absurd cc

hold_of : (tests : List Bool) → all_hold tests ≡ true → AllHold tests
hold_of [] e = tt
hold_of (test ∷ more) e =
    let both = and_both test (all_hold more) e in (grind (arith, nat_tests, both.0), hold_of more both.1)

true_of : (b : Bool) → IsTrue b → b ≡ true
true_of b h = grind (arith, nat_tests, h)

both_true : (s t : Bool) → s ≡ true → t ≡ true → (s && t) ≡ true
both_true s t p q = ap (λ (b : Bool). b && t) p ∙ q

of_hold : (tests : List Bool) → AllHold tests → all_hold tests ≡ true
of_hold [] h = refl
of_hold (test ∷ more) h = both_true test (all_hold more) (true_of test h.0) (of_hold more h.1)

below_of : (m n : ℕ) → nat_lt m n ≡ true → m < n
below_of m n e = grind (arith, nat_tests)

of_below : (m n : ℕ) → m < n → nat_lt m n ≡ true
of_below m n h = grind (arith, nat_tests)

-- ---- a table
-- Every entry keeps its rules.
abbrev Keep : {T : Type 0} → (ℕ → T → List Bool) → List (ℕ × T) → Type 0
Keep rules es = AllByRecursion (λ e. AllHold (rules e.0 e.1)) es

-- What the entries weigh together.
abbrev weight_of : {T : Type 0} → (T → ℕ) → List (ℕ × T) → ℕ
weight_of weight [] = 0
weight_of weight (e ∷ es) = weight e.1 + weight_of weight es

goes_on : (t : Bool) (o : Option ℕ) (n : ℕ) → (if t then o else Some n) ≡ None → (t ≡ true) × (o ≡ None)
goes_on true o n e = (refl, e)
goes_on false o n e = absurd cc

record IsFine {T : Type 0} (rules : ℕ → T → List Bool) (most : ℕ) (weight : T → ℕ) (heaviest count sum : ℕ)
    (es : List (ℕ × T)) : Type 0 where
  few : count + length es ≤ most
  light : sum + weight_of weight es ≤ heaviest
  keep : Keep rules es

fine_of :
    {T : Type 0} (rules : ℕ → T → List Bool) (most : ℕ) (weight : T → ℕ) (heaviest count sum : ℕ) (es : List (ℕ × T))
    → count ≤ most → sum ≤ heaviest → first_in rules most weight heaviest count sum es ≡ None
    → IsFine rules most weight heaviest count sum es
fine_of rules most weight heaviest count sum [] low light e =
    record { few = omega arith; light = omega arith; keep = tt }
fine_of rules most weight heaviest count sum (x ∷ es) low light e =
    let here = all_hold (rules x.0 x.1) in
    let past = nat_lt heaviest (sum + weight x.1) in
    let step = goes_on (nat_lt count most && (not past && here)) _ x.0 e in
    let first = and_both (nat_lt count most) (not past && here) step.0 in
    let second = and_both (not past) here first.1 in
    let less = below_of count most first.0 in
    let lighter : sum + weight x.1 ≤ heaviest = (let test = second.0 in grind (arith, nat_tests)) in
    let rest = fine_of rules most weight heaviest (count + 1) (sum + weight x.1) es
    (omega (arith, less)) lighter step.1 in
    record {
      few = (let few = rest.few in omega (arith, few));
      light = (let sum_is = rest.light in omega (arith, sum_is));
      keep = (hold_of (rules x.0 x.1) second.1, rest.keep);
    }

none_of :
    {T : Type 0} (rules : ℕ → T → List Bool) (most : ℕ) (weight : T → ℕ) (heaviest count sum : ℕ) (es : List (ℕ × T))
    → count + length es ≤ most → sum + weight_of weight es ≤ heaviest → Keep rules es
    → first_in rules most weight heaviest count sum es ≡ None
none_of rules most weight heaviest count sum [] few light keep = refl
none_of rules most weight heaviest count sum (x ∷ es) few light keep =
    let here = all_hold (rules x.0 x.1) in
    let past = nat_lt heaviest (sum + weight x.1) in
    let a = of_below count most (omega (arith, few)) in
    let b : not past
    ≡ true = (let low : sum + weight x.1 ≤ heaviest = omega (arith, light) in grind (arith, nat_tests)) in
    let c = of_hold (rules x.0 x.1) keep.0 in
    let rest = first_in rules most weight heaviest (count + 1) (sum + weight x.1) es in
    ap (λ (t : Bool). if t then rest else Some x.0)
    (both_true (nat_lt count most) (not past && here) a (both_true (not past) here b c))
    ∙ none_of rules most weight heaviest (count + 1) (sum + weight x.1) es (omega (arith, few))
    (omega (arith, light)) keep.1

each_by :
    {T : Type 0} (rules : ℕ → T → List Bool) (y : ℕ × T) (es : List (ℕ × T)) (n : ℕ) (x : T) (t : Bool)
    → (n == y.0) ≡ t → (if t then Some y.1 else value_of n es) ≡ Some x → AllHold (rules y.0 y.1)
    → (value_of n es ≡ Some x → AllHold (rules n x)) → AllHold (rules n x)
each_by {T} rules y es n x true same found here more =
    let number : y.0 ≡ n = grind (arith, nat_tests) in
    let thing : y.1 ≡ x = cc in
    subst (λ (m : ℕ). AllHold (rules m x)) number (subst (λ (z : T). AllHold (rules y.0 z)) thing here)
each_by rules y es n x false same found here more = more found

each_of :
    {T : Type 0} (rules : ℕ → T → List Bool) (es : List (ℕ × T)) → Keep rules es → (n : ℕ) (x : T)
    → value_of n es ≡ Some x → AllHold (rules n x)
each_of rules [] keep n x e = absurd cc
each_of rules (y ∷ es) keep n x e = each_by rules y es n x (n == y.0) refl e keep.0 (each_of rules es keep.1 n x)

other_value :
    {T : Type 0} (y : ℕ × T) (es : List (ℕ × T)) (n : ℕ) (x : T) → AllAbove y.0 es → value_of n es ≡ Some x
    → value_of n (y ∷ es) ≡ Some x
other_value y es n x above e = let none = above_value y.0 es above in grind (arith, nat_tests, none, e)

own_value : {T : Type 0} (y : ℕ × T) (es : List (ℕ × T)) → value_of y.0 (y ∷ es) ≡ Some y.1
own_value y es = grind (arith, nat_tests)

keep_of :
    {T : Type 0} (rules : ℕ → T → List Bool) (es : List (ℕ × T)) → Rises es
    → ((n : ℕ) (x : T) → value_of n es ≡ Some x → AllHold (rules n x)) → Keep rules es
keep_of rules [] rise each = tt
keep_of rules (y ∷ es) rise each = (
  each y.0 y.1 (own_value y es),
  keep_of rules es rise.1 (λ n x e. each n x (other_value y es n x rise.0 e)),
)

nothing_weighs : {T : Type 0} (es : List (ℕ × T)) → weight_of (λ _. 0) es ≡ 0
nothing_weighs [] = refl
nothing_weighs (e ∷ es) = omega (arith, nothing_weighs es)

table_sound :
    {T : Type 0} (rules : ℕ → T → List Bool) (most : ℕ) (es : List (ℕ × T)) → Rises es
    → first_of_table rules most es ≡ None → IsSoundTable rules most es
table_sound rules most es rise none =
    let fine = fine_of rules most (λ _. 0) 0 0 0 es (omega arith) (omega arith) none in
    record {
      rise = rise;
      keep = record { each = each_of rules es fine.keep };
      few = (let few = fine.few in omega (arith, few));
    }

table_none :
    {T : Type 0} (rules : ℕ → T → List Bool) (most : ℕ) (es : List (ℕ × T)) → IsSoundTable rules most es
    → first_of_table rules most es ≡ None
table_none rules most es sound =
    let few = sound.few in
    let weightless = nothing_weighs es in
    none_of rules most (λ _. 0) 0 0 0 es (omega (arith, few)) (omega (arith, weightless))
    (keep_of rules es sound.rise sound.keep.each)

splits_weigh : (es : List (ℕ × Txn)) → weight_of splits_in es ≡ length (splits_of es)
splits_weigh [] = refl
splits_weigh (e ∷ es) =
    let rest = splits_weigh es in
    let both = length-append e.1.splits (splits_of es) in
    omega (arith, rest, both)

-- ---- the keys
no_key : (kind : ℕ) (number : Option ℕ) → key_in kind number ≡ None → number ≡ None
no_key kind None e = refl
no_key kind (Some n) e = absurd cc

key_none : (kind : ℕ) (number : Option ℕ) → number ≡ None → key_in kind number ≡ None
key_none kind number e = ap (key_in kind) e

not_kept : (t : Bool) (key : RowKey) → broken_where (not t) key ≡ None → t ≡ true
not_kept true key e = refl
not_kept false key e = absurd cc

-- ---- numbers below the next
all_of : {X : Type 0} (test : X → Bool) (P : X → Type 0) → ((x : X) → test x ≡ true → P x) → (xs : List X)
    → list_all test xs ≡ true → All P xs
all_of test P means [] e = All-nil P
all_of test P means (x ∷ xs) e =
    let both = and_both (test x) (list_all test xs) e in
    All-cons P x xs (means x both.0) (all_of test P means xs both.1)

of_all : {X : Type 0} (test : X → Bool) (P : X → Type 0) → ((x : X) → P x → test x ≡ true) → (xs : List X)
    → All P xs → list_all test xs ≡ true
of_all test P means [] h = refl
of_all test P means (x ∷ xs) h =
    both_true (test x) (list_all test xs) (means x (All-head P x xs h)) (of_all test P means xs (All-tail P x xs h))

entries_below : {T : Type 0} (next : ℕ) (es : List (ℕ × T)) → are_below next es ≡ true → All (λ e. e.0 < next) es
entries_below {T} next es e =
    all_of (λ (x : ℕ × T). nat_lt x.0 next) (λ (x : ℕ × T). x.0 < next) (λ x t. below_of x.0 next t) es e

below_entries : {T : Type 0} (next : ℕ) (es : List (ℕ × T)) → All (λ e. e.0 < next) es → are_below next es ≡ true
below_entries {T} next es h =
    of_all (λ (x : ℕ × T). nat_lt x.0 next) (λ (x : ℕ × T). x.0 < next) (λ x t. of_below x.0 next t) es h

-- A book without an unsound key is sound, and its numbers are drawn.
pub sound_where_none :
    (book : Book) (next : ℕ) → IsRising book → first_unsound book next ≡ None → IsSoundBook book × AreDrawn book next
sound_where_none book next rise none =
    let kept = kept_of (unsound_keys book next) none in
    let head = hold_of (head_rules book next)
    (not_kept (all_hold (head_rules book next)) (record { kind = 1; id = 0 }) kept.0) in
    let commodities = no_key 2 (first_of_table (commodity_rules book.commodities) 10000 book.commodities) kept.1.0 in
    let accounts = no_key 3 (first_of_table (account_rules book.commodities book.accounts) 10000 book.accounts)
    kept.1.1.0 in
    let transactions = no_key 4
    (first_in (marked_transaction_rules book.commodities book.accounts book.reconciliations book.transactions)
    200000 splits_in 1000000 0 0 book.transactions) kept.1.1.1.0 in
    let fine = fine_of (marked_transaction_rules book.commodities book.accounts book.reconciliations book.transactions)
    200000 splits_in 1000000 0 0 book.transactions (omega arith) (omega arith) transactions in
    let prices = no_key 5
    (first_of_table (price_rules book.commodities book.prices) 1000000 book.prices) kept.1.1.1.1.0 in
    let schedules = no_key 6 (first_of_table (schedule_rules book.commodities book.accounts) 1000 book.schedules)
    kept.1.1.1.1.1.0 in
    let statements = no_key 7
    (first_of_table (statement_rules book.accounts book.statements) 100000 book.statements) kept.1.1.1.1.1.1.0 in
    let lines = no_key 8
    (first_of_table (line_rules book.accounts book.statements book.transactions book.lines) 1000000 book.lines)
    kept.1.1.1.1.1.1.1.0 in
    let bindings = no_key 9 (first_of_table (binding_rules book.accounts book.bindings) 10000 book.bindings)
    kept.1.1.1.1.1.1.1.1.0 in
    let reconciliations = no_key 10
    (first_of_table (reconciliation_rules book.accounts) 100000 book.reconciliations) kept.1.1.1.1.1.1.1.1.1.0 in (
      record {
        commodities = table_sound
            (commodity_rules book.commodities) 10000 book.commodities rise.commodities commodities;
        accounts = table_sound (account_rules book.commodities book.accounts) 10000 book.accounts rise.accounts
            accounts;
        transactions = record {
          rise = rise.transactions;
          keep = record {
            each = each_of
                (marked_transaction_rules book.commodities book.accounts book.reconciliations book.transactions)
                book.transactions fine.keep;
          };
          few = (let few = fine.few in omega (arith, few));
        };
        prices = table_sound (price_rules book.commodities book.prices) 1000000 book.prices rise.prices prices;
        schedules = table_sound (schedule_rules book.commodities book.accounts) 1000 book.schedules rise.schedules
            schedules;
        statements = table_sound
            (statement_rules book.accounts book.statements) 100000 book.statements rise.statements statements;
        lines = table_sound
            (line_rules book.accounts book.statements book.transactions book.lines) 1000000 book.lines rise.lines lines;
        bindings = table_sound (binding_rules book.accounts book.bindings) 10000 book.bindings rise.bindings bindings;
        reconciliations = table_sound
            (reconciliation_rules book.accounts) 100000 book.reconciliations rise.reconciliations reconciliations;
        few_splits = (let light = fine.light in let weigh = splits_weigh book.transactions in omega
            (arith, light, weigh));
        root = head.1.0;
        currency = head.0;
      },
      record {
        commodities = entries_below next book.commodities (true_of _ head.1.1.0);
        accounts = entries_below next book.accounts (true_of _ head.1.1.1.0);
        transactions = entries_below next book.transactions (true_of _ head.1.1.1.1.0);
        prices = entries_below next book.prices (true_of _ head.1.1.1.1.1.0);
        schedules = entries_below next book.schedules (true_of _ head.1.1.1.1.1.1.0);
        statements = entries_below next book.statements (true_of _ head.1.1.1.1.1.1.1.0);
        lines = entries_below next book.lines (true_of _ head.1.1.1.1.1.1.1.1.0);
        bindings = entries_below next book.bindings (true_of _ head.1.1.1.1.1.1.1.1.1.0);
        reconciliations = entries_below next book.reconciliations (true_of _ head.1.1.1.1.1.1.1.1.1.1.0);
        splits = all_of (λ (x : Split). nat_lt x.id next) (λ (x : Split). x.id < next) (λ x t. below_of x.id next t)
            (splits_of book.transactions) (true_of _ head.1.1.1.1.1.1.1.1.1.1.1.0);
        marked = all_of (λ (e : ℕ × Recon). list_all (λ (m : MarkedSplit). nat_lt m.split next) e.1.marked)
            (λ (e : ℕ × Recon). All (λ (m : MarkedSplit). m.split < next) e.1.marked)
            (λ e t. all_of (λ (m : MarkedSplit). nat_lt m.split next) (λ (m : MarkedSplit). m.split < next)
            (λ m u. below_of m.split next u) e.1.marked t) book.reconciliations
            (true_of _ head.1.1.1.1.1.1.1.1.1.1.1.1.0);
        made = all_of (λ (e : ℕ × Schedule). nat_lt e.1.timing.made next) (λ (e : ℕ × Schedule). e.1.timing.made < next)
            (λ e t. below_of e.1.timing.made next t) book.schedules (true_of _ head.1.1.1.1.1.1.1.1.1.1.1.1.1.0);
      },
    )

-- A sound book whose numbers are drawn has no unsound key.
pub none_where_sound :
    (book : Book) (next : ℕ) → IsSoundBook book → AreDrawn book next → first_unsound book next ≡ None
none_where_sound book next sound drawn =
    let splits = of_all (λ (x : Split). nat_lt x.id next) (λ (x : Split). x.id < next) (λ x t. of_below x.id next t)
    (splits_of book.transactions) drawn.splits in
    let marked = of_all (λ (e : ℕ × Recon). list_all (λ (m : MarkedSplit). nat_lt m.split next) e.1.marked)
    (λ (e : ℕ × Recon). All (λ (m : MarkedSplit). m.split < next) e.1.marked)
    (λ e t. of_all (λ (m : MarkedSplit). nat_lt m.split next) (λ (m : MarkedSplit). m.split < next)
    (λ m u. of_below m.split next u) e.1.marked t) book.reconciliations drawn.marked in
    let made = of_all (λ (e : ℕ × Schedule). nat_lt e.1.timing.made next) (λ (e : ℕ × Schedule). e.1.timing.made < next)
    (λ e t. of_below e.1.timing.made next t) book.schedules drawn.made in
    let head : all_hold (head_rules book next) ≡ true =
    both_true _ _ (true_of _ sound.currency) (both_true _ _ (true_of _ sound.root)
    (both_true _ _ (below_entries next book.commodities drawn.commodities)
    (both_true _ _ (below_entries next book.accounts drawn.accounts)
    (both_true _ _ (below_entries next book.transactions drawn.transactions)
    (both_true _ _ (below_entries next book.prices drawn.prices)
    (both_true _ _ (below_entries next book.schedules drawn.schedules)
    (both_true _ _ (below_entries next book.statements drawn.statements)
    (both_true _ _ (below_entries next book.lines drawn.lines)
    (both_true _ _ (below_entries next book.bindings drawn.bindings)
    (both_true _ _ (below_entries next book.reconciliations drawn.reconciliations)
    (both_true _ _ splits (both_true _ _ marked (both_true _ _ made refl))))))))))))) in
    let txn_rules = marked_transaction_rules book.commodities book.accounts book.reconciliations book.transactions in
    let few = sound.transactions.few in
    let few_splits = sound.few_splits in
    let weigh = splits_weigh book.transactions in
    let moved = key_none 4 _ (none_of txn_rules 200000 splits_in 1000000 0 0 book.transactions (omega (arith, few))
    (omega (arith, few_splits, weigh))
    (keep_of txn_rules book.transactions sound.transactions.rise sound.transactions.keep.each)) in
    let key = ap (λ (t : Bool). broken_where (not t) (record { kind = 1; id = 0 })) head in
    let commodities = key_none 2 _ (table_none (commodity_rules book.commodities) 10000 book.commodities
    sound.commodities) in
    let accounts = key_none 3 _ (table_none (account_rules book.commodities book.accounts) 10000 book.accounts
    sound.accounts) in
    let prices = key_none 5 _ (table_none (price_rules book.commodities book.prices) 1000000 book.prices
    sound.prices) in
    let schedules = key_none 6 _ (table_none (schedule_rules book.commodities book.accounts) 1000 book.schedules
    sound.schedules) in
    let statements = key_none 7 _ (table_none (statement_rules book.accounts book.statements) 100000 book.statements
    sound.statements) in
    let lines = key_none 8 _ (table_none
    (line_rules book.accounts book.statements book.transactions book.lines) 1000000 book.lines sound.lines) in
    let bindings = key_none 9 _ (table_none (binding_rules book.accounts book.bindings) 10000 book.bindings
    sound.bindings) in
    let listed = key_none 10 _ (table_none (reconciliation_rules book.accounts) 100000 book.reconciliations
    sound.reconciliations) in
    none_broken (unsound_keys book next)
    (key, (commodities, (accounts, (moved, (prices, (schedules, (statements, (lines, (bindings, (listed, tt))))))))))
