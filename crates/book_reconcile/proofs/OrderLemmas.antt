-- Splits in the order of their days: a stable sort gives what the definition says, and no sum depends on the order.
use Rattle.std.proofs.Common.{◌≡◌, ℕ, suc, ◌<◌, ℤ, pos, ◌+ℤ◌, ◌≤ℤ◌, ◌<ℤ◌, Bool, true, false, if◌then◌else◌, not, ◌&&◌}
use Rattle.std.proofs.Common.{List, [], ◌∷◌, length, get_or, filter, map, refl, sym, ap, subst, ◌∙◌, add-one, arith}
use Rattle.std.proofs.Math.IntN.{+ℤ_assoc, +ℤ_comm}
use Rattle.std.proofs.lemmas.Int.{by_lt_z, ints}
use Rattle.std.specs.List.Sorted.{IsSortedByKey, IsStableByKey}
use Rattle.std.specs.Ordering.{int_cmp, is_lt}
use Rattle.std.specs.declared.cmp.Ordering.TheVariants.{Less, Equal, Greater}
use Rattle.std.specs.Prelude.{int_lt}
use Rattle.std.specs.List.{flat_map}
use Rattle.book_splits.specs.Balance.{splits_of, total}
use Rattle.book_splits.specs.declared.reconciliation.MarkedSplit.{MarkedSplit}
use Rattle.book_splits.specs.declared.split.Mark.TheVariants.{Cleared}
use Rattle.book_splits.specs.declared.transaction.Txn.{Txn}
use Rattle.book_reconcile.specs.Reconciliation.{balance_with, by_day, dated_splits, difference, opening}
use Rattle.book_reconcile.specs.Reconciliation.{splits_to_mark, until, with_dated}
use Rattle.book_reconcile.proofs.SumLemmas.{dated-total}

abbrev Row : Type 0
Row = ℤ × MarkedSplit

abbrev day_of : Row → ℤ
day_of row = row.0

-- every row is on or after a day
abbrev AllFrom : ℤ → List Row → Type 0
AllFrom day [] = Unit
AllFrom day (row ∷ rows) = (day ≤ℤ row.0) × AllFrom day rows

-- no row is on an earlier day than one before it
abbrev Ascends : List Row → Type 0
Ascends [] = Unit
Ascends (row ∷ rows) = AllFrom row.0 rows × Ascends rows

-- two rows are of one day
abbrev tie : Row → Row → Bool
tie x y = not (int_lt x.0 y.0) && not (int_lt y.0 x.0)

from-earlier : (a b : ℤ) (rows : List Row) → a ≤ℤ b → AllFrom b rows → AllFrom a rows
from-earlier a b [] le all = tt
from-earlier a b (row ∷ rows) le all = (omega (arith, ints, le, all.0), from-earlier a b rows le all.1)

-- ---- the definition's order
with-from : (day : ℤ) (row : Row) (rows : List Row) → day ≤ℤ row.0 → AllFrom day rows
    → AllFrom day (with_dated row rows)
with-from day row [] le all = (le, tt)
with-from day row (first ∷ more) le all =
    let P : Bool → Type 0 = λ t. AllFrom day (if t then first ∷ with_dated row more else row ∷ first ∷ more) in
    elim (int_lt first.0 row.0) as P [
      | true ↦ (all.0, with-from day row more le all.1)
      | false ↦ (le, all)
    ]

with-ascends : (row : Row) (rows : List Row) → Ascends rows → Ascends (with_dated row rows)
with-ascends row [] up = (tt, tt)
with-ascends row (first ∷ more) up =
    let P : Bool → Type 0 = λ t. int_lt first.0 row.0 ≡ t
    → Ascends (if t then first ∷ with_dated row more else row ∷ first ∷ more) in
    elim (int_lt first.0 row.0) as P [
      | true ↦ λ is.
          let le : first.0 ≤ℤ row.0 = grind (arith, ints, is) in
          (with-from first.0 row more le up.0, with-ascends row more up.1)
      | false ↦ λ is.
          let le : row.0 ≤ℤ first.0 = grind (arith, ints, is) in
          ((le, from-earlier row.0 first.0 more le up.0), up)
    ] refl

pub by_day-ascends : (rows : List Row) → Ascends (by_day rows)
by_day-ascends [] = tt
by_day-ascends (row ∷ rows) = with-ascends row (by_day rows) (by_day-ascends rows)

-- the rows of one day stand as they did
with-ties : (x row : Row) (rows : List Row) → filter (tie x) (with_dated row rows) ≡ filter (tie x) (row ∷ rows)
with-ties x row [] = refl
with-ties x row (first ∷ more) =
    let P : Bool → Type 0 = λ t. int_lt first.0 row.0 ≡ t
    → filter (tie x) (if t then first ∷ with_dated row more else row ∷ first ∷ more)
    ≡ filter (tie x) (row ∷ first ∷ more) in
    elim (int_lt first.0 row.0) as P [
      | true ↦ λ is. passed (tie x first) (tie x row) refl refl (with-ties x row more) is
      | false ↦ λ is. refl
    ] refl
  where
    passed : (s t : Bool) → tie x first ≡ s → tie x row ≡ t
        → filter (tie x) (with_dated row more) ≡ filter (tie x) (row ∷ more) → int_lt first.0 row.0 ≡ true
        → filter (tie x) (first ∷ with_dated row more) ≡ filter (tie x) (row ∷ first ∷ more)
    passed true true a b more_is less = absurd (let both : ⊥ = grind (arith, ints, a, b, less) in both)
    passed true false a b more_is less = grind (arith, a, b, more_is)
    passed false true a b more_is less = grind (arith, a, b, more_is)
    passed false false a b more_is less = grind (arith, a, b, more_is)

pub by_day-ties : (x : Row) (rows : List Row) → filter (tie x) (by_day rows) ≡ filter (tie x) rows
by_day-ties x [] = refl
by_day-ties x (row ∷ rows) =
    with-ties x row (by_day rows)
    ∙ ap (λ l. if tie x row then row ∷ l else l) (by_day-ties x rows)

-- ---- rows in order, with the same rows on each day, are the same
none-ties : (x : Row) (day : ℤ) (rows : List Row) → x.0 <ℤ day → AllFrom day rows → filter (tie x) rows ≡ []
none-ties x day [] less all = refl
none-ties x day (row ∷ rows) less all =
    let other : tie x row ≡ false = grind (arith, ints, less, all.0) in
    ap (λ (t : Bool). if t then row ∷ filter (tie x) rows else filter (tie x) rows) other
    ∙ none-ties x day rows less all.1

own-tie : (x : Row) → tie x x ≡ true
own-tie x = grind (arith, ints)

own-first : (x y : Row) (rows : List Row) → x.0 ≡ y.0 → filter (tie x) (y ∷ rows) ≡ y ∷ filter (tie x) rows
own-first x y rows same =
    let ties : tie x y ≡ true = grind (arith, ints, same) in
    ap (λ (t : Bool). if t then y ∷ filter (tie x) rows else filter (tie x) rows) ties

cons_not_nil : (x : Row) (rows : List Row) → x ∷ rows ≡ [] → ⊥
cons_not_nil x rows e = cc

heads : (x y : Row) (xs ys : List Row) → x ∷ xs ≡ y ∷ ys → x ≡ y
heads x y xs ys e = cc

tails : (x : Row) (xs ys : List Row) → x ∷ xs ≡ x ∷ ys → xs ≡ ys
tails x xs ys e = cc

rest-ties : (t : Bool) (x : Row) (xs ys : List Row) → (if t then x ∷ xs else xs) ≡ (if t then x ∷ ys else ys) → xs ≡ ys
rest-ties true x xs ys e = tails x xs ys e
rest-ties false x xs ys e = e

pub same-rows : (xs ys : List Row) → Ascends xs → Ascends ys
    → ((x : Row) → filter (tie x) xs ≡ filter (tie x) ys) → xs ≡ ys
same-rows [] [] up on ties = refl
same-rows [] (y ∷ ys) up on ties =
    absurd (cons_not_nil y (filter (tie y) ys) (sym (own-first y y ys refl) ∙ sym (ties y)))
same-rows (x ∷ xs) [] up on ties =
    absurd (cons_not_nil x (filter (tie x) xs) (sym (own-first x x xs refl) ∙ ties x))
same-rows (x ∷ xs) (y ∷ ys) up on ties =
    by_lt_z x.0 y.0
    (λ less. absurd (cons_not_nil x (filter (tie x) xs) (sym (own-first x x xs refl) ∙ ties x
    ∙ none-ties x y.0 (y ∷ ys) less (omega (arith, ints), on.0))))
    (λ ge. by_lt_z y.0 x.0
    (λ less. absurd (cons_not_nil y (filter (tie y) ys) (sym (own-first y y ys refl) ∙ sym (ties y)
    ∙ none-ties y x.0 (x ∷ xs) less (omega (arith, ints), up.0))))
    (λ le.
    let is : x ≡ y = heads x y (filter (tie x) xs) (filter (tie x) ys) (sym (own-first x x xs refl) ∙ ties x
    ∙ own-first x y ys (omega (arith, ints, ge, le))) in
    let more : xs ≡ ys = same-rows xs ys up.1 on.1 (λ z. rest-ties (tie z x) x _ _
    (ties z ∙ ap (λ (r : Row). filter (tie z) (r ∷ ys)) (sym is))) in
    ap (λ l. x ∷ l) more ∙ ap (λ (r : Row). r ∷ ys) is))

-- ---- what a stable sort by day gives
sorted-from : (x : Row) (rows : List Row) (d : Row)
    → ((k : ℕ) → suc k < length (x ∷ rows) → (get_or (x ∷ rows) k d).0 ≤ℤ (get_or (x ∷ rows) (suc k) d).0)
    → AllFrom x.0 rows
sorted-from x [] d up = tt
sorted-from x (y ∷ ys) d up =
    let first : x.0 ≤ℤ y.0 = up 0 (omega arith) in
    (first, from-earlier x.0 y.0 ys first (sorted-from y ys d (λ k lt. up (suc k) (omega (arith, lt)))))

sorted-ascends : (rows : List Row) (d : Row)
    → ((k : ℕ) → suc k < length rows → (get_or rows k d).0 ≤ℤ (get_or rows (suc k) d).0) → Ascends rows
sorted-ascends [] d up = tt
sorted-ascends (x ∷ rows) d up =
    (sorted-from x rows d up, sorted-ascends rows d (λ k lt. up (suc k) (omega (arith, lt))))

not-less : (x y : ℤ) → is_lt (int_cmp y x) ≡ false → x ≤ℤ y
not-less x y h = by_lt_z y x (λ less. absurd (let is : int_lt y x ≡ true = grind (arith, ints, less) in
    no (int_lt y x) (int_lt x y) is h)) (λ ge. ge)
  where
    no : (s t : Bool) → s ≡ true → is_lt (if s then Less else (if t then Greater else Equal)) ≡ false → ⊥
    no true t e f = cc
    no false t e f = cc

lt-of : (x y : ℤ) → is_lt (int_cmp x y) ≡ int_lt x y
lt-of x y = by_test (int_lt x y) (int_lt y x)
  where
    by_test : (s t : Bool) → is_lt (if s then Less else (if t then Greater else Equal)) ≡ s
    by_test true t = refl
    by_test false true = refl
    by_test false false = refl

-- the same test of two rows, as a sort's contract has it
abbrev sort-tie : Row → Row → Bool
sort-tie x y = not (is_lt (int_cmp x.0 y.0)) && not (is_lt (int_cmp y.0 x.0))

tie-of : (x y : Row) → sort-tie x y ≡ tie x y
tie-of x y =
    ap (λ (t : Bool). not t && not (is_lt (int_cmp y.0 x.0))) (lt-of x.0 y.0)
    ∙ ap (λ (t : Bool). not (int_lt x.0 y.0) && not t) (lt-of y.0 x.0)

ties-of : (x : Row) (rows : List Row) → filter (sort-tie x) rows ≡ filter (tie x) rows
ties-of x [] = refl
ties-of x (row ∷ rows) =
    ap (λ (t : Bool). if t then row ∷ filter (sort-tie x) rows else filter (sort-tie x) rows) (tie-of x row)
    ∙ ap (λ l. if tie x row then row ∷ l else l) (ties-of x rows)

-- what a stable sort by day leaves is the definition's order
pub sorted-is : (before after : List Row) (d : Row) → IsSortedByKey day_of int_cmp after
    → IsStableByKey day_of int_cmp before after → after ≡ by_day before
sorted-is before after d up stable =
    same-rows after (by_day before)
    (sorted-ascends after d (λ k lt. not-less (get_or after k d).0 (get_or after (suc k) d).0
    (subst (λ (n : ℕ). is_lt (int_cmp (get_or after n d).0 (get_or after k d).0) ≡ false) (add-one k)
    (up k d (omega arith) (omega (arith, lt))))))
    (by_day-ascends before)
    (λ x. sym (ties-of x after) ∙ stable x ∙ ties-of x before ∙ sym (by_day-ties x before))

-- ---- the sum over marked splits doesn't depend on their order
abbrev quantities : List Row → List ℤ
quantities rows = map (λ split. split.quantity) (map (λ row. row.1) rows)

with-total : (row : Row) (rows : List Row)
    → total (quantities (with_dated row rows)) ≡ row.1.quantity +ℤ total (quantities rows)
with-total row [] = refl
with-total row (first ∷ more) =
    let P : Bool → Type 0 = λ t. total (quantities (if t then first ∷ with_dated row more else row ∷ first ∷ more))
    ≡ row.1.quantity +ℤ (first.1.quantity +ℤ total (quantities more)) in
    elim (int_lt first.0 row.0) as P [
      | true ↦ ap (λ z. first.1.quantity +ℤ z) (with-total row more)
          ∙ sym (+ℤ_assoc first.1.quantity row.1.quantity (total (quantities more)))
          ∙ ap (λ z. z +ℤ total (quantities more)) (+ℤ_comm first.1.quantity row.1.quantity)
          ∙ +ℤ_assoc row.1.quantity first.1.quantity (total (quantities more))
      | false ↦ refl
    ]

pub by_day-total : (rows : List Row) → total (quantities (by_day rows)) ≡ total (quantities rows)
by_day-total [] = refl
by_day-total (row ∷ rows) = with-total row (by_day rows) ∙ ap (λ z. row.1.quantity +ℤ z) (by_day-total rows)

-- a reconciliation without a difference closes at its closing balance
pub closes : (account : ℕ) (day closing : ℤ) (ts : List (ℕ × Txn)) → difference account day closing ts ≡ pos 0
    → opening account ts +ℤ total (map (λ split. split.quantity) (splits_to_mark account day ts)) ≡ closing
closes account day closing ts none =
    let marked : total (map (λ split. split.quantity) (splits_to_mark account day ts))
    ≡ balance_with Cleared account (splits_of (until day ts)) =
    by_day-total (flat_map (λ (entry : ℕ × Txn). dated_splits account entry.1) (until day ts))
    ∙ dated-total account (until day ts) in
    omega (arith, ints, marked, none)
