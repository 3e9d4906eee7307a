-- The rows of a register that a reconciliation marks are the splits that it marks, in their order.
use Rattle.std.proofs.Common.{◌≡◌, ℕ, ◌+◌, ◌<◌, ◌==◌, nat_lt, ℤ, ◌≤ℤ◌, int_le, Bool, true, false, cond, if◌then◌else◌}
use Rattle.std.proofs.Common.{◌&&◌, List, [], ◌∷◌, ◌++◌, filter, map, refl, sym, ap, ◌∙◌, arith}
use Rattle.std.specs.Prelude.{⊤, int_lt}
use Rattle.std.specs.List.{flat_map}
use Rattle.std.proofs.lemmas.Bool.Decides.{nat_tests}
use Rattle.std.proofs.lemmas.Int.{ints}
use Rattle.std.proofs.lemmas.List.{map-append}
use Rattle.std.proofs.lemmas.List.Elements.{filter-append}
use Rattle.book_commodity.specs.Table.{AllAbove, Rises}
use Rattle.book_splits.specs.Balance.{counts_on}
use Rattle.book_splits.specs.TransactionRules.{is_voided}
use Rattle.book_splits.specs.declared.reconciliation.MarkedSplit.{MarkedSplit}
use Rattle.book_splits.specs.declared.split.Mark.TheVariants as mark
use Rattle.book_splits.specs.declared.split.Split.{Split}
use Rattle.book_splits.specs.declared.transaction.Txn.{Txn}
use Rattle.book_reconcile.specs.Reconciliation.{by_day, dated_splits, has_mark, is_mark, marked, splits_to_mark, until}
use Rattle.book_reconcile.specs.Reconciliation.{with_dated}
use Rattle.book_register.specs.Register.{key_of, precedes}
use Rattle.book_register.specs.declared.entry.Entry.{Entry}
use Rattle.book_ledger.specs.Ledger.{mark_of, register_of, row_of, rows_from, rows_on, sorted, with_row}
use Rattle.book_finish.specs.Kept.{is_cleared_alone, is_row_to_mark, marked_in, row_marked}
use Rattle.book_finish.proofs.SumLemmas.{cleared-ties, counted-mark}

abbrev Row : Type 0
Row = ℤ × MarkedSplit

abbrev dated : Entry → Row
dated row = (row.day, row_marked row)

-- the rows that are marked, each behind its day
abbrev dated_in : ℤ → List Entry → List Row
dated_in day rows = map dated (filter (is_row_to_mark day) rows)

-- ---- rows by transaction and place

-- one row stands behind another by transaction and place: not before it
abbrev is_before : Entry → Entry → Bool
is_before x y =
    if nat_lt x.txn y.txn then true else (if nat_lt y.txn x.txn then false else nat_lt x.place y.place)

abbrev NoneBefore : Entry → List Entry → Type 0
NoneBefore row [] = ⊤
NoneBefore row (first ∷ more) = (is_before first row ≡ false) × NoneBefore row more

abbrev AreInTurn : List Entry → Type 0
AreInTurn [] = ⊤
AreInTurn (row ∷ more) = NoneBefore row more × AreInTurn more

-- so of these it is the day that decides
by-day-alone : (first row : Entry) → is_before first row ≡ false
    → precedes (key_of first) (key_of row) ≡ int_lt first.day row.day
by-day-alone first row none = here (int_lt first.day row.day) (int_lt row.day first.day)
  where
    here : (s t : Bool)
        → (if s then true else (if t then false else is_before first row)) ≡ s
    here true t = refl
    here false true = refl
    here false false = none

none-with : (row other : Entry) (rows : List Entry) → is_before other row ≡ false → NoneBefore row rows
    → NoneBefore row (with_row other rows)
none-with row other [] one all = (one, tt)
none-with row other (first ∷ more) one all =
    elim (precedes (key_of first) (key_of other)) as
    (λ t. NoneBefore row (cond t (first ∷ with_row other more) (other ∷ first ∷ more))) [
      | true ↦ (all.0, none-with row other more one all.1)
      | false ↦ (one, all)
    ]

none-sorted : (row : Entry) (rows : List Entry) → NoneBefore row rows → NoneBefore row (sorted rows)
none-sorted row [] all = tt
none-sorted row (other ∷ rows) all = none-with row other (sorted rows) all.0 (none-sorted row rows all.1)

-- ---- rows by day

abbrev AllFrom : ℤ → List Entry → Type 0
AllFrom day [] = ⊤
AllFrom day (row ∷ more) = (day ≤ℤ row.day) × AllFrom day more

abbrev Ascends : List Entry → Type 0
Ascends [] = ⊤
Ascends (row ∷ more) = AllFrom row.day more × Ascends more

from-earlier : (a b : ℤ) (rows : List Entry) → a ≤ℤ b → AllFrom b rows → AllFrom a rows
from-earlier a b [] le all = tt
from-earlier a b (row ∷ rows) le all = (omega (arith, ints, le, all.0), from-earlier a b rows le all.1)

with-from : (day : ℤ) (row : Entry) (rows : List Entry) → day ≤ℤ row.day → AllFrom day rows
    → AllFrom day (with_row row rows)
with-from day row [] le all = (le, tt)
with-from day row (first ∷ more) le all =
    elim (precedes (key_of first) (key_of row)) as
    (λ t. AllFrom day (cond t (first ∷ with_row row more) (row ∷ first ∷ more))) [
      | true ↦ (all.0, with-from day row more le all.1)
      | false ↦ (le, all)
    ]

with-ascends : (row : Entry) (rows : List Entry) → NoneBefore row rows → Ascends rows → Ascends (with_row row rows)
with-ascends row [] none up = (tt, tt)
with-ascends row (first ∷ more) none up =
    let same = by-day-alone first row none.0 in
    let Goal : Bool → Type 0 = λ t. precedes (key_of first) (key_of row) ≡ t
    → Ascends (cond t (first ∷ with_row row more) (row ∷ first ∷ more)) in
    elim (precedes (key_of first) (key_of row)) as Goal [
      | true ↦ λ is.
          let less : int_lt first.day row.day ≡ true = sym same ∙ is in
          let le : first.day ≤ℤ row.day = grind (arith, ints, less) in
          (with-from first.day row more le up.0, with-ascends row more none.1 up.1)
      | false ↦ λ is.
          let more_day : int_lt first.day row.day ≡ false = sym same ∙ is in
          let le : row.day ≤ℤ first.day = grind (arith, ints, more_day) in
          ((le, from-earlier row.day first.day more le up.0), up)
    ] refl

sorted-ascends : (rows : List Entry) → AreInTurn rows → Ascends (sorted rows)
sorted-ascends [] turn = tt
sorted-ascends (row ∷ rows) turn =
    with-ascends row (sorted rows) (none-sorted row rows turn.0) (sorted-ascends rows turn.1)

-- ---- a row among those that are marked

-- a row on no later day stands at the front
with-front : (day : ℤ) (row : Row) (rows : List Entry) → AllFrom row.0 rows
    → with_dated row (dated_in day rows) ≡ row ∷ dated_in day rows
with-front day row [] all = refl
with-front day row (first ∷ more) all =
    elim (is_row_to_mark day first) as
    (λ t. with_dated row (map dated (if t then first ∷ filter (is_row_to_mark day) more
    else filter (is_row_to_mark day) more)) ≡ row ∷ map dated (if t then first ∷ filter (is_row_to_mark day) more
    else filter (is_row_to_mark day) more)) [
      | true ↦
          let other : int_lt first.day row.0 ≡ false = grind (arith, ints, all.0) in
          ap (λ (b : Bool). if b then dated first ∷ with_dated row (dated_in day more)
          else row ∷ dated first ∷ dated_in day more) other
      | false ↦ with-front day row more all.1
    ]

marked-with : (day : ℤ) (row : Entry) (rows : List Entry) → NoneBefore row rows → Ascends rows
    → dated_in day (with_row row rows)
    ≡ (if is_row_to_mark day row then with_dated (dated row) (dated_in day rows) else dated_in day rows)
marked-with day row [] none up =
    elim (is_row_to_mark day row) as
    (λ t. map dated (if t then row ∷ [] else []) ≡ (if t then with_dated (dated row) [] else [])) [
      | true ↦ refl
      | false ↦ refl
    ]
marked-with day row (first ∷ more) none up =
    let test = is_row_to_mark day in
    let Goal : Bool → Type 0 = λ t. int_lt first.day row.day ≡ t
    → dated_in day (cond t (first ∷ with_row row more) (row ∷ first ∷ more))
    ≡ (if test row then with_dated (dated row) (dated_in day (first ∷ more)) else dated_in day (first ∷ more)) in
    ap (λ (t : Bool). dated_in day (cond t (first ∷ with_row row more) (row ∷ first ∷ more)))
    (by-day-alone first row none.0)
    ∙ (elim (int_lt first.day row.day) as Goal [
      | true ↦ λ is. earlier is (marked-with day row more none.1 up.1)
      | false ↦ λ is.
          let le : row.day ≤ℤ first.day = grind (arith, ints, is) in
          let front = with-front day (dated row) (first ∷ more) (le, from-earlier row.day first.day more le up.0) in
          later (test row) front
    ] refl)
  where
    earlier : int_lt first.day row.day ≡ true
        → dated_in day (with_row row more)
        ≡ (if is_row_to_mark day row then with_dated (dated row) (dated_in day more) else dated_in day more)
        → dated_in day (first ∷ with_row row more)
        ≡ (if is_row_to_mark day row then with_dated (dated row) (dated_in day (first ∷ more))
        else dated_in day (first ∷ more))
    earlier is rest = either (is_row_to_mark day first) (is_row_to_mark day row) rest
      where
        either : (s t : Bool)
            → dated_in day (with_row row more)
            ≡ (if t then with_dated (dated row) (dated_in day more) else dated_in day more)
            → map dated (if s then first ∷ filter (is_row_to_mark day) (with_row row more)
            else filter (is_row_to_mark day) (with_row row more))
            ≡ (if t then with_dated (dated row) (map dated (if s then first ∷ filter (is_row_to_mark day) more
            else filter (is_row_to_mark day) more))
            else map dated (if s then first ∷ filter (is_row_to_mark day) more else filter (is_row_to_mark day) more))
        either true true same =
            ap (λ (l : List Row). dated first ∷ l) same
            ∙ ap (λ (b : Bool). if b then dated first ∷ with_dated (dated row) (dated_in day more)
            else dated row ∷ dated first ∷ dated_in day more) (sym is)
        either true false same = ap (λ (l : List Row). dated first ∷ l) same
        either false t same = same

    later : (t : Bool)
        → with_dated (dated row) (dated_in day (first ∷ more)) ≡ dated row ∷ dated_in day (first ∷ more)
        → map dated (if t then row ∷ filter (is_row_to_mark day) (first ∷ more)
        else filter (is_row_to_mark day) (first ∷ more))
        ≡ (if t then with_dated (dated row) (dated_in day (first ∷ more)) else dated_in day (first ∷ more))
    later true front = sym front
    later false front = refl

marked-sorted : (day : ℤ) (rows : List Entry) → AreInTurn rows → dated_in day (sorted rows) ≡ by_day (dated_in day rows)
marked-sorted day [] turn = refl
marked-sorted day (row ∷ rows) turn =
    marked-with day row (sorted rows) (none-sorted row rows turn.0) (sorted-ascends rows turn.1)
    ∙ ap (λ (l : List Row). if is_row_to_mark day row then with_dated (dated row) l else l)
    (marked-sorted day rows turn.1)
    ∙ either (is_row_to_mark day row)
  where
    either : (t : Bool)
        → (if t then with_dated (dated row) (by_day (dated_in day rows)) else by_day (dated_in day rows))
        ≡ by_day (map dated (if t then row ∷ filter (is_row_to_mark day) rows else filter (is_row_to_mark day) rows))
    either true = refl
    either false = refl

-- ---- the rows of an account stand in turn

abbrev AllOver : ℕ → List Entry → Type 0
AllOver number [] = ⊤
AllOver number (row ∷ more) = (number < row.txn) × AllOver number more

over-append : (number : ℕ) (xs ys : List Entry) → AllOver number xs → AllOver number ys → AllOver number (xs ++ ys)
over-append number [] ys one two = two
over-append number (x ∷ xs) ys one two = (one.0, over-append number xs ys one.1 two)

over-from : (number account other : ℕ) (t : Txn) (place : ℕ) (splits : List Split) → number < other
    → AllOver number (rows_from account other t place splits)
over-from number account other t place [] less = tt
over-from number account other t place (s ∷ splits) less =
    let later = rows_from account other t (place + 1) splits in
    let rest = over-from number account other t (place + 1) splits less in
    elim (counts_on account s) as (λ b. AllOver number (if b then row_of other t place s ∷ later else later)) [
      | true ↦ (less, rest)
      | false ↦ rest
    ]

over-on : (number account : ℕ) (ts : List (ℕ × Txn)) → AllAbove number ts → AllOver number (rows_on account ts)
over-on number account [] above = tt
over-on number account (e ∷ es) above =
    over-append number (rows_from account e.0 e.1 0 e.1.splits) (rows_on account es)
    (over-from number account e.0 e.1 0 e.1.splits above.0) (over-on number account es above.1)

none-over : (row : Entry) (rows : List Entry) → AllOver row.txn rows → NoneBefore row rows
none-over row [] over = tt
none-over row (first ∷ more) over = (grind (arith, nat_tests, over.0), none-over row more over.1)

none-append : (row : Entry) (xs ys : List Entry) → NoneBefore row xs → NoneBefore row ys → NoneBefore row (xs ++ ys)
none-append row [] ys one two = two
none-append row (x ∷ xs) ys one two = (one.0, none-append row xs ys one.1 two)

none-from : (row : Entry) (account : ℕ) (t : Txn) (place : ℕ) (splits : List Split) → row.place < place
    → NoneBefore row (rows_from account row.txn t place splits)
none-from row account t place [] less = tt
none-from row account t place (s ∷ splits) less =
    let later = rows_from account row.txn t (place + 1) splits in
    let first = row_of row.txn t place s in
    let rest = none-from row account t (place + 1) splits (omega (arith, less)) in
    let none : is_before first row ≡ false = grind (arith, nat_tests, less) in
    elim (counts_on account s) as (λ b. NoneBefore row (if b then first ∷ later else later)) [
      | true ↦ (none, rest)
      | false ↦ rest
    ]

turn-from : (account number : ℕ) (t : Txn) (place : ℕ) (splits : List Split) (rest : List Entry)
    → AllOver number rest → AreInTurn rest → AreInTurn (rows_from account number t place splits ++ rest)
turn-from account number t place [] rest over turn = turn
turn-from account number t place (s ∷ splits) rest over turn =
    let row = row_of number t place s in
    let later = rows_from account number t (place + 1) splits in
    let more = turn-from account number t (place + 1) splits rest over turn in
    elim (counts_on account s) as (λ b. AreInTurn ((if b then row ∷ later else later) ++ rest)) [
      | true ↦ (
        none-append row later rest (none-from row account t (place + 1) splits (omega arith)) (none-over row rest over),
        more,
      )
      | false ↦ more
    ]

turn-on : (account : ℕ) (ts : List (ℕ × Txn)) → Rises ts → AreInTurn (rows_on account ts)
turn-on account [] rises = tt
turn-on account (e ∷ es) rises =
    turn-from account e.0 e.1 0 e.1.splits (rows_on account es) (over-on e.0 account es rises.0)
    (turn-on account es rises.1)

-- ---- they are the splits of the account

neither : {X : Type 0} (b : Bool) (xs : List X) → xs ≡ [] → xs ≡ (if b then xs else [])
neither true xs none = refl
neither false xs none = none

dated-from : (day : ℤ) (account number : ℕ) (t : Txn) (place : ℕ) (splits : List Split)
    → dated_in day (rows_from account number t place splits)
    ≡ (if int_le t.day day
    then map (λ (s : Split). (t.day, marked s)) (filter (has_mark mark.Cleared account) splits) else [])
dated-from day account number t place [] = neither {X = Row} (int_le t.day day) [] refl
dated-from day account number t place (s ∷ splits) =
    let more = filter (has_mark mark.Cleared account) splits in
    either (counts_on account s) (is_cleared_alone (mark_of s.mark)) (is_mark s.mark mark.Cleared)
    (int_le t.day day) (cleared-ties s.mark).0 refl refl
    (dated-from day account number t (place + 1) splits)
    ∙ ap (λ (k : Bool). if int_le t.day day then map (λ (x : Split). (t.day, marked x)) (if k then s ∷ more else more)
    else [])
    (counted-mark (s.account == account) (is_voided s.mark) (is_mark s.mark mark.Cleared) (cleared-ties s.mark).1)
  where
    either : (b j k d : Bool) → j ≡ k → is_cleared_alone (mark_of s.mark) ≡ j → int_le t.day day ≡ d
        → dated_in day (rows_from account number t (place + 1) splits)
        ≡ (if d then map (λ (s : Split). (t.day, marked s)) (filter (has_mark mark.Cleared account) splits) else [])
        → dated_in day (if b then row_of number t place s ∷ rows_from account number t (place + 1) splits
        else rows_from account number t (place + 1) splits)
        ≡ (if d then map (λ (s : Split). (t.day, marked s))
        (if b && k then s ∷ filter (has_mark mark.Cleared account) splits
        else filter (has_mark mark.Cleared account) splits) else [])
    either false j k d tie is early rest = rest
    either true false false d tie is early rest =
        ap (λ (b : Bool). map dated (if b && int_le t.day day then row_of number t place s
        ∷ filter (is_row_to_mark day) (rows_from account number t (place + 1) splits)
        else filter (is_row_to_mark day) (rows_from account number t (place + 1) splits))) is ∙ rest
    either true false true d tie is early rest = absurd cc
    either true true false d tie is early rest = absurd cc
    either true true true false tie is early rest =
        ap (λ (b : Bool). map dated (if b && int_le t.day day then row_of number t place s
        ∷ filter (is_row_to_mark day) (rows_from account number t (place + 1) splits)
        else filter (is_row_to_mark day) (rows_from account number t (place + 1) splits))) is
        ∙ ap (λ (b : Bool). map dated (if b then row_of number t place s
        ∷ filter (is_row_to_mark day) (rows_from account number t (place + 1) splits)
        else filter (is_row_to_mark day) (rows_from account number t (place + 1) splits))) early ∙ rest
    either true true true true tie is early rest =
        ap (λ (b : Bool). map dated (if b && int_le t.day day then row_of number t place s
        ∷ filter (is_row_to_mark day) (rows_from account number t (place + 1) splits)
        else filter (is_row_to_mark day) (rows_from account number t (place + 1) splits))) is
        ∙ ap (λ (b : Bool). map dated (if b then row_of number t place s
        ∷ filter (is_row_to_mark day) (rows_from account number t (place + 1) splits)
        else filter (is_row_to_mark day) (rows_from account number t (place + 1) splits))) early
        ∙ ap (λ (l : List Row). (t.day, marked s) ∷ l) rest

dated-on : (day : ℤ) (account : ℕ) (ts : List (ℕ × Txn))
    → dated_in day (rows_on account ts)
    ≡ flat_map (λ (entry : ℕ × Txn). dated_splits account entry.1) (until day ts)
dated-on day account [] = refl
dated-on day account (e ∷ es) =
    let here = rows_from account e.0 e.1 0 e.1.splits in
    let rest = rows_on account es in
    ap (map dated) (filter-append (is_row_to_mark day) here rest)
    ∙ map-append dated (filter (is_row_to_mark day) here) (filter (is_row_to_mark day) rest)
    ∙ ap (λ (l : List Row). l ++ dated_in day rest) (dated-from day account e.0 e.1 0 e.1.splits)
    ∙ ap (λ (l : List Row). (if int_le e.1.day day then dated_splits account e.1 else []) ++ l)
    (dated-on day account es)
    ∙ either (int_le e.1.day day)
  where
    either : (b : Bool)
        → (if b then dated_splits account e.1 else [])
        ++ flat_map (λ (entry : ℕ × Txn). dated_splits account entry.1) (until day es)
        ≡ flat_map (λ (entry : ℕ × Txn). dated_splits account entry.1) (if b then e ∷ until day es else until day es)
    either true = refl
    either false = refl

-- ---- the marked rows of a register

undated : (day : ℤ) (rows : List Entry) → marked_in day rows ≡ map (λ (row : Row). row.1) (dated_in day rows)
undated day rows = each (filter (is_row_to_mark day) rows)
  where
    each : (l : List Entry) → map row_marked l ≡ map (λ (row : Row). row.1) (map dated l)
    each [] = refl
    each (x ∷ l) = ap (λ (more : List MarkedSplit). row_marked x ∷ more) (each l)

pub marked-is : (day : ℤ) (account : ℕ) (ts : List (ℕ × Txn)) (rows : List Entry) → Rises ts
    → rows ≡ register_of account ts → marked_in day rows ≡ splits_to_mark account day ts
marked-is day account ts rows rises is =
    undated day rows
    ∙ ap (λ (l : List Entry). map (λ (row : Row). row.1) (dated_in day l)) is
    ∙ ap (map (λ (row : Row). row.1))
    (marked-sorted day (rows_on account ts) (turn-on account ts rises) ∙ ap by_day (dated-on day account ts))
