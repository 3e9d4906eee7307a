-- The balances over the rows of an account's register are sums over the splits of the account.
use Rattle.std.proofs.Common.{◌≡◌, ℕ, ◌+◌, ◌==◌, ℤ, pos, ◌+ℤ◌, ◌-ℤ◌, int_le, Bool, true, false, cond, if◌then◌else◌, ◌&&◌}
use Rattle.std.proofs.Common.{not, List, [], ◌∷◌, ◌++◌, filter, map, refl, sym, ap, ◌∙◌, arith}
use Rattle.std.proofs.Math.IntN.{+ℤ_assoc, +ℤ_comm, +ℤ_idl}
use Rattle.std.proofs.lemmas.Int.{ints}
use Rattle.book_splits.specs.Balance.{counts_on, splits_of, total}
use Rattle.book_splits.specs.TransactionRules.{is_voided}
use Rattle.book_splits.specs.declared.split.Mark.{Mark}
use Rattle.book_splits.specs.declared.split.Mark.TheVariants as mark
use Rattle.book_splits.specs.declared.split.Split.{Split}
use Rattle.book_splits.specs.declared.transaction.Txn.{Txn}
use Rattle.book_reconcile.specs.Reconciliation.{balance_with, difference, has_mark, is_mark, opening, until}
use Rattle.book_reconcile.proofs.SumLemmas.{balance-append}
use Rattle.book_register.specs.Register.{balance, key_of, precedes, rows_until}
use Rattle.book_register.specs.Weights.{is_cleared, is_reconciled}
use Rattle.book_register.specs.declared.entry.Entry.{Entry}
use Rattle.book_register.specs.declared.entry.Mark2.{Mark2}
use Rattle.book_register.specs.declared.entry.Mark2.TheVariants.{Plain, Cleared, Reconciled}
use Rattle.book_ledger.specs.Ledger.{mark_of, register_of, row_of, rows_from, rows_on, sorted, with_row}
use Rattle.book_finish.specs.Kept.{cleared_in, difference_in, is_cleared_alone, opening_in}

-- ---- sums of what each row gives, whose order is none of their business

abbrev given : (Entry → ℤ) → List Entry → ℤ
given f [] = pos 0
given f (row ∷ more) = f row +ℤ given f more

given-with : (f : Entry → ℤ) (row : Entry) (rows : List Entry) → given f (with_row row rows) ≡ f row +ℤ given f rows
given-with f row [] = refl
given-with f row (first ∷ more) =
    elim (precedes (key_of first) (key_of row)) as
    (λ t. given f (cond t (first ∷ with_row row more) (row ∷ first ∷ more)) ≡ f row +ℤ (f first +ℤ given f more)) [
      | true ↦ ap (λ z. f first +ℤ z) (given-with f row more)
          ∙ sym (+ℤ_assoc (f first) (f row) (given f more))
          ∙ ap (λ z. z +ℤ given f more) (+ℤ_comm (f first) (f row))
          ∙ +ℤ_assoc (f row) (f first) (given f more)
      | false ↦ refl
    ]

given-sorted : (f : Entry → ℤ) (rows : List Entry) → given f (sorted rows) ≡ given f rows
given-sorted f [] = refl
given-sorted f (row ∷ rows) = given-with f row (sorted rows) ∙ ap (λ z. f row +ℤ z) (given-sorted f rows)

given-append : (f : Entry → ℤ) (xs ys : List Entry) → given f (xs ++ ys) ≡ given f xs +ℤ given f ys
given-append f [] ys = sym (+ℤ_idl (given f ys))
given-append f (x ∷ xs) ys =
    ap (λ z. f x +ℤ z) (given-append f xs ys) ∙ sym (+ℤ_assoc (f x) (given f xs) (given f ys))

given-choice : (f : Entry → ℤ) (b : Bool) (row : Entry) (rows : List Entry)
    → given f (if b then row ∷ rows else rows) ≡ (if b then f row else pos 0) +ℤ given f rows
given-choice f true row rows = refl
given-choice f false row rows = sym (+ℤ_idl (given f rows))

-- ---- what the rows of some days with some marks give

abbrev picked : (ℤ → Bool) → (Mark2 → Bool) → Entry → ℤ
picked early chosen row =
    if early row.day then (if chosen row.mark then row.quantity else pos 0) else pos 0

-- a mark is chosen in a register where it is this one of a split, and no voided split has this one
abbrev Ties : (Mark2 → Bool) → Mark → Type 0
Ties chosen mark =
    (x : Mark) → (chosen (mark_of x) ≡ is_mark x mark) × ((not (is_voided x) && is_mark x mark) ≡ is_mark x mark)

-- so a split on the account that has this mark counts on it
pub counted-mark : (own voided k : Bool) → (not voided && k) ≡ k → ((own && not voided) && k) ≡ (own && k)
counted-mark true voided k is = is
counted-mark false voided k is = refl

total-choice : (b k : Bool) (s : Split) (splits : List Split)
    → total (map (λ (x : Split). x.quantity) (if b && k then s ∷ splits else splits))
    ≡ (if b then (if k then s.quantity else pos 0) else pos 0) +ℤ total (map (λ (x : Split). x.quantity) splits)
total-choice true true s splits = refl
total-choice true false s splits = sym (+ℤ_idl (total (map (λ (x : Split). x.quantity) splits)))
total-choice false k s splits = sym (+ℤ_idl (total (map (λ (x : Split). x.quantity) splits)))

both-choices : (d b k : Bool) (z w : ℤ)
    → (if b then (if d then (if k then z else pos 0) else pos 0) else pos 0) +ℤ (if d then w else pos 0)
    ≡ (if d then (if b then (if k then z else pos 0) else pos 0) +ℤ w else pos 0)
both-choices true b k z w = refl
both-choices false true k z w = refl
both-choices false false k z w = refl

none-picked : (d : Bool) → pos 0 ≡ (if d then pos 0 else pos 0)
none-picked true = refl
none-picked false = refl

given-from : (early : ℤ → Bool) (chosen : Mark2 → Bool) (mark : Mark) → Ties chosen mark
    → (account number : ℕ) (t : Txn) (place : ℕ) (splits : List Split)
    → given (picked early chosen) (rows_from account number t place splits)
    ≡ (if early t.day then balance_with mark account splits else pos 0)
given-from early chosen mark ties account number t place [] = none-picked (early t.day)
given-from early chosen mark ties account number t place (s ∷ splits) =
    let d = early t.day in
    let own = counts_on account s in
    let later = rows_from account number t (place + 1) splits in
    let more = filter (has_mark mark account) splits in
    let rest = given (picked early chosen) later in
    given-choice (picked early chosen) own (row_of number t place s) later
    ∙ ap (λ (k : Bool). (if own then (if d then (if k then s.quantity else pos 0) else pos 0) else pos 0) +ℤ rest)
    (ties s.mark).0
    ∙ ap (λ (z : ℤ). (if own then (if d then (if is_mark s.mark mark then s.quantity else pos 0) else pos 0)
    else pos 0) +ℤ z) (given-from early chosen mark ties account number t (place + 1) splits)
    ∙ both-choices d own (is_mark s.mark mark) s.quantity (balance_with mark account splits)
    ∙ ap (λ (z : ℤ). if d then z else pos 0)
    (sym (total-choice own (is_mark s.mark mark) s more)
    ∙ ap (λ (k : Bool). total (map (λ (x : Split). x.quantity) (if k then s ∷ more else more)))
    (counted-mark (s.account == account) (is_voided s.mark) (is_mark s.mark mark) (ties s.mark).1))

balance-choice : (mark : Mark) (account : ℕ) (d : Bool) (e : ℕ × Txn) (es : List (ℕ × Txn))
    → (if d then balance_with mark account e.1.splits else pos 0) +ℤ balance_with mark account (splits_of es)
    ≡ balance_with mark account (splits_of (if d then e ∷ es else es))
balance-choice mark account true e es = sym (balance-append mark account e.1.splits (splits_of es))
balance-choice mark account false e es = +ℤ_idl (balance_with mark account (splits_of es))

given-on : (early : ℤ → Bool) (chosen : Mark2 → Bool) (mark : Mark) → Ties chosen mark
    → (account : ℕ) (ts : List (ℕ × Txn))
    → given (picked early chosen) (rows_on account ts)
    ≡ balance_with mark account (splits_of (filter (λ (e : ℕ × Txn). early e.1.day) ts))
given-on early chosen mark ties account [] = refl
given-on early chosen mark ties account (e ∷ es) =
    let f = picked early chosen in
    let rest = balance_with mark account (splits_of (filter (λ (x : ℕ × Txn). early x.1.day) es)) in
    given-append f (rows_from account e.0 e.1 0 e.1.splits) (rows_on account es)
    ∙ ap (λ z. z +ℤ given f (rows_on account es)) (given-from early chosen mark ties account e.0 e.1 0 e.1.splits)
    ∙ ap (λ z. (if early e.1.day then balance_with mark account e.1.splits else pos 0) +ℤ z)
    (given-on early chosen mark ties account es)
    ∙ balance-choice mark account (early e.1.day) e (filter (λ (x : ℕ × Txn). early x.1.day) es)

-- so do those of the register
given-register : (early : ℤ → Bool) (chosen : Mark2 → Bool) (mark : Mark) → Ties chosen mark
    → (account : ℕ) (ts : List (ℕ × Txn)) (rows : List Entry) → rows ≡ register_of account ts
    → given (picked early chosen) rows
    ≡ balance_with mark account (splits_of (filter (λ (e : ℕ × Txn). early e.1.day) ts))
given-register early chosen mark ties account ts rows is =
    ap (given (picked early chosen)) is ∙ given-sorted (picked early chosen) (rows_on account ts)
    ∙ given-on early chosen mark ties account ts

-- ---- the balances of a register are such sums

mark-choice : (k : Bool) (row : Entry) (rows : List Entry)
    → balance (if k then row ∷ rows else rows) ≡ (if k then row.quantity else pos 0) +ℤ balance rows
mark-choice true row rows = refl
mark-choice false row rows = sym (+ℤ_idl (balance rows))

day-choice : (chosen : Mark2 → Bool) (d : Bool) (row : Entry) (rows : List Entry)
    → balance (filter (λ (x : Entry). chosen x.mark) (if d then row ∷ rows else rows))
    ≡ (if d then (if chosen row.mark then row.quantity else pos 0) else pos 0)
    +ℤ balance (filter (λ (x : Entry). chosen x.mark) rows)
day-choice chosen true row rows = mark-choice (chosen row.mark) row (filter (λ (x : Entry). chosen x.mark) rows)
day-choice chosen false row rows = sym (+ℤ_idl (balance (filter (λ (x : Entry). chosen x.mark) rows)))

balance-all : (chosen : Mark2 → Bool) (rows : List Entry)
    → balance (filter (λ (x : Entry). chosen x.mark) rows) ≡ given (picked (λ day. true) chosen) rows
balance-all chosen [] = refl
balance-all chosen (row ∷ rows) =
    mark-choice (chosen row.mark) row (filter (λ (x : Entry). chosen x.mark) rows)
    ∙ ap (λ z. (if chosen row.mark then row.quantity else pos 0) +ℤ z) (balance-all chosen rows)

balance-until : (chosen : Mark2 → Bool) (day : ℤ) (rows : List Entry)
    → balance (filter (λ (x : Entry). chosen x.mark) (rows_until day rows))
    ≡ given (picked (λ other. int_le other day) chosen) rows
balance-until chosen day [] = refl
balance-until chosen day (row ∷ rows) =
    day-choice chosen (int_le row.day day) row (rows_until day rows)
    ∙ ap (λ z. (if int_le row.day day then (if chosen row.mark then row.quantity else pos 0) else pos 0) +ℤ z)
    (balance-until chosen day rows)

-- what is cleared or reconciled is what is cleared alone, and what is reconciled
three-marks : (mark : Mark2) (z : ℤ)
    → (if is_cleared mark then z else pos 0)
    ≡ (if is_cleared_alone mark then z else pos 0) +ℤ (if is_reconciled mark then z else pos 0)
three-marks Plain z = refl
three-marks Cleared z = omega (arith, ints)
three-marks Reconciled z = omega (arith, ints)

three-picked : (d : Bool) (mark : Mark2) (z : ℤ)
    → (if d then (if is_cleared mark then z else pos 0) else pos 0)
    ≡ (if d then (if is_cleared_alone mark then z else pos 0) else pos 0)
    +ℤ (if d then (if is_reconciled mark then z else pos 0) else pos 0)
three-picked true mark z = three-marks mark z
three-picked false mark z = refl

three-sums : (early : ℤ → Bool) (rows : List Entry)
    → given (picked early is_cleared) rows
    ≡ given (picked early is_cleared_alone) rows +ℤ given (picked early is_reconciled) rows
three-sums early [] = refl
three-sums early (row ∷ rows) =
    let first = three-picked (early row.day) row.mark row.quantity in
    let rest = three-sums early rows in
    omega (arith, ints, first, rest)

-- ---- the balances of a reconciliation

reconciled-ties : Ties is_reconciled mark.Reconciled
reconciled-ties mark.New = (refl, refl)
reconciled-ties mark.Cleared = (refl, refl)
reconciled-ties mark.Voided = (refl, refl)
reconciled-ties mark.Reconciled = (refl, refl)

pub cleared-ties : Ties is_cleared_alone mark.Cleared
cleared-ties mark.New = (refl, refl)
cleared-ties mark.Cleared = (refl, refl)
cleared-ties mark.Voided = (refl, refl)
cleared-ties mark.Reconciled = (refl, refl)

all-days : (ts : List (ℕ × Txn)) → filter (λ (e : ℕ × Txn). true) ts ≡ ts
all-days [] = refl
all-days (e ∷ es) = ap (λ l. e ∷ l) (all-days es)

pub opening-is : (account : ℕ) (ts : List (ℕ × Txn)) (rows : List Entry) → rows ≡ register_of account ts
    → opening_in rows ≡ opening account ts
opening-is account ts rows is =
    balance-all is_reconciled rows
    ∙ given-register (λ day. true) is_reconciled mark.Reconciled reconciled-ties account ts rows is
    ∙ ap (λ es. balance_with mark.Reconciled account (splits_of es)) (all-days ts)

pub cleared-is : (account : ℕ) (day : ℤ) (ts : List (ℕ × Txn)) (rows : List Entry) → rows ≡ register_of account ts
    → cleared_in day rows ≡ balance_with mark.Cleared account (splits_of (until day ts))
cleared-is account day ts rows is =
    let early : ℤ → Bool = λ other. int_le other day in
    let both = balance-until is_cleared day rows in
    let later = balance-until is_reconciled day rows in
    let parts = three-sums early rows in
    let alone = given-register early is_cleared_alone mark.Cleared cleared-ties account ts rows is in
    omega (arith, ints, both, later, parts, alone)

pub difference-is : (account : ℕ) (day closing : ℤ) (ts : List (ℕ × Txn)) (rows : List Entry)
    → rows ≡ register_of account ts → difference_in day closing rows ≡ difference account day closing ts
difference-is account day closing ts rows is =
    ap (λ z. (closing -ℤ z) -ℤ cleared_in day rows) (opening-is account ts rows is)
    ∙ ap (λ z. (closing -ℤ opening account ts) -ℤ z) (cleared-is account day ts rows is)
