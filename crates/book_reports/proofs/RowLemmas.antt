-- The rows of the registers of a sound book are few, and their amounts small; and so are sums of them.
use Rattle.std.proofs.Common.{◌≡◌, ℕ, ◌+◌, ◌≤◌, ◌==◌, ℤ, pos, negsuc, ◌+ℤ◌, unsigned_abs, Bool, true, false}
use Rattle.std.proofs.Common.{not, if◌then◌else◌, List, [], ◌∷◌, ◌++◌, All, length, map, filter, refl, sym, ap, subst}
use Rattle.std.proofs.Common.{◌∙◌, zero, suc, add-one, append_assoc, append-nil, take, drop, slice_get, Option, Some, None, IsSome, is_some, arith}
use Rattle.std.proofs.lemmas.Int.{ints}
use Rattle.std.proofs.lemmas.List.{drop_all, length-append, length-map, length-take}
use Rattle.std.proofs.lemmas.List.Elements.{All-append, All-cons, All-filter, All-head, All-map, All-nil, All-tail, All-take, All-weaker}
use Rattle.std.proofs.lemmas.List.Filters.{length-filter_both}
use Rattle.book_commodity.proofs.ListLemmas.{all_back, all_front, drop_at}
use Rattle.book_accounts.specs.declared.account.Account.{Account}
use Rattle.book_commodity.specs.Table.{value_of}
use Rattle.book_ledger.specs.Ledger.{live_register, register_of, row_of, rows_from, rows_on, sorted, with_row}
use Rattle.book_register.specs.Register.{balance, key_of, precedes}
use Rattle.book_register.specs.declared.entry.Entry.{Entry}
use Rattle.book_sound.proofs.SoundFacts.{IsAtMost, amounts_are_small, sum_is_small}
use Rattle.book_sound.specs.Soundness.{IsSoundBook}
use Rattle.book_splits.specs.Balance.{counts_on, splits_of, total}
use Rattle.book_splits.specs.Check.{HasAmounts}
use Rattle.book_splits.specs.declared.split.Split.{Split}
use Rattle.book_splits.specs.declared.transaction.Txn.{Txn}
use Rattle.book_undo.specs.Book.{Book}
use Rattle.book_limits.specs.Limits.{largest_split_amount, largest_sum}
use Rattle.book_reports.specs.Measure.{CanBeSummed, is_in, rows_in, value_in, value_of_rows}
use Rattle.book_reports.specs.RegisterText.{row_in, rows_after}
use Rattle.book_reports.specs.declared.form.Form.{Form}
use Rattle.book_reports.specs.declared.period.Period.{Period}

-- Amounts of a row that are within the limit.
abbrev pub IsSmallRow : Entry → Type 0
IsSmallRow row = (unsigned_abs row.value ≤ largest_split_amount) × (unsigned_abs row.quantity ≤ largest_split_amount)

-- ---- small

small_from :
    (account number : ℕ) (t : Txn) (place : ℕ) (splits : List Split) → All HasAmounts splits
    → All IsSmallRow (rows_from account number t place splits)
small_from account number t place [] all = All-nil IsSmallRow
small_from account number t place (split ∷ more) all =
    let row = row_of number t place split in
    let later = rows_from account number t (place + 1) more in
    let rest = small_from account number t (place + 1) more (All-tail HasAmounts split more all) in
    elim (counts_on account split) as (λ b. All IsSmallRow (if b then row ∷ later else later)) [
      | true ↦ All-cons IsSmallRow row later (All-head HasAmounts split more all) rest
      | false ↦ rest
    ]

small_on : (account : ℕ) (ts : List (ℕ × Txn)) → All HasAmounts (splits_of ts) → All IsSmallRow (rows_on account ts)
small_on account [] all = All-nil IsSmallRow
small_on account (e ∷ es) all =
    All-append IsSmallRow (rows_from account e.0 e.1 0 e.1.splits) (rows_on account es)
    (small_from account e.0 e.1 0 e.1.splits (all_front HasAmounts e.1.splits (splits_of es) all))
    (small_on account es (all_back HasAmounts e.1.splits (splits_of es) all))

small_with : (row : Entry) (rows : List Entry) → IsSmallRow row → All IsSmallRow rows → All IsSmallRow (with_row row rows)
small_with row [] small all = All-cons IsSmallRow row [] small all
small_with row (first ∷ more) small all =
    elim (precedes (key_of first) (key_of row)) as
    (λ b. All IsSmallRow (if b then first ∷ with_row row more else row ∷ first ∷ more)) [
      | true ↦ All-cons IsSmallRow first (with_row row more) (All-head IsSmallRow first more all)
          (small_with row more small (All-tail IsSmallRow first more all))
      | false ↦ All-cons IsSmallRow row (first ∷ more) small all
    ]

small_sorted : (rows : List Entry) → All IsSmallRow rows → All IsSmallRow (sorted rows)
small_sorted [] all = all
small_sorted (row ∷ more) all =
    small_with row (sorted more) (All-head IsSmallRow row more all)
    (small_sorted more (All-tail IsSmallRow row more all))

pub rows_are_small :
    (book : Book) (account : ℕ) → IsSoundBook book → All IsSmallRow (register_of account book.transactions)
rows_are_small book account is =
    small_sorted (rows_on account book.transactions)
    (small_on account book.transactions (amounts_are_small book is))

-- ---- few

few_from :
    (account number : ℕ) (t : Txn) (place : ℕ) (splits : List Split)
    → length (rows_from account number t place splits) ≤ length splits
few_from account number t place [] = omega arith
few_from account number t place (split ∷ more) =
    let row = row_of number t place split in
    let later = rows_from account number t (place + 1) more in
    let rest = few_from account number t (place + 1) more in
    elim (counts_on account split) as (λ b. length (if b then row ∷ later else later) ≤ suc (length more)) [
      | true ↦ omega (arith, rest)
      | false ↦ omega (arith, rest)
    ]

few_on : (account : ℕ) (ts : List (ℕ × Txn)) → length (rows_on account ts) ≤ length (splits_of ts)
few_on account [] = omega arith
few_on account (e ∷ es) =
    omega (
      arith,
      length-append (rows_from account e.0 e.1 0 e.1.splits) (rows_on account es),
      length-append e.1.splits (splits_of es),
      few_from account e.0 e.1 0 e.1.splits,
      few_on account es,
    )

length-with : (row : Entry) (rows : List Entry) → length (with_row row rows) ≡ length rows + 1
length-with row [] = refl
length-with row (first ∷ more) =
    elim (precedes (key_of first) (key_of row)) as
    (λ b. length (if b then first ∷ with_row row more else row ∷ first ∷ more) ≡ suc (length more) + 1) [
      | true ↦ omega (arith, length-with row more)
      | false ↦ omega arith
    ]

length-sorted : (rows : List Entry) → length (sorted rows) ≡ length rows
length-sorted [] = refl
length-sorted (row ∷ more) = omega (arith, length-with row (sorted more), length-sorted more)

pub rows_are_few :
    (book : Book) (account : ℕ) → IsSoundBook book → length (register_of account book.transactions) ≤ 1000000
rows_are_few book account is =
    omega (arith, length-sorted (rows_on account book.transactions), few_on account book.transactions, is.few_splits)

-- ---- sums

size_at_most : (most : ℕ) (amount : ℤ) → IsAtMost most amount → unsigned_abs amount ≤ most
size_at_most most (pos n) is = omega (arith, ints, is.0, is.1)
size_at_most most (negsuc n) is = omega (arith, ints, is.0, is.1)

pub balance_total : (rows : List Entry) → balance rows ≡ total (map (λ (r : Entry). r.quantity) rows)
balance_total [] = refl
balance_total (row ∷ rows) = ap (λ z. row.quantity +ℤ z) (balance_total rows)

fewer : (test : Entry → Bool) (rows : List Entry) → length (filter test rows) ≤ length rows
fewer test rows = omega (arith, length-filter_both test (λ r. not (test r)) (λ r. refl) rows)

-- a sum of amounts of so few rows is small
pub sum_of_few :
    (amount : Entry → ℤ) (rows : List Entry)
    → ((r : Entry) → IsSmallRow r → unsigned_abs (amount r) ≤ largest_split_amount)
    → All IsSmallRow rows → length rows ≤ 1000000 → unsigned_abs (total (map amount rows)) ≤ largest_sum
sum_of_few amount rows each all few =
    let amounts = All-map (λ (a : ℤ). unsigned_abs a ≤ largest_split_amount) amount rows
    (All-weaker IsSmallRow (λ (r : Entry). unsigned_abs (amount r) ≤ largest_split_amount) each rows all) in
    let sum = sum_is_small (map amount rows) amounts in
    let same : length (map amount rows) ≡ length rows = length-map rows amount in
    size_at_most largest_sum (total (map amount rows))
    (omega (arith, ints, sum.0, same, few), omega (arith, ints, sum.1, same, few))

-- the rows of a sound book can be added up
pub can_be_summed :
    (book : Book) (account : ℕ) → IsSoundBook book → CanBeSummed (register_of account book.transactions)
can_be_summed book account is = record { few = rows_are_few book account is; small = rows_are_small book account is }

-- what an account changes by in a period is small
pub period_small :
    (period : Period) (rows : List Entry) → CanBeSummed rows
    → unsigned_abs (balance (rows_in period rows)) ≤ largest_sum
period_small period rows can =
    let test = λ (r : Entry). is_in period r.day in
    let picked = rows_in period rows in
    subst (λ z. unsigned_abs z ≤ largest_sum) (sym (balance_total picked))
    (sum_of_few (λ (r : Entry). r.quantity) picked (λ r small. small.1) (All-filter test IsSmallRow rows can.small)
    (omega (arith, fewer test rows, can.few)))

-- and in one currency of transactions
pub currency_small :
    (period : Period) (currency : ℕ) (rows : List Entry) → CanBeSummed rows
    → unsigned_abs (value_of_rows currency (rows_in period rows)) ≤ largest_sum
currency_small period currency rows can =
    let test = λ (r : Entry). is_in period r.day in
    let same = λ (r : Entry). r.currency == currency in
    let picked = rows_in period rows in
    sum_of_few (λ (r : Entry). r.value) (filter same picked) (λ r small. small.0)
    (All-filter same IsSmallRow picked (All-filter test IsSmallRow rows can.small))
    (omega (arith, fewer same picked, fewer test rows, can.few))

pub value_small :
    (book : Book) (period : Period) (currency account : ℕ) → IsSoundBook book
    → unsigned_abs (value_in book period currency account) ≤ largest_sum
unfolding value_in
value_small book period currency account is =
    currency_small period currency (register_of account book.transactions) (can_be_summed book account is)

-- the first of the rows can be added up
pub first_can_be_summed : (rows : List Entry) (i : ℕ) → CanBeSummed rows → CanBeSummed (take i rows)
first_can_be_summed rows i can = record {
  few = omega (arith, length-take i rows, can.few);
  small = All-take IsSmallRow i rows can.small;
}

-- ---- rows one after another

pub balance_push : (rows : List Entry) (row : Entry) → balance (rows ++ row ∷ []) ≡ balance rows +ℤ row.quantity
balance_push [] row = omega (arith, ints)
balance_push (first ∷ rows) row = omega (arith, ints, balance_push rows row)

push_suc : (rows : List Entry) (i : ℕ) (row : Entry) → slice_get rows i ≡ Some row → take i rows ++ row ∷ [] ≡ take (suc i) rows
push_suc [] i row there = absurd cc
push_suc (first ∷ rows) zero row there = let same : first ≡ row = cc in ap (λ (r : Entry). r ∷ []) (sym same)
push_suc (first ∷ rows) (suc i) row there = ap (λ l. first ∷ l) (push_suc rows i row there)

-- the rows before a place and the one there are those before the next place
pub push : (rows : List Entry) (i : ℕ) (row : Entry) → slice_get rows i ≡ Some row → take i rows ++ row ∷ [] ≡ take (i + 1) rows
push rows i row there = push_suc rows i row there ∙ ap (λ (k : ℕ). take k rows) (sym (add-one i))

-- so the balance goes on by the quantity of the row
pub balance_next :
    (rows : List Entry) (i : ℕ) (row : Entry) → slice_get rows i ≡ Some row
    → balance (take (i + 1) rows) ≡ balance (take i rows) +ℤ row.quantity
balance_next rows i row there = ap balance (sym (push rows i row there)) ∙ balance_push (take i rows) row

-- the lines from a place on are that of the row there and those from the next place on
pub rows_step :
    (form : Form) (book : Book) (fraction : ℕ) (period : Period) (rows : List Entry) (i : ℕ) (row : Entry)
    → slice_get rows i ≡ Some row
    → rows_after form book fraction period (take i rows) (drop i rows)
    ≡ (if is_in period row.day then row_in form book fraction row (balance (take (i + 1) rows)) else [])
    ++ rows_after form book fraction period (take (i + 1) rows) (drop (i + 1) rows)
rows_step form book fraction period rows i row there =
    ap (λ (l : List Entry). rows_after form book fraction period (take i rows) l) (drop_at rows i row there)
    ∙ ap (λ (before : List Entry). (if is_in period row.day then row_in form book fraction row (balance before) else [])
    ++ rows_after form book fraction period before (drop (i + 1) rows)) (push rows i row there)

-- so what was added, with the lines that are left, stays the whole
pub rows_next :
    (form : Form) (book : Book) (fraction : ℕ) (period : Period) (rows : List Entry) (i : ℕ) (row : Entry) (after : ℤ)
    (old new whole : List ℕ) → slice_get rows i ≡ Some row
    → new ≡ old ++ (if is_in period row.day then row_in form book fraction row after else [])
    → old ++ rows_after form book fraction period (take i rows) (drop i rows) ≡ whole
    → after ≡ balance (take (i + 1) rows)
    → new ++ rows_after form book fraction period (take (i + 1) rows) (drop (i + 1) rows) ≡ whole
rows_next form book fraction period rows i row after old new whole there added held same =
    let line : ℤ → List ℕ = λ z. if is_in period row.day then row_in form book fraction row z else [] in
    let rest = rows_after form book fraction period (take (i + 1) rows) (drop (i + 1) rows) in
    ap (λ (l : List ℕ). l ++ rest) (added ∙ ap (λ (z : ℤ). old ++ line z) same)
    ∙ append_assoc old (line (balance (take (i + 1) rows))) rest
    ∙ ap (λ (l : List ℕ). old ++ l) (sym (rows_step form book fraction period rows i row there)) ∙ held

-- and behind the last row nothing is left
pub rows_end :
    (form : Form) (book : Book) (fraction : ℕ) (period : Period) (rows : List Entry) (i : ℕ) (out whole : List ℕ)
    → length rows ≤ i → out ++ rows_after form book fraction period (take i rows) (drop i rows) ≡ whole → out ≡ whole
rows_end form book fraction period rows i out whole past held =
    sym (append-nil out)
    ∙ ap (λ (l : List Entry). out ++ rows_after form book fraction period (take i rows) l) (sym (drop_all i rows past))
    ∙ held

-- the balance of rows is small
pub balance_small : (rows : List Entry) → CanBeSummed rows → unsigned_abs (balance rows) ≤ largest_sum
balance_small rows can =
    subst (λ z. unsigned_abs z ≤ largest_sum) (sym (balance_total rows))
    (sum_of_few (λ (r : Entry). r.quantity) rows (λ r small. small.1) can.small can.few)

sum_push :
    (period : Period) (rows : List Entry) (row : Entry)
    → balance (rows_in period (rows ++ row ∷ []))
    ≡ balance (rows_in period rows) +ℤ (if is_in period row.day then row.quantity else pos 0)
sum_push period [] row =
    elim (is_in period row.day) as
    (λ b. balance (if b then row ∷ [] else []) ≡ pos 0 +ℤ (if b then row.quantity else pos 0)) [
      | true ↦ omega (arith, ints)
      | false ↦ omega (arith, ints)
    ]
sum_push period (first ∷ rows) row =
    let more = sum_push period rows row in
    let amount = if is_in period row.day then row.quantity else pos 0 in
    elim (is_in period first.day) as
    (λ b. balance (if b then first ∷ rows_in period (rows ++ row ∷ []) else rows_in period (rows ++ row ∷ []))
    ≡ balance (if b then first ∷ rows_in period rows else rows_in period rows) +ℤ amount) [
      | true ↦ omega (arith, ints, more)
      | false ↦ more
    ]

-- the sum over a period goes on by the quantity of the next row, where it lies in the period
pub sum_next :
    (period : Period) (rows : List Entry) (i : ℕ) (row : Entry) → slice_get rows i ≡ Some row
    → balance (rows_in period (take (i + 1) rows))
    ≡ balance (rows_in period (take i rows)) +ℤ (if is_in period row.day then row.quantity else pos 0)
sum_next period rows i row there =
    ap (λ (l : List Entry). balance (rows_in period l)) (sym (push rows i row there)) ∙ sum_push period (take i rows) row

abbrev pub amount_of : Period → ℕ → Entry → ℤ
amount_of period currency row =
    if is_in period row.day then (if row.currency == currency then row.value else pos 0) else pos 0

value_push :
    (period : Period) (currency : ℕ) (rows : List Entry) (row : Entry)
    → value_of_rows currency (rows_in period (rows ++ row ∷ []))
    ≡ value_of_rows currency (rows_in period rows) +ℤ amount_of period currency row
value_push period currency [] row =
    elim (is_in period row.day) as
    (λ b. value_of_rows currency (if b then row ∷ [] else [])
    ≡ pos 0 +ℤ (if b then (if row.currency == currency then row.value else pos 0) else pos 0)) [
      | true ↦ elim (row.currency == currency) as
          (λ b. total (map (λ (r : Entry). r.value) (if b then row ∷ [] else []))
          ≡ pos 0 +ℤ (if b then row.value else pos 0)) [
            | true ↦ omega (arith, ints)
            | false ↦ omega (arith, ints)
          ]
      | false ↦ omega (arith, ints)
    ]
value_push period currency (first ∷ rows) row =
    let more = value_push period currency rows row in
    let amount = amount_of period currency row in
    let long = rows_in period (rows ++ row ∷ []) in
    let short = rows_in period rows in
    let test = λ (r : Entry). r.currency == currency in
    elim (is_in period first.day) as
    (λ b. value_of_rows currency (if b then first ∷ long else long)
    ≡ value_of_rows currency (if b then first ∷ short else short) +ℤ amount) [
      | true ↦ elim (first.currency == currency) as
          (λ b. total (map (λ (r : Entry). r.value) (if b then first ∷ filter test long else filter test long))
          ≡ total (map (λ (r : Entry). r.value) (if b then first ∷ filter test short else filter test short)) +ℤ amount) [
            | true ↦ omega (arith, ints, more)
            | false ↦ more
          ]
      | false ↦ more
    ]

-- the sum of values over a period goes on by the value of the next row, where it is in the period and the currency
pub value_next :
    (period : Period) (currency : ℕ) (rows : List Entry) (i : ℕ) (row : Entry) → slice_get rows i ≡ Some row
    → value_of_rows currency (rows_in period (take (i + 1) rows))
    ≡ value_of_rows currency (rows_in period (take i rows)) +ℤ amount_of period currency row
value_next period currency rows i row there =
    ap (λ (l : List Entry). value_of_rows currency (rows_in period l)) (sym (push rows i row there))
    ∙ value_push period currency (take i rows) row

-- the rows of the register that a live account has
pub live_rows :
    (book : Book) (account : ℕ) (rows : List Entry) → IsSome (value_of account book.accounts)
    → Some rows ≡ live_register book account → rows ≡ register_of account book.transactions
live_rows book account rows there is = by (value_of account book.accounts) there is
  where
    by :
        (o : Option Account) → IsSome o
        → Some rows ≡ (if is_some o then Some (register_of account book.transactions) else None)
        → rows ≡ register_of account book.transactions
    by None none is = absurd cc
    by (Some x) there is = cc
