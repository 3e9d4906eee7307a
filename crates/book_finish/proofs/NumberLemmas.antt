-- The numbers of the transactions with a row that is marked, rising, each once, are those of the transactions that
-- have a split to mark.
use Rattle.std.proofs.Common.{◌≡◌, ℕ, zero, suc, ◌+◌, ◌<◌, ◌==◌, ℤ, int_le, Bool, true, false, cond, if◌then◌else◌}
use Rattle.std.proofs.Common.{◌&&◌, ◌||◌, List, [], ◌∷◌, ◌++◌, filter, map, Some, None, refl, sym}
use Rattle.std.proofs.Common.{ap, subst, ◌∙◌, arith}
use Rattle.std.specs.Prelude.{⊤, Contains, slice_index}
use Rattle.std.specs.List.{list_any}
use Rattle.std.specs.List.Sorted.{IsStrictlyIncreasing}
use Rattle.std.proofs.lemmas.Bool.{eqb-true, eq-eqb}
use Rattle.book_commodity.specs.Table.{AllAbove, Rises, value_of}
use Rattle.book_commodity.proofs.TableLemmas.{above_less, same_entries}
use Rattle.book_splits.specs.Balance.{counts_on}
use Rattle.book_splits.specs.TransactionRules.{is_voided}
use Rattle.book_splits.specs.declared.split.Mark.TheVariants as mark
use Rattle.book_splits.specs.declared.split.Split.{Split}
use Rattle.book_splits.specs.declared.transaction.Txn.{Txn}
use Rattle.book_reconcile.specs.Reconciliation.{has_mark, is_mark}
use Rattle.book_register.specs.Register.{key_of, precedes}
use Rattle.book_register.specs.declared.entry.Entry.{Entry}
use Rattle.book_ledger.specs.Ledger.{register_of, row_of, rows_from, rows_on, sorted, with_row}
use Rattle.book_finish.specs.Kept.{has_to_mark, is_row_to_mark, numbers_in, numbers_to_mark}
use Rattle.book_finish.proofs.SumLemmas.{cleared-ties, counted-mark}

-- ---- whether a number is in a list

abbrev pub has : ℕ → List ℕ → Bool
has n [] = false
has n (m ∷ more) = (n == m) || has n more

pub has-there : (n : ℕ) (ms : List ℕ) → Contains ms n → has n ms ≡ true
has-there n [] there = absurd (omega (arith, there.1))
has-there n (m ∷ ms) (zero, lt, is) = ap (λ (b : Bool). b || has n ms) (eq-eqb n m (sym is))
has-there n (m ∷ ms) (suc k, lt, is) =
    ap (λ (b : Bool). (n == m) || b) (has-there n ms (k, omega (arith, lt), is)) ∙ last (n == m)
  where
    last : (b : Bool) → (b || true) ≡ true
    last true = refl
    last false = refl

pub there-has : (n : ℕ) (ms : List ℕ) → has n ms ≡ true → Contains ms n
there-has n [] some = absurd cc
there-has n (m ∷ ms) some = here (n == m) refl some (there-has n ms)
  where
    here : (b : Bool) → (n == m) ≡ b → (b || has n ms) ≡ true → (has n ms ≡ true → Contains ms n) → Contains (m ∷ ms) n
    here true is any later = (0, omega arith, sym (eqb-true n m is))
    here false is any later = let rest = later any in (suc rest.0, omega (arith, rest.1), rest.2)

pub both-ways : (a b : Bool) → (a ≡ true → b ≡ true) → (b ≡ true → a ≡ true) → a ≡ b
both-ways true b to from = sym (to refl)
both-ways false true to from = from refl
both-ways false false to from = refl

-- ---- rising numbers that are the same

abbrev pub entries : List ℕ → List (ℕ × ⊤)
entries ns = map (λ n. (n, tt)) ns

value-is : (n : ℕ) (ms : List ℕ) → value_of n (entries ms) ≡ (if has n ms then Some tt else None)
value-is n [] = refl
value-is n (m ∷ ms) = here (n == m) (value-is n ms)
  where
    here : (b : Bool) → value_of n (entries ms) ≡ (if has n ms then Some tt else None)
        → (if b then Some tt else value_of n (entries ms)) ≡ (if b || has n ms then Some tt else None)
    here true rest = refl
    here false rest = rest

pub rising : (ms : List ℕ) → IsStrictlyIncreasing ms → Rises (entries ms)
rising [] up = tt
rising (m ∷ []) up = (tt, tt)
rising (m ∷ n ∷ more) up =
    let rest = rising (n ∷ more) (λ k lt.
    let next : suc k + 1 ≡ suc (k + 1) = omega arith in
    subst (λ (j : ℕ). slice_index (m ∷ n ∷ more) (suc k) < slice_index (m ∷ n ∷ more) j) next
    (up (suc k) (omega (arith, lt)))) in
    let first : m < n = up 0 (omega arith) in
    ((first, above_less m n (entries more) (omega (arith, first)) rest.0), rest)

numbers-of : (ms : List ℕ) → map (λ (e : ℕ × ⊤). e.0) (entries ms) ≡ ms
numbers-of [] = refl
numbers-of (m ∷ ms) = ap (λ (l : List ℕ). m ∷ l) (numbers-of ms)

pub same-numbers : (ms ns : List ℕ) → Rises (entries ms) → Rises (entries ns)
    → ((n : ℕ) → has n ms ≡ has n ns) → ms ≡ ns
same-numbers ms ns one two same =
    sym (numbers-of ms)
    ∙ ap (map (λ (e : ℕ × ⊤). e.0)) (same_entries (entries ms) (entries ns) one two
    (λ n. value-is n ms ∙ ap (λ (b : Bool). if b then Some tt else None) (same n) ∙ sym (value-is n ns)))
    ∙ numbers-of ns

-- ---- whether a transaction's number is among those of the marked rows

swapped : (a b c : Bool) → (a || (b || c)) ≡ (b || (a || c))
swapped true true c = refl
swapped true false c = refl
swapped false b c = refl

-- the row comes first or not, as it passes the test
has-choice : (n : ℕ) (t : Bool) (row : Entry) (rows : List Entry)
    → has n (map (λ (x : Entry). x.txn) (if t then row ∷ rows else rows))
    ≡ ((t && (n == row.txn)) || has n (map (λ (x : Entry). x.txn) rows))
has-choice n true row rows = refl
has-choice n false row rows = refl

has-with : (n : ℕ) (day : ℤ) (row : Entry) (rows : List Entry)
    → has n (numbers_in day (with_row row rows)) ≡ has n (numbers_in day (row ∷ rows))
has-with n day row [] = refl
has-with n day row (first ∷ more) =
    let test = is_row_to_mark day in
    let own = test row && (n == row.txn) in
    let other = test first && (n == first.txn) in
    elim (precedes (key_of first) (key_of row)) as
    (λ t. has n (numbers_in day (cond t (first ∷ with_row row more) (row ∷ first ∷ more)))
    ≡ has n (numbers_in day (row ∷ first ∷ more))) [
      | true ↦ has-choice n (test first) first (filter test (with_row row more))
          ∙ ap (λ (b : Bool). other || b)
          (has-with n day row more ∙ has-choice n (test row) row (filter test more))
          ∙ swapped other own (has n (numbers_in day more))
          ∙ ap (λ (b : Bool). own || b) (sym (has-choice n (test first) first (filter test more)))
          ∙ sym (has-choice n (test row) row (filter test (first ∷ more)))
      | false ↦ refl
    ]

has-sorted : (n : ℕ) (day : ℤ) (rows : List Entry)
    → has n (numbers_in day (sorted rows)) ≡ has n (numbers_in day rows)
has-sorted n day [] = refl
has-sorted n day (row ∷ rows) =
    let test = is_row_to_mark day in
    let own = test row && (n == row.txn) in
    has-with n day row (sorted rows)
    ∙ has-choice n (test row) row (filter test (sorted rows))
    ∙ ap (λ (b : Bool). own || b) (has-sorted n day rows)
    ∙ sym (has-choice n (test row) row (filter test rows))

-- the row of a split on the account, or none, before others
own-choice : (n : ℕ) (day : ℤ) (b : Bool) (row : Entry) (rows rest : List Entry)
    → has n (numbers_in day ((if b then row ∷ rows else rows) ++ rest))
    ≡ ((b && (is_row_to_mark day row && (n == row.txn))) || has n (numbers_in day (rows ++ rest)))
own-choice n day true row rows rest =
    has-choice n (is_row_to_mark day row) row (filter (is_row_to_mark day) (rows ++ rest))
own-choice n day false row rows rest = refl

joined : (o a h : Bool) → (o || ((a && o) || h)) ≡ (o || h)
joined true a h = refl
joined false true h = refl
joined false false h = refl

one-split : (b k d o a h : Bool)
    → ((b && ((k && d) && o)) || ((a && o) || h)) ≡ (((((b && k) && d) || a) && o) || h)
one-split false k d o a h = refl
one-split true false d o a h = refl
one-split true true false o a h = refl
one-split true true true o a h = joined o a h

-- the rows of a transaction, behind which others stand
has-from : (n : ℕ) (day : ℤ) (account number : ℕ) (t : Txn) (place : ℕ) (splits : List Split) (rest : List Entry)
    → has n (numbers_in day (rows_from account number t place splits ++ rest))
    ≡ ((list_any (λ (s : Split). has_mark mark.Cleared account s && int_le t.day day) splits && (n == number))
    || has n (numbers_in day rest))
has-from n day account number t place [] rest = refl
has-from n day account number t place (s ∷ splits) rest =
    let test : Split → Bool = λ x. has_mark mark.Cleared account x && int_le t.day day in
    let later = rows_from account number t (place + 1) splits in
    let own = counts_on account s in
    let early = int_le t.day day in
    own-choice n day own (row_of number t place s) later rest
    ∙ ap (λ (k : Bool). (own && ((k && early) && (n == number))) || has n (numbers_in day (later ++ rest)))
    (cleared-ties s.mark).0
    ∙ ap (λ (b : Bool). (own && ((is_mark s.mark mark.Cleared && early) && (n == number))) || b)
    (has-from n day account number t (place + 1) splits rest)
    ∙ one-split own (is_mark s.mark mark.Cleared) early (n == number) (list_any test splits)
    (has n (numbers_in day rest))
    ∙ ap (λ (k : Bool). (((k && early) || list_any test splits) && (n == number)) || has n (numbers_in day rest))
    (counted-mark (s.account == account) (is_voided s.mark) (is_mark s.mark mark.Cleared) (cleared-ties s.mark).1)

chosen : (n : ℕ) (t : Bool) (e : ℕ × Txn) (es : List (ℕ × Txn))
    → ((t && (n == e.0)) || has n (map (λ (x : ℕ × Txn). x.0) es))
    ≡ has n (map (λ (x : ℕ × Txn). x.0) (if t then e ∷ es else es))
chosen n true e es = refl
chosen n false e es = refl

has-on : (n : ℕ) (day : ℤ) (account : ℕ) (ts : List (ℕ × Txn))
    → has n (numbers_in day (rows_on account ts)) ≡ has n (numbers_to_mark account day ts)
has-on n day account [] = refl
has-on n day account (e ∷ es) =
    let first = has_to_mark account day e.1 && (n == e.0) in
    has-from n day account e.0 e.1 0 e.1.splits (rows_on account es)
    ∙ ap (λ (b : Bool). first || b) (has-on n day account es)
    ∙ chosen n (has_to_mark account day e.1) e (filter (λ (x : ℕ × Txn). has_to_mark account day x.1) es)

-- ---- the numbers of the transactions rise

above-numbers : (n account : ℕ) (day : ℤ) (ts : List (ℕ × Txn)) → AllAbove n ts
    → AllAbove n (entries (numbers_to_mark account day ts))
above-numbers n account day [] above = tt
above-numbers n account day (e ∷ es) above =
    let more = filter (λ (x : ℕ × Txn). has_to_mark account day x.1) es in
    let rest = above-numbers n account day es above.1 in
    elim (has_to_mark account day e.1) as
    (λ t. AllAbove n (entries (map (λ (x : ℕ × Txn). x.0) (if t then e ∷ more else more)))) [
      | true ↦ (above.0, rest)
      | false ↦ rest
    ]

rising-numbers : (account : ℕ) (day : ℤ) (ts : List (ℕ × Txn)) → Rises ts
    → Rises (entries (numbers_to_mark account day ts))
rising-numbers account day [] rises = tt
rising-numbers account day (e ∷ es) rises =
    let more = filter (λ (x : ℕ × Txn). has_to_mark account day x.1) es in
    let rest = rising-numbers account day es rises.1 in
    elim (has_to_mark account day e.1) as
    (λ t. Rises (entries (map (λ (x : ℕ × Txn). x.0) (if t then e ∷ more else more)))) [
      | true ↦ (above-numbers e.0 account day es rises.0, rest)
      | false ↦ rest
    ]

-- ---- the numbers of the marked rows, sorted and each once

pub numbers-are : (account : ℕ) (day : ℤ) (ts : List (ℕ × Txn)) (rows : List Entry) (found numbers : List ℕ)
    → Rises ts → rows ≡ register_of account ts → found ≡ numbers_in day rows → IsStrictlyIncreasing numbers
    → ((n : ℕ) → Contains found n → Contains numbers n) → ((n : ℕ) → Contains numbers n → Contains found n)
    → numbers ≡ numbers_to_mark account day ts
numbers-are account day ts rows found numbers rises is of_rows up keeps adds =
    same-numbers numbers (numbers_to_mark account day ts) (rising numbers up) (rising-numbers account day ts rises)
    (λ n. both-ways (has n numbers) (has n found)
    (λ e. has-there n found (adds n (there-has n numbers e)))
    (λ e. has-there n numbers (keeps n (there-has n found e)))
    ∙ ap (has n) (of_rows ∙ ap (numbers_in day) is)
    ∙ has-sorted n day (rows_on account ts)
    ∙ has-on n day account ts)
