-- Registers made from a whole book: once the rows of all transactions are put in, they are those of the book.
use Rattle.std.proofs.Common.{◌≡◌, ℕ, zero, suc, ◌+◌, ◌-◌, ◌^◌, ◌<◌, ◌≤◌, ◌==◌, ◌||◌, not, min, ℤ, Bool, true, false, if◌then◌else◌}
use Rattle.std.proofs.Common.{List, [], ◌∷◌, ◌++◌, length, get_or, take, subst, eq-eqb}
use Rattle.std.proofs.Common.{Option, Some, None, is_some, find, count_by, map, refl, sym, ap, ◌∙◌, arith}
use Rattle.std.specs.List.{list_any}
use Rattle.std.specs.Option.{option_or}
use Rattle.std.specs.List.Sorted.{IsPermutation}
use Rattle.std.proofs.lemmas.Bool.{eqb-true}
use Rattle.std.proofs.lemmas.Bool.Decides.{nat_tests}
use Rattle.std.proofs.lemmas.List.Elements.{All-nil}
use Rattle.std.proofs.lemmas.List.Sums.{sum_by-cons}
use Rattle.std.proofs.lemmas.List.Sorted.{sum_by-IsPermutation}
use Rattle.book_commodity.specs.Table.{AllAbove, Rises, value_of}
use Rattle.book_register.specs.Register.{IsSorted, RowKey, has_key}
use Rattle.book_ledger.specs.Page.{Page}
use Rattle.book_register.specs.declared.entry.Entry.{Entry}
use Rattle.book_splits.specs.declared.transaction.Txn.{Txn}
use Rattle.book_ledger.specs.Change.{AllPut, ArePut, Holds, left_of, pick, placed, row_at, row_in}
use Rattle.book_ledger.specs.Changes.{changes_of, differing, has_row, missing}
use Rattle.book_ledger.specs.Counts.{AreFree, CountsFrom, HasRowsOf}
use Rattle.book_ledger.specs.Ledger.{rows_at}
use Rattle.book_ledger.specs.Lots.{AreLeft, reckoned_of}
use Rattle.book_ledger.specs.Opening.{AreAdded, AreNew, AreOnce, HaveNoRows, NamesAll}
use Rattle.book_ledger.specs.Room.{Extends}
use Rattle.book_ledger.proofs.ChangeLemmas.{placed_other}
use Rattle.book_ledger.proofs.CountsLemmas.{counts_start}
use Rattle.book_ledger.proofs.FoundLemmas.{or_none}

-- ---- rows that are put in after room was made
pub put_extended :
    (number place : ℕ) (t other : Option Txn) (old mid new : List (ℕ × Page)) → ArePut number t other place old mid
    → Extends mid new → ArePut number t other place old new
put_extended number place t other old mid new put extends = record {
  rows = λ account key. ap (find (has_key key)) (extends.rows account) ∙ put.rows account key;
}

-- ---- the numbers of all transactions
numbers_counted :
    (n : ℕ) (order : List (ℤ × ℕ))
    → count_by (λ (entry : ℤ × ℕ). entry.1 == n) order
    ≡ count_by (λ (m : ℕ). m == n) (map (λ (entry : ℤ × ℕ). entry.1) order)
numbers_counted n [] = refl
numbers_counted n (e ∷ es) =
    sum_by-cons (λ (entry : ℤ × ℕ). if entry.1 == n then 1 else 0) e es
    ∙ ap (λ k. (if e.1 == n then 1 else 0) + k) (numbers_counted n es)
    ∙ sym (sum_by-cons (λ (m : ℕ). if m == n then 1 else 0) e.1 (map (λ (entry : ℤ × ℕ). entry.1) es))

number_counted :
    (n : ℕ) (ts : List (ℕ × Txn)) → is_some (value_of n ts) ≡ true
    → 1 ≤ count_by (λ (m : ℕ). m == n) (map (λ (e : ℕ × Txn). e.0) ts)
number_counted n [] there = absurd cc
number_counted n (e ∷ es) there =
    let count = sum_by-cons (λ (m : ℕ). if m == n then 1 else 0) e.0 (map (λ (e : ℕ × Txn). e.0) es) in
    let Here : Bool → Type 0 = λ t. (n == e.0) ≡ t → is_some (if t then Some e.1 else value_of n es) ≡ true
    → 1 ≤ count_by (λ (m : ℕ). m == n) (map (λ (e : ℕ × Txn). e.0) (e ∷ es)) in
    elim (n == e.0) as Here [
      | true ↦ λ same found.
          let itself : (e.0 == n) ≡ true = grind (arith, nat_tests, same) in
          let one = ap {B = ℕ} (λ (b : Bool). if b then 1 else 0) itself in omega (arith, count, one)
      | false ↦ λ other found. omega (arith, count, number_counted n es found)
    ] refl there

-- a number above which all others are isn't among them
none_above :
    (n : ℕ) (ts : List (ℕ × Txn)) → AllAbove n ts
    → count_by (λ (m : ℕ). m == n) (map (λ (e : ℕ × Txn). e.0) ts) ≡ 0
none_above n [] above = refl
none_above n (e ∷ es) above =
    let count = sum_by-cons (λ (m : ℕ). if m == n then 1 else 0) e.0 (map (λ (e : ℕ × Txn). e.0) es) in
    let apart : (e.0 == n) ≡ false = let less = above.0 in grind (arith, nat_tests, less) in
    let none = ap {B = ℕ} (λ (b : Bool). if b then 1 else 0) apart in
    omega (arith, count, none, none_above n es above.1)

-- of numbers that rise each stands there once
number_once :
    (n : ℕ) (ts : List (ℕ × Txn)) → Rises ts
    → count_by (λ (m : ℕ). m == n) (map (λ (e : ℕ × Txn). e.0) ts) ≤ 1
number_once n [] rises = omega arith
number_once n (e ∷ es) rises =
    let count = sum_by-cons (λ (m : ℕ). if m == n then 1 else 0) e.0 (map (λ (e : ℕ × Txn). e.0) es) in
    let Here : Bool → Type 0 = λ t. (e.0 == n) ≡ t
    → count_by (λ (m : ℕ). m == n) (map (λ (e : ℕ × Txn). e.0) (e ∷ es)) ≤ 1 in
    elim (e.0 == n) as Here [
      | true ↦ λ same.
          let one = ap {B = ℕ} (λ (b : Bool). if b then 1 else 0) same in
          let rest = none_above n es (subst (λ (m : ℕ). AllAbove m es) (eqb-true e.0 n same) rises.0) in
          omega (arith, count, one, rest)
      | false ↦ λ other.
          let none = ap {B = ℕ} (λ (b : Bool). if b then 1 else 0) other in
          omega (arith, count, none, number_once n es rises.1)
    ] refl

-- numbers in the order of the transactions name all, in any other order too
pub names_all :
    (before after : List (ℤ × ℕ)) (ts : List (ℕ × Txn))
    → map (λ (entry : ℤ × ℕ). entry.1) before ≡ map (λ (e : ℕ × Txn). e.0) ts → IsPermutation before after
    → NamesAll after ts
names_all before after ts same moved = record {
  each = λ n there.
      let count = sum_by-IsPermutation (λ (entry : ℤ × ℕ). if entry.1 == n then 1 else 0) before after moved in
      let numbers = numbers_counted n before ∙ ap (count_by (λ (m : ℕ). m == n)) same in
      omega (arith, count, numbers, number_counted n ts there);
  once = λ rises. record {
    each = λ n.
        let count = sum_by-IsPermutation (λ (entry : ℤ × ℕ). if entry.1 == n then 1 else 0) before after moved in
        let numbers = numbers_counted n before ∙ ap (count_by (λ (m : ℕ). m == n)) same in
        omega (arith, count, numbers, number_once n ts rises);
  };
}

any_counted :
    (p : (ℤ × ℕ) → Bool) (order : List (ℤ × ℕ)) → 1 ≤ count_by p order → list_any p order ≡ true
any_counted p [] some = absurd (omega (arith, some))
any_counted p (e ∷ es) some =
    let count = sum_by-cons (λ (entry : ℤ × ℕ). if p entry then 1 else 0) e es in
    let Here : Bool → Type 0 = λ t. p e ≡ t → (t || list_any p es) ≡ true in
    elim (p e) as Here [
      | true ↦ λ is. refl
      | false ↦ λ is.
          let none = ap {B = ℕ} (λ (b : Bool). if b then 1 else 0) is in
          any_counted p es (omega (arith, some, count, none))
    ] refl

-- ---- the rows of one transaction more
or_twice : (o p : Option Entry) → option_or o (option_or o p) ≡ option_or o p
or_twice None p = refl
or_twice (Some x) p = refl

left_alone : (row : Option (ℕ × Entry)) → left_of row None ≡ row
left_alone None = refl
left_alone (Some at) = refl

any_more :
    {X : Type 0} (p : X → Bool) (xs : List X) (x : X) → list_any p (xs ++ x ∷ []) ≡ (list_any p xs || p x)
any_more p [] x = elim (p x) as (λ t. (t || false) ≡ t) [ true ↦ refl | false ↦ refl ]
any_more p (y ∷ ys) x =
    elim (p y) as (λ t. (t || list_any p (ys ++ x ∷ [])) ≡ ((t || list_any p ys) || p x)) [
      | true ↦ refl
      | false ↦ any_more p ys x
    ]

pub added_none : (ts : List (ℕ × Txn)) (registers : List (ℕ × Page)) → AreAdded ts [] registers registers
added_none ts registers = record { rows = λ account key. refl }

pub added_more :
    (ts : List (ℕ × Txn)) (order : List (ℤ × ℕ)) (entry : ℤ × ℕ) (all : List (ℤ × ℕ))
    (old mid new : List (ℕ × Page)) → order ++ entry ∷ [] ≡ all → AreAdded ts order old mid
    → AllPut entry.1 (value_of entry.1 ts) None mid new → AreAdded ts all old new
added_more ts order entry all old mid new is added put = record {
  rows = λ account key.
      put.rows account key
      ∙ ap (λ (o : Option (ℕ × Entry)). option_or (pick account key o) (row_at account key mid))
      (left_alone (placed entry.1 (value_of entry.1 ts) key.place))
      ∙ ap (option_or (pick account key (placed entry.1 (value_of entry.1 ts) key.place))) (added.rows account key)
      ∙ here account key (entry.1 == key.txn) (list_any (λ (e : ℤ × ℕ). e.1 == key.txn) order) refl
      ∙ ap (λ (t : Bool). option_or (if t then row_in account key ts else None) (row_at account key old))
      (sym (any_more (λ (e : ℤ × ℕ). e.1 == key.txn) order entry)
      ∙ ap (list_any (λ (e : ℤ × ℕ). e.1 == key.txn)) is);
}
  where
    here :
        (account : ℕ) (key : RowKey) (s t : Bool) → (entry.1 == key.txn) ≡ s
        → option_or (pick account key (placed entry.1 (value_of entry.1 ts) key.place))
        (option_or (if t then row_in account key ts else None) (row_at account key old))
        ≡ option_or (if t || s then row_in account key ts else None) (row_at account key old)
    here account key true t same =
        ap (λ (n : ℕ). option_or (pick account key (placed n (value_of n ts) key.place))
        (option_or (if t then row_in account key ts else None) (row_at account key old)))
        (eqb-true entry.1 key.txn same)
        ∙ elim t as (λ (b : Bool). option_or (row_in account key ts)
        (option_or (if b then row_in account key ts else None) (row_at account key old))
        ≡ option_or (if b || true then row_in account key ts else None) (row_at account key old)) [
          | true ↦ or_twice (row_in account key ts) (row_at account key old)
          | false ↦ refl
        ]
    here account key false t other =
        let apart : key.txn ≡ entry.1 → ⊥ = λ same. grind (arith, nat_tests, other, same) in
        ap (λ (o : Option Entry). option_or o
        (option_or (if t then row_in account key ts else None) (row_at account key old)))
        (placed_other account key entry.1 key.place (value_of entry.1 ts) apart)
        ∙ elim t as (λ (b : Bool). option_or (if b then row_in account key ts else None) (row_at account key old)
        ≡ option_or (if b || false then row_in account key ts else None) (row_at account key old)) [
          | true ↦ refl
          | false ↦ refl
        ]

-- ---- the rows of all
pub held_added :
    (ts : List (ℕ × Txn)) (order : List (ℤ × ℕ)) (old new : List (ℕ × Page)) → NamesAll order ts
    → ((account : ℕ) → rows_at account old ≡ []) → AreAdded ts order old new → Holds new ts
held_added ts order old new names none added = record {
  rows = λ account key.
      added.rows account key
      ∙ ap (λ (l : List Entry). option_or
      (if list_any (λ (e : ℤ × ℕ). e.1 == key.txn) order then row_in account key ts else None)
      (find (has_key key) l)) (none account)
      ∙ or_none (if list_any (λ (e : ℤ × ℕ). e.1 == key.txn) order then row_in account key ts else None)
      ∙ here account key (value_of key.txn ts) refl;
}
  where
    here :
        (account : ℕ) (key : RowKey) (o : Option Txn) → value_of key.txn ts ≡ o
        → (if list_any (λ (e : ℤ × ℕ). e.1 == key.txn) order then row_in account key ts else None)
        ≡ row_in account key ts
    here account key None is =
        let no_row : row_in account key ts ≡ None =
        ap (λ (p : Option Txn). pick account key (placed key.txn p key.place)) is in
        elim (list_any (λ (e : ℤ × ℕ). e.1 == key.txn) order) as
        (λ (t : Bool). (if t then row_in account key ts else None) ≡ row_in account key ts) [
          | true ↦ refl
          | false ↦ sym no_row
        ]
    here account key (Some t) is =
        ap (λ (b : Bool). if b then row_in account key ts else None)
        (any_counted (λ (e : ℤ × ℕ). e.1 == key.txn) order (names.each key.txn (ap is_some is)))

-- ---- the changes that are counted
-- a number that stands at a place is counted
counted_at :
    (n : ℕ) (order : List (ℤ × ℕ)) (i : ℕ) (first : ℤ × ℕ) → i < length order → (get_or order i first).1 ≡ n
    → 1 ≤ count_by (λ (entry : ℤ × ℕ). entry.1 == n) order
counted_at n [] i first less is = absurd (omega (arith, less))
counted_at n (e ∷ es) zero first less is =
    let count = sum_by-cons (λ (entry : ℤ × ℕ). if entry.1 == n then 1 else 0) e es in
    let itself : (e.1 == n) ≡ true = eq-eqb e.1 n is in
    let one = ap {B = ℕ} (λ (b : Bool). if b then 1 else 0) itself in
    omega (arith, count, one)
counted_at n (e ∷ es) (suc i) first less is =
    let count = sum_by-cons (λ (entry : ℤ × ℕ). if entry.1 == n then 1 else 0) e es in
    omega (arith, count, counted_at n es i first (omega (arith, less)) is)

-- one that stands once doesn't stand before its place
once_before :
    (n : ℕ) (order : List (ℤ × ℕ)) (i : ℕ) (first : ℤ × ℕ) → i < length order → (get_or order i first).1 ≡ n
    → count_by (λ (entry : ℤ × ℕ). entry.1 == n) order ≤ 1
    → list_any (λ (entry : ℤ × ℕ). entry.1 == n) (take i order) ≡ false
once_before n [] i first less is once = absurd (omega (arith, less))
once_before n (e ∷ es) zero first less is once = refl
once_before n (e ∷ es) (suc i) first less is once =
    let count = sum_by-cons (λ (entry : ℤ × ℕ). if entry.1 == n then 1 else 0) e es in
    let later : i < length es = omega (arith, less) in
    let Here : Bool → Type 0 = λ t. (e.1 == n) ≡ t
    → (t || list_any (λ (entry : ℤ × ℕ). entry.1 == n) (take i es)) ≡ false in
    elim (e.1 == n) as Here [
      | true ↦ λ same.
          let one = ap {B = ℕ} (λ (b : Bool). if b then 1 else 0) same in
          absurd (omega (arith, count, one, once, counted_at n es i first later is))
      | false ↦ λ other. once_before n es i first later is (omega (arith, count, once))
    ] refl

-- where no row of a transaction was put in yet, its places are free
pub free_yet :
    (ts : List (ℕ × Txn)) (order : List (ℤ × ℕ)) (i : ℕ) (first : ℤ × ℕ) (old mid : List (ℕ × Page))
    → i < length order → AreOnce order → HaveNoRows old → AreAdded ts (take i order) old mid
    → AreFree (get_or order i first).1 (value_of (get_or order i first).1 ts) None mid
free_yet ts order i first old mid less once none added = record {
  rows = λ account key same some.
      let n = (get_or order i first).1 in
      let apart = once_before n order i first less refl (once.each n) in
      added.rows account key
      ∙ ap (λ (b : Bool). option_or (if b then row_in account key ts else None) (row_at account key old))
      (ap (λ (m : ℕ). list_any (λ (e : ℤ × ℕ). e.1 == m) (take i order)) same ∙ apart)
      ∙ ap (find (has_key key)) (none account);
}

-- registers with more room were changed as often
pub counts_extended :
    (first old new : List (ℕ × Page)) → Extends old new → CountsFrom first old → CountsFrom first new
counts_extended first old new extends counts = record {
  sorted = counts.sorted;
  each = λ account.
      extends.changes account ∙ counts.each account
      ∙ ap (λ (l : List Entry). min (changes_of account first + differing (rows_at account first) l) (2 ^ 64 - 1))
      (sym (extends.rows account));
  left = λ account.
      let Left : ℕ → List Entry → Type 0 =
      λ reckoned rows. AreLeft (rows_at account first) (reckoned_of account first) rows reckoned in
      subst (λ (n : ℕ). Left n (rows_at account new)) (sym (extends.reckoned account))
      (subst (Left (reckoned_of account old)) (sym (extends.rows account)) (counts.left account));
  work = λ account. extends.work account ∙ counts.work account;
}

-- no registers were not changed
pub counts_none : CountsFrom [] []
counts_none = counts_start [] (All-nil (λ (entry : ℕ × Page). IsSorted entry.1.rows)) (record { each = λ account. omega arith })

-- under each number nothing has its rows there
pub none_held : (number : ℕ) → HasRowsOf number None []
none_held number = record { rows = λ account key same. refl }

all_missing : (rows : List Entry) → missing rows [] ≡ length rows
all_missing [] = refl
all_missing (row ∷ rows) =
    let count = sum_by-cons (λ (r : Entry). if not (has_row r []) then 1 else 0) row rows in
    omega (arith, count, all_missing rows)

-- registers that were changed since there were none are new
pub new_of : (registers : List (ℕ × Page)) → CountsFrom [] registers → AreNew registers
new_of registers counts = record {
  changes = λ account.
      let rows : List Entry = rows_at account registers in
      let none : missing (rows_at account []) rows ≡ 0 = refl in
      let start : changes_of account [] ≡ 0 = refl in
      omega (arith, counts.each account, none, start, all_missing rows);
  work = counts.work;
}
