-- Sums over the rows of the registers of all accounts: each split that isn't voided is a row of one of them, so they are
-- those over all splits, of which the voided give nothing.
use Rattle.std.proofs.Common.{◌≡◌, ℕ, ◌+◌, ◌==◌, nat_eq, ◌&&◌, not, ℤ, pos, ◌+ℤ◌, Bool, true, false, if◌then◌else◌}
use Rattle.std.proofs.Common.{List, [], ◌∷◌, ◌++◌, All, length, map, filter, ◌⊎◌, inl, inr, refl, sym, ap, subst, ◌∙◌, arith}
use Rattle.std.proofs.lemmas.Bool.{and_parts, eqb-true}
use Rattle.std.proofs.lemmas.Int.{ints}
use Rattle.std.proofs.lemmas.List.{map-append}
use Rattle.std.proofs.lemmas.List.Elements.{All-head, All-tail}
use Rattle.book_commodity.proofs.ListLemmas.{all_back, all_front}
use Rattle.book_ledger.specs.Ledger.{register_of, row_of, rows_from, rows_on, sorted, with_row}
use Rattle.book_register.specs.Register.{key_of, precedes}
use Rattle.book_register.specs.declared.entry.Entry.{Entry}
use Rattle.book_splits.proofs.BalanceLemmas.{total-append}
use Rattle.book_splits.specs.Balance.{counts_on, splits_of, total}
use Rattle.book_splits.specs.TransactionRules.{is_voided}
use Rattle.book_splits.specs.declared.split.Split.{Split}
use Rattle.book_splits.specs.declared.transaction.Txn.{Txn}

-- ---- sums of amounts

pub total_same :
    {X : Type 0} (f g : X → ℤ) → ((x : X) → f x ≡ g x) → (xs : List X) → total (map f xs) ≡ total (map g xs)
total_same f g same [] = refl
total_same f g same (x ∷ xs) =
    ap (λ (z : ℤ). z +ℤ total (map f xs)) (same x) ∙ ap (λ (z : ℤ). g x +ℤ z) (total_same f g same xs)

pub total_zero : {X : Type 0} (xs : List X) → total (map (λ (x : X). pos 0) xs) ≡ pos 0
total_zero [] = refl
total_zero (x ∷ xs) = omega (arith, ints, total_zero xs)

pub total_sum :
    {X : Type 0} (f g : X → ℤ) (xs : List X)
    → total (map (λ (x : X). f x +ℤ g x) xs) ≡ total (map f xs) +ℤ total (map g xs)
total_sum f g [] = refl
total_sum f g (x ∷ xs) = omega (arith, ints, total_sum f g xs)

-- ---- one amount among those of a list of accounts

none_of :
    (n : ℕ) (z : ℤ) (order : List ℕ) → length (filter (nat_eq n) order) ≡ 0
    → total (map (λ (a : ℕ). if n == a then z else pos 0) order) ≡ pos 0
none_of n z [] none = refl
none_of n z (a ∷ order) none =
    let rest = none_of n z order in
    let others = total (map (λ (b : ℕ). if n == b then z else pos 0) order) in
    let Here : Bool → Type 0 = λ t. length (if t then a ∷ filter (nat_eq n) order else filter (nat_eq n) order) ≡ 0
    → (if t then z else pos 0) +ℤ others ≡ pos 0 in
    elim (nat_eq n a) as Here [
      | true ↦ λ some. absurd (omega (arith, some))
      | false ↦ λ same. let is = rest same in omega (arith, ints, is)
    ] none

-- where an account is listed once, the sum is its amount
once_of :
    (n : ℕ) (z : ℤ) (order : List ℕ) → length (filter (nat_eq n) order) ≡ 1
    → total (map (λ (a : ℕ). if n == a then z else pos 0) order) ≡ z
once_of n z [] once = absurd (omega (arith, once))
once_of n z (a ∷ order) once =
    let rest = once_of n z order in
    let none = none_of n z order in
    let others = total (map (λ (b : ℕ). if n == b then z else pos 0) order) in
    let Here : Bool → Type 0 = λ t. length (if t then a ∷ filter (nat_eq n) order else filter (nat_eq n) order) ≡ 1
    → (if t then z else pos 0) +ℤ others ≡ z in
    elim (nat_eq n a) as Here [
      | true ↦ λ first. let is = none (omega (arith, first)) in omega (arith, ints, is)
      | false ↦ λ same. let is = rest same in omega (arith, ints, is)
    ] once

-- that of a split which may be voided, and then gives nothing
counted_once :
    (n : ℕ) (z : ℤ) (voided : Bool) (order : List ℕ) → length (filter (nat_eq n) order) ≡ 1
    → (voided ≡ true → z ≡ pos 0)
    → total (map (λ (a : ℕ). if (n == a) && not voided then z else pos 0) order) ≡ z
counted_once n z true order once nothing =
    total_same (λ (a : ℕ). if (n == a) && false then z else pos 0) (λ (a : ℕ). pos 0)
    (λ a. elim (n == a) as (λ b. (if b && false then z else pos 0) ≡ pos 0) [ true ↦ refl | false ↦ refl ]) order
    ∙ total_zero order ∙ sym (nothing refl)
counted_once n z false order once nothing =
    total_same (λ (a : ℕ). if (n == a) && true then z else pos 0) (λ (a : ℕ). if n == a then z else pos 0)
    (λ a. elim (n == a) as (λ b. (if b && true then z else pos 0) ≡ (if b then z else pos 0)) [
      | true ↦ refl
      | false ↦ refl
    ]) order
    ∙ once_of n z order once

-- ---- rows

-- The order of rows changes no sum.
total_with :
    (amount : Entry → ℤ) (row : Entry) (rows : List Entry)
    → total (map amount (with_row row rows)) ≡ amount row +ℤ total (map amount rows)
total_with amount row [] = refl
total_with amount row (first ∷ more) =
    let rest = total_with amount row more in
    elim (precedes (key_of first) (key_of row)) as
    (λ b. total (map amount (if b then first ∷ with_row row more else row ∷ first ∷ more))
    ≡ amount row +ℤ (amount first +ℤ total (map amount more))) [
      | true ↦ omega (arith, ints, rest)
      | false ↦ refl
    ]

total_sorted :
    (amount : Entry → ℤ) (rows : List Entry) → total (map amount (sorted rows)) ≡ total (map amount rows)
total_sorted amount [] = refl
total_sorted amount (row ∷ rows) =
    total_with amount row (sorted rows) ∙ ap (λ (z : ℤ). amount row +ℤ z) (total_sorted amount rows)

-- the rows of splits give an account what the first gives to it, and what the others do
rows_of_split :
    (amount : Entry → ℤ) (account n : ℕ) (t : Txn) (place : ℕ) (split : Split) (more : List Split)
    → total (map amount (rows_from account n t place (split ∷ more)))
    ≡ (if counts_on account split then amount (row_of n t place split) else pos 0)
    +ℤ total (map amount (rows_from account n t (place + 1) more))
rows_of_split amount account n t place split more =
    let row = row_of n t place split in
    let later = rows_from account n t (place + 1) more in
    elim (counts_on account split) as
    (λ b. total (map amount (if b then row ∷ later else later))
    ≡ (if b then amount row else pos 0) +ℤ total (map amount later)) [
      | true ↦ refl
      | false ↦ omega (arith, ints)
    ]

-- The account of a split is listed once.
abbrev pub IsListedOnce : List ℕ → Split → Type 0
IsListedOnce order split = length (filter (nat_eq split.account) order) ≡ 1

-- An amount of a row is that of the split from which it is made.
abbrev pub IsOfSplit : (Entry → ℤ) → (Txn → Split → ℤ) → Type 0
IsOfSplit amount of =
    (n : ℕ) (t : Txn) (place : ℕ) (split : Split) → amount (row_of n t place split) ≡ of t split

-- A split gives nothing where it is voided.
abbrev pub GivesUnvoided : (Txn → Split → ℤ) → Txn → Split → Type 0
GivesUnvoided of t split = is_voided split.mark ≡ true → of t split ≡ pos 0

-- The voided splits of a transaction give nothing.
abbrev pub AllGiveUnvoided : (Txn → Split → ℤ) → ℕ × Txn → Type 0
AllGiveUnvoided of e = All (GivesUnvoided of e.1) e.1.splits

total_from :
    (amount : Entry → ℤ) (of : Txn → Split → ℤ) → IsOfSplit amount of → (order : List ℕ) (n : ℕ) (t : Txn) (place : ℕ)
    (splits : List Split) → All (IsListedOnce order) splits → All (GivesUnvoided of t) splits
    → total (map (λ (a : ℕ). total (map amount (rows_from a n t place splits))) order) ≡ total (map (of t) splits)
total_from amount of same order n t place [] all none = total_zero order
total_from amount of same order n t place (split ∷ more) all none =
    let own : ℕ → ℤ = λ a. if counts_on a split then amount (row_of n t place split) else pos 0 in
    let nothing = All-head (GivesUnvoided of t) split more none in
    let later : ℕ → ℤ = λ a. total (map amount (rows_from a n t (place + 1) more)) in
    let all_of : ℕ → ℤ = λ a. total (map amount (rows_from a n t place (split ∷ more))) in
    total_same all_of (λ (a : ℕ). own a +ℤ later a) (λ a. rows_of_split amount a n t place split more) order
    ∙ total_sum own later order
    ∙ ap (λ (z : ℤ). z +ℤ total (map later order))
    (counted_once split.account (amount (row_of n t place split)) (is_voided split.mark) order
    (All-head (IsListedOnce order) split more all) (λ voided. same n t place split ∙ nothing voided)
    ∙ same n t place split)
    ∙ ap (λ (z : ℤ). of t split +ℤ z)
    (total_from amount of same order n t (place + 1) more (All-tail (IsListedOnce order) split more all)
    (All-tail (GivesUnvoided of t) split more none))

total_on :
    (amount : Entry → ℤ) (of : Txn → Split → ℤ) → IsOfSplit amount of → (order : List ℕ) (ts : List (ℕ × Txn))
    → All (IsListedOnce order) (splits_of ts) → All (AllGiveUnvoided of) ts
    → total (map (λ (a : ℕ). total (map amount (rows_on a ts))) order)
    ≡ total (map (λ (e : ℕ × Txn). total (map (of e.1) e.1.splits)) ts)
total_on amount of same order [] all none = total_zero order
total_on amount of same order (e ∷ ts) all none =
    let own : ℕ → ℤ = λ a. total (map amount (rows_from a e.0 e.1 0 e.1.splits)) in
    let later : ℕ → ℤ = λ a. total (map amount (rows_on a ts)) in
    total_same (λ (a : ℕ). total (map amount (rows_on a (e ∷ ts)))) (λ (a : ℕ). own a +ℤ later a)
    (λ a. ap total (map-append amount (rows_from a e.0 e.1 0 e.1.splits) (rows_on a ts))
    ∙ total-append (map amount (rows_from a e.0 e.1 0 e.1.splits)) (map amount (rows_on a ts))) order
    ∙ total_sum own later order
    ∙ ap (λ (z : ℤ). z +ℤ total (map later order))
    (total_from amount of same order e.0 e.1 0 e.1.splits (all_front (IsListedOnce order) e.1.splits (splits_of ts) all)
    (All-head (AllGiveUnvoided of) e ts none))
    ∙ ap (λ (z : ℤ). total (map (of e.1) e.1.splits) +ℤ z)
    (total_on amount of same order ts (all_back (IsListedOnce order) e.1.splits (splits_of ts) all)
    (All-tail (AllGiveUnvoided of) e ts none))

-- The amounts of the rows of all registers add up to those of all splits, where the voided give nothing.
pub total_of_registers :
    (amount : Entry → ℤ) (of : Txn → Split → ℤ) → IsOfSplit amount of → (order : List ℕ) (ts : List (ℕ × Txn))
    → All (IsListedOnce order) (splits_of ts) → All (AllGiveUnvoided of) ts
    → total (map (λ (a : ℕ). total (map amount (register_of a ts))) order)
    ≡ total (map (λ (e : ℕ × Txn). total (map (of e.1) e.1.splits)) ts)
total_of_registers amount of same order ts all none =
    total_same (λ (a : ℕ). total (map amount (register_of a ts))) (λ (a : ℕ). total (map amount (rows_on a ts)))
    (λ a. total_sorted amount (rows_on a ts)) order
    ∙ total_on amount of same order ts all none

-- Where those of each transaction add up to zero, so do all.
pub total_of_zeros :
    (of : Txn → Split → ℤ) (ts : List (ℕ × Txn))
    → All (λ (e : ℕ × Txn). total (map (of e.1) e.1.splits) ≡ pos 0) ts
    → total (map (λ (e : ℕ × Txn). total (map (of e.1) e.1.splits)) ts) ≡ pos 0
total_of_zeros of [] all = refl
total_of_zeros of (e ∷ ts) all =
    let Zero : ℕ × Txn → Type 0 = λ x. total (map (of x.1) x.1.splits) ≡ pos 0 in
    let first = All-head Zero e ts all in
    let rest = total_of_zeros of ts (All-tail Zero e ts all) in
    omega (arith, ints, first, rest)

-- ---- an account without splits

none_from :
    (P : ℕ → Type 0) (account n : ℕ) (t : Txn) (place : ℕ) (splits : List Split)
    → All (λ (s : Split). P s.account) splits → (rows_from account n t place splits ≡ []) ⊎ P account
none_from P account n t place [] all = inl refl
none_from P account n t place (split ∷ more) all =
    let On : Split → Type 0 = λ s. P s.account in
    let row = row_of n t place split in
    let later = rows_from account n t (place + 1) more in
    let rest = none_from P account n t (place + 1) more (All-tail On split more all) in
    let Here : Bool → Type 0 = λ b. counts_on account split ≡ b
    → ((if b then row ∷ later else later) ≡ []) ⊎ P account in
    elim (counts_on account split) as Here [
      | true ↦ λ counts.
          let same = (and_parts (split.account == account) (not (is_voided split.mark)) counts).0 in
          inr (subst P (eqb-true split.account account same) (All-head On split more all))
      | false ↦ λ other. rest
    ] refl

none_on :
    (P : ℕ → Type 0) (account : ℕ) (ts : List (ℕ × Txn)) → All (λ (s : Split). P s.account) (splits_of ts)
    → (rows_on account ts ≡ []) ⊎ P account
none_on P account [] all = inl refl
none_on P account (e ∷ ts) all =
    let On : Split → Type 0 = λ s. P s.account in
    both (none_from P account e.0 e.1 0 e.1.splits (all_front On e.1.splits (splits_of ts) all))
    (none_on P account ts (all_back On e.1.splits (splits_of ts) all))
  where
    both :
        ((rows_from account e.0 e.1 0 e.1.splits ≡ []) ⊎ P account) → ((rows_on account ts ≡ []) ⊎ P account)
        → (rows_from account e.0 e.1 0 e.1.splits ++ rows_on account ts ≡ []) ⊎ P account
    both (inr is) rest = inr is
    both (inl none) (inr is) = inr is
    both (inl none) (inl nothing) = inl (ap (λ (l : List Entry). l ++ rows_on account ts) none ∙ nothing)

-- What holds of the account of each split holds of an account, or this has an empty register.
pub empty_or :
    (P : ℕ → Type 0) (account : ℕ) (ts : List (ℕ × Txn)) → All (λ (s : Split). P s.account) (splits_of ts)
    → (register_of account ts ≡ []) ⊎ P account
empty_or P account ts all = by (none_on P account ts all)
  where
    by : ((rows_on account ts ≡ []) ⊎ P account) → (register_of account ts ≡ []) ⊎ P account
    by (inl none) = inl (ap sorted none)
    by (inr is) = inr is
