-- The row that is found at a key: in rows with one more, with one put in at a place, or with one taken out.
use Rattle.std.proofs.Common.{◌≡◌, ℕ, zero, suc, ◌+◌, ◌==◌, nat_lt, ◌&&◌, not, Bool, true, false, cond}
use Rattle.std.proofs.Common.{List, [], ◌∷◌, ◌++◌, length, Option, Some, None, find, refl, sym, ap, ◌∙◌, arith}
use Rattle.std.specs.List.{insert, position, position_or_len}
use Rattle.std.specs.Option.{option_or}
use Rattle.std.proofs.lemmas.Bool.{and_parts, eqb-true}
use Rattle.std.proofs.lemmas.Bool.Decides.{nat_tests, Decides-int_eq}
use Rattle.std.proofs.lemmas.Int.{ints}
use Rattle.std.specs.Ordering.{int_eq}
use Rattle.book_register.specs.Register.{IsSorted, PrecedesAll, has_key, key_at, key_of, precedes, rows_without}
use Rattle.book_register.specs.declared.entry.Entry.{Entry}
use Rattle.book_register.specs.Register.{RowKey}
use Rattle.book_register.proofs.KeyLemmas.{after-other}

-- ---- options
pub or_none : {X : Type 0} (o : Option X) → option_or o None ≡ o
or_none None = refl
or_none (Some x) = refl

pub or_assoc : {X : Type 0} (o p q : Option X) → option_or (option_or o p) q ≡ option_or o (option_or p q)
or_assoc None p q = refl
or_assoc (Some x) p q = refl

pub find_append :
    {X : Type 0} (p : X → Bool) (xs ys : List X) → find p (xs ++ ys) ≡ option_or (find p xs) (find p ys)
find_append p [] ys = refl
find_append {X} p (x ∷ xs) ys =
    let Here : Bool → Type 0 = λ t. cond t (Some x) (find p (xs ++ ys)) ≡ option_or (cond t (Some x) (find p xs))
    (find p ys) in
    elim (p x) as Here [ true ↦ refl | false ↦ find_append p xs ys ]

-- a row that may be there is found where it is and passes
pub find_either :
    {X : Type 0} (p : X → Bool) (t : Bool) (x : X) (rest : List X)
    → find p (cond t (x ∷ rest) rest) ≡ cond (t && p x) (Some x) (find p rest)
find_either p true x rest = refl
find_either p false x rest = refl

-- ---- keys
same_day : (x y : _) → int_eq x y ≡ true → x ≡ y
same_day x y is = grind (arith, ints, Decides-int_eq)

-- a row stands at one key alone
pub key_is : (key : RowKey) (row : Entry) → has_key key row ≡ true → key ≡ key_of row
key_is key row is =
    let day = and_parts (int_eq key.day row.day) ((key.txn == row.txn) && (key.place == row.place)) is in
    let rest = and_parts (key.txn == row.txn) (key.place == row.place) day.1 in
    let first : key.day ≡ row.day = same_day key.day row.day day.0 in
    let second : key.txn ≡ row.txn = eqb-true key.txn row.txn rest.0 in
    let third : key.place ≡ row.place = eqb-true key.place row.place rest.1 in
    ap (λ d. key_at d key.txn key.place) first ∙ ap (λ n. key_at row.day n key.place) second
    ∙ ap (λ n. key_at row.day row.txn n) third

pub key_itself : (row : Entry) → has_key (key_of row) row ≡ true
key_itself row = grind (arith, ints, nat_tests, Decides-int_eq)

pub txn_is : (key : RowKey) (row : Entry) → has_key key row ≡ true → key.txn ≡ row.txn
txn_is key row is = ap (λ (k : RowKey). k.txn) (key_is key row is)

pub place_is : (key : RowKey) (row : Entry) → has_key key row ≡ true → key.place ≡ row.place
place_is key row is = ap (λ (k : RowKey). k.place) (key_is key row is)

pub false_of : (t : Bool) → (t ≡ true → ⊥) → t ≡ false
false_of true other = absurd (other refl)
false_of false other = refl

-- ---- rows in order
-- no row stands at a key that comes before all of them
pub none_after : (key : RowKey) (rows : List Entry) → PrecedesAll key rows → find (has_key key) rows ≡ None
none_after key [] all = refl
none_after key (row ∷ rows) all =
    ap (λ t. cond t (Some row) (find (has_key key) rows)) (after-other key row all.0) ∙ none_after key rows all.1

pub some_after :
    (before key : RowKey) (rows : List Entry) (x : Entry) → PrecedesAll before rows → find (has_key key) rows ≡ Some x
    → precedes before (key_of x) ≡ true
some_after before key [] x all is = absurd cc
some_after before key (row ∷ rows) x all is =
    let Here : Bool → Type 0 = λ t. cond t (Some row) (find (has_key key) rows) ≡ Some x
    → precedes before (key_of x) ≡ true in
    elim (has_key key row) as Here [
      | true ↦ λ here. let same : row ≡ x = cc in ap (λ (y : Entry). precedes before (key_of y)) (sym same) ∙ all.0
      | false ↦ λ later. some_after before key rows x all.1 later
    ] is

-- ---- a row put in at a place
pub found_inserted :
    (key : RowKey) (rows : List Entry) (i : ℕ) (e : Entry) → find (has_key (key_of e)) rows ≡ None
    → find (has_key key) (insert rows i e) ≡ cond (has_key key e) (Some e) (find (has_key key) rows)
found_inserted key rows zero e none = refl
found_inserted key [] (suc i) e none = refl
found_inserted key (row ∷ rows) (suc i) e none =
    let both = passed (has_key (key_of e) row) row (find (has_key (key_of e)) rows) none in
    let rest = found_inserted key rows i e both.1 in
    ap (λ (o : Option Entry). cond (has_key key row) (Some row) o) rest
    ∙ swapped (has_key key row) (has_key key e) refl refl both.0
  where
    passed : (t : Bool) (x : Entry) (o : Option Entry) → cond t (Some x) o ≡ None → (t ≡ false) × (o ≡ None)
    passed true x o is = absurd cc
    passed false x o is = (refl, is)

    swapped :
        (s t : Bool) → has_key key row ≡ s → has_key key e ≡ t → has_key (key_of e) row ≡ false
        → cond s (Some row) (cond t (Some e) (find (has_key key) rows))
        ≡ cond t (Some e) (cond s (Some row) (find (has_key key) rows))
    swapped false t first second other = refl
    swapped true false first second other = refl
    swapped true true first second other =
        absurd (let one = key_is key e second in
        let two = sym (ap (λ (k : RowKey). has_key k row) one) ∙ first in cc)

-- ---- a row taken out
-- Rows without the first that stands at a key.
abbrev pub without : RowKey → List Entry → List Entry
without key [] = []
without key (row ∷ rows) = cond (has_key key row) rows (row ∷ without key rows)

pub without_is : (key : RowKey) (rows : List Entry) → rows_without (position (has_key key) rows) rows ≡ without key rows
without_is key [] = refl
without_is key (row ∷ rows) = here (has_key key row) (without_is key rows)
  where
    at : ℕ → Option ℕ
    at n = cond (nat_lt n (length rows)) (Some n) None

    moved :
        (n : ℕ) → rows_without (cond (nat_lt (1 + n) (suc (length rows))) (Some (1 + n)) None) (row ∷ rows)
        ≡ row ∷ rows_without (cond (nat_lt n (length rows)) (Some n) None) rows
    moved n =
        let up : 1 + n ≡ suc n = omega arith in
        let test : nat_lt (suc n) (suc (length rows)) ≡ nat_lt n (length rows) = grind (arith, nat_tests) in
        let By : Bool → Type 0 = λ t. rows_without (cond t (Some (suc n)) None) (row ∷ rows)
        ≡ row ∷ rows_without (cond t (Some n) None) rows in
        ap (λ (m : ℕ). rows_without (cond (nat_lt m (suc (length rows))) (Some m) None) (row ∷ rows)) up
        ∙ ap (λ t. rows_without (cond t (Some (suc n)) None) (row ∷ rows)) test
        ∙ elim (nat_lt n (length rows)) as By [ true ↦ refl | false ↦ refl ]

    here :
        (t : Bool) → rows_without (position (has_key key) rows) rows ≡ without key rows
        → rows_without (cond (nat_lt (cond (not t) (1 + position_or_len (has_key key) rows) 0) (suc (length rows)))
        (Some (cond (not t) (1 + position_or_len (has_key key) rows) 0)) None) (row ∷ rows)
        ≡ cond t rows (row ∷ without key rows)
    here true rest =
        let first : nat_lt 0 (suc (length rows)) ≡ true = grind (arith, nat_tests) in
        ap (λ t. rows_without (cond t (Some 0) None) (row ∷ rows)) first
    here false rest = moved (position_or_len (has_key key) rows) ∙ ap (λ (l : List Entry). row ∷ l) rest

none_either : (t : Bool) → ◌≡◌ {A = Option Entry} None (cond t None None)
none_either true = refl
none_either false = refl

found_left :
    (key : RowKey) (e : Entry) (rows : List Entry) → IsSorted rows
    → find (has_key key) (without (key_of e) rows) ≡ cond (has_key key e) None (find (has_key key) rows)
found_left key e [] sorted = none_either (has_key key e)
found_left key e (row ∷ rows) sorted =
    here (has_key (key_of e) row) (has_key key e) (has_key key row) refl refl refl (found_left key e rows sorted.1)
  where
    here :
        (t s r : Bool) → has_key (key_of e) row ≡ t → has_key key e ≡ s → has_key key row ≡ r
        → find (has_key key) (without (key_of e) rows) ≡ cond s None (find (has_key key) rows)
        → find (has_key key) (cond t rows (row ∷ without (key_of e) rows))
        ≡ cond s None (cond r (Some row) (find (has_key key) rows))
    here true true r one two three rest =
        let keys = key_is key e two ∙ key_is (key_of e) row one in
        ap (λ (k : RowKey). find (has_key k) rows) keys ∙ none_after (key_of row) rows sorted.0
    here true false true one two three rest =
        absurd (let keys = key_is key row three ∙ sym (key_is (key_of e) row one) in
        let same = ap (λ (k : RowKey). has_key k e) keys ∙ key_itself e in cc)
    here true false false one two three rest = refl
    here false true r one two three rest =
        let keys = key_is key e two in
        let other = ap (λ (k : RowKey). has_key k row) keys ∙ one in
        ap (λ t. cond t (Some row) (find (has_key key) (without (key_of e) rows))) other ∙ rest
    here false false r one two three rest =
        ap (λ t. cond t (Some row) (find (has_key key) (without (key_of e) rows))) three
        ∙ ap (λ (o : Option Entry). cond r (Some row) o) rest

pub found_removed :
    (key : RowKey) (e : Entry) (rows : List Entry) → IsSorted rows
    → find (has_key key) (rows_without (position (has_key (key_of e)) rows) rows)
    ≡ cond (has_key key e) None (find (has_key key) rows)
found_removed key e rows sorted =
    ap (find (has_key key)) (without_is (key_of e) rows) ∙ found_left key e rows sorted

-- where no place has the key, no row is found
pub none_found :
    (key : RowKey) (rows : List Entry) → find (has_key key) rows ≡ None → position (has_key key) rows ≡ None
none_found key [] none = refl
none_found key (row ∷ rows) none = here (has_key key row) none (none_found key rows)
  where
    here :
        (t : Bool) → cond t (Some row) (find (has_key key) rows) ≡ None
        → (find (has_key key) rows ≡ None → position (has_key key) rows ≡ None)
        → cond (nat_lt (cond (not t) (1 + position_or_len (has_key key) rows) 0) (suc (length rows)))
        (Some (cond (not t) (1 + position_or_len (has_key key) rows) 0)) None ≡ None
    here true is rest = absurd cc
    here false is rest = moved (position_or_len (has_key key) rows) (rest is)
      where
        moved :
            (n : ℕ) → cond (nat_lt n (length rows)) (Some n) None ≡ None
            → cond (nat_lt (1 + n) (suc (length rows))) (Some (1 + n)) None ≡ None
        moved n past =
            let test : nat_lt (1 + n) (suc (length rows)) ≡ nat_lt n (length rows) = grind (arith, nat_tests) in
            let By : Bool → Type 0 = λ t. cond t (Some n) None ≡ None → cond t (Some (1 + n)) None ≡ None in
            ap (λ t. cond t (Some (1 + n)) None) test
            ∙ elim (nat_lt n (length rows)) as By [ true ↦ λ some. absurd cc | false ↦ λ gone. refl ] past
