-- Rows put in order: what is found among them, that they are sorted, that the order is the only one, and their sum.
use Rattle.std.proofs.Common.{◌≡◌, Bool, true, false, cond, List, [], ◌∷◌, Option, Some, None, find, refl, sym, ap, ◌∙◌}
use Rattle.std.proofs.Common.{◌+ℤ◌, subst}
use Rattle.std.specs.Prelude.{⊤}
use Rattle.std.proofs.Math.IntN.{+ℤ_assoc, +ℤ_comm}
use Rattle.book_register.specs.Register.{IsSorted, PrecedesAll, balance, has_key, key_of, precedes}
use Rattle.book_register.specs.declared.entry.Entry.{Entry}
use Rattle.book_register.specs.Register.{RowKey}
use Rattle.book_register.proofs.KeyLemmas.{after-neither, after-other, before-other, precedes-trans}
use Rattle.book_register.proofs.RowLemmas.{all-before}
use Rattle.book_ledger.specs.Ledger.{sorted, with_row}
use Rattle.book_ledger.proofs.FoundLemmas.{key_is, key_itself, none_after, some_after}

-- ---- what is found
pub found_with :
    (key : RowKey) (row : Entry) (rows : List Entry)
    → find (has_key key) (with_row row rows) ≡ cond (has_key key row) (Some row) (find (has_key key) rows)
found_with key row [] = refl
found_with key row (first ∷ more) = here (precedes (key_of first) (key_of row)) refl (found_with key row more)
  where
    swapped :
        (s t : Bool) → has_key key first ≡ s → has_key key row ≡ t → has_key (key_of row) first ≡ false
        → cond s (Some first) (cond t (Some row) (find (has_key key) more))
        ≡ cond t (Some row) (cond s (Some first) (find (has_key key) more))
    swapped false t one two other = refl
    swapped true false one two other = refl
    swapped true true one two other =
        absurd (let same = sym (ap (λ (k : RowKey). has_key k first) (key_is key row two)) ∙ one in cc)

    here :
        (t : Bool) → precedes (key_of first) (key_of row) ≡ t
        → find (has_key key) (with_row row more) ≡ cond (has_key key row) (Some row) (find (has_key key) more)
        → find (has_key key) (cond t (first ∷ with_row row more) (row ∷ first ∷ more))
        ≡ cond (has_key key row) (Some row) (cond (has_key key first) (Some first) (find (has_key key) more))
    here false is rest = refl
    here true is rest =
        ap (λ (o : Option Entry). cond (has_key key first) (Some first) o) rest
        ∙ swapped (has_key key first) (has_key key row) refl refl (before-other (key_of row) first is)

pub found_sorted : (key : RowKey) (rows : List Entry) → find (has_key key) (sorted rows) ≡ find (has_key key) rows
found_sorted key [] = refl
found_sorted key (row ∷ rows) =
    found_with key row (sorted rows)
    ∙ ap (λ (o : Option Entry). cond (has_key key row) (Some row) o) (found_sorted key rows)

-- ---- in order
all_with_row :
    (key : RowKey) (row : Entry) (rows : List Entry) → precedes key (key_of row) ≡ true → PrecedesAll key rows
    → PrecedesAll key (with_row row rows)
all_with_row key row [] before all = (before, tt)
all_with_row key row (first ∷ more) before all =
    elim (precedes (key_of first) (key_of row)) as
    (λ t. PrecedesAll key (cond t (first ∷ with_row row more) (row ∷ first ∷ more))) [
      | true ↦ (all.0, all_with_row key row more before all.1)
      | false ↦ (before, all)
    ]

passed :
    (t : Bool) (x : Entry) (o : Option Entry) → cond t (Some x) o ≡ None → (t ≡ false) × (o ≡ None)
passed true x o is = absurd cc
passed false x o is = (refl, is)

with_sorted :
    (row : Entry) (rows : List Entry) → IsSorted rows → find (has_key (key_of row)) rows ≡ None
    → IsSorted (with_row row rows)
with_sorted row [] in_order none = (tt, tt)
with_sorted row (first ∷ more) in_order none =
    let both = passed (has_key (key_of row) first) first (find (has_key (key_of row)) more) none in
    let Goal : Bool → Type 0 = λ t. precedes (key_of first) (key_of row) ≡ t
    → IsSorted (cond t (first ∷ with_row row more) (row ∷ first ∷ more)) in
    elim (precedes (key_of first) (key_of row)) as Goal [
      | true ↦ λ is.
          (all_with_row (key_of first) row more is in_order.0, with_sorted row more in_order.1 both.1)
      | false ↦ λ is.
          let past = after-neither (key_of row) first is both.0 in
          ((past, all-before (key_of row) (key_of first) more past in_order.0), in_order)
    ] refl

-- No two of the rows stand at one key.
abbrev pub AreApart : List Entry → Type 0
AreApart [] = ⊤
AreApart (row ∷ more) = (find (has_key (key_of row)) more ≡ None) × AreApart more

pub sorted_sorted : (rows : List Entry) → AreApart rows → IsSorted (sorted rows)
sorted_sorted [] apart = tt
sorted_sorted (row ∷ rows) apart =
    with_sorted row (sorted rows) (sorted_sorted rows apart.1) (found_sorted (key_of row) rows ∙ apart.0)

-- ---- the only order
found_first : (x : Entry) (rows : List Entry) → find (has_key (key_of x)) (x ∷ rows) ≡ Some x
found_first x rows = ap (λ t. cond t (Some x) (find (has_key (key_of x)) rows)) (key_itself x)

-- of two sorted rows in which the same is found the first are the same
same_first :
    (x y : Entry) (xs ys : List Entry) → IsSorted (x ∷ xs) → IsSorted (y ∷ ys)
    → ((key : RowKey) → find (has_key key) (x ∷ xs) ≡ find (has_key key) (y ∷ ys)) → x ≡ y
same_first x y xs ys one two same = here (has_key (key_of x) y) refl (sym (same (key_of x)) ∙ found_first x xs)
  where
    later : find (has_key (key_of x)) ys ≡ Some x → ⊥
    later found = past (has_key (key_of y) x) refl
      where
        behind : precedes (key_of y) (key_of x) ≡ true
        behind = some_after (key_of y) (key_of x) ys x two.0 found

        past : (t : Bool) → has_key (key_of y) x ≡ t → ⊥
        past true is = let other = after-other (key_of y) x behind in absurd cc
        past false is =
            let found_y : find (has_key (key_of y)) xs ≡ Some y =
            sym (ap (λ t. cond t (Some x) (find (has_key (key_of y)) xs)) is) ∙ same (key_of y) ∙ found_first y ys in
            let before = some_after (key_of x) (key_of y) xs y one.0 found_y in
            let round = precedes-trans (key_of x) (key_of y) (key_of x) before behind in
            let other = before-other (key_of x) x round in
            let itself = key_itself x in absurd cc

    here : (t : Bool) → has_key (key_of x) y ≡ t → cond t (Some y) (find (has_key (key_of x)) ys) ≡ Some x → x ≡ y
    here true is found = cc
    here false is found = absurd (later found)

same_rest :
    (x : Entry) (xs ys : List Entry) → IsSorted (x ∷ xs) → IsSorted (x ∷ ys)
    → ((key : RowKey) → find (has_key key) (x ∷ xs) ≡ find (has_key key) (x ∷ ys)) → (key : RowKey)
    → find (has_key key) xs ≡ find (has_key key) ys
same_rest x xs ys one two same key = here (has_key key x) refl (same key)
  where
    here :
        (t : Bool) → has_key key x ≡ t → cond t (Some x) (find (has_key key) xs)
        ≡ cond t (Some x) (find (has_key key) ys) → find (has_key key) xs ≡ find (has_key key) ys
    here false is found = found
    here true is found =
        let keys = key_is key x is in
        ap (λ (k : RowKey). find (has_key k) xs) keys ∙ none_after (key_of x) xs one.0
        ∙ sym (ap (λ (k : RowKey). find (has_key k) ys) keys ∙ none_after (key_of x) ys two.0)

-- sorted rows in which the same is found at each key are the same rows
pub same_rows :
    (xs ys : List Entry) → IsSorted xs → IsSorted ys → ((key : RowKey) → find (has_key key) xs ≡ find (has_key key) ys)
    → xs ≡ ys
same_rows [] [] one two same = refl
same_rows [] (y ∷ ys) one two same = absurd (let none = same (key_of y) ∙ found_first y ys in cc)
same_rows (x ∷ xs) [] one two same = absurd (let none = sym (found_first x xs) ∙ same (key_of x) in cc)
same_rows (x ∷ xs) (y ∷ ys) one two same =
    let first = same_first x y xs ys one two same in
    let Sorted : Entry → Type 0 = λ e. IsSorted (e ∷ ys) in
    let Same : Entry → Type 0 = λ e. (key : RowKey) → find (has_key key) (x ∷ xs) ≡ find (has_key key) (e ∷ ys) in
    let rest = same_rows xs ys one.1 two.1
    (same_rest x xs ys one (subst Sorted (sym first) two) (subst Same (sym first) same)) in
    ap (λ (e : Entry). e ∷ xs) first ∙ ap (λ (l : List Entry). y ∷ l) rest

-- no row is found at any key: there is none
pub no_rows : (rows : List Entry) → ((key : RowKey) → find (has_key key) rows ≡ None) → rows ≡ []
no_rows [] none = refl
no_rows (row ∷ rows) none = absurd (let some = sym (found_first row rows) ∙ none (key_of row) in cc)

-- ---- the sum
balance_with : (row : Entry) (rows : List Entry) → balance (with_row row rows) ≡ row.quantity +ℤ balance rows
balance_with row [] = refl
balance_with row (first ∷ more) =
    elim (precedes (key_of first) (key_of row)) as
    (λ t. balance (cond t (first ∷ with_row row more) (row ∷ first ∷ more))
    ≡ row.quantity +ℤ (first.quantity +ℤ balance more)) [
      | true ↦ ap (λ z. first.quantity +ℤ z) (balance_with row more)
          ∙ sym (+ℤ_assoc first.quantity row.quantity (balance more))
          ∙ ap (λ z. z +ℤ balance more) (+ℤ_comm first.quantity row.quantity)
          ∙ +ℤ_assoc row.quantity first.quantity (balance more)
      | false ↦ refl
    ]

pub balance_sorted : (rows : List Entry) → balance (sorted rows) ≡ balance rows
balance_sorted [] = refl
balance_sorted (row ∷ rows) =
    balance_with row (sorted rows) ∙ ap (λ z. row.quantity +ℤ z) (balance_sorted rows)
