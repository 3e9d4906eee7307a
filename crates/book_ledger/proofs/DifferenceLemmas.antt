-- How many rows of two registers differ, where a row is taken out of one of them or put in.
use Rattle.std.proofs.Common.{◌≡◌, ℕ, zero, suc, ◌+◌, ◌||◌, not, nat_lt, Bool, true, false, cond, List, [], ◌∷◌, length}
use Rattle.std.proofs.Common.{Some, None, is_some, find, refl, sym, ap, ◌∙◌, arith}
use Rattle.std.specs.List.{insert, position, position_or_len}
use Rattle.std.proofs.lemmas.Bool.Decides.{nat_tests}
use Rattle.std.proofs.lemmas.List.Sums.{sum_by-cons, sum_by-insert}
use Rattle.book_register.specs.Register.{IsSorted, RowKey, has_key, key_of, rows_without}
use Rattle.book_register.specs.declared.entry.Entry.{Entry}
use Rattle.book_register.proofs.KeyLemmas.{before-other}
use Rattle.book_ledger.specs.Change.{is_same}
use Rattle.book_ledger.specs.Changes.{differing, has_row, missing}
use Rattle.book_ledger.proofs.ChangeLemmas.{same_is, same_itself}
use Rattle.book_ledger.proofs.FoundLemmas.{false_of, key_itself, none_after, some_after, without, without_is}

-- ---- rows among others
or_true : (t : Bool) → (t || true) ≡ true
or_true true = refl
or_true false = refl

or_false : (t : Bool) → (t || false) ≡ t
or_false true = refl
or_false false = refl

or_swap : (s t u : Bool) → (s || (t || u)) ≡ (t || (s || u))
or_swap true true u = refl
or_swap true false u = refl
or_swap false true u = refl
or_swap false false u = refl

-- a row that is found at its key stands there,
pub has_found :
    (row : Entry) (rows : List Entry) → find (has_key (key_of row)) rows ≡ Some row → has_row row rows ≡ true
has_found row [] found = absurd cc
has_found row (first ∷ more) found = here (has_key (key_of row) first) found (has_found row more)
  where
    here :
        (t : Bool) → cond t (Some first) (find (has_key (key_of row)) more) ≡ Some row
        → (find (has_key (key_of row)) more ≡ Some row → has_row row more ≡ true)
        → has_row row (first ∷ more) ≡ true
    here true is later =
        let same : first ≡ row = cc in
        ap (λ t. t || has_row row more) (ap (is_same row) same ∙ same_itself row)
    here false is later = ap (λ t. is_same row first || t) (later is) ∙ or_true (is_same row first)

-- and a row that stands among rows in order is found at its key
pub found_has :
    (row : Entry) (rows : List Entry) → IsSorted rows → has_row row rows ≡ true
    → find (has_key (key_of row)) rows ≡ Some row
found_has row [] sorted has = absurd cc
found_has row (first ∷ more) sorted has = here (is_same row first) refl has (found_has row more sorted.1)
  where
    here :
        (t : Bool) → is_same row first ≡ t → (t || has_row row more) ≡ true
        → (has_row row more ≡ true → find (has_key (key_of row)) more ≡ Some row)
        → find (has_key (key_of row)) (first ∷ more) ≡ Some row
    here true same is rest =
        let first_is = same_is row first same in
        ap (λ t. cond t (Some first) (find (has_key (key_of row)) more))
        (ap (has_key (key_of row)) (sym first_is) ∙ key_itself row)
        ∙ ap (λ (e : Entry). Some e) (sym first_is)
    here false same is rest =
        let later = rest is in
        let before = some_after (key_of first) (key_of row) more row sorted.0 later in
        ap (λ t. cond t (Some first) (find (has_key (key_of row)) more)) (before-other (key_of row) first before)
        ∙ later

-- the first of rows in order stands among none of the others
first_once : (first : Entry) (more : List Entry) → IsSorted (first ∷ more) → has_row first more ≡ false
first_once first more sorted =
    false_of (has_row first more) (λ has.
    let found = found_has first more sorted.1 has in
    let none = none_after (key_of first) more sorted.0 in cc)

-- ---- how many are missing
missing_cons :
    (row : Entry) (rows others : List Entry)
    → missing (row ∷ rows) others ≡ cond (not (has_row row others)) 1 0 + missing rows others
missing_cons row rows others = sum_by-cons (λ (e : Entry). cond (not (has_row e others)) 1 0) row rows

-- as many of the rows are missing among others where the same of them stand there
missing_same :
    (rows one other : List Entry)
    → ((row : Entry) → has_row row rows ≡ true → has_row row one ≡ has_row row other)
    → missing rows one ≡ missing rows other
missing_same [] one other same = refl
missing_same (row ∷ rows) one other same =
    let here = same row (ap (λ t. t || has_row row rows) (same_itself row)) in
    let rest = missing_same rows one other
    (λ e has. same e (ap (λ t. is_same e row || t) has ∙ or_true (is_same e row))) in
    missing_cons row rows one
    ∙ ap (λ t. cond (not t) 1 0 + missing rows one) here
    ∙ ap (λ n. cond (not (has_row row other)) 1 0 + n) rest
    ∙ sym (missing_cons row rows other)

-- none is missing among the same rows
pub none_missing :
    (rows others : List Entry) → ((row : Entry) → has_row row rows ≡ true → has_row row others ≡ true)
    → missing rows others ≡ 0
none_missing [] others all = refl
none_missing (row ∷ rows) others all =
    let here = all row (ap (λ t. t || has_row row rows) (same_itself row)) in
    let rest = none_missing rows others
    (λ e has. all e (ap (λ t. is_same e row || t) has ∙ or_true (is_same e row))) in
    missing_cons row rows others ∙ ap (λ t. cond (not t) 1 0 + missing rows others) here ∙ omega (arith, rest)

pub differing_none : (rows : List Entry) → differing rows rows ≡ 0
differing_none rows = let none = none_missing rows rows (λ row has. has) in omega (arith, none)

-- ---- a row taken out
-- it stands there no more, and all others do
has_without :
    (row other : Entry) (rows : List Entry) → IsSorted rows → find (has_key (key_of row)) rows ≡ Some row
    → has_row other (without (key_of row) rows) ≡ cond (is_same other row) false (has_row other rows)
has_without row other [] sorted found = absurd cc
has_without row other (first ∷ more) sorted found =
    here (has_key (key_of row) first) refl found (has_without row other more sorted.1)
  where
    gone :
        (t : Bool) → is_same other row ≡ t → first ≡ row
        → has_row other more ≡ cond t false (is_same other first || has_row other more)
    gone true same is =
        ap (λ (e : Entry). has_row e more) (same_is other row same ∙ sym is) ∙ first_once first more sorted
    gone false same is =
        sym (ap (λ t. t || has_row other more) (ap (is_same other) is ∙ same))

    stays :
        (t : Bool) → is_same other row ≡ t → has_key (key_of row) first ≡ false
        → (is_same other first || cond t false (has_row other more))
        ≡ cond t false (is_same other first || has_row other more)
    stays true same apart =
        or_false (is_same other first)
        ∙ false_of (is_same other first) (λ is.
        let one = same_is other row same in
        let two = same_is other first is in
        let key = ap (λ (e : Entry). has_key (key_of e) first) (sym one ∙ two) ∙ key_itself first in cc)
    stays false same apart = refl

    here :
        (t : Bool) → has_key (key_of row) first ≡ t
        → cond t (Some first) (find (has_key (key_of row)) more) ≡ Some row
        → (find (has_key (key_of row)) more ≡ Some row
        → has_row other (without (key_of row) more) ≡ cond (is_same other row) false (has_row other more))
        → has_row other (cond t more (first ∷ without (key_of row) more))
        ≡ cond (is_same other row) false (has_row other (first ∷ more))
    here true key is rest = let same : first ≡ row = cc in gone (is_same other row) refl same
    here false key is rest =
        ap (λ t. is_same other first || t) (rest is)
        ∙ stays (is_same other row) refl key

-- where it stands among others, as many of the rows are missing there as before
missing_without :
    (row : Entry) (rows others : List Entry) → find (has_key (key_of row)) rows ≡ Some row
    → has_row row others ≡ true → missing (without (key_of row) rows) others ≡ missing rows others
missing_without row [] others found has = refl
missing_without row (first ∷ more) others found has =
    here (has_key (key_of row) first) found (λ is. missing_without row more others is has)
  where
    here :
        (t : Bool) → cond t (Some first) (find (has_key (key_of row)) more) ≡ Some row
        → (find (has_key (key_of row)) more ≡ Some row
        → missing (without (key_of row) more) others ≡ missing more others)
        → missing (cond t more (first ∷ without (key_of row) more)) others ≡ missing (first ∷ more) others
    here true is rest =
        let same : first ≡ row = cc in
        let there = ap (λ (e : Entry). has_row e others) same ∙ has in
        let none = ap {B = ℕ} (λ t. cond (not t) 1 0) there in
        let both = missing_cons first more others in omega (arith, both, none)
    here false is rest =
        missing_cons first (without (key_of row) more) others
        ∙ ap (λ n. cond (not (has_row first others)) 1 0 + n) (rest is)
        ∙ sym (missing_cons first more others)

-- one more of rows in which it stands is missing where it stands no more
missing_more :
    (row : Entry) (rows old new : List Entry) → IsSorted rows → find (has_key (key_of row)) rows ≡ Some row
    → has_row row old ≡ true
    → ((other : Entry) → has_row other new ≡ cond (is_same other row) false (has_row other old))
    → missing rows new ≡ missing rows old + 1
missing_more row [] old new sorted found has gone = absurd cc
missing_more row (first ∷ more) old new sorted found has gone =
    here (has_key (key_of row) first) refl found (λ is. missing_more row more old new sorted.1 is has gone)
  where
    others :
        (e : Entry) (t : Bool) → is_same e row ≡ t → has_row e more ≡ true → first ≡ row
        → cond t false (has_row e old) ≡ has_row e old
    others e true same is first_is =
        absurd (let once = first_once first more sorted in
        let at = ap (λ (x : Entry). has_row x more) (same_is e row same ∙ sym first_is) in cc)
    others e false same is first_is = refl

    here :
        (t : Bool) → has_key (key_of row) first ≡ t
        → cond t (Some first) (find (has_key (key_of row)) more) ≡ Some row
        → (find (has_key (key_of row)) more ≡ Some row → missing more new ≡ missing more old + 1)
        → missing (first ∷ more) new ≡ missing (first ∷ more) old + 1
    here true key is later =
        let same : first ≡ row = cc in
        let before = ap (λ (e : Entry). has_row e old) same ∙ has in
        let after : has_row first new ≡ false =
        gone first ∙ ap (λ t. cond t false (has_row first old)) (ap (is_same first) (sym same) ∙ same_itself first) in
        let rest = missing_same more new old
        (λ e there. gone e ∙ others e (is_same e row) refl there same) in
        let none = ap {B = ℕ} (λ t. cond (not t) 1 0) before in
        let one = ap {B = ℕ} (λ t. cond (not t) 1 0) after in
        omega (arith, missing_cons first more new, missing_cons first more old, none, one, rest)
    here false key is later =
        let apart = false_of (is_same first row) (λ same.
        let at = ap (λ (e : Entry). has_key (key_of e) first) (sym (same_is first row same))
        ∙ key_itself first in cc) in
        let stays = gone first ∙ ap (λ t. cond t false (has_row first old)) apart in
        let rest = later is in
        let count = ap {B = ℕ} (λ t. cond (not t) 1 0) stays in
        omega (arith, missing_cons first more new, missing_cons first more old, count, rest)

-- of two registers that both have a row the second differs by one more without it
pub differing_taken :
    (row : Entry) (first rows : List Entry) → IsSorted first → IsSorted rows
    → find (has_key (key_of row)) first ≡ Some row → find (has_key (key_of row)) rows ≡ Some row
    → differing first (rows_without (position (has_key (key_of row)) rows) rows) ≡ differing first rows + 1
differing_taken row first rows first_sorted sorted there here =
    let more = missing_more row first rows (without (key_of row) rows) first_sorted there (has_found row rows here)
    (λ other. has_without row other rows sorted here) in
    let same = missing_without row rows first here (has_found row first there) in
    ap (λ (l : List Entry). differing first l) (without_is (key_of row) rows) ∙ omega (arith, more, same)

-- ---- a row put in
has_inserted :
    (row other : Entry) (rows : List Entry) (place : ℕ)
    → has_row other (insert rows place row) ≡ (is_same other row || has_row other rows)
has_inserted row other rows zero = refl
has_inserted row other [] (suc place) = refl
has_inserted row other (first ∷ more) (suc place) =
    ap (λ t. is_same other first || t) (has_inserted row other more place)
    ∙ or_swap (is_same other first) (is_same other row) (has_row other more)

-- of two registers of which the first hasn't a row the second differs by one more with it
pub differing_put :
    (row : Entry) (first rows : List Entry) (place : ℕ) → has_row row first ≡ false
    → differing first (insert rows place row) ≡ differing first rows + 1
differing_put row first rows place lacks =
    let same = missing_same first (insert rows place row) rows (λ e has. here e has) in
    let more = sum_by-insert (λ (e : Entry). cond (not (has_row e first)) 1 0) rows place row in
    let one = ap {B = ℕ} (λ t. cond (not t) 1 0) lacks in
    omega (arith, same, more, one)
  where
    here : (e : Entry) → has_row e first ≡ true → has_row e (insert rows place row) ≡ has_row e rows
    here e has =
        has_inserted row e rows place
        ∙ ap (λ t. t || has_row e rows) (false_of (is_same e row) (λ same.
        let at = ap (λ (x : Entry). has_row x first) (sym (same_is e row same)) in cc))

-- ---- where a row is found at a key, a place has it
pub some_place :
    (key : RowKey) (rows : List Entry) → is_some (position (has_key key) rows) ≡ is_some (find (has_key key) rows)
some_place key [] = refl
some_place key (row ∷ rows) = here (has_key key row) (some_place key rows)
  where
    is_within : (t : Bool) (n : ℕ) → is_some (cond t (Some n) None) ≡ t
    is_within true n = refl
    is_within false n = refl

    here :
        (t : Bool) → is_some (position (has_key key) rows) ≡ is_some (find (has_key key) rows)
        → is_some (cond (nat_lt (cond (not t) (1 + position_or_len (has_key key) rows) 0) (suc (length rows)))
        (Some (cond (not t) (1 + position_or_len (has_key key) rows) 0)) None)
        ≡ is_some (cond t (Some row) (find (has_key key) rows))
    here true rest =
        let first : nat_lt 0 (suc (length rows)) ≡ true = grind (arith, nat_tests) in
        is_within (nat_lt 0 (suc (length rows))) 0 ∙ first
    here false rest =
        let n = position_or_len (has_key key) rows in
        let test : nat_lt (1 + n) (suc (length rows)) ≡ nat_lt n (length rows) = grind (arith, nat_tests) in
        is_within (nat_lt (1 + n) (suc (length rows))) (1 + n) ∙ test ∙ sym (is_within (nat_lt n (length rows)) n)
        ∙ rest
