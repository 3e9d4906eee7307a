-- What two registers have in common in front, where a row is taken out of one of them or put in, and the lots that are
-- left.
use Rattle.std.proofs.Common.{◌≡◌, ℕ, zero, suc, ◌+◌, ◌≤◌, ◌||◌, not, nat_lt, Bool, true, false}
use Rattle.std.proofs.Common.{cond, List, [], ◌∷◌, length, take, Some, None, find, refl, sym, ap}
use Rattle.std.proofs.Common.{◌∙◌, arith, ⊎_elim}
use Rattle.std.specs.List.{insert, position, position_or_len, remove}
use Rattle.std.proofs.lemmas.Bool.{cases_lt}
use Rattle.std.proofs.lemmas.Bool.Decides.{nat_tests}
use Rattle.std.proofs.lemmas.List.{length-take-le}
use Rattle.book_lots.proofs.KnownLemmas.{AreFirst, first_touched}
use Rattle.book_lots.proofs.LotsLemmas.{left_all, left_some}
use Rattle.book_lots.specs.Lots.{left_before}
use Rattle.book_register.specs.Register.{IsSorted, RowKey, has_key, key_of, precedes}
use Rattle.book_register.specs.declared.entry.Entry.{Entry}
use Rattle.book_register.proofs.KeyLemmas.{after-other, precedes-trans}
use Rattle.book_ledger.specs.Change.{is_same}
use Rattle.book_ledger.specs.Changes.{has_row}
use Rattle.book_ledger.specs.Lots.{AreLeft, common}
use Rattle.book_ledger.proofs.ChangeLemmas.{same_is, same_itself}
use Rattle.book_ledger.proofs.FoundLemmas.{key_itself, some_after, without}

-- A register has no more in common with a first one than it had, and nothing from a place on.
abbrev pub IsUpTo : ℕ → List Entry → List Entry → List Entry → Type 0
IsUpTo place first old new = (common first new ≤ place) × (common first new ≤ common first old)

none_common : (first old new : List Entry) (place : ℕ) → common first new ≡ 0 → IsUpTo place first old new
none_common first old new place none = (omega (arith, none), omega (arith, none))

-- ---- places
-- the place of a key behind a row that stands at another
place_behind :
    (key : RowKey) (row : Entry) (rows : List Entry) (p : ℕ) → has_key key row ≡ false
    → position (has_key key) (row ∷ rows) ≡ Some p
    → (q : ℕ) × (p ≡ suc q) × (position (has_key key) rows ≡ Some q)
place_behind key row rows p apart at =
    here (has_key key row) apart at
  where
    n : ℕ
    n = position_or_len (has_key key) rows

    within :
        (t : Bool) → nat_lt n (length rows) ≡ t → cond t (Some (1 + n)) None ≡ Some p
        → (q : ℕ) × (p ≡ suc q) × (position (has_key key) rows ≡ Some q)
    within true less is =
        let same : 1 + n ≡ p = cc in
        (n, omega (arith, same), ap (λ t. cond t (Some n) None) less)
    within false past is = absurd cc

    here :
        (t : Bool) → t ≡ false
        → cond (nat_lt (cond (not t) (1 + n) 0) (suc (length rows))) (Some (cond (not t) (1 + n) 0)) None ≡ Some p
        → (q : ℕ) × (p ≡ suc q) × (position (has_key key) rows ≡ Some q)
    here true is at = absurd cc
    here false is at =
        let test : nat_lt (1 + n) (suc (length rows)) ≡ nat_lt n (length rows) = grind (arith, nat_tests) in
        within (nat_lt n (length rows)) refl (sym (ap (λ t. cond t (Some (1 + n)) None) test) ∙ at)

-- ---- a row taken out
-- keys that come one before the other in both ways are none
never_both : (row other : Entry) → precedes (key_of row) (key_of other) ≡ true
    → precedes (key_of other) (key_of row) ≡ true → ⊥
never_both row other one two =
    let itself = precedes-trans (key_of row) (key_of other) (key_of row) one two in
    let apart = after-other (key_of row) row itself in
    let here = key_itself row in cc

-- rows in order in which a row is found don't begin with one that comes behind it
begins_before :
    (row head : Entry) (more : List Entry) → IsSorted (head ∷ more)
    → find (has_key (key_of row)) (head ∷ more) ≡ Some row → precedes (key_of row) (key_of head) ≡ true → ⊥
begins_before row head more sorted found behind = here (has_key (key_of row) head) refl found
  where
    here :
        (t : Bool) → has_key (key_of row) head ≡ t
        → cond t (Some head) (find (has_key (key_of row)) more) ≡ Some row → ⊥
    here true at is = let apart = after-other (key_of row) head behind in cc
    here false at is = never_both row head behind (some_after (key_of head) (key_of row) more row sorted.0 is)

-- A row that two registers have is taken out of the second, in which it has a place.
abbrev IsTakenOf : Entry → List Entry → List Entry → Type 0
IsTakenOf row first rows =
    (place : ℕ) → find (has_key (key_of row)) first ≡ Some row → find (has_key (key_of row)) rows ≡ Some row
    → position (has_key (key_of row)) rows ≡ Some place → IsUpTo place first rows (without (key_of row) rows)

pub common_without :
    (row : Entry) (first rows : List Entry) (p : ℕ) → IsSorted first → IsSorted rows
    → find (has_key (key_of row)) first ≡ Some row → find (has_key (key_of row)) rows ≡ Some row
    → position (has_key (key_of row)) rows ≡ Some p → IsUpTo p first rows (without (key_of row) rows)
common_without row [] rows p first_sorted sorted there found at = absurd cc
common_without row (f ∷ fs) [] p first_sorted sorted there found at = absurd cc
common_without row (f ∷ fs) (r ∷ more) p first_sorted sorted there found at =
    here (λ q before later behind. common_without row fs more q first_sorted.1 sorted.1 before later behind)
    (has_key (key_of row) r) refl found
  where
    -- the row itself is taken: the next comes behind it, and the first register has it
    taken :
        (rest : List Entry) → IsSorted (r ∷ rest) → r ≡ row → common (f ∷ fs) rest ≡ 0
    taken [] in_order is = refl
    taken (m ∷ ms) in_order is = by_test (is_same f m) refl
      where
        by_test : (t : Bool) → is_same f m ≡ t → cond t (suc (common fs ms)) 0 ≡ 0
        by_test true same =
            absurd (let head : f ≡ m = same_is f m same in
            let behind : precedes (key_of row) (key_of f) ≡ true =
            ap (λ (e : Entry). precedes (key_of e) (key_of f)) (sym is)
            ∙ ap (λ (e : Entry). precedes (key_of r) (key_of e)) head ∙ in_order.0.0 in
            begins_before row f fs first_sorted there behind)
        by_test false same = refl

    -- another row is passed
    passed :
        IsTakenOf row fs more → (q : ℕ) (t : Bool) → is_same f r ≡ t → p ≡ suc q → has_key (key_of row) r ≡ false
        → find (has_key (key_of row)) more ≡ Some row → position (has_key (key_of row)) more ≡ Some q
        → (cond t (suc (common fs (without (key_of row) more))) 0 ≤ p)
        × (cond t (suc (common fs (without (key_of row) more))) 0 ≤ cond t (suc (common fs more)) 0)
    passed others q false same next apart later behind = (omega arith, omega arith)
    passed others q true same next apart later behind =
        let head : f ≡ r = same_is f r same in
        let not_first = ap (has_key (key_of row)) head ∙ apart in
        let there_later =
        sym (ap (λ t. cond t (Some f) (find (has_key (key_of row)) fs)) not_first) ∙ there in
        let rest = others q there_later later behind in
        (omega (arith, rest.0, next), omega (arith, rest.1))

    here :
        IsTakenOf row fs more → (t : Bool) → has_key (key_of row) r ≡ t
        → cond t (Some r) (find (has_key (key_of row)) more) ≡ Some row
        → IsUpTo p (f ∷ fs) (r ∷ more) (cond t more (r ∷ without (key_of row) more))
    here others true key is =
        let same : r ≡ row = cc in
        none_common (f ∷ fs) (r ∷ more) more p (taken more sorted same)
    here others false key is =
        let behind = place_behind (key_of row) r more p key at in
        passed others behind.0 (is_same f r) refl behind.1 key is behind.2

-- ---- a row put in
-- a row that doesn't stand among others is not the first of them
not_head :
    (row f : Entry) (fs : List Entry) → has_row row (f ∷ fs) ≡ false → is_same f row ≡ true → ⊥
not_head row f fs lacks same =
    let head = same_is f row same in
    let here = ap (λ (e : Entry). is_same row e || has_row row fs) head
    ∙ ap (λ t. t || has_row row fs) (same_itself row) in cc

lacks_later : (s t : Bool) → (s || t) ≡ false → t ≡ false
lacks_later true t is = absurd cc
lacks_later false t is = is

pub common_inserted :
    (row : Entry) (first rows : List Entry) (p : ℕ) → has_row row first ≡ false
    → IsUpTo p first rows (insert rows p row)
common_inserted row [] rows p lacks = (omega arith, omega arith)
common_inserted row (f ∷ fs) rows zero lacks =
    none_common (f ∷ fs) rows (row ∷ rows) 0 (by_test (is_same f row) refl)
  where
    by_test : (t : Bool) → is_same f row ≡ t → cond t (suc (common fs rows)) 0 ≡ 0
    by_test true same = absurd (not_head row f fs lacks same)
    by_test false same = refl
common_inserted row (f ∷ fs) [] (suc p) lacks =
    none_common (f ∷ fs) [] (row ∷ []) (suc p) (by_test (is_same f row) refl)
  where
    by_test : (t : Bool) → is_same f row ≡ t → cond t (suc (common fs [])) 0 ≡ 0
    by_test true same = absurd (not_head row f fs lacks same)
    by_test false same = refl
common_inserted row (f ∷ fs) (r ∷ rows) (suc p) lacks =
    by_test (common_inserted row fs rows p (lacks_later (is_same row f) (has_row row fs) lacks)) (is_same f r)
  where
    by_test :
        IsUpTo p fs rows (insert rows p row) → (t : Bool) → (cond t (suc (common fs (insert rows p row))) 0 ≤ suc p)
        × (cond t (suc (common fs (insert rows p row))) 0 ≤ cond t (suc (common fs rows)) 0)
    by_test rest true = (omega (arith, rest.0), omega (arith, rest.1))
    by_test rest false = (omega arith, omega arith)

-- ---- what is left of the lots
-- Lots that are touched at a place are left as far as the registers are the same.
pub left_touched :
    (first old new : List Entry) (most place reckoned left : ℕ) → IsUpTo place first old new
    → left ≡ left_before place reckoned → AreLeft first most old reckoned → AreLeft first most new left
left_touched first old new most place reckoned left up is before =
    ⊎_elim
    (λ lt. (let some = left_some place reckoned lt in omega (arith, up.0, is, some)))
    (λ le. (let all = left_all place reckoned le in omega (arith, up.1, is, all, before)))
    (cases_lt place reckoned)

-- lots that stay are left where the rows do
pub left_same : (first : List Entry) (reckoned count : ℕ) (rows : List Entry) → reckoned ≤ count
    → AreLeft first reckoned rows count
left_same first reckoned count rows less = omega (arith, less)

-- ---- the entries that are reckoned
left_le : (place n : ℕ) → (left_before place n ≤ n) × (left_before place n ≤ place)
left_le place n =
    ⊎_elim (λ lt. (let is = left_some place n lt in (omega (arith, is, lt), omega (arith, is))))
    (λ le. (let is = left_all place n le in (omega (arith, is), omega (arith, is, le))))
    (cases_lt place n)

-- so many as are left
pub left_count : (place : ℕ) (entries : List Entry)
    → length (take (left_before place (length entries)) entries) ≡ left_before place (length entries)
left_count place entries =
    let le = left_le place (length entries) in length-take-le (left_before place (length entries)) entries le.0

take_removed : (m place : ℕ) (rows : List Entry) → m ≤ place → take m (remove rows place) ≡ take m rows
take_removed zero place rows le = refl
take_removed (suc m) zero rows le = absurd (omega (arith, le))
take_removed (suc m) (suc place) [] le = refl
take_removed (suc m) (suc place) (r ∷ rows) le =
    ap (λ (l : List Entry). r ∷ l) (take_removed m place rows (omega (arith, le)))

-- the entries stay the first ones of a register that a row is taken out of
pub first_removed : (entries rows : List Entry) (place : ℕ) → AreFirst entries rows
    → AreFirst (take (left_before place (length entries)) entries) (remove rows place)
first_removed entries rows place first =
    let le = left_le place (length entries) in
    let count = left_count place entries in
    first_touched entries rows place first
    ∙ ap (λ n. take n rows) count
    ∙ sym (take_removed (left_before place (length entries)) place rows le.1)
    ∙ ap (λ n. take n (remove rows place)) (sym count)
