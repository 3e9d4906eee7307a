-- Rows in the order of their keys: where a key is, and what a row put in or taken out leaves.
use Rattle.std.proofs.Common.{◌≡◌, ℕ, zero, suc, ◌<◌, ◌≤◌, nat_lt, Bool, true, false, cond}
use Rattle.std.proofs.Common.{List, [], ◌∷◌}
use Rattle.std.proofs.Common.{length, get_or, take, Some, None, slice_get, refl, sym, ap, ◌∙◌, arith, filter}
use Rattle.std.specs.List.{insert, remove, position, position_or_len}
use Rattle.std.proofs.lemmas.Bool.Decides.{nat_tests}
use Rattle.std.proofs.lemmas.List.{get_or_default}
use Rattle.std.proofs.lemmas.List.Edits.{get_or-insert_at, length-insert}
use Rattle.std.proofs.lemmas.List.Sums.{fails_before_first, position_or_len_is}
use Rattle.book_seq.proofs.ListLemmas.{slice_get_read}
use Rattle.book_seq.specs.Cuts.{IsCut, IsParted, NonePasses}
use Rattle.book_register.specs.Register.{IsBound, IsSorted, PrecedesAll, has_key, key_of, precedes}
use Rattle.book_register.specs.declared.entry.Entry.{Entry}
use Rattle.book_register.specs.declared.key.Key.{Key}
use Rattle.book_register.proofs.KeyLemmas.{after-neither, after-other, before-other, precedes-past, precedes-trans}

-- a key that comes before another comes before all that this one comes before
pub all-before : (a b : Key) (rows : List Entry) → precedes a b ≡ true → PrecedesAll b rows → PrecedesAll a rows
all-before a b [] before all = tt
all-before a b (row ∷ rows) before all = (
  precedes-trans a b
      (key_of row) before all.0,
  all-before a b rows before all.1,
)

all-at : (key : Key) (rows : List Entry) (i : ℕ) (d : Entry) → PrecedesAll key rows → i < length rows
    → precedes key (key_of (get_or rows i d)) ≡ true
all-at key [] i d all lt = absurd (omega (arith, lt))
all-at key (row ∷ rows) zero d all lt = all.0
all-at key (row ∷ rows) (suc i) d all lt = all-at key rows i d all.1 (omega (arith, lt))

-- of two rows the earlier has the earlier key
pub rows_rise : (rows : List Entry) (i j : ℕ) (d e : Entry) → IsSorted rows → i < j → j < length rows
    → precedes (key_of (get_or rows i d)) (key_of (get_or rows j e)) ≡ true
rows_rise [] i j d e sorted lt below = absurd (omega (arith, below))
rows_rise (row ∷ rows) i zero d e sorted lt below = absurd (omega (arith, lt))
rows_rise (row ∷ rows) zero (suc j) d e sorted lt below = all-at (key_of row) rows j e sorted.0 (omega (arith, below))
rows_rise (row ∷ rows) (suc i) (suc j) d e sorted lt below =
    rows_rise rows i j d e sorted.1 (omega (arith, lt)) (omega (arith, below))

-- ---- the rows before a key
none-before : (rows : List Entry) (first key : Key) → PrecedesAll first rows → precedes first key ≡ false
    → NonePasses (λ (e : Entry). precedes (key_of e) key) rows
none-before [] first key all fails = tt
none-before (row ∷ rows) first key all fails =
    (precedes-past first (key_of row) key all.0 fails, none-before rows first key all.1 fails)

pub rows_parted : (rows : List Entry) (key : Key) → IsSorted rows
    → IsParted (λ (e : Entry). precedes (key_of e) key) rows
rows_parted [] key sorted = tt
rows_parted (row ∷ rows) key sorted =
    (none-before rows (key_of row) key sorted.0, rows_parted rows key sorted.1)

none-at : (rows : List Entry) (key : Key) (k : ℕ) (d : Entry) → NonePasses (λ (e : Entry). precedes (key_of e) key) rows
    → k < length rows → precedes (key_of (get_or rows k d)) key ≡ false
none-at [] key k d none lt = absurd (omega (arith, lt))
none-at (row ∷ rows) key zero d none lt = none.0
none-at (row ∷ rows) key (suc k) d none lt = none-at rows key k d none.1 (omega (arith, lt))

before-at : (rows : List Entry) (key : Key) (i k : ℕ) (d : Entry)
    → IsCut (λ (e : Entry). precedes (key_of e) key) rows i → k < i → precedes (key_of (get_or rows k d)) key ≡ true
before-at rows key zero k d cut lt = absurd (omega (arith, lt))
before-at [] key (suc i) k d cut lt = absurd cut
before-at (row ∷ rows) key (suc i) zero d cut lt = cut.0
before-at (row ∷ rows) key (suc i) (suc k) d cut lt = before-at rows key i k d cut.1 (omega (arith, lt))

others-at : (rows : List Entry) (key : Key) (i k : ℕ) (d : Entry)
    → IsCut (λ (e : Entry). precedes (key_of e) key) rows i → i ≤ k → k < length rows
    → precedes (key_of (get_or rows k d)) key ≡ false
others-at rows key zero k d cut ge lt = none-at rows key k d cut lt
others-at [] key (suc i) k d cut ge lt = absurd cut
others-at (row ∷ rows) key (suc i) zero d cut ge lt = absurd (omega (arith, ge))
others-at (row ∷ rows) key (suc i) (suc k) d cut ge lt =
    others-at rows key i k d cut.1 (omega (arith, ge)) (omega (arith, lt))

pub bound-of : (rows : List Entry) (key : Key) (i : ℕ) → IsCut (λ (e : Entry). precedes (key_of e) key) rows i
    → i ≤ length rows → IsBound key rows i
bound-of rows key i cut within = record {
  within = within;
  before = λ k d lt. before-at rows key i k d cut lt;
  others = λ k d ge lt. others-at rows key i k d cut ge lt;
}

-- ---- a row put in
gap_sorted : (rows : List Entry) (i : ℕ) (e : Entry) → IsSorted rows
    → ((k : ℕ) (d : Entry) → k < i → precedes (key_of (get_or rows k d)) (key_of e) ≡ true)
    → ((k : ℕ) (d : Entry) → i ≤ k → k < length rows → precedes (key_of e) (key_of (get_or rows k d)) ≡ true)
    → i ≤ length rows → IsSorted (insert rows i e)
gap_sorted rows zero e sorted before after within = (all-from rows (λ k d lt. after k d (omega arith) lt), sorted)
  where
    all-from : (rest : List Entry)
        → ((k : ℕ) (d : Entry) → k < length rest → precedes (key_of e) (key_of (get_or rest k d)) ≡ true)
        → PrecedesAll (key_of e) rest
    all-from [] h = tt
    all-from (row ∷ more) h = (h 0 row (omega arith), all-from more (λ k d lt. h (suc k) d (omega (arith, lt))))
gap_sorted [] (suc i) e sorted before after within = absurd (omega (arith, within))
gap_sorted (row ∷ rows) (suc i) e sorted before after within = (
  all-insert rows i sorted.0,
  gap_sorted rows i e sorted.1 (λ k d lt. before (suc k) d (omega (arith, lt)))
      (λ k d ge lt. after (suc k) d (omega (arith, ge)) (omega (arith, lt))) (omega (arith, within)),
)
  where
    first : precedes (key_of row) (key_of e) ≡ true
    first = before 0 row (omega arith)

    all-insert : (rest : List Entry) (j : ℕ) → PrecedesAll (key_of row) rest
        → PrecedesAll (key_of row) (insert rest j e)
    all-insert rest zero all = (first, all)
    all-insert [] (suc j) all = (first, tt)
    all-insert (other ∷ rest) (suc j) all = (all.0, all-insert rest j all.1)

absent-at : (key : Key) (rows : List Entry) (k : ℕ) (d : Entry) → position (has_key key) rows ≡ None → k < length rows
    → has_key key (get_or rows k d) ≡ false
absent-at key rows k d none lt =
    fails_before_first (has_key key) rows k d (omega (
      arith,
      past (nat_lt (position_or_len (has_key key) rows)
          (length rows)) refl none,
      lt,
    ))
  where
    past : (t : Bool) → nat_lt (position_or_len (has_key key) rows) (length rows) ≡ t
        → cond t (Some (position_or_len (has_key key) rows)) None ≡ None
        → length rows ≤ position_or_len (has_key key) rows
    past true is gone = absurd cc
    past false is gone = grind (arith, nat_tests, is)

pub inserted_sorted : (rows : List Entry) (i : ℕ) (e : Entry) → IsSorted rows → IsBound (key_of e) rows i
    → position (has_key (key_of e)) rows ≡ None → IsSorted (insert rows i e)
inserted_sorted rows i e sorted bound none =
    gap_sorted rows i e sorted bound.before (λ k d ge lt. after-neither (key_of e) (get_or rows k d)
    (bound.others k d ge lt) (absent-at (key_of e) rows k d none lt)) bound.within

pub inserted_at : (rows : List Entry) (i : ℕ) (e : Entry) → i ≤ length rows → slice_get (insert rows i e) i ≡ Some e
inserted_at rows i e within =
    slice_get_read (insert rows i e) i e (omega (arith, length-insert rows i e within, within))
    (sym (get_or-insert_at rows i e e within))

-- ---- a row taken out
pub removed_sorted : (rows : List Entry) (i : ℕ) → IsSorted rows → i < length rows → IsSorted (remove rows i)
removed_sorted [] i sorted lt = absurd (omega (arith, lt))
removed_sorted (row ∷ rows) zero sorted lt = sorted.1
removed_sorted (row ∷ rows) (suc i) sorted lt =
    (all-remove rows i sorted.0, removed_sorted rows i sorted.1 (omega (arith, lt)))
  where
    all-remove : (rest : List Entry) (j : ℕ) → PrecedesAll (key_of row) rest → PrecedesAll (key_of row) (remove rest j)
    all-remove [] zero all = tt
    all-remove [] (suc j) all = tt
    all-remove (other ∷ rest) zero all = all.1
    all-remove (other ∷ rest) (suc j) all = (all.0, all-remove rest j all.1)

pub position_below : (key : Key) (rows : List Entry) (i : ℕ) → position (has_key key) rows ≡ Some i → i < length rows
position_below key rows i is = by_test (nat_lt (position_or_len (has_key key) rows) (length rows)) refl is
  where
    by_test : (t : Bool) → nat_lt (position_or_len (has_key key) rows) (length rows) ≡ t
        → cond t (Some (position_or_len (has_key key) rows)) None ≡ Some i → i < length rows
    by_test true below some =
        let lt : position_or_len (has_key key) rows < length rows = grind (arith, nat_tests, below) in
        let same : position_or_len (has_key key) rows ≡ i = cc in omega (arith, lt, same)
    by_test false below some = absurd cc

position-of : (key : Key) (rows : List Entry) (i : ℕ) → position_or_len (has_key key) rows ≡ i → i < length rows
    → position (has_key key) rows ≡ Some i
position-of key rows i is lt =
    ap (λ n. cond (nat_lt n (length rows)) (Some n) None) is
    ∙ (let below : nat_lt i (length rows) ≡ true = grind (arith, nat_tests, lt) in
    ap (λ t. cond t (Some i) None) below)

pub found_at : (key : Key) (rows : List Entry) (i : ℕ) (x : Entry) → IsBound key rows i → i < length rows
    → x ≡ get_or rows i x → has_key key x ≡ true → position (has_key key) rows ≡ Some i
found_at key rows i x bound lt read here =
    position-of key rows i (position_or_len_is (has_key key) rows i x bound.within
    (λ k less. before-other key (get_or rows k x) (bound.before k x less))
    (λ _. ap (has_key key) (sym read) ∙ here)) lt

none-of : (key : Key) (rows : List Entry) → ((k : ℕ) (d : Entry) → k < length rows
    → has_key key (get_or rows k d) ≡ false)
    → position (has_key key) rows ≡ None
none-of key [] none = refl
none-of key (row ∷ rows) none =
    let all : position_or_len (has_key key) (row ∷ rows) ≡ length (row ∷ rows) =
    position_or_len_is (has_key key) (row ∷ rows) (length (row ∷ rows)) row (omega arith) (λ k lt. none k row lt)
    (λ less. absurd (omega (arith, less))) in
    ap (λ n. cond (nat_lt n (length (row ∷ rows))) (Some n) None) all
    ∙ (let past : nat_lt (length (row ∷ rows)) (length (row ∷ rows)) ≡ false = grind (arith, nat_tests) in
    ap (λ t. cond t (Some (length (row ∷ rows))) None) past)

-- no row stands at the key: neither those before it nor those from the place on
pub absent_end : (key : Key) (rows : List Entry) (i : ℕ) → IsBound key rows i → i ≡ length rows
    → position (has_key key) rows ≡ None
absent_end key rows i bound end =
    none-of key rows (λ k d lt. before-other key (get_or rows k d) (bound.before k d (omega (arith, end, lt))))

pub absent_here : (key : Key) (rows : List Entry) (i : ℕ) (x : Entry) → IsSorted rows → IsBound key rows i
    → i < length rows → x ≡ get_or rows i x → has_key key x ≡ false → position (has_key key) rows ≡ None
absent_here key rows i x sorted bound below read other = none-of key rows each
  where
    here : precedes key (key_of x) ≡ true
    here = after-neither key x
        (ap (λ (y : Entry). precedes (key_of y) key) read ∙ bound.others i x (omega arith) below) other

    at : (k : ℕ) (d : Entry) → k < length rows → i ≤ k → (t : Bool) → nat_lt i k ≡ t
        → has_key key (get_or rows k d) ≡ false
    at k d lt ge true is =
        after-other key (get_or rows k d) (precedes-trans key (key_of x) (key_of (get_or rows k d)) here
        (ap (λ (y : Entry). precedes (key_of y) (key_of (get_or rows k d))) read
        ∙ rows_rise rows i k x d sorted (grind (arith, nat_tests, is)) lt))
    at k d lt ge false is =
        let same : k ≡ i = (let past : k ≤ i = grind (arith, nat_tests, is) in omega (arith, past, ge)) in
        ap (λ (n : ℕ). has_key key (get_or rows n d)) same
        ∙ ap (has_key key) (get_or_default rows i d x below ∙ sym read) ∙ other

    each : (k : ℕ) (d : Entry) → k < length rows → has_key key (get_or rows k d) ≡ false
    each k d lt = by_place (nat_lt k i) refl
      where
        by_place : (t : Bool) → nat_lt k i ≡ t → has_key key (get_or rows k d) ≡ false
        by_place true is = before-other key (get_or rows k d) (bound.before k d (grind (arith, nat_tests, is)))
        by_place false is = at k d lt (grind (arith, nat_tests, is)) (nat_lt i k) refl

-- ---- the rows that pass a test which the first so many pass
pub filter_first : (p : Entry → Bool) (rows : List Entry) (i : ℕ) → i ≤ length rows
    → ((k : ℕ) (d : Entry) → k < i → p (get_or rows k d) ≡ true)
    → ((k : ℕ) (d : Entry) → i ≤ k → k < length rows → p (get_or rows k d) ≡ false) → filter p rows ≡ take i rows
filter_first p [] zero within pass fail = refl
filter_first p [] (suc i) within pass fail = absurd (omega (arith, within))
filter_first p (row ∷ rows) zero within pass fail =
    ap (λ t. cond t (row ∷ filter p rows) (filter p rows)) (fail 0 row (omega arith) (omega arith))
    ∙ filter_first p rows zero (omega arith) (λ k d lt. absurd (omega (arith, lt)))
    (λ k d ge lt. fail (suc k) d (omega arith) (omega (arith, lt)))
filter_first p (row ∷ rows) (suc i) within pass fail =
    ap (λ t. cond t (row ∷ filter p rows) (filter p rows)) (pass 0 row (omega arith))
    ∙ ap (λ l. row ∷ l) (filter_first p rows i (omega (arith, within)) (λ k d lt. pass (suc k) d (omega (arith, lt)))
    (λ k d ge lt. fail (suc k) d (omega (arith, ge)) (omega (arith, lt))))
