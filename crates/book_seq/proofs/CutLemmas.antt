-- Where the first entries end that pass a test: in one list, and in the list that chunks hold.
use Rattle.std.proofs.Common.{◌*◌, ◌/◌, ◌^◌}
use Rattle.std.proofs.Common.{◌≡◌, ℕ, zero, suc, ◌+◌, ◌-◌, ◌<◌, ◌≤◌, Bool, true, false, List, [], ◌∷◌, ◌++◌, length}
use Rattle.std.proofs.Common.{take, drop, get_or, Some, slice_get, refl, sym, ap, ◌∙◌, subst, arith}
use Rattle.std.specs.List.Sorted.{IsPartitionedBy}
use Rattle.std.proofs.lemmas.Grind.{pow_more}
use Rattle.std.proofs.lemmas.List.{get_or_default, length-drop}
use Rattle.std.proofs.Math.ListN.{length-append}
use Rattle.book_seq.specs.Chunks.{ArePacked, Piece, list_of}
use Rattle.book_seq.specs.Cuts.{IsCut, IsParted, NonePasses, is_passed, last_passes}
use Rattle.book_seq.specs.declared.spot.Spot.{Spot}
use Rattle.book_seq.proofs.ChangeLemmas.{Placed, list_is}
use Rattle.book_seq.proofs.ChunkLemmas.{packed-least, packed-tail}

module _ {E : Type 0} (test : E → Bool) where
  -- ---- one list
  none-at : (es : List E) (k : ℕ) (d : E) → NonePasses test es → k < length es → test (get_or es k d) ≡ false
  none-at [] k d none lt = absurd (omega (arith, lt))
  none-at (e ∷ es) zero d none lt = none.0
  none-at (e ∷ es) (suc k) d none lt = none-at es k d none.1 (omega (arith, lt))

  none-from : (es : List E) → ((k : ℕ) (d : E) → k < length es → test (get_or es k d) ≡ false) → NonePasses test es
  none-from [] none = tt
  none-from (e ∷ es) none =
      (none 0 e (omega arith), none-from es (λ k d lt. none (suc k) d (omega (arith, lt))))

  pub cut-from : (es : List E) (i : ℕ) → i ≤ length es
      → ((k : ℕ) (d : E) → k < i → test (get_or es k d) ≡ true)
      → ((k : ℕ) (d : E) → i ≤ k → k < length es → test (get_or es k d) ≡ false) → IsCut test es i
  cut-from es zero le before after = none-from es (λ k d lt. after k d (omega arith) lt)
  cut-from [] (suc i) le before after = absurd (omega (arith, le))
  cut-from (e ∷ es) (suc i) le before after = (
    before 0 e (omega arith),
    cut-from es i (omega (arith, le)) (λ k d lt. before (suc k) d (omega (arith, lt)))
        (λ k d ge lt. after (suc k) d (omega (arith, ge)) (omega (arith, lt))),
  )

  -- entries that are parted are so by their places
  pub parted-by : (es : List E) → IsParted test es → IsPartitionedBy test es
  parted-by [] parted i j d le lt h = absurd (omega (arith, lt))
  parted-by (e ∷ es) parted zero zero d le lt h = h
  parted-by (e ∷ es) parted zero (suc j) d le lt h = by_test (test e) refl
    where
      by_test : (t : Bool) → test e ≡ t → test e ≡ true
      by_test true is = is
      by_test false is = absurd (let none = none-at es j d (parted.0 is) (omega (arith, lt)) in cc)
  parted-by (e ∷ es) parted (suc i) zero d le lt h = absurd (omega (arith, le))
  parted-by (e ∷ es) parted (suc i) (suc j) d le lt h =
      parted-by es parted.1 i j d (omega (arith, le)) (omega (arith, lt)) h

  -- ---- halving
  -- those up to an entry that passes do so too
  pub before_more : (es : List E) (m : ℕ) (x : E) → IsPartitionedBy test es → m < length es → x ≡ get_or es m x
      → test x ≡ true → (k : ℕ) (d : E) → k < m + 1 → test (get_or es k d) ≡ true
  before_more es m x parted below read is k d lt =
      parted k m d (omega (arith, lt)) below (ap test (get_or_default es m d x below ∙ sym read) ∙ is)

  -- those from an entry on that doesn't pass don't
  pub others_more : (es : List E) (m : ℕ) (x : E) → IsPartitionedBy test es → m < length es → x ≡ get_or es m x
      → test x ≡ false → (k : ℕ) (d : E) → m ≤ k → k < length es → test (get_or es k d) ≡ false
  others_more es m x parted below read fails k d ge lt = by_test (test (get_or es k d)) refl
    where
      by_test : (t : Bool) → test (get_or es k d) ≡ t → test (get_or es k d) ≡ false
      by_test true is = absurd (
          let one : test (get_or es m d) ≡ true = parted m k d ge lt is in
          let other : test (get_or es m d) ≡ false = ap test (get_or_default es m d x below ∙ sym read) ∙ fails in cc
          )
      by_test false is = is

  -- ---- a list and another behind it
  none-front : (xs ys : List E) → NonePasses test (xs ++ ys) → NonePasses test xs
  none-front [] ys none = tt
  none-front (x ∷ xs) ys none = (none.0, none-front xs ys none.1)

  none-back : (xs ys : List E) → NonePasses test (xs ++ ys) → NonePasses test ys
  none-back [] ys none = none
  none-back (x ∷ xs) ys none = none-back xs ys none.1

  none-join : (xs ys : List E) → NonePasses test xs → NonePasses test ys → NonePasses test (xs ++ ys)
  none-join [] ys a b = b
  none-join (x ∷ xs) ys a b = (a.0, none-join xs ys a.1 b)

  parted-front : (xs ys : List E) → IsParted test (xs ++ ys) → IsParted test xs
  parted-front [] ys parted = tt
  parted-front (x ∷ xs) ys parted = (λ fails. none-front xs ys (parted.0 fails), parted-front xs ys parted.1)

  parted-back : (xs ys : List E) → IsParted test (xs ++ ys) → IsParted test ys
  parted-back [] ys parted = parted
  parted-back (x ∷ xs) ys parted = parted-back xs ys parted.1

  -- where the last entry passes, all do
  pub last-is : (es : List E) (x : E) → slice_get es (length es - 1) ≡ Some x → last_passes test es ≡ test x
  last-is [] x is = absurd cc
  last-is (e ∷ []) x is = ap test (let same : e ≡ x = cc in same)
  last-is (e ∷ f ∷ es) x is =
      last-is (f ∷ es) x (ap (slice_get (e ∷ f ∷ es)) (let same : suc (suc (length es) - 1) ≡ suc (suc (length es)) - 1 =
      omega arith in same) ∙ is)

  none-last : (es : List E) → NonePasses test es → last_passes test es ≡ false
  none-last [] none = refl
  none-last (e ∷ []) none = none.0
  none-last (e ∷ f ∷ es) none = none-last (f ∷ es) none.1

  all-cut : (xs ys : List E) (k : ℕ) → IsParted test xs → last_passes test xs ≡ true → IsCut test ys k
      → IsCut test (xs ++ ys) (length xs + k)
  all-cut [] ys k parted last cut = absurd cc
  all-cut (x ∷ []) ys k parted last cut =
      subst (IsCut test (x ∷ ys)) (let same : suc k ≡ 1 + k = omega arith in same) (last, cut)
  all-cut (x ∷ y ∷ xs) ys k parted last cut =
      subst (IsCut test (x ∷ y ∷ (xs ++ ys)))
      (let same : suc (suc (length xs) + k) ≡ suc (suc (length xs)) + k = omega arith in same)
      (by_test (test x) refl, all-cut (y ∷ xs) ys k parted.1 last cut)
    where
      by_test : (t : Bool) → test x ≡ t → test x ≡ true
      by_test true is = is
      by_test false is = absurd (let none = none-last (y ∷ xs) (parted.0 is) in cc)

  -- where the last entry doesn't pass, none behind it does
  last-none : (xs ys : List E) → 1 ≤ length xs → IsParted test (xs ++ ys) → last_passes test xs ≡ false
      → NonePasses test ys
  last-none [] ys some parted last = absurd (omega (arith, some))
  last-none (x ∷ []) ys some parted last = parted.0 last
  last-none (x ∷ y ∷ xs) ys some parted last = last-none (y ∷ xs) ys (omega arith) parted.1 last

  cut-front : (xs ys : List E) (k : ℕ) → IsCut test xs k → NonePasses test ys → IsCut test (xs ++ ys) k
  cut-front xs ys zero cut none = none-join xs ys cut none
  cut-front [] ys (suc k) cut none = absurd cut
  cut-front (x ∷ xs) ys (suc k) cut none = (cut.0, cut-front xs ys k cut.1 none)

  -- ---- chunks
  none-passed : (ps : List (Piece E)) (k : ℕ) (d : Piece E) → NonePasses test (list_of ps) → k < length ps
      → is_passed test (get_or ps k d) ≡ false
  none-passed [] k d none lt = absurd (omega (arith, lt))
  none-passed (p ∷ ps) zero d none lt = none-last p.entries (none-front p.entries (list_of ps) none)
  none-passed (p ∷ ps) (suc k) d none lt =
      none-passed ps k d (none-back p.entries (list_of ps) none) (omega (arith, lt))

  pub chunks-parted : (ps : List (Piece E)) → ArePacked ps → IsParted test (list_of ps)
      → IsPartitionedBy (is_passed test) ps
  chunks-parted [] packed parted i j d le lt h = absurd (omega (arith, lt))
  chunks-parted (p ∷ ps) packed parted zero zero d le lt h = h
  chunks-parted (p ∷ ps) packed parted zero (suc j) d le lt h = by_test (is_passed test p) refl
    where
      by_test : (t : Bool) → is_passed test p ≡ t → is_passed test p ≡ true
      by_test true is = is
      by_test false is = absurd (
          let some : 1 ≤ length p.entries = omega (arith, packed-least p ps packed (omega (arith, lt))) in
          let none = none-passed ps j d (last-none p.entries (list_of ps) some parted is) (omega (arith, lt)) in cc
          )
  chunks-parted (p ∷ ps) packed parted (suc i) zero d le lt h = absurd (omega (arith, le))
  chunks-parted (p ∷ ps) packed parted (suc i) (suc j) d le lt h =
      chunks-parted ps (packed-tail p ps packed) (parted-back p.entries (list_of ps) parted) i j d (omega (arith, le))
      (omega (arith, lt)) h

  -- the chunk is parted like the list
  pub here-parted : (ps : List (Piece E)) (k : ℕ) (d : Piece E) → k < length ps → IsParted test (list_of ps)
      → IsParted test (get_or ps k d).entries
  here-parted [] k d lt parted = absurd (omega (arith, lt))
  here-parted (p ∷ ps) zero d lt parted = parted-front p.entries (list_of ps) parted
  here-parted (p ∷ ps) (suc k) d lt parted =
      here-parted ps k d (omega (arith, lt)) (parted-back p.entries (list_of ps) parted)

  -- the cut within the first chunk that isn't passed
  pub cut-here : (ps : List (Piece E)) (c k : ℕ) (d : Piece E) → ArePacked ps → IsParted test (list_of ps)
      → IsCut (is_passed test) ps c → c < length ps → IsCut test (get_or ps c d).entries k
      → IsCut test (list_of ps) (length (list_of (take c ps)) + k)
  cut-here [] c k d packed parted cut lt here = absurd (omega (arith, lt))
  cut-here (p ∷ []) zero k d packed parted cut lt here =
      subst (IsCut test (list_of (p ∷ []))) (let same : k ≡ 0 + k = omega arith in same)
      (cut-front p.entries [] k here tt)
  cut-here (p ∷ q ∷ ps) zero k d packed parted cut lt here =
      subst (IsCut test (list_of (p ∷ q ∷ ps))) (let same : k ≡ 0 + k = omega arith in same)
      (cut-front p.entries (list_of (q ∷ ps)) k here
      (last-none p.entries (list_of (q ∷ ps)) (omega (arith, packed.0)) parted cut.0))
  cut-here (p ∷ ps) (suc c) k d packed parted cut lt here =
      let rest = cut-here ps c k d (packed-tail p ps packed) (parted-back p.entries (list_of ps) parted) cut.1
      (omega (arith, lt)) here in
      let sum : length p.entries + (length (list_of (take c ps)) + k) ≡ length (list_of (take (suc c) (p ∷ ps))) + k =
      omega (arith, length-append p.entries (list_of (take c ps))) in
      subst (IsCut test (list_of (p ∷ ps))) sum
      (all-cut p.entries (list_of ps) (length (list_of (take c ps)) + k)
      (parted-front p.entries (list_of ps) parted) cut.0 rest)

  -- and where all chunks are passed
  pub cut-end : (ps : List (Piece E)) (c : ℕ) → IsParted test (list_of ps) → IsCut (is_passed test) ps c
      → c ≡ length ps → IsCut test (list_of ps) (length (list_of (take c ps)))
  cut-end [] zero parted cut is = tt
  cut-end [] (suc c) parted cut is = absurd cut
  cut-end (p ∷ ps) zero parted cut is = absurd (omega (arith, is))
  cut-end (p ∷ ps) (suc c) parted cut is =
      let rest = cut-end ps c (parted-back p.entries (list_of ps) parted) cut.1 (omega (arith, is)) in
      subst (IsCut test (list_of (p ∷ ps))) (sym (length-append p.entries (list_of (take c ps))))
      (all-cut p.entries (list_of ps) (length (list_of (take c ps))) (parted-front p.entries (list_of ps) parted) cut.0
      rest)

-- ---- so many rounds are left, and one less
halved : (n r : ℕ) → r < n → 2 ^ (n - r) ≡ 2 ^ (n - (r + 1)) * 2
halved n r lt = ap (λ k. 2 ^ k) (let e : n - r ≡ (n - (r + 1)) + 1 = omega (arith, lt) in e) ∙ pow_more 2 (n - (r + 1))

pub narrow_low : (n r low high : ℕ) → r < n → low < high → high - low < 2 ^ (n - r)
    → high - (low + (high - low) / 2 + 1) < 2 ^ (n - (r + 1))
narrow_low n r low high lt less narrow = omega (arith, halved n r lt, narrow, less)

pub narrow_high : (n r low high : ℕ) → r < n → low < high → high - low < 2 ^ (n - r)
    → (low + (high - low) / 2) - low < 2 ^ (n - (r + 1))
narrow_high n r low high lt less narrow = omega (arith, halved n r lt, narrow, less)

-- after the last round none is left
pub narrow_none : (n r gap : ℕ) → r ≡ n → gap < 2 ^ (n - r) → gap < 1
narrow_none n r gap last narrow =
    let none : n - r ≡ 0 = omega (arith, last) in subst (λ (k : ℕ). gap < 2 ^ k) none narrow

module _ {E : Type 0} where
  -- the rest of a chunk is a part of the list
  front-of : (xs ys : List E) → xs ≡ take (length xs) (xs ++ ys)
  front-of [] ys = refl
  front-of (x ∷ xs) ys = ap (λ l. x ∷ l) (front-of xs ys)

  drop-skip : (xs ys : List E) (o : ℕ) → drop (length xs + o) (xs ++ ys) ≡ drop o ys
  drop-skip [] ys o = ap (λ n. drop n ys) (let same : 0 + o ≡ o = omega arith in same)
  drop-skip (x ∷ xs) ys o =
      ap (λ n. drop n (x ∷ (xs ++ ys))) (let same : suc (length xs) + o ≡ suc (length xs + o) = omega arith in same)
      ∙ drop-skip xs ys o

  drop-front : (xs ys : List E) (o : ℕ) → o ≤ length xs → drop o (xs ++ ys) ≡ drop o xs ++ ys
  drop-front xs ys zero le = refl
  drop-front [] ys (suc o) le = absurd (omega (arith, le))
  drop-front (x ∷ xs) ys (suc o) le = drop-front xs ys o (omega (arith, le))

  pub part_of : (items : List (Piece E)) (place : ℕ) (spot : Spot) (h : Piece E) (part : List E)
      → Placed items place spot h → place < length (list_of items) → part ≡ drop spot.offset h.entries
      → (part ≡ take (length part) (drop place (list_of items))) × (1 ≤ length part)
  part_of items place spot h part p lt is =
      let list : drop place (list_of items) ≡ part ++ list_of p.after =
      ap (λ l. drop place l) (list_is items place spot h p)
      ∙ ap (λ n. drop n (list_of p.before ++ (h.entries ++ list_of p.after))) p.place_is
      ∙ drop-skip (list_of p.before) (h.entries ++ list_of p.after) spot.offset
      ∙ drop-front h.entries (list_of p.after) spot.offset p.within ∙ ap (λ l. l ++ list_of p.after) (sym is) in (
        front-of part (list_of p.after) ∙ ap (take (length part)) (sym list),
        omega (arith, p.below lt, ap length is ∙ length-drop spot.offset h.entries),
      )
