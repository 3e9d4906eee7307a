-- Sums of weights: over two lists in one, over a part of a list, and how large they can grow.
use Rattle.std.proofs.Common.{◌≡◌, ℕ, ◌+◌, ◌-◌, ◌^◌, ◌<◌, ◌≤◌, ℤ, ◌+ℤ◌, List, [], ◌∷◌, ◌++◌, length}
use Rattle.std.proofs.Common.{take, drop, get_or, slice_get, Some, sym, ap, ◌∙◌, subst, arith, suc}
use Rattle.std.proofs.Math.IntN.{+ℤ_assoc, +ℤ_comm, +ℤ_idl, +ℤ_idr}
use Rattle.std.proofs.lemmas.Int.{ints}
use Rattle.std.proofs.lemmas.List.{take_more, take-append-drop}
use Rattle.std.specs.List.{insert, remove}
use Rattle.book_seq.proofs.ListLemmas.{insert_again, slice_get_or, take_middle}
use Rattle.book_seq.specs.Sums.{AreBounded, AreKept, AreWithin, IsWithin, difference, no_sums, sum, sums_of}
use Rattle.book_seq.specs.declared.sums.Sums.{Sums}

abbrev made : ℤ → ℤ → ℤ → Sums
made a b c = record { first = a; second = b; third = c }

-- sums are the same where each of the three is
pub same_sums : (s t : Sums) → s.first ≡ t.first → s.second ≡ t.second → s.third ≡ t.third → s ≡ t
same_sums s t a b c =
    ap (λ z. made z s.second s.third) a ∙ ap (λ z. made t.first z s.third) b ∙ ap (λ z. made t.first t.second z) c

pub sum-none : (s : Sums) → sum s no_sums ≡ s
sum-none s = same_sums (sum s no_sums) s (+ℤ_idr s.first) (+ℤ_idr s.second) (+ℤ_idr s.third)

pub none-sum : (s : Sums) → sum no_sums s ≡ s
none-sum s = same_sums (sum no_sums s) s (+ℤ_idl s.first) (+ℤ_idl s.second) (+ℤ_idl s.third)

pub sum_assoc : (s t u : Sums) → sum (sum s t) u ≡ sum s (sum t u)
sum_assoc s t u =
    same_sums (sum (sum s t) u) (sum s (sum t u)) (+ℤ_assoc s.first t.first u.first)
    (+ℤ_assoc s.second t.second u.second) (+ℤ_assoc s.third t.third u.third)

pub sum_comm : (s t : Sums) → sum s t ≡ sum t s
sum_comm s t =
    same_sums (sum s t) (sum t s) (+ℤ_comm s.first t.first) (+ℤ_comm s.second t.second) (+ℤ_comm s.third t.third)

-- what is taken away again leaves what was there
pub difference-sum : (s t : Sums) → difference (sum s t) t ≡ s
difference-sum s t =
    same_sums (difference (sum s t) t) s (omega (arith, ints)) (omega (arith, ints)) (omega (arith, ints))

module _ {E : Type 0} (weights : E → Sums) where
  -- the sums of two lists in one are the sums of each together
  pub sums_of-append : (xs ys : List E) → sums_of weights (xs ++ ys) ≡ sum (sums_of weights xs) (sums_of weights ys)
  sums_of-append [] ys = sym (none-sum (sums_of weights ys))
  sums_of-append (x ∷ xs) ys =
      ap (sum (weights x)) (sums_of-append xs ys)
      ∙ sym (sum_assoc (weights x) (sums_of weights xs) (sums_of weights ys))

  pub sums_of-one : (x : E) → sums_of weights (x ∷ []) ≡ weights x
  sums_of-one x = sum-none (weights x)

  -- one entry more of the list
  pub sums_of-more : (xs : List E) (i : ℕ) (x : E) → i < length xs → x ≡ get_or xs i x
      → sums_of weights (take (i + 1) xs) ≡ sum (sums_of weights (take i xs)) (weights x)
  sums_of-more xs i x below is =
      ap (sums_of weights) (take_more xs i x below ∙ ap (λ y. take i xs ++ y ∷ []) (sym is))
      ∙ sums_of-append (take i xs) (x ∷ []) ∙ ap (sum (sums_of weights (take i xs))) (sums_of-one x)

  -- an entry put in adds its weights
  pub sums_of-insert : (xs : List E) (i : ℕ) (x : E)
      → sums_of weights (insert xs i x) ≡ sum (sums_of weights xs) (weights x)
  sums_of-insert xs i x =
      let front : Sums = sums_of weights (take i xs) in
      let back : Sums = sums_of weights (drop i xs) in
      sums_of-append (take i xs) (x ∷ drop i xs)
      ∙ ap (sum front) (sum_comm (weights x) back)
      ∙ sym (sum_assoc front back (weights x))
      ∙ ap (λ s. sum s (weights x)) (sym (sums_of-append (take i xs) (drop i xs))
      ∙ ap (sums_of weights) (take-append-drop i xs))

  bounded-append : (xs ys : List E) → AreBounded weights xs → AreBounded weights ys → AreBounded weights (xs ++ ys)
  bounded-append [] ys a b = b
  bounded-append (x ∷ xs) ys a b = (a.0, bounded-append xs ys a.1 b)

  bounded-front : (xs ys : List E) → AreBounded weights (xs ++ ys) → AreBounded weights xs
  bounded-front [] ys a = tt
  bounded-front (x ∷ xs) ys a = (a.0, bounded-front xs ys a.1)

  bounded-back : (xs ys : List E) → AreBounded weights (xs ++ ys) → AreBounded weights ys
  bounded-back [] ys a = a
  bounded-back (x ∷ xs) ys a = bounded-back xs ys a.1

  bounded-take : (i : ℕ) (xs : List E) → AreBounded weights xs → AreBounded weights (take i xs)
  bounded-take i xs a = bounded-front (take i xs) (drop i xs) (subst (AreBounded weights) (sym
      (take-append-drop i xs)) a)

  bounded-drop : (i : ℕ) (xs : List E) → AreBounded weights xs → AreBounded weights (drop i xs)
  bounded-drop i xs a = bounded-back (take i xs) (drop i xs) (subst (AreBounded weights) (sym
      (take-append-drop i xs)) a)

within-more : (n : ℕ) (a b : ℤ) → IsWithin 1 a → IsWithin n b → IsWithin (suc n) (a +ℤ b)
within-more n a b one more = (omega (arith, ints), omega (arith, ints))

within-both : (m n : ℕ) (a b : ℤ) → IsWithin m a → IsWithin n b → IsWithin (m + n) (a +ℤ b)
within-both m n a b one more = (omega (arith, ints), omega (arith, ints))

within-le : (m n : ℕ) (a : ℤ) → m ≤ n → IsWithin m a → IsWithin n a
within-le m n a le one = (omega (arith, ints), omega (arith, ints))

-- the sums of two are as large as the two counts together allow
pub are_within-sum : (m n : ℕ) (s t : Sums) → AreWithin m s → AreWithin n t → AreWithin (m + n) (sum s t)
are_within-sum m n s t a b = (
  within-both m n s.first t.first a.0 b.0,
  (within-both m n s.second t.second a.1.0 b.1.0, within-both m n s.third t.third a.1.1 b.1.1),
)

pub are_within-le : (m n : ℕ) (s : Sums) → m ≤ n → AreWithin m s → AreWithin n s
are_within-le m n s le a = (
  within-le m n s.first le a.0,
  (within-le m n s.second le a.1.0, within-le m n s.third le a.1.1),
)

-- the sums of entries are as large as their count allows
pub within_sums : {E : Type 0} (weights : E → Sums) (xs : List E) → AreBounded weights xs
    → AreWithin (length xs) (sums_of weights xs)
within_sums weights [] b = (
  (omega (arith, ints), omega (arith, ints)),
  (
    (omega (arith, ints), omega (arith, ints)),
    (omega (arith, ints), omega (arith, ints)),
  ),
)
within_sums weights (x ∷ xs) b =
    let more : AreWithin (length xs) (sums_of weights xs) = within_sums weights xs b.1 in
    let one : AreWithin 1 (weights x) = b.0 in (
      within-more (length xs) (weights x).first (sums_of weights xs).first one.0 more.0,
      (
        within-more (length xs) (weights x).second (sums_of weights xs).second one.1.0 more.1.0,
        within-more (length xs) (weights x).third (sums_of weights xs).third one.1.1 more.1.1,
      ),
    )

-- ---- kept sums
pub kept_within : {E : Type 0} (weights : E → Sums) (xs : List E) (s : Sums) → AreKept weights xs s
    → AreWithin (length xs) s
kept_within weights xs s kept =
    subst (λ (t : Sums). AreWithin (length xs) t) (sym kept.sums) (within_sums weights xs kept.bounded)

pub kept_plus : {E : Type 0} (weights : E → Sums) (xs : List E) (m : ℕ) (s t : Sums) → AreKept weights xs s
    → AreWithin m t
    → length xs + m ≤ 2 ^ 64 - 1 → AreWithin (2 ^ 64 - 1) (sum s t)
kept_plus weights xs m s t kept more le =
    are_within-le (length xs + m) (2 ^ 64 - 1) (sum s t) le
    (are_within-sum (length xs) m s t (kept_within weights xs s kept) more)

pub kept_insert : {E : Type 0} (weights : E → Sums) (xs : List E) (i : ℕ) (x : E) (s t : Sums) → AreKept weights xs s
    → t ≡ weights x → AreWithin 1 t → AreKept weights (insert xs i x) (sum s t)
kept_insert weights xs i x s t kept is within = record {
  sums = ap (sum s) is ∙ ap (λ (u : Sums). sum u (weights x)) kept.sums ∙ sym (sums_of-insert weights xs i x);
  bounded = bounded-append weights (take i xs) (x ∷ drop i xs) (bounded-take weights i xs kept.bounded)
      (subst (AreWithin 1) is within, bounded-drop weights i xs kept.bounded);
}

pub sums_of-remove : {E : Type 0} (weights : E → Sums) (xs : List E) (i : ℕ) (x : E) → i < length xs → x ≡ get_or xs i x
    → sums_of weights xs ≡ sum (sums_of weights (remove xs i)) (weights x)
sums_of-remove weights xs i x below is =
    ap (sums_of weights) (sym (insert_again xs i x below is)) ∙ sums_of-insert weights (remove xs i) i x

pub kept_remove : {E : Type 0} (weights : E → Sums) (xs : List E) (i : ℕ) (x : E) (s t : Sums) → AreKept weights xs s
    → i < length xs → x ≡ get_or xs i x → t ≡ weights x → AreKept weights (remove xs i) (difference s t)
kept_remove weights xs i x s t kept below is same = record {
  sums = ap (difference s) same
      ∙ ap (λ (u : Sums). difference u (weights x)) (kept.sums ∙ sums_of-remove weights xs i x below is)
      ∙ difference-sum (sums_of weights (remove xs i)) (weights x);
  bounded = bounded-append weights (take i xs) (drop (suc i) xs) (bounded-take weights i xs kept.bounded)
      (bounded-drop weights (suc i) xs kept.bounded);
}

pub kept_append : {E : Type 0} (weights : E → Sums) (xs ys : List E) (s t : Sums) → AreKept weights xs s
    → AreKept weights ys t
    → AreKept weights (xs ++ ys) (sum s t)
kept_append weights xs ys s t a b = record {
  sums = ap (λ (u : Sums). sum u t) a.sums ∙ ap (sum (sums_of weights xs)) b.sums ∙ sym (sums_of-append weights xs ys);
  bounded = bounded-append weights xs ys a.bounded b.bounded;
}

pub kept_take : {E : Type 0} (weights : E → Sums) (xs : List E) (i : ℕ) (s t : Sums) → AreKept weights xs s
    → t ≡ sums_of weights (drop i xs) → AreKept weights (take i xs) (difference s t)
kept_take weights xs i s t kept is = record {
  sums = ap (difference s) is
      ∙ ap (λ (u : Sums). difference u (sums_of weights (drop i xs)))
      (kept.sums ∙ ap (sums_of weights) (sym (take-append-drop i xs)) ∙ sums_of-append weights (take i xs) (drop i xs))
      ∙ difference-sum (sums_of weights (take i xs)) (sums_of weights (drop i xs));
  bounded = bounded-take weights i xs kept.bounded;
}

pub kept_drop : {E : Type 0} (weights : E → Sums) (xs : List E) (i : ℕ) (s t : Sums) → AreKept weights xs s
    → t ≡ sums_of weights (drop i xs) → AreKept weights (drop i xs) t
kept_drop weights xs i s t kept is = record { sums = is; bounded = bounded-drop weights i xs kept.bounded }

pub none_within : (n : ℕ) → AreWithin n no_sums
none_within n = (
  (omega (arith, ints), omega (arith, ints)),
  ((omega (arith, ints), omega (arith, ints)), (omega (arith, ints), omega (arith, ints))),
)

pub sums_of-get : {E : Type 0} (weights : E → Sums) (xs : List E) (i : ℕ) (x : E) → slice_get xs i ≡ Some x
    → sums_of weights (take (i + 1) xs) ≡ sum (sums_of weights (take i xs)) (weights x)
sums_of-get weights xs i x e = let at = slice_get_or xs i x e in sums_of-more weights xs i x at.0 at.1

-- the sums before a place are those before its chunk and those before it in the chunk
pub sums_of-place : {E : Type 0} (weights : E → Sums) (all before here after : List E) (place o : ℕ)
    → all ≡ before ++ (here ++ after) → place ≡ length before + o → o ≤ length here
    → sums_of weights (take place all) ≡ sum (sums_of weights before) (sums_of weights (take o here))
sums_of-place weights all before here after place o is place_is within =
    ap (λ l. sums_of weights (take place l)) is
    ∙ ap (λ n. sums_of weights (take n (before ++ (here ++ after)))) place_is
    ∙ ap (sums_of weights) (take_middle before here after o within) ∙ sums_of-append weights before (take o here)
