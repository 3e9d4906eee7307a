-- The free splits of a sound book: none is there twice, and each split is found by its number.
use Rattle.std.proofs.Common.{◌≡◌, ℕ, ◌==◌, Bool, true, false, not, ◌&&◌, if◌then◌else◌, cond, All}
use Rattle.std.proofs.Common.{List, [], ◌∷◌, ◌++◌, filter, map, Some, refl, sym, ap, ◌∙◌, eq-eqb, arith}
use Rattle.std.specs.Ordering.{int_eq}
use Rattle.std.proofs.lemmas.Bool.{and_from, and_parts, not-true, not_from_false, or_from, or_parts}
use Rattle.std.proofs.lemmas.Bool.Decides.{nat_tests}
use Rattle.std.proofs.lemmas.List.{map-append}
use Rattle.std.proofs.lemmas.List.Elements.{All-cons, All-nil, All-weaker, filter-append}
use Rattle.book_commodity.specs.Rules.{stands_before}
use Rattle.book_commodity.specs.Table.{value_of}
use Rattle.book_splits.specs.Balance.{splits_of}
use Rattle.book_splits.specs.TransactionRules.{are_once, is_among, numbers_of, share_numbers}
use Rattle.book_splits.specs.declared.split.Split.{Split}
use Rattle.book_splits.specs.declared.transaction.Txn.{Txn}
use Rattle.book_match.specs.AmountIndex.{AreApart, is_same, is_there}
use Rattle.book_match.specs.declared.free.Free.{Free}
use Rattle.book_sound.specs.LineRules.{split_among}
use Rattle.book_sound.specs.Soundness.{IsSoundBook}
use Rattle.book_undo.specs.Book.{Book}
use Rattle.book_free.specs.FreeSplits.{free_among, free_of, free_split, is_free}

-- ---- no split is twice among those that may be matched

last_differs : (a b c d : Bool) → d ≡ false → (a && (b && (c && d))) ≡ false
last_differs false b c d e = refl
last_differs true false c d e = refl
last_differs true true false d e = refl
last_differs true true true d e = e

pub not_there :
    (free : Free) (es : List Free) → is_among (map (λ (e : Free). e.split) es) free.split ≡ false
    → is_there free es ≡ false
not_there free [] none = refl
not_there free (e ∷ es) none =
    let parts = or_parts (e.split == free.split) (is_among (map (λ (x : Free). x.split) es) free.split) none in
    let differs : (free.split == e.split) ≡ false = grind (arith, nat_tests, parts.0) in
    or_from (is_same free e) (is_there free es)
    (last_differs (free.account == e.account) (int_eq free.amount e.amount) (int_eq free.day e.day)
    (free.split == e.split) differs)
    (not_there free es parts.1)

apart_of_once : (es : List Free) → are_once (map (λ (e : Free). e.split) es) ≡ true → AreApart es
apart_of_once [] once = tt
apart_of_once (e ∷ es) once =
    let numbers = map (λ (x : Free). x.split) es in
    let parts = and_parts (not (is_among numbers e.split)) (are_once numbers) once in
    (not_there e es (not-true _ parts.0), apart_of_once es parts.1)

pub numbers_free :
    (day : _) (splits : List Split)
    → map (λ (e : Free). e.split) (map (free_split day) splits) ≡ numbers_of splits
numbers_free day [] = refl
numbers_free day (s ∷ splits) = ap (λ (ns : List ℕ). s.id ∷ ns) (numbers_free day splits)

pub numbers_among :
    (taken : ℕ → Bool) (ts : List (ℕ × Txn))
    → map (λ (e : Free). e.split) (free_among taken ts) ≡ numbers_of (filter (is_free taken) (splits_of ts))
numbers_among taken [] = refl
numbers_among taken (e ∷ ts) =
    let number : Free → ℕ = λ x. x.split in
    let own = filter (is_free taken) e.1.splits in
    let others = filter (is_free taken) (splits_of ts) in
    map-append number (free_of taken e.1) (free_among taken ts)
    ∙ ap (λ (ns : List ℕ). ns ++ map number (free_among taken ts)) (numbers_free e.1.day own)
    ∙ ap (λ (ns : List ℕ). numbers_of own ++ ns) (numbers_among taken ts)
    ∙ sym (map-append (λ (s : Split). s.id) own others)
    ∙ sym (ap numbers_of (filter-append (is_free taken) e.1.splits (splits_of ts)))

pub not_among_fewer :
    (test : Split → Bool) (n : ℕ) (splits : List Split) → is_among (numbers_of splits) n ≡ false
    → is_among (numbers_of (filter test splits)) n ≡ false
not_among_fewer test n [] none = refl
not_among_fewer test n (s ∷ splits) none =
    let parts = or_parts (s.id == n) (is_among (numbers_of splits) n) none in
    let rest = not_among_fewer test n splits parts.1 in
    elim (test s) as
    (λ (b : Bool). is_among (numbers_of (if b then s ∷ filter test splits else filter test splits)) n ≡ false) [
      | true ↦ or_from (s.id == n) _ parts.0 rest
      | false ↦ rest
    ]

once_fewer :
    (test : Split → Bool) (splits : List Split) → are_once (numbers_of splits) ≡ true
    → are_once (numbers_of (filter test splits)) ≡ true
once_fewer test [] once = refl
once_fewer test (s ∷ splits) once =
    let parts = and_parts (not (is_among (numbers_of splits) s.id)) (are_once (numbers_of splits)) once in
    let rest = once_fewer test splits parts.1 in
    let none = not_among_fewer test s.id splits (not-true _ parts.0) in
    elim (test s) as
    (λ (b : Bool). are_once (numbers_of (if b then s ∷ filter test splits else filter test splits)) ≡ true) [
      | true ↦ and_from (not (is_among (numbers_of (filter test splits)) s.id)) _ (not_from_false _ none) rest
      | false ↦ rest
    ]

-- In a book whose splits have numbers of their own, those that may be matched are apart.
pub free_apart :
    (taken : ℕ → Bool) (ts : List (ℕ × Txn)) → are_once (numbers_of (splits_of ts)) ≡ true
    → AreApart (free_among taken ts)
free_apart taken ts once =
    apart_of_once (free_among taken ts)
    (ap are_once (numbers_among taken ts) ∙ once_fewer (is_free taken) (splits_of ts) once)

-- ---- each split is found by its number

both : {X : Type 0} (P Q : X → Type 0) (xs : List X) → All P xs → All Q xs → All (λ (x : X). P x × Q x) xs
both P Q xs p q = λ k d lt. (p k d lt, q k d lt)

-- the other numbers aren't the first
others_differ :
    (n : ℕ) (splits : List Split) → is_among (numbers_of splits) n ≡ false
    → All (λ (s : Split). (n == s.id) ≡ false) splits
others_differ n [] none = All-nil (λ (s : Split). (n == s.id) ≡ false)
others_differ n (s ∷ splits) none =
    let parts = or_parts (s.id == n) (is_among (numbers_of splits) n) none in
    All-cons (λ (x : Split). (n == x.id) ≡ false) s splits (grind (arith, nat_tests, parts.0))
    (others_differ n splits parts.1)

-- each of splits whose numbers stand once is found by its number
pub found_by_number :
    (splits : List Split) → are_once (numbers_of splits) ≡ true
    → All (λ (s : Split). split_among s.id splits ≡ Some s) splits
found_by_number [] once = All-nil (λ (s : Split). split_among s.id [] ≡ Some s)
found_by_number (x ∷ splits) once =
    let parts = and_parts (not (is_among (numbers_of splits) x.id)) (are_once (numbers_of splits)) once in
    let Found : Split → Type 0 = λ s. split_among s.id splits ≡ Some s in
    let Other : Split → Type 0 = λ s. (x.id == s.id) ≡ false in
    let After : Split → Type 0 = λ s. split_among s.id (x ∷ splits) ≡ Some s in
    All-cons After x splits (ap (λ (b : Bool). cond b (Some x) (split_among x.id splits)) (eq-eqb x.id x.id refl))
    (All-weaker (λ s. Found s × Other s) After
    (λ s has. ap (λ (b : Bool). cond b (Some x) (split_among s.id splits)) has.1 ∙ has.0) splits
    (both Found Other splits (found_by_number splits parts.1) (others_differ x.id splits (not-true _ parts.0))))

-- the numbers of a transaction's splits stand once in it, and none before it has one of them
pub own_numbers :
    (book : Book) (k : ℕ) (t : Txn) → IsSoundBook book → value_of k book.transactions ≡ Some t
    → (are_once (numbers_of t.splits) ≡ true) × (stands_before (share_numbers t) k book.transactions ≡ false)
own_numbers book k t is there = let kept = is.transactions.keep.each k t there in (kept.1.0, not-true _ kept.1.1.0)
