-- Lists that are gone through from place to place, and the numbers of splits.
use Rattle.std.proofs.Common.{◌≡◌, ℕ, ◌+◌, ◌<◌, ◌==◌, not, Bool, true, false, ◌&&◌, ◌||◌, List, [], ◌∷◌, length, drop}
use Rattle.std.proofs.Common.{get_or, map, Option, Some, None, option_map, slice_get, refl, sym, ap, ◌∙◌}
use Rattle.std.specs.List.{list_any}
use Rattle.std.specs.Option.{option_or}
use Rattle.std.proofs.lemmas.List.Folds.{find-append}
use Rattle.book_commodity.proofs.ListLemmas.{drop_by, from-item}
use Rattle.book_splits.specs.Balance.{splits_of}
use Rattle.book_splits.specs.TransactionRules.{are_once, is_among, numbers_of}
use Rattle.book_splits.specs.declared.split.Split.{Split}
use Rattle.book_splits.specs.declared.transaction.Txn.{Txn}
use Rattle.book_sound.specs.LineRules.{split_among, split_at}

-- ---- one of a list passes a test
-- the one at a place does
pub any_there :
    {X : Type 0} (test : X → Bool) (xs : List X) (i : ℕ) → option_map test (slice_get xs i) ≡ Some true
    → list_any test (drop i xs) ≡ true
any_there test xs i e =
    let r = drop_by test xs i true e in
    ap (list_any test) r.1 ∙ ap (λ (t : Bool). t || list_any test (drop (i + 1) xs)) r.2

-- or it doesn't, and those behind it are asked
pub any_behind :
    {X : Type 0} (test : X → Bool) (xs : List X) (i : ℕ) → option_map test (slice_get xs i) ≡ Some false
    → list_any test (drop i xs) ≡ list_any test (drop (i + 1) xs)
any_behind test xs i e =
    let r = drop_by test xs i false e in
    ap (list_any test) r.1 ∙ ap (λ (t : Bool). t || list_any test (drop (i + 1) xs)) r.2

any_mapped :
    {X Y : Type 0} (test : Y → Bool) (f : X → Y) (xs : List X)
    → list_any test (map f xs) ≡ list_any (λ x. test (f x)) xs
any_mapped test f [] = refl
any_mapped test f (x ∷ xs) = ap (λ (t : Bool). test (f x) || t) (any_mapped test f xs)

-- ---- numbers that stand once
-- the number of the one at a place stands again behind it
pub once_fails :
    {X : Type 0} (f : X → ℕ) (xs : List X) (i : ℕ)
    → option_map (λ x. list_any (λ y. f y == f x) (drop (i + 1) xs)) (slice_get xs i) ≡ Some true
    → are_once (map f (drop i xs)) ≡ false
once_fails {X} f xs i e =
    let r = drop_by (λ (x : X). list_any (λ y. f y == f x) (drop (i + 1) xs)) xs i true e in
    ap (λ ys. are_once (map f ys)) r.1
    ∙ ap (λ (t : Bool). not t && are_once (map f (drop (i + 1) xs)))
    (any_mapped (λ n. n == f r.0) f (drop (i + 1) xs) ∙ r.2)

-- or it doesn't, and those behind it are asked
pub once_behind :
    {X : Type 0} (f : X → ℕ) (xs : List X) (i : ℕ)
    → option_map (λ x. list_any (λ y. f y == f x) (drop (i + 1) xs)) (slice_get xs i) ≡ Some false
    → are_once (map f (drop i xs)) ≡ are_once (map f (drop (i + 1) xs))
once_behind {X} f xs i e =
    let r = drop_by (λ (x : X). list_any (λ y. f y == f x) (drop (i + 1) xs)) xs i false e in
    ap (λ ys. are_once (map f ys)) r.1
    ∙ ap (λ (t : Bool). not t && are_once (map f (drop (i + 1) xs)))
    (any_mapped (λ n. n == f r.0) f (drop (i + 1) xs) ∙ r.2)

-- two transactions share a number: it is that of a split of each
pub shared :
    (splits others : List Split)
    → list_any (λ split. list_any (λ other. other.id == split.id) others) splits
    ≡ list_any (is_among (numbers_of others)) (numbers_of splits)
shared [] others = refl
shared (s ∷ splits) others =
    ap (λ (t : Bool). t || list_any (λ (x : Split). list_any (λ (y : Split). y.id == x.id) others) splits)
    (sym (any_mapped (λ n. n == s.id) (λ (y : Split). y.id) others))
    ∙ ap (λ (t : Bool). is_among (numbers_of others) s.id || t) (shared splits others)

-- ---- the split with a number
among_first :
    (number : ℕ) (ts : List (ℕ × Txn)) (i : ℕ) (e : ℕ × Txn) → i < length ts → e ≡ get_or ts i e
    → split_at number (drop i ts)
    ≡ option_or (split_among number e.1.splits) (split_at number (drop (i + 1) ts))
among_first number ts i e below is =
    ap (split_at number) (from-item ts i e below is)
    ∙ find-append (λ (s : Split). s.id == number) e.1.splits (splits_of (drop (i + 1) ts))

-- it is one of the transaction at a place
pub split_there :
    (number : ℕ) (ts : List (ℕ × Txn)) (i : ℕ) (e : ℕ × Txn) (s : Split) → i < length ts → e ≡ get_or ts i e
    → split_among number e.1.splits ≡ Some s → split_at number (drop i ts) ≡ Some s
split_there number ts i e s below is found =
    among_first number ts i e below is
    ∙ ap (λ (o : Option Split). option_or o (split_at number (drop (i + 1) ts))) found

-- or of those behind it
pub split_behind :
    (number : ℕ) (ts : List (ℕ × Txn)) (i : ℕ) (e : ℕ × Txn) → i < length ts → e ≡ get_or ts i e
    → split_among number e.1.splits ≡ None → split_at number (drop i ts) ≡ split_at number (drop (i + 1) ts)
split_behind number ts i e below is none =
    among_first number ts i e below is
    ∙ ap (λ (o : Option Split). option_or o (split_at number (drop (i + 1) ts))) none
