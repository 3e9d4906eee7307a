-- Entries of one list between two others: read, put in, taken out, and those before one of them.
use Rattle.std.proofs.Common.{◌≡◌, ℕ, zero, suc, ◌+◌, ◌-◌, ◌<◌, ◌≤◌, List, [], ◌∷◌, ◌++◌, length, take, drop, get_or}
use Rattle.std.proofs.Common.{set}
use Rattle.std.proofs.Common.{Some, slice_get, refl, sym, ap, ◌∙◌, arith}
use Rattle.std.proofs.lemmas.List.{length-drop, length-take-le, take-append-drop, take-append-le, get_or_at, set_at}
use Rattle.std.proofs.lemmas.List.Edits.{insert-append_left, insert-append_right, remove-append_left}
use Rattle.std.proofs.lemmas.List.Edits.{remove-append_right}
use Rattle.std.specs.List.{insert, remove}

skipped : (n o : ℕ) → (n + o) - n ≡ o
skipped n o = omega arith

pub slice_get-skip : {X : Type 0} (xs ys : List X) (o : ℕ) → slice_get (xs ++ ys) (length xs + o) ≡ slice_get ys o
slice_get-skip [] ys o = ap (slice_get ys) (let e : 0 + o ≡ o = omega arith in e)
slice_get-skip (x ∷ xs) ys o =
    ap (slice_get (x ∷ (xs ++ ys))) (let e : suc (length xs) + o ≡ suc (length xs + o) = omega arith in e)
    ∙ slice_get-skip xs ys o

pub slice_get-front : {X : Type 0} (xs ys : List X) (o : ℕ) → o < length xs → slice_get (xs ++ ys) o ≡ slice_get xs o
slice_get-front [] ys o below = absurd (omega arith)
slice_get-front (x ∷ xs) ys zero below = refl
slice_get-front (x ∷ xs) ys (suc o) below = slice_get-front xs ys o (omega arith)

-- the entry at a place within the middle list
pub get_middle : {X : Type 0} (xs ys zs : List X) (o : ℕ) → o < length ys
    → slice_get (xs ++ (ys ++ zs)) (length xs + o) ≡ slice_get ys o
get_middle xs ys zs o below = slice_get-skip xs (ys ++ zs) o ∙ slice_get-front ys zs o below

-- an entry put into the middle list
pub insert_middle : {X : Type 0} (xs ys zs : List X) (o : ℕ) (x : X) → o ≤ length ys
    → insert (xs ++ (ys ++ zs)) (length xs + o) x ≡ xs ++ (insert ys o x ++ zs)
insert_middle xs ys zs o x within =
    insert-append_right xs (ys ++ zs) (length xs) (length xs + o) x refl (omega arith)
    ∙ ap (λ i. xs ++ insert (ys ++ zs) i x) (skipped (length xs) o)
    ∙ ap (λ l. xs ++ l) (insert-append_left ys zs o x within)

-- an entry taken out of the middle list
pub remove_middle : {X : Type 0} (xs ys zs : List X) (o : ℕ) → o < length ys
    → remove (xs ++ (ys ++ zs)) (length xs + o) ≡ xs ++ (remove ys o ++ zs)
remove_middle xs ys zs o below =
    remove-append_right xs (ys ++ zs) (length xs) (length xs + o) refl (omega arith)
    ∙ ap (λ i. xs ++ remove (ys ++ zs) i) (skipped (length xs) o)
    ∙ ap (λ l. xs ++ l) (remove-append_left ys zs o below)

take-skip : {X : Type 0} (xs ys : List X) (o : ℕ) → take (length xs + o) (xs ++ ys) ≡ xs ++ take o ys
take-skip [] ys o = ap (λ n. take n ys) (let e : 0 + o ≡ o = omega arith in e)
take-skip (x ∷ xs) ys o =
    ap (λ n. take n (x ∷ (xs ++ ys))) (let e : suc (length xs) + o ≡ suc (length xs + o) = omega arith in e)
    ∙ ap (λ l. x ∷ l) (take-skip xs ys o)

-- the entries before a place within the middle list
pub take_middle : {X : Type 0} (xs ys zs : List X) (o : ℕ) → o ≤ length ys
    → take (length xs + o) (xs ++ (ys ++ zs)) ≡ xs ++ take o ys
take_middle xs ys zs o within = take-skip xs (ys ++ zs) o ∙ ap (λ l. xs ++ l) (take-append-le o ys zs within)

-- ---- at the neighbour of a known item
pub remove_next : {X : Type 0} (xs ys : List X) (x y : X) (k : ℕ) → k ≡ length xs
    → remove (xs ++ x ∷ y ∷ ys) (k + 1) ≡ xs ++ x ∷ ys
remove_next xs ys x y k is =
    ap (λ n. remove (xs ++ x ∷ y ∷ ys) (n + 1)) is ∙ remove_middle xs (x ∷ y ∷ []) ys 1 (omega arith)

pub insert_next : {X : Type 0} (xs ys : List X) (x y : X) (k : ℕ) → k ≡ length xs
    → insert (xs ++ x ∷ ys) (k + 1) y ≡ xs ++ x ∷ y ∷ ys
insert_next xs ys x y k is =
    ap (λ n. insert (xs ++ x ∷ ys) (n + 1) y) is ∙ insert_middle xs (x ∷ []) ys 1 y (omega arith)

pub set_here : {X : Type 0} (xs ys : List X) (x y : X) (k : ℕ) → k ≡ length xs → set (xs ++ x ∷ ys) k y ≡ xs ++ y ∷ ys
set_here xs ys x y k is = set_at xs x ys y k (sym is)

pub get_here : {X : Type 0} (xs ys : List X) (x d : X) (k : ℕ) → k ≡ length xs → get_or (xs ++ x ∷ ys) k d ≡ x
get_here xs ys x d k is = get_or_at xs x ys d k (sym is)

-- ---- an entry that was read
pub slice_get_read : {X : Type 0} (xs : List X) (i : ℕ) (x : X) → i < length xs → x ≡ get_or xs i x
    → slice_get xs i ≡ Some x
slice_get_read [] i x below is = absurd (omega arith)
slice_get_read (y ∷ xs) zero x below is = ap (λ z. Some z) (sym is)
slice_get_read (y ∷ xs) (suc i) x below is = slice_get_read xs i x (omega arith) is

-- what was taken out and is put in again
pub insert_again : {X : Type 0} (xs : List X) (i : ℕ) (x : X) → i < length xs → x ≡ get_or xs i x
    → insert (remove xs i) i x ≡ xs
insert_again [] i x below is = absurd (omega arith)
insert_again (y ∷ xs) zero x below is = ap (λ z. z ∷ xs) is
insert_again (y ∷ xs) (suc i) x below is = ap (λ l. y ∷ l) (insert_again xs i x (omega arith) is)

pub slice_get_or : {X : Type 0} (xs : List X) (i : ℕ) (x : X) → slice_get xs i ≡ Some x
    → (i < length xs) × (x ≡ get_or xs i x)
slice_get_or [] i x e = absurd cc
slice_get_or (y ∷ xs) zero x e = (omega arith, cc)
slice_get_or (y ∷ xs) (suc i) x e = let more = slice_get_or xs i x e in (omega (arith, more.0), more.1)

-- ---- the two halves of a list, and an entry put into one of them
pub half_sizes : {X : Type 0} (xs a b : List X) (n m : ℕ) → a ≡ take n xs → b ≡ drop n xs → length xs ≡ n + m
    → (length a ≡ n) × (length b ≡ m)
half_sizes xs a b n m lower upper is = (
  ap length lower ∙ length-take-le n xs (omega (arith, is)),
  ap length upper ∙ length-drop n xs ∙ omega (arith, is),
)

pub put_lower : {X : Type 0} (xs a b c : List X) (n o : ℕ) (x : X) → a ≡ take n xs → b ≡ drop n xs → o ≤ length a
    → c ≡ insert a o x → c ++ b ≡ insert xs o x
put_lower xs a b c n o x lower upper within is =
    ap (λ l. l ++ b) is ∙ sym (insert-append_left a b o x within)
    ∙ ap (λ l. insert l o x) (ap (λ l. l ++ b) lower ∙ ap (λ l. take n xs ++ l) upper ∙ take-append-drop n xs)

pub put_upper : {X : Type 0} (xs a b c : List X) (n o : ℕ) (x : X) → a ≡ take n xs → b ≡ drop n xs → length a ≡ n
    → n ≤ o
    → c ≡ insert b (o - n) x → a ++ c ≡ insert xs o x
put_upper xs a b c n o x lower upper size past is =
    ap (λ l. a ++ l) is ∙ sym (insert-append_right a b n o x size past)
    ∙ ap (λ l. insert l o x) (ap (λ l. l ++ b) lower ∙ ap (λ l. take n xs ++ l) upper ∙ take-append-drop n xs)
