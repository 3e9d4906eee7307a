-- What a comparison of a list says at the item that a loop reads.
use Rattle.std.proofs.Common.{◌≡◌, ℕ, ◌+◌, ◌^◌, ◌<◌, ◌≤◌, ◌==◌, ◌&&◌, Bool, true, false, IsTrue, if◌then◌else◌}
use Rattle.std.proofs.Common.{List, [], ◌∷◌, length, drop, get_or, refl, ap, arith}
use Rattle.std.specs.List.{list_all}
use Rattle.book_commodity.proofs.ListLemmas.{from-item}
use Rattle.book_keeper.specs.declared.row.Row.{Row}
use Rattle.book_keeper.specs.declared.row.RowKey.{RowKey}
use Rattle.book_keeper.specs.Faults.{next_count}
use Rattle.gate_rows.specs.Comparing.{body_at, count_wrong}

-- the body under a key among the rows from a place on is that of the row there, or else is behind it
pub body_from :
    (key : RowKey) (rows : List Row) (i : ℕ) (row : Row) → i < length rows → row ≡ get_or rows i row
    → body_at key (drop i rows)
    ≡ (if (row.key.kind == key.kind) && (row.key.id == key.id) then row.body else body_at key (drop (i + 1) rows))
body_from key rows i row below is = ap (body_at key) (from-item rows i row below is)

-- the count after the items from a place on is that after those behind it, once the one there is counted
pub count_from :
    {A : Type 0} (p : A → Bool) (xs : List A) (i : ℕ) (x : A) (before : ℕ) → i < length xs → x ≡ get_or xs i x
    → count_wrong p (drop i xs) before
    ≡ count_wrong p (drop (i + 1) xs) (if p x then before else next_count before)
count_from p xs i x before below is = ap (λ l. count_wrong p l before) (from-item xs i x below is)

later_by :
    {A : Type 0} (p : A → Bool) (xs : List A) (before : ℕ) (t : Bool) → before < 2 ^ 64
    → ((n : ℕ) → n < 2 ^ 64 → n ≤ count_wrong p xs n)
    → before ≤ count_wrong p xs (if t then before else next_count before)
later_by p xs before true small more = more before small
later_by p xs before false small more =
    let next = more (next_count before) (omega (arith, small)) in omega (arith, small, next)

-- the count after a list was compared is no less than the one before
pub count_later :
    {A : Type 0} (p : A → Bool) (xs : List A) (before : ℕ) → before < 2 ^ 64 → before ≤ count_wrong p xs before
count_later p [] before small = omega arith
count_later p (x ∷ xs) before small = later_by p xs before (p x) small (λ n few. count_later p xs n few)

right_by :
    {A : Type 0} (p : A → Bool) (xs : List A) (before : ℕ) (t : Bool)
    → count_wrong p xs (if t then before else next_count before) < next_count before
    → (count_wrong p xs before < next_count before → IsTrue (list_all p xs)) → IsTrue (t && list_all p xs)
right_by p xs before true less more = more less
right_by p xs before false less more =
    let next = count_later p xs (next_count before) (omega arith) in absurd (omega (arith, less, next))

-- where none is counted, each is right
pub count_right :
    {A : Type 0} (p : A → Bool) (xs : List A) (before : ℕ) → count_wrong p xs before < next_count before
    → IsTrue (list_all p xs)
count_right p [] before less = refl
count_right p (x ∷ xs) before less = right_by p xs before (p x) less (λ few. count_right p xs before few)
