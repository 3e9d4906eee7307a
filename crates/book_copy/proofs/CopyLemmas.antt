-- Rows that are read one after another, and what the changes make that put them.
use Rattle.std.proofs.Common.{◌≡◌, ℕ, ◌+◌, ◌^◌, ◌<◌, ◌≤◌, nat_lt, Bool, true, false, if◌then◌else◌}
use Rattle.std.proofs.Common.{List, [], ◌∷◌, ◌++◌, map, Option, Some, None, append-nil, append_assoc, refl, sym, ap, ◌∙◌, subst, arith}
use Rattle.std.proofs.lemmas.Bool.Decides.{nat_tests}
use Rattle.std.specs.Prelude.{IfSome}
use Rattle.book_keeper.specs.declared.row.Change.{Change}
use Rattle.book_keeper.specs.declared.row.Change.TheVariants.{Put}
use Rattle.book_keeper.specs.declared.row.Row.{Row}
use Rattle.book_keeper.specs.declared.row.RowKey.{RowKey}
use Rattle.book_keeper.specs.Rows.{AllAbove, AreRisingFrom, Rises, after_changes, changed_key, first_above, first_after}
use Rattle.book_keeper.specs.Rows.{rank, with_row}
use Rattle.book_copy.specs.BookNumbers.{first_past_limit}

-- ---- the rows that are left
-- the rows from the first one on whose key is above a rank
abbrev pub rows_above : ℕ → List Row → List Row
rows_above n [] = []
rows_above n (row ∷ rows) = if nat_lt n (rank row.key) then row ∷ rows else rows_above n rows

-- the rows behind a key, or all
abbrev pub behind : Option RowKey → List Row → List Row
behind None rows = rows
behind (Some key) rows = rows_above (rank key) rows

from_all : (n : ℕ) (rows : List Row) → AllAbove n rows → rows_above n rows ≡ rows
from_all n [] above = refl
from_all n (row ∷ rows) above = grind (arith, nat_tests, above.0)

past : (row : Row) (rows : List Row) → AllAbove (rank row.key) rows → rows_above (rank row.key) (row ∷ rows) ≡ rows
past row rows above = let all = from_all (rank row.key) rows above in grind (arith, nat_tests, all)

not_below : (m n : ℕ) → n ≤ m → nat_lt m n ≡ false
not_below m n low = grind (arith, nat_tests, low)

below : (m n : ℕ) → m < n → nat_lt m n ≡ true
below m n low = grind (arith, nat_tests, low)

-- the row behind a key is the first of those behind it
next_by :
    (n : ℕ) (r : Row) (rows : List Row) (row : Row) (t : Bool) → Rises (r ∷ rows)
    → (if t then Some r else first_above n rows) ≡ Some row
    → (first_above n rows ≡ Some row
    → (rank r.key < rank row.key) × (rows_above n rows ≡ row ∷ rows_above (rank row.key) rows))
    → (if t then r ∷ rows else rows_above n rows) ≡ row ∷ rows_above (rank row.key) (r ∷ rows)
next_by n r rows row true rise e more =
    let same : r ≡ row = cc in
    subst (λ (x : Row). r ∷ rows ≡ x ∷ rows_above (rank x.key) (r ∷ rows)) same
    (ap (λ (l : List Row). r ∷ l) (sym (past r rows rise.0)))
next_by n r rows row false rise e more =
    let next = more e in
    let over : nat_lt (rank row.key) (rank r.key) ≡ false = not_below (rank row.key) (rank r.key) (omega (arith, next.0)) in
    next.1 ∙ ap (λ (t : Bool). row ∷ (if t then r ∷ rows else rows_above (rank row.key) rows)) (sym over)

first_in_by :
    (m n : ℕ) (r : Row) (rows : List Row) (row : Row) (t : Bool) → AllAbove m (r ∷ rows)
    → (if t then Some r else first_above n rows) ≡ Some row
    → (first_above n rows ≡ Some row → m < rank row.key) → m < rank row.key
first_in_by m n r rows row true above e more =
    let same : r ≡ row = cc in subst (λ (x : Row). m < rank x.key) same above.0
first_in_by m n r rows row false above e more = more e

first_in : (m n : ℕ) (rows : List Row) (row : Row) → AllAbove m rows → first_above n rows ≡ Some row → m < rank row.key
first_in m n [] row above e = absurd cc
first_in m n (r ∷ rows) row above e = first_in_by m n r rows row (nat_lt n (rank r.key)) above e (first_in m n rows row above.1)

next_above :
    (n : ℕ) (rows : List Row) (row : Row) → Rises rows → first_above n rows ≡ Some row
    → rows_above n rows ≡ row ∷ rows_above (rank row.key) rows
next_above n [] row rise e = absurd cc
next_above n (r ∷ rows) row rise e =
    next_by n r rows row (nat_lt n (rank r.key)) rise e
    (λ f. (first_in (rank r.key) n rows row rise.0 f, next_above n rows row rise.1 f))

none_by :
    (n : ℕ) (r : Row) (rows : List Row) (t : Bool) → (if t then Some r else first_above n rows) ≡ None
    → (first_above n rows ≡ None → rows_above n rows ≡ []) → (if t then r ∷ rows else rows_above n rows) ≡ []
none_by n r rows true e more = absurd cc
none_by n r rows false e more = more e

none_above : (n : ℕ) (rows : List Row) → first_above n rows ≡ None → rows_above n rows ≡ []
none_above n [] e = refl
none_above n (r ∷ rows) e = none_by n r rows (nat_lt n (rank r.key)) e (none_above n rows)

pub next_behind :
    (key : Option RowKey) (rows : List Row) (row : Row) → Rises rows → first_after key rows ≡ Some row
    → behind key rows ≡ row ∷ behind (Some row.key) rows
next_behind None [] row rise e = absurd cc
next_behind None (r ∷ rows) row rise e =
    let same : r ≡ row = cc in
    subst (λ (x : Row). r ∷ rows ≡ x ∷ rows_above (rank x.key) (r ∷ rows)) same
    (ap (λ (l : List Row). r ∷ l) (sym (past r rows rise.0)))
next_behind (Some key) rows row rise e = next_above (rank key) rows row rise e

pub none_behind : (key : Option RowKey) (rows : List Row) → first_after key rows ≡ None → behind key rows ≡ []
none_behind None [] e = refl
none_behind None (r ∷ rows) e = absurd cc
none_behind (Some key) rows e = none_above (rank key) rows e

-- ---- what was read, with what is left, is all
pub read_next :
    (changes : List Change) (key : Option RowKey) (rows : List Row) (row : Row) → Rises rows
    → first_after key rows ≡ Some row → changes ++ map Put (behind key rows) ≡ map Put rows
    → (changes ++ Put row ∷ []) ++ map Put (behind (Some row.key) rows) ≡ map Put rows
read_next changes key rows row rise e held =
    append_assoc changes (Put row ∷ []) (map Put (behind (Some row.key) rows))
    ∙ ap (λ (l : List Row). changes ++ map Put l) (sym (next_behind key rows row rise e)) ∙ held

pub read_all :
    (changes : List Change) (key : Option RowKey) (rows : List Row) → first_after key rows ≡ None
    → changes ++ map Put (behind key rows) ≡ map Put rows → changes ≡ map Put rows
read_all changes key rows e held =
    sym (append-nil changes) ∙ ap (λ (l : List Row). changes ++ map Put l) (sym (none_behind key rows e)) ∙ held

-- ---- the first row whose number is none of a book
-- it is not the next row, where that has a number of a book
pub past_next :
    (key : Option RowKey) (rows : List Row) (row : Row) → Rises rows → first_after key rows ≡ Some row
    → row.key.id < 2 ^ 62 → first_past_limit (behind key rows) ≡ first_past_limit (behind (Some row.key) rows)
past_next key rows row rise e small =
    ap first_past_limit (next_behind key rows row rise e)
    ∙ ap (λ (t : Bool). if t then first_past_limit (behind (Some row.key) rows) else Some row.key)
    (below row.key.id (2 ^ 62) small)

-- and is it, where that has none
pub past_here :
    (key : Option RowKey) (rows : List Row) (row : Row) → Rises rows → first_after key rows ≡ Some row
    → 2 ^ 62 ≤ row.key.id → first_past_limit (behind key rows) ≡ Some row.key
past_here key rows row rise e large =
    ap first_past_limit (next_behind key rows row rise e)
    ∙ ap (λ (t : Bool). if t then first_past_limit (behind (Some row.key) rows) else Some row.key)
    (not_below row.key.id (2 ^ 62) large)

-- none is left, and so there is none
pub past_none :
    (key : Option RowKey) (rows : List Row) → first_after key rows ≡ None → first_past_limit (behind key rows) ≡ None
past_none key rows e = ap first_past_limit (none_behind key rows e)

-- a key that has a kind and an id
pub key_is : (key : RowKey) (kind id : ℕ) → key.kind ≡ kind → key.id ≡ id → key ≡ record { kind = kind; id = id }
key_is key kind id of_kind of_id =
    ap (λ (k : ℕ). let made : RowKey = record { kind = k; id = key.id } in made) of_kind
    ∙ ap (λ (i : ℕ). let made : RowKey = record { kind = kind; id = i } in made) of_id

-- ---- the changes name rising keys
-- above this rank the next key stands
abbrev pub limit_of : ℕ → List Change → ℕ
limit_of n [] = n
limit_of n (change ∷ changes) = limit_of (rank (changed_key change) + 1) changes

-- the same of the last row that was read
abbrev pub limit_at : Option RowKey → ℕ
limit_at None = 0
limit_at (Some key) = rank key + 1

-- a row that was found behind a key is past the limit
pub past_limit :
    (last : Option RowKey) (row : Row) → IfSome last (λ key. rank key < rank row.key) → limit_at last < rank row.key + 1
past_limit None row above = omega arith
past_limit (Some key) row above = omega (arith, above)

pub limit_more : (n : ℕ) (changes : List Change) (row : Row) → limit_of n (changes ++ Put row ∷ []) ≡ rank row.key + 1
limit_more n [] row = refl
limit_more n (change ∷ changes) row = limit_more (rank (changed_key change) + 1) changes row

pub rising_more :
    (n : ℕ) (changes : List Change) (row : Row) → AreRisingFrom n changes → limit_of n changes < rank row.key + 1
    → row.key.id < 2 ^ 62 → AreRisingFrom n (changes ++ Put row ∷ [])
rising_more n [] row rise above small = (above, small, tt)
rising_more n (change ∷ changes) row rise above small =
    (rise.0, rise.1, rising_more (rank (changed_key change) + 1) changes row rise.2 above small)

-- ---- what they make of no rows
above_in : (n : ℕ) (front : List Row) (row : Row) (rows : List Row) → AllAbove n (front ++ row ∷ rows) → n < rank row.key
above_in n [] row rows above = above.0
above_in n (other ∷ front) row rows above = above_in n front row rows above.1

with_end : (front : List Row) (row : Row) (rows : List Row) → Rises (front ++ row ∷ rows) → with_row row front ≡ front ++ row ∷ []
with_end [] row rows rise = refl
with_end (other ∷ front) row rows rise =
    let below = above_in (rank other.key) front row rows rise.0 in
    let more = with_end front row rows rise.1 in
    grind (arith, nat_tests, below, more)

put_behind :
    (front rows : List Row) → Rises (front ++ rows) → after_changes (map Put rows) front ≡ front ++ rows
put_behind front [] rise = sym (append-nil front)
put_behind front (row ∷ rows) rise =
    let shift = append_assoc front (row ∷ []) rows in
    ap (after_changes (map Put rows)) (with_end front row rows rise)
    ∙ put_behind (front ++ row ∷ []) rows (subst Rises (sym shift) rise) ∙ shift

pub put_all : (rows : List Row) → Rises rows → after_changes (map Put rows) [] ≡ rows
put_all rows rise = put_behind [] rows rise
