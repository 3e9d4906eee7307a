-- Rows that a keeper gives one after another: what was read, with what is left, is all.
use Rattle.std.proofs.Common.{◌≡◌, ℕ, ◌+◌, ◌<◌, ◌≤◌, nat_lt, Bool, true, false, if◌then◌else◌}
use Rattle.std.proofs.Common.{List, [], ◌∷◌, ◌++◌, Option, Some, None, append-nil, append_assoc, refl, sym, ap, ◌∙◌}
use Rattle.std.proofs.Common.{subst, arith}
use Rattle.std.proofs.lemmas.Bool.Decides.{nat_tests}
use Rattle.book_keeper.specs.declared.row.Row.{Row}
use Rattle.book_keeper.specs.declared.row.RowKey.{RowKey}
use Rattle.book_keeper.specs.Rows.{AllAbove, Rises, first_above, first_after, rank}

-- the rows from the first one on whose key is above a rank
abbrev pub rows_above : ℕ → List Row → List Row
rows_above n [] = []
rows_above n (row ∷ rows) = if nat_lt n (rank row.key) then row ∷ rows else rows_above n rows

-- the rows behind a key, or all
abbrev pub behind : Option RowKey → List Row → List Row
behind None rows = rows
behind (Some key) rows = rows_above (rank key) rows

from_all : (n : ℕ) (rows : List Row) → AllAbove n rows → rows_above n rows ≡ rows
from_all n [] above = refl
from_all n (row ∷ rows) above = grind (arith, nat_tests, above.0)

past : (row : Row) (rows : List Row) → AllAbove (rank row.key) rows → rows_above (rank row.key) (row ∷ rows) ≡ rows
past row rows above = let all = from_all (rank row.key) rows above in grind (arith, nat_tests, all)

not_below : (m n : ℕ) → n ≤ m → nat_lt m n ≡ false
not_below m n low = grind (arith, nat_tests, low)

-- the row behind a key is the first of those behind it
next_by :
    (n : ℕ) (r : Row) (rows : List Row) (row : Row) (t : Bool) → Rises (r ∷ rows)
    → (if t then Some r else first_above n rows) ≡ Some row
    → (first_above n rows ≡ Some row
    → (rank r.key < rank row.key) × (rows_above n rows ≡ row ∷ rows_above (rank row.key) rows))
    → (if t then r ∷ rows else rows_above n rows) ≡ row ∷ rows_above (rank row.key) (r ∷ rows)
next_by n r rows row true rise e more =
    let same : r ≡ row = cc in
    subst (λ (x : Row). r ∷ rows ≡ x ∷ rows_above (rank x.key) (r ∷ rows)) same
    (ap (λ (l : List Row). r ∷ l) (sym (past r rows rise.0)))
next_by n r rows row false rise e more =
    let next = more e in
    let over : nat_lt (rank row.key) (rank r.key) ≡ false =
    not_below (rank row.key) (rank r.key) (omega (arith, next.0)) in
    next.1 ∙ ap (λ (t : Bool). row ∷ (if t then r ∷ rows else rows_above (rank row.key) rows)) (sym over)

first_in_by :
    (m n : ℕ) (r : Row) (rows : List Row) (row : Row) (t : Bool) → AllAbove m (r ∷ rows)
    → (if t then Some r else first_above n rows) ≡ Some row
    → (first_above n rows ≡ Some row → m < rank row.key) → m < rank row.key
first_in_by m n r rows row true above e more =
    let same : r ≡ row = cc in subst (λ (x : Row). m < rank x.key) same above.0
first_in_by m n r rows row false above e more = more e

first_in : (m n : ℕ) (rows : List Row) (row : Row) → AllAbove m rows → first_above n rows ≡ Some row → m < rank row.key
first_in m n [] row above e = absurd cc
first_in m n (r ∷ rows) row above e =
    first_in_by m n r rows row (nat_lt n (rank r.key)) above e (first_in m n rows row above.1)

next_above :
    (n : ℕ) (rows : List Row) (row : Row) → Rises rows → first_above n rows ≡ Some row
    → rows_above n rows ≡ row ∷ rows_above (rank row.key) rows
next_above n [] row rise e = absurd cc
next_above n (r ∷ rows) row rise e =
    next_by n r rows row (nat_lt n (rank r.key)) rise e
    (λ f. (first_in (rank r.key) n rows row rise.0 f, next_above n rows row rise.1 f))

none_by :
    (n : ℕ) (r : Row) (rows : List Row) (t : Bool) → (if t then Some r else first_above n rows) ≡ None
    → (first_above n rows ≡ None → rows_above n rows ≡ []) → (if t then r ∷ rows else rows_above n rows) ≡ []
none_by n r rows true e more = absurd cc
none_by n r rows false e more = more e

none_above : (n : ℕ) (rows : List Row) → first_above n rows ≡ None → rows_above n rows ≡ []
none_above n [] e = refl
none_above n (r ∷ rows) e = none_by n r rows (nat_lt n (rank r.key)) e (none_above n rows)

next_behind :
    (key : Option RowKey) (rows : List Row) (row : Row) → Rises rows → first_after key rows ≡ Some row
    → behind key rows ≡ row ∷ behind (Some row.key) rows
next_behind None [] row rise e = absurd cc
next_behind None (r ∷ rows) row rise e =
    let same : r ≡ row = cc in
    subst (λ (x : Row). r ∷ rows ≡ x ∷ rows_above (rank x.key) (r ∷ rows)) same
    (ap (λ (l : List Row). r ∷ l) (sym (past r rows rise.0)))
next_behind (Some key) rows row rise e = next_above (rank key) rows row rise e

none_behind : (key : Option RowKey) (rows : List Row) → first_after key rows ≡ None → behind key rows ≡ []
none_behind None [] e = refl
none_behind None (r ∷ rows) e = absurd cc
none_behind (Some key) rows e = none_above (rank key) rows e

-- one row more was read
pub read_next :
    (read : List Row) (key : Option RowKey) (rows : List Row) (row : Row) → Rises rows
    → first_after key rows ≡ Some row → read ++ behind key rows ≡ rows
    → (read ++ row ∷ []) ++ behind (Some row.key) rows ≡ rows
read_next read key rows row rise e held =
    append_assoc read (row ∷ []) (behind (Some row.key) rows)
    ∙ ap (λ (l : List Row). read ++ l) (sym (next_behind key rows row rise e)) ∙ held

-- none is left
pub read_all :
    (read : List Row) (key : Option RowKey) (rows : List Row) → first_after key rows ≡ None
    → read ++ behind key rows ≡ rows → read ≡ rows
read_all read key rows e held =
    sym (append-nil read) ∙ ap (λ (l : List Row). read ++ l) (sym (none_behind key rows e)) ∙ held

-- above this rank the next key stands
abbrev pub limit_at : Option RowKey → ℕ
limit_at None = 0
limit_at (Some key) = rank key + 1
