-- Rows that are read one after another: those up to a rank, the next one, and whether one is bad.
use Rattle.std.proofs.Common.{◌≡◌, ℕ, ◌<◌, ◌≤◌, ◌==◌, ◌&&◌, ◌||◌, nat_lt, Bool, true, false, if◌then◌else◌, List, []}
use Rattle.std.proofs.Common.{◌∷◌, map, Option, Some, None, IfSome, inl, inr, ◌⊎◌, refl, sym, ap, ◌∙◌, subst, arith}
use Rattle.std.proofs.lemmas.Bool.Decides.{nat_tests}
use Rattle.std.specs.List.{AllByRecursion}
use Rattle.book_keeper.specs.declared.row.RowKey.{RowKey}
use Rattle.book_keeper.specs.declared.row.Row.{Row}
use Rattle.book_keeper.specs.Rows.{AllAbove, Rises, rank, with_row, first_above, first_row}
use Rattle.book_keeper.proofs.RowLemmas.{first_is_above}
use Rattle.book_rows.specs.Row.{StandsFor}
use Rattle.book_rows.specs.declared.record.Record.{Record}
use Rattle.book_opening.specs.BookRows.{row_of, rows_format}
use Rattle.book_rows.specs.declared.format.RowFormat.{RowFormat}
use Rattle.book_opening.specs.Opening.{CanBeRow, IsBad, IsLeastBad, IsNoRecord, IsOnlyRecord, LacksHead, head_key}
use Rattle.book_opening.specs.Steps.{IsOdd, SomeRow, is_step, stands_at}

-- The rows whose keys are at most at a rank.
abbrev pub up_to : ℕ → List Row → List Row
up_to n [] = []
up_to n (row ∷ rows) = if nat_lt n (rank row.key) then [] else row ∷ up_to n rows

up_to_none : (n : ℕ) (rows : List Row) → AllAbove n rows → up_to n rows ≡ []
up_to_none n [] a = refl
up_to_none n (r ∷ rows) a = grind (arith, nat_tests, a.0)

-- the first row alone
pub up_to_first :
    (rows : List Row) (row : Row) → Rises rows → first_row rows ≡ Some row → up_to (rank row.key) rows ≡ row ∷ []
up_to_first [] row rise e = absurd cc
up_to_first (r ∷ rows) row rise e =
    let same : r ≡ row = cc in
    let none = up_to_none (rank r.key) rows rise.0 in
    subst (λ (x : Row). up_to (rank x.key) (r ∷ rows) ≡ x ∷ []) same (grind (arith, nat_tests, none))

next_by :
    (n : ℕ) (r : Row) (rows : List Row) (row : Row) (t : Bool) → nat_lt n (rank r.key) ≡ t → Rises (r ∷ rows)
    → (if t then Some r else first_above n rows) ≡ Some row
    → (first_above n rows ≡ Some row → up_to (rank row.key) rows ≡ with_row row (up_to n rows))
    → up_to (rank row.key) (r ∷ rows) ≡ with_row row (if t then [] else r ∷ up_to n rows)
next_by n r rows row true test rise e more =
    up_to_first (r ∷ rows) row rise e
next_by n r rows row false test rise e more =
    let above : n < rank row.key =
    subst (λ (o : Option Row). IfSome o (λ (x : Row). n < rank x.key)) e (first_is_above n rows) in
    let below : rank r.key < rank row.key = grind (arith, nat_tests) in
    let rest = more e in
    grind (arith, nat_tests, below, rest)

-- with the next row
pub up_to_next :
    (n : ℕ) (rows : List Row) (row : Row) → Rises rows → first_above n rows ≡ Some row
    → up_to (rank row.key) rows ≡ with_row row (up_to n rows)
up_to_next n [] row rise e = absurd cc
up_to_next n (r ∷ rows) row rise e =
    next_by n r rows row (nat_lt n (rank r.key)) refl rise e (λ f. up_to_next n rows row rise.1 f)

end_by :
    (n : ℕ) (r : Row) (rows : List Row) (t : Bool) → (if t then Some r else first_above n rows) ≡ None
    → (first_above n rows ≡ None → up_to n rows ≡ rows) → (if t then [] else r ∷ up_to n rows) ≡ r ∷ rows
end_by n r rows true e more = absurd cc
end_by n r rows false e more = ap (λ l. r ∷ l) (more e)

-- where there is no next row, these are all
pub up_to_end : (n : ℕ) (rows : List Row) → first_above n rows ≡ None → up_to n rows ≡ rows
up_to_end n [] e = refl
up_to_end n (r ∷ rows) e = end_by n r rows (nat_lt n (rank r.key)) e (up_to_end n rows)

-- ---- steps that stand at keys
both_false : (s t : Bool) → s ≡ false → t ≡ false → (s || t) ≡ false
both_false false t e f = f
both_false true t e f = absurd cc

-- keys of different ranks are different
other_key :
    (key other : RowKey) → rank key < rank other → ((key.kind == other.kind) && (key.id == other.id)) ≡ false
other_key key other lt = grind (arith, nat_tests)

none_beyond :
    (n : ℕ) (key : RowKey) (rows : List Row) → AllAbove n rows → rank key ≤ n → stands_at key rows ≡ false
none_beyond n key [] above low = refl
none_beyond n key (r ∷ rows) above low =
    let past = above.0 in
    both_false ((key.kind == r.key.kind) && (key.id == r.key.id)) (stands_at key rows)
    (other_key key r.key (omega (arith, past, low))) (none_beyond n key rows above.1 low)

stands_by :
    (n : ℕ) (key : RowKey) (r : Row) (rows : List Row) (row : Row) (t : Bool) → Rises (r ∷ rows)
    → (if t then Some r else first_above n rows) ≡ Some row → rank key < rank row.key
    → (first_above n rows ≡ Some row → stands_at key rows ≡ stands_at key (up_to n rows))
    → stands_at key (r ∷ rows) ≡ stands_at key (if t then [] else r ∷ up_to n rows)
stands_by n key r rows row true rise e low more =
    let same : r ≡ row = cc in
    let below : rank key < rank r.key = subst (λ (x : Row). rank key < rank x.key) (sym same) low in
    both_false ((key.kind == r.key.kind) && (key.id == r.key.id)) (stands_at key rows) (other_key key r.key below)
    (none_beyond (rank r.key) key rows rise.0 (omega (arith, below)))
stands_by n key r rows row false rise e low more =
    ap (λ (b : Bool). ((key.kind == r.key.kind) && (key.id == r.key.id)) || b) (more e)

-- Whether a row stands at a key below the next row is seen of the rows before that.
pub stands_up_to :
    (n : ℕ) (key : RowKey) (rows : List Row) (row : Row) → Rises rows → first_above n rows ≡ Some row
    → rank key < rank row.key → stands_at key rows ≡ stands_at key (up_to n rows)
stands_up_to n key [] row rise e low = refl
stands_up_to n key (r ∷ rows) row rise e low =
    stands_by n key r rows row (nat_lt n (rank r.key)) rise e low
    (λ f. stands_up_to n key rows row rise.1 f low)

-- ---- bad rows
-- A row that can be opened in a format.
abbrev pub IsGood : RowFormat → Row → Type 0
IsGood m row = (it : Record) × StandsFor m row.key row.body it

-- That the row of a key can't be opened in a format.
abbrev pub IsBadAt : RowFormat → RowKey → Row → Type 0
IsBadAt m key row = (row.key ≡ key) × IsNoRecord m row

bad_above :
    (m : RowFormat) (n : ℕ) (key : RowKey) (rows : List Row) → AllAbove n rows → SomeRow (IsBadAt m key) rows → n < rank key
bad_above m n key [] a some = absurd some
bad_above m n key (r ∷ rows) a (inl h) = subst (λ (k : RowKey). n < rank k) h.0 a.0
bad_above m n key (r ∷ rows) a (inr h) = bad_above m n key rows a.1 h

least_by :
    (m : RowFormat) (n : ℕ) (r : Row) (rows : List Row) (row : Row) (t : Bool) (key : RowKey) → Rises (r ∷ rows)
    → (if t then Some r else first_above n rows) ≡ Some row → AllByRecursion (IsGood m) (if t then [] else r ∷ up_to n rows)
    → (first_above n rows ≡ Some row → AllByRecursion (IsGood m) (up_to n rows) → SomeRow (IsBadAt m key) rows
    → rank row.key ≤ rank key) → SomeRow (IsBadAt m key) (r ∷ rows) → rank row.key ≤ rank key
least_by m n r rows row true key rise e good more (inl h) =
    let same : r ≡ row = cc in
    subst (λ (x : Row). rank x.key ≤ rank key) same (subst (λ (k : RowKey). rank r.key ≤ rank k) h.0 (omega arith))
least_by m n r rows row true key rise e good more (inr h) =
    let same : r ≡ row = cc in
    let above = bad_above m (rank r.key) key rows rise.0 h in
    subst (λ (x : Row). rank x.key ≤ rank key) same (omega (arith, above))
least_by m n r rows row false key rise e good more (inl h) = absurd (h.1 good.0.0 good.0.1)
least_by m n r rows row false key rise e good more (inr h) = more e good.1 h

-- where the rows up to a rank are good, the first bad row is the next one or behind it
pub least_next :
    (m : RowFormat) (n : ℕ) (rows : List Row) (row : Row) (key : RowKey) → Rises rows → first_above n rows ≡ Some row
    → AllByRecursion (IsGood m) (up_to n rows) → SomeRow (IsBadAt m key) rows → rank row.key ≤ rank key
least_next m n [] row key rise e good some = absurd some
least_next m n (r ∷ rows) row key rise e good some =
    least_by m n r rows row (nat_lt n (rank r.key)) key rise e good
    (λ f g h. least_next m n rows row key rise.1 f g h) some

among_by :
    (P : Row → Type 0) (n : ℕ) (r : Row) (rows : List Row) (row : Row) (t : Bool)
    → (if t then Some r else first_above n rows) ≡ Some row → P row
    → (first_above n rows ≡ Some row → SomeRow P rows) → P r ⊎ SomeRow P rows
among_by P n r rows row true e here more = let same : row ≡ r = cc in inl (subst P same here)
among_by P n r rows row false e here more = inr (more e)

-- the next row is one of the rows
pub next_among :
    (P : Row → Type 0) (n : ℕ) (rows : List Row) (row : Row) → first_above n rows ≡ Some row → P row → SomeRow P rows
next_among P n [] row e here = absurd cc
next_among P n (r ∷ rows) row e here =
    among_by P n r rows row (nat_lt n (rank r.key)) e here (λ f. next_among P n rows row f here)

pub first_among :
    (P : Row → Type 0) (rows : List Row) (row : Row) → first_row rows ≡ Some row → P row → SomeRow P rows
first_among P [] row e here = absurd cc
first_among P (r ∷ rows) row e here = let same : row ≡ r = cc in inl (subst P same here)

-- The rows have their head.
abbrev pub HasHead : List Row → Type 0
HasHead rows = (head : Row) × (first_row rows ≡ Some head) × (head.key ≡ head_key)

no_lack : (rows : List Row) → HasHead rows → LacksHead rows → ⊥
no_lack rows has lacks = lacks.1 (first_among (λ r. r.key ≡ head_key) rows has.0 has.1 has.2)

-- The next row is the least bad one, where the rows before it are good and begin with a head, and no step below it is
-- missing or not counted.
pub bad_next :
    (n : ℕ) (rows : List Row) (row : Row) → Rises rows → first_above n rows ≡ Some row
    → AllByRecursion (IsGood (rows_format rows)) (up_to n rows) → HasHead rows → IsNoRecord (rows_format rows) row
    → ((other : RowKey) → IsOdd rows other → rank row.key ≤ rank other) → IsLeastBad rows row.key
bad_next n rows row rise e good has none odd = record {
  bad = inl (next_among (IsBadAt (rows_format rows) row.key) n rows row e (refl, none));
  least = λ other bad. elim bad as (λ _. rank row.key ≤ rank other) [
    | inl some ↦ least_next (rows_format rows) n rows row other rise e good some
    | inr more ↦ elim more as (λ _. rank row.key ≤ rank other) [
      | inl lacks ↦ absurd (no_lack rows has lacks.1)
      | inr step ↦ odd other step
    ]
  ];
}

-- A step that is missing or not counted is the least bad key, where it is below the next row, and none is below it.
pub bad_step_before :
    (n : ℕ) (rows : List Row) (row : Row) (key : RowKey) → Rises rows → first_above n rows ≡ Some row
    → AllByRecursion (IsGood (rows_format rows)) (up_to n rows) → HasHead rows → rank key < rank row.key → IsOdd rows key
    → ((other : RowKey) → IsOdd rows other → rank key ≤ rank other) → IsLeastBad rows key
bad_step_before n rows row key rise e good has low here odd = record {
  bad = inr (inr here);
  least = λ other bad. elim bad as (λ _. rank key ≤ rank other) [
    | inl some ↦ (let past = least_next (rows_format rows) n rows row other rise e good some in omega (arith, past, low))
    | inr more ↦ elim more as (λ _. rank key ≤ rank other) [
      | inl lacks ↦ absurd (no_lack rows has lacks.1)
      | inr step ↦ odd other step
    ]
  ];
}

none_bad : (m : RowFormat) (key : RowKey) (rows : List Row) → AllByRecursion (IsGood m) rows → SomeRow (IsBadAt m key) rows → ⊥
none_bad m key [] good some = some
none_bad m key (r ∷ rows) good (inl h) = h.1 good.0.0 good.0.1
none_bad m key (r ∷ rows) good (inr h) = none_bad m key rows good.1 h

-- And it is where all rows are good.
pub bad_step :
    (rows : List Row) (key : RowKey) → AllByRecursion (IsGood (rows_format rows)) rows → HasHead rows → IsOdd rows key
    → ((other : RowKey) → IsOdd rows other → rank key ≤ rank other) → IsLeastBad rows key
bad_step rows key good has here odd = record {
  bad = inr (inr here);
  least = λ other bad. elim bad as (λ _. rank key ≤ rank other) [
    | inl some ↦ absurd (none_bad (rows_format rows) other rows good some)
    | inr more ↦ elim more as (λ _. rank key ≤ rank other) [
      | inl lacks ↦ absurd (no_lack rows has lacks.1)
      | inr step ↦ odd other step
    ]
  ];
}

-- Good rows with a head and without such a step are not bad.
pub not_bad :
    (rows : List Row) (key : RowKey) → AllByRecursion (IsGood (rows_format rows)) rows → HasHead rows → (IsOdd rows key → ⊥)
    → IsBad rows key → ⊥
not_bad rows key good has even (inl some) = none_bad (rows_format rows) key rows good some
not_bad rows key good has even (inr (inl lacks)) = no_lack rows has lacks.1
not_bad rows key good has even (inr (inr odd)) = even odd

keys_above : (n : ℕ) (key : RowKey) (rows : List Row) → AllAbove n rows → SomeRow (λ r. r.key ≡ key) rows → n < rank key
keys_above n key [] a some = absurd some
keys_above n key (r ∷ rows) a (inl h) = subst (λ (k : RowKey). n < rank k) h a.0
keys_above n key (r ∷ rows) a (inr h) = keys_above n key rows a.1 h

first_least :
    (m : RowFormat) (rows : List Row) (row : Row) (key : RowKey) → Rises rows → first_row rows ≡ Some row
    → SomeRow (IsBadAt m key) rows → rank row.key ≤ rank key
first_least m [] row key rise e some = absurd some
first_least m (r ∷ rows) row key rise e (inl h) =
    let same : r ≡ row = cc in
    subst (λ (x : Row). rank x.key ≤ rank key) same (subst (λ (k : RowKey). rank r.key ≤ rank k) h.0 (omega arith))
first_least m (r ∷ rows) row key rise e (inr h) =
    let same : r ≡ row = cc in
    let above = bad_above m (rank r.key) key rows rise.0 h in
    subst (λ (x : Row). rank x.key ≤ rank key) same (omega (arith, above))

step_behind : (key : RowKey) → is_step key ≡ true → rank head_key < rank key
step_behind key step = grind (arith, nat_tests)

-- a first row that can't be opened is the least bad one, where it is not behind the place of the head
pub bad_first :
    (rows : List Row) (row : Row) → Rises rows → first_row rows ≡ Some row → rank row.key ≤ rank head_key
    → IsNoRecord (rows_format rows) row → IsLeastBad rows row.key
bad_first rows row rise e low none = record {
  bad = inl (first_among (IsBadAt (rows_format rows) row.key) rows row e (refl, none));
  least = λ other bad. elim bad as (λ _. rank row.key ≤ rank other) [
    | inl some ↦ first_least (rows_format rows) rows row other rise e some
    | inr more ↦ elim more as (λ _. rank row.key ≤ rank other) [
      | inl lacks ↦ subst (λ (k : RowKey). rank row.key ≤ rank k) (sym lacks.0) low
      | inr odd ↦ (let past = step_behind other odd.step in omega (arith, low, past))
    ]
  ];
}

lacks_head :
    (rows : List Row) (row : Row) → Rises rows → first_row rows ≡ Some row → rank head_key < rank row.key
    → LacksHead rows
lacks_head [] row rise e past = absurd cc
lacks_head (r ∷ rows) row rise e past =
    let same : row ≡ r = cc in
    let above : rank head_key < rank r.key = subst (λ (x : Row). rank head_key < rank x.key) same past in (
      (λ none. absurd cc),
      (λ some. elim some as (λ _. ⊥) [
        | inl h ↦ absurd (let at : rank head_key < rank head_key =
            subst (λ (k : RowKey). rank head_key < rank k) h above in omega (arith, at))
        | inr h ↦ absurd (let at = keys_above (rank r.key) head_key rows rise.0 h in omega (arith, at, above))
      ]),
    )

-- where the first row stands behind the place of the head, the head is the least bad row
pub bad_head :
    (rows : List Row) (row : Row) → Rises rows → first_row rows ≡ Some row → rank head_key < rank row.key
    → IsLeastBad rows head_key
bad_head rows row rise e past = record {
  bad = inr (inl (refl, lacks_head rows row rise e past));
  least = λ other bad. elim bad as (λ _. rank head_key ≤ rank other) [
    | inl some ↦ (let low = first_least (rows_format rows) rows row other rise e some in omega (arith, low, past))
    | inr more ↦ elim more as (λ _. rank head_key ≤ rank other) [
      | inl lacks ↦ subst (λ (k : RowKey). rank head_key ≤ rank k) (sym lacks.0) (omega arith)
      | inr odd ↦ (let behind = step_behind other odd.step in omega (arith, behind))
    ]
  ];
}

-- ---- the records of rows
-- A record that can be a row is what its row stands for.
pub stands_in :
    (m : RowFormat) (e : ℕ × Record) → CanBeRow m e → StandsFor m (row_of m e).key (row_of m e).body e.1
stands_in m e can = (can.0, can.1, refl)

pub good_rows :
    (m : RowFormat) (es : List (ℕ × Record)) → AllByRecursion (IsOnlyRecord m) es
    → AllByRecursion (IsGood m) (map (row_of m) es)
good_rows m [] h = tt
good_rows m (e ∷ es) h = ((e.1, stands_in m e h.0.0), good_rows m es h.1)

only_by :
    (m : RowFormat) (e f : ℕ × Record) → row_of m e ≡ row_of m f → IsOnlyRecord m e → CanBeRow m f → f ≡ e
only_by m e f same only can =
    let record_same : f.1 ≡ e.1 =
    only.1 f.1 (subst (λ (r : Row). StandsFor m r.key r.body f.1) (sym same) (stands_in m f can)) in
    let number_same : f.0 ≡ e.0 = ap (λ (r : Row). r.key.id) (sym same) in
    ap (λ (n : ℕ). (n, f.1)) number_same ∙ ap (λ (it : Record). (e.0, it)) record_same

-- rows of a format have only one list of records
pub only_records :
    (m : RowFormat) (es fs : List (ℕ × Record)) → map (row_of m) es ≡ map (row_of m) fs
    → AllByRecursion (IsOnlyRecord m) es → AllByRecursion (CanBeRow m) fs → fs ≡ es
only_records m [] [] same only can = refl
only_records m [] (f ∷ fs) same only can = absurd cc
only_records m (e ∷ es) [] same only can = absurd cc
only_records m (e ∷ es) (f ∷ fs) same only can =
    let first : row_of m e ≡ row_of m f = cc in
    let more : map (row_of m) es ≡ map (row_of m) fs = cc in
    ap (λ (x : ℕ × Record). x ∷ fs) (only_by m e f first only.0 can.0)
    ∙ ap (λ (l : List (ℕ × Record)). e ∷ l) (only_records m es fs more only.1 can.1)
