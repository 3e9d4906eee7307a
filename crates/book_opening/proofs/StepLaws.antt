-- Which steps the rows of a state have, and which is the first that is missing or not counted.
use Rattle.std.proofs.Common.{◌≡◌, ℕ, ◌<◌, ◌≤◌, ◌==◌, ◌&&◌, ◌||◌, nat_lt, Bool, true, false, List, [], ◌∷◌, ◌++◌}
use Rattle.std.proofs.Common.{map}
use Rattle.std.proofs.Common.{Option, Some, is_some, if◌then◌else◌, inl, inr, refl, sym, ap, ◌∙◌, subst, arith}
use Rattle.std.proofs.lemmas.Bool.Decides.{nat_tests}
use Rattle.std.specs.List.{AllByRecursion}
use Rattle.book_commodity.specs.Table.{value_of}
use Rattle.book_keeper.specs.Rows.{AllAbove, Rises, first_above, first_row, rank}
use Rattle.book_keeper.specs.declared.row.Row.{Row}
use Rattle.book_keeper.specs.declared.row.RowKey.{RowKey}
use Rattle.book_undo.specs.declared.edit.Edit.{Edit}
use Rattle.book_rows.specs.Row.{StandsFor, kind_of}
use Rattle.book_rows.specs.declared.head.Head.{Head}
use Rattle.book_rows.specs.declared.record.Record.{Record}
use Rattle.book_rows.specs.declared.record.Record.TheVariants as kept
use Rattle.book_opening.specs.BookRows.{back_records, behind_head, forth_records, records_of, row_of, rows_of}
use Rattle.book_opening.specs.BookRows.{things_of}
use Rattle.book_opening.specs.FirstOdd.{IsFirstOdd}
use Rattle.book_opening.specs.Opening.{Begins, CanBeRow, IsBad, IsLeastBad, IsNoRecord, IsOnlyRecord, OpenIn, head_key}
use Rattle.book_opening.specs.Reading.{IsFirstBad}
use Rattle.book_opening.specs.State.{State, head_of}
use Rattle.book_opening.specs.Steps.{AreCounted, IsEven, IsOdd, SomeRow, counts, counts_fit, has_step, is_step}
use Rattle.book_opening.specs.Steps.{stands_at}
use Rattle.book_opening.proofs.Ranked.{all_weak}
use Rattle.book_opening.proofs.ThingRecords.{things_kinds}
use Rattle.book_opening.proofs.UpTo.{HasHead, IsGood, bad_next, bad_step, bad_step_before, first_among, good_rows}
use Rattle.book_opening.proofs.UpTo.{not_bad, stands_up_to, up_to}
use Rattle.book_rows.specs.Format.{format_byte, format_in}
use Rattle.book_rows.specs.HeadBytes.{head_bytes}
use Rattle.book_rows.specs.declared.format.RowFormat.{RowFormat}
use Rattle.book_rows.specs.declared.format.RowFormat.TheVariants.{One, Two}
use Rattle.book_opening.specs.BookRows.{rows_format}
use Rattle.book_opening.proofs.UpTo.{stands_in}

stands_both :
    (key : RowKey) (xs ys : List Row) → stands_at key (xs ++ ys) ≡ (stands_at key xs || stands_at key ys)
stands_both key [] ys = refl
stands_both key (x ∷ xs) ys =
    ap (λ (b : Bool). ((key.kind == x.key.kind) && (key.id == x.key.id)) || b) (stands_both key xs ys)
    ∙ or_assoc ((key.kind == x.key.kind) && (key.id == x.key.id)) (stands_at key xs) (stands_at key ys)
  where
    or_assoc : (a b c : Bool) → (a || (b || c)) ≡ ((a || b) || c)
    or_assoc true b c = refl
    or_assoc false b c = refl

stands_joined :
    (m : RowFormat) (key : RowKey) (xs ys : List (ℕ × Record))
    → stands_at key (map (row_of m) (xs ++ ys)) ≡ (stands_at key (map (row_of m) xs) || stands_at key (map (row_of m) ys))
stands_joined m key xs ys = ap (stands_at key) (map_both xs ys) ∙ stands_both key (map (row_of m) xs) (map (row_of m) ys)
  where
    map_both : (xs ys : List (ℕ × Record)) → map (row_of m) (xs ++ ys) ≡ map (row_of m) xs ++ map (row_of m) ys
    map_both [] ys = refl
    map_both (x ∷ xs) ys = ap (λ (l : List Row). row_of m x ∷ l) (map_both xs ys)

-- no thing stands at the key of a step
no_thing :
    (m : RowFormat) (key : RowKey) (es : List (ℕ × Record)) → is_step key ≡ true
    → AllByRecursion (λ e. kind_of e.1 ≤ 10) es
    → stands_at key (map (row_of m) es) ≡ false
no_thing m key [] step low = refl
no_thing m key (e ∷ es) step low =
    let rest = no_thing m key es step low.1 in
    let here = low.0 in
    grind (arith, nat_tests, rest, here)

found_by :
    {T : Type 0} (s t : Bool) (x : T) (o : Option T)
    → (s && is_some (if t then Some x else o)) ≡ ((s && t) || (s && is_some o))
found_by true true x o = refl
found_by true false x o = refl
found_by false t x o = refl

back_stands :
    (m : RowFormat) (key : RowKey) (es : List (ℕ × Edit))
    → stands_at key (map (row_of m) (back_records es)) ≡ ((key.kind == 11) && is_some (value_of key.id es))
back_stands m key [] = none_found (key.kind == 11)
  where
    none_found : (s : Bool) → false ≡ (s && false)
    none_found true = refl
    none_found false = refl
back_stands m key (e ∷ es) =
    ap (λ (b : Bool). ((key.kind == 11) && (key.id == e.0)) || b) (back_stands m key es)
    ∙ sym (found_by (key.kind == 11) (key.id == e.0) e.1 (value_of key.id es))

forth_stands :
    (m : RowFormat) (key : RowKey) (es : List (ℕ × Edit))
    → stands_at key (map (row_of m) (forth_records es)) ≡ ((key.kind == 12) && is_some (value_of key.id es))
forth_stands m key [] = none_found (key.kind == 12)
  where
    none_found : (s : Bool) → false ≡ (s && false)
    none_found true = refl
    none_found false = refl
forth_stands m key (e ∷ es) =
    ap (λ (b : Bool). ((key.kind == 12) && (key.id == e.0)) || b) (forth_stands m key es)
    ∙ sym (found_by (key.kind == 12) (key.id == e.0) e.1 (value_of key.id es))

no_head : (key : RowKey) (h : Head) (rest : Bool) → is_step key ≡ true
    → (((key.kind == 1) && (key.id == 0)) || rest) ≡ rest
no_head key h rest step = grind (arith, nat_tests)

-- A row stands at the key of a step exactly where the state has the step.
pub state_stands : (m : RowFormat) (s : State) (key : RowKey) → is_step key ≡ true → stands_at key (rows_of m s) ≡ has_step s key
state_stands m s key step =
    no_head key (head_of s) (stands_at key (map (row_of m) (behind_head s))) step
    ∙ stands_joined m key (things_of s.book) (back_records s.back ++ forth_records s.forth)
    ∙ ap (λ (b : Bool). b || stands_at key (map (row_of m) (back_records s.back ++ forth_records s.forth)))
    (no_thing m key (things_of s.book) step (things_kinds s.book))
    ∙ stands_joined m key (back_records s.back) (forth_records s.forth)
    ∙ ap (λ (b : Bool). b || stands_at key (map (row_of m) (forth_records s.forth))) (back_stands m key s.back)
    ∙ ap (λ (b : Bool). ((key.kind == 11) && is_some (value_of key.id s.back)) || b) (forth_stands m key s.forth)

-- ---- the format of rows
-- The format of a body is the one in which it was written.
pub format_is : (m : RowFormat) (rest : List ℕ) → format_in (format_byte m ∷ rest) ≡ m
format_is One rest = refl
format_is Two rest = refl

-- Rows that begin with a head in a format have this format.
pub begins_format : (m : RowFormat) (rows : List Row) (head : Head) → Begins m rows head → rows_format rows ≡ m
begins_format m [] head begins = absurd cc
begins_format m (r ∷ rows) head begins =
    let same : r ≡ row_of m (0, kept.Head head) = cc in
    ap (λ (x : Row). format_in x.body) same ∙ format_is m (head_bytes head)

good_in :
    (m : RowFormat) (rows some : List Row) (head : Head) → Begins m rows head → AllByRecursion (IsGood m) some
    → AllByRecursion (IsGood (rows_format rows)) some
good_in m rows some head begins good =
    subst (λ (k : RowFormat). AllByRecursion (IsGood k) some) (sym (begins_format m rows head begins)) good

none_in :
    (m : RowFormat) (rows : List Row) (row : Row) (head : Head) → Begins m rows head → IsNoRecord m row
    → IsNoRecord (rows_format rows) row
none_in m rows row head begins none =
    subst (λ (k : RowFormat). IsNoRecord k row) (sym (begins_format m rows head begins)) none

-- ---- the head of rows
head_beyond :
    (m : RowFormat) (n : ℕ) (h : Head) (rows : List Row) → AllAbove n rows → rank head_key ≤ n
    → SomeRow (λ row. StandsFor m row.key row.body (kept.Head h)) rows → ⊥
head_beyond m n h [] above low some = some
head_beyond m n h (r ∷ rows) above low (inl stands) =
    let past = above.0 in
    let kind : 1 ≡ r.key.kind = stands.0.0 in
    let id : r.key.id ≡ 0 = stands.0.2 (sym kind) in
    omega (arith, past, low, kind, id)
head_beyond m n h (r ∷ rows) above low (inr more) = head_beyond m n h rows above.1 low more

-- a head among rows is the first of them, where that is one
head_first :
    (m : RowFormat) (h : Head) (rows : List Row) (row : Row) → Rises rows → first_row rows ≡ Some row → row.key ≡ head_key
    → SomeRow (λ row. StandsFor m row.key row.body (kept.Head h)) rows → StandsFor m row.key row.body (kept.Head h)
head_first m h [] row rise e at some = absurd some
head_first m h (r ∷ rows) row rise e at (inl stands) =
    let same : r ≡ row = cc in
    subst (λ (x : Row). StandsFor m x.key x.body (kept.Head h)) same stands
head_first m h (r ∷ rows) row rise e at (inr more) =
    let same : r ≡ row = cc in
    let low : rank head_key ≤ rank r.key =
    subst (λ (x : Row). rank head_key ≤ rank x.key) (sym same)
    (subst (λ (k : RowKey). rank head_key ≤ rank k) (sym at) (omega arith)) in
    absurd (head_beyond m (rank r.key) h rows rise.0 low more)

-- so it is the one that was read
same_head :
    (m : RowFormat) (h head : Head) (rows : List Row) → Rises rows → Begins m rows head → IsOnlyRecord m (0, kept.Head head)
    → SomeRow (λ row. StandsFor m row.key row.body (kept.Head h)) rows → h ≡ head
same_head m h head rows rise begins only some =
    let stands = head_first m h rows (row_of m (0, kept.Head head)) rise begins refl some in
    let same : kept.Head h ≡ kept.Head head = only.1 (kept.Head h) stands in
    cc

-- ---- the first step that is missing or not counted
odd_of :
    (m : RowFormat) (rows : List Row) (s : State) (key : RowKey) → Begins m rows (head_of s) → CanBeRow m (0, kept.Head (head_of s))
    → stands_at key rows ≡ has_step s key → counts_fit (head_of s) ≡ true → is_step key ≡ true
    → (has_step s key ≡ counts (head_of s) key → ⊥) → IsOdd rows key
odd_of m rows s key begins can stands fits step differs = record {
  head = head_of s;
  has = subst (λ (k : RowFormat). SomeRow (λ row. StandsFor k row.key row.body (kept.Head (head_of s))) rows)
      (sym (begins_format m rows (head_of s) begins))
      (first_among (λ row. StandsFor m row.key row.body (kept.Head (head_of s))) rows
      (row_of m (0, kept.Head (head_of s))) begins (stands_in m (0, kept.Head (head_of s)) can));
  fits = fits;
  step = step;
  differs = λ same. differs (sym stands ∙ same);
}

even_not :
    (m : RowFormat) (rows : List Row) (s : State) (key : RowKey) → Rises rows → Begins m rows (head_of s)
    → IsOnlyRecord m (0, kept.Head (head_of s)) → stands_at key rows ≡ has_step s key
    → (counts_fit (head_of s) ≡ true → IsEven s key) → IsOdd rows key → ⊥
even_not m rows s key rise begins only stands even odd =
    let same : odd.head ≡ head_of s = same_head m odd.head (head_of s) rows rise begins only
    (subst (λ (k : RowFormat). SomeRow (λ row. StandsFor k row.key row.body (kept.Head odd.head)) rows)
    (begins_format m rows (head_of s) begins) odd.has) in
    let fits : counts_fit (head_of s) ≡ true = subst (λ (h : Head). counts_fit h ≡ true) same odd.fits in
    odd.differs (stands ∙ even fits odd.step ∙ ap (λ (h : Head). counts h key) (sym same))

low_by : (n m : ℕ) (t : Bool) → nat_lt m n ≡ t → (m < n → ⊥) → n ≤ m
low_by n m true e not = absurd (not (grind (arith, nat_tests)))
low_by n m false e not = grind (arith, nat_tests)

low_or : (n m : ℕ) → (m < n → ⊥) → n ≤ m
low_or n m not = low_by n m (nat_lt m n) refl not

has_head : (m : RowFormat) (rows : List Row) (head : Head) → Begins m rows head → HasHead rows
has_head m rows head begins = (row_of m (0, kept.Head head), begins, refl)

good_state : (m : RowFormat) (rows : List Row) (s : State) → rows ≡ rows_of m s → AllByRecursion (IsOnlyRecord m) (records_of s)
    → AllByRecursion (IsGood m) rows
good_state m rows s are only = subst (AllByRecursion (IsGood m)) (sym are) (good_rows m (records_of s) only)

-- Where all rows were read, the first such step is the least bad key.
pub whole_bad :
    (m : RowFormat) (rows : List Row) (s : State) (key : RowKey) → Rises rows → Begins m rows (head_of s) → rows ≡ rows_of m s
    → AllByRecursion (IsOnlyRecord m) (records_of s) → IsFirstOdd s (Some key) → IsLeastBad rows key
whole_bad m rows s key rise begins are only first =
    let stands : (k : RowKey) → is_step k ≡ true → stands_at k rows ≡ has_step s k =
    (λ k step. ap (stands_at k) are ∙ state_stands m s k step) in
    bad_step rows key (good_in m rows rows (head_of s) begins (good_state m rows s are only))
    (has_head m rows (head_of s) begins)
    (odd_of m rows s key begins only.0.0 (stands key first.1) first.0 first.1 first.2)
    (λ other odd. low_or (rank key) (rank other)
    (λ less. even_not m rows s other rise begins only.0 (stands other odd.step) (λ fits. first.3 other less) odd))

-- Where the next row is bad, the first bad key is such a step below it, or its own.
pub part_bad :
    (m : RowFormat) (rows : List Row) (n : ℕ) (row : Row) (s : State) (first : RowKey) → Rises rows → first_above n rows ≡ Some row
    → up_to n rows ≡ rows_of m s → AllByRecursion (IsOnlyRecord m) (records_of s) → Begins m rows (head_of s)
    → IsNoRecord m row → IsFirstBad s row.key first → IsLeastBad rows first
part_bad m rows n row s first rise next so_far only begins none (inl own) =
    let stands : (k : RowKey) → rank k < rank row.key → is_step k ≡ true → stands_at k rows ≡ has_step s k =
    (λ k low step. stands_up_to n k rows row rise next low ∙ ap (stands_at k) so_far ∙ state_stands m s k step) in
    subst (IsLeastBad rows) (sym own.0)
    (bad_next n rows row rise next (good_in m rows (up_to n rows) (head_of s) begins
    (good_state m (up_to n rows) s so_far only)) (has_head m rows (head_of s) begins)
    (none_in m rows row (head_of s) begins none)
    (λ other odd. low_or (rank row.key) (rank other)
    (λ less. even_not m rows s other rise begins only.0 (stands other less odd.step)
    (λ fits. own.1 fits other less) odd)))
part_bad m rows n row s first rise next so_far only begins none (inr step) =
    let stands : (k : RowKey) → rank k < rank row.key → is_step k ≡ true → stands_at k rows ≡ has_step s k =
    (λ k low is. stands_up_to n k rows row rise next low ∙ ap (stands_at k) so_far ∙ state_stands m s k is) in
    let low = step.0 in
    bad_step_before n rows row first rise next (good_in m rows (up_to n rows) (head_of s) begins
    (good_state m (up_to n rows) s so_far only))
    (has_head m rows (head_of s) begins) low
    (odd_of m rows s first begins only.0.0 (stands first low step.1.1) step.1.0 step.1.1 step.1.2)
    (λ other odd. low_or (rank first) (rank other)
    (λ less. even_not m rows s other rise begins only.0 (stands other (omega (arith, less, low)) odd.step)
    (λ fits. step.1.3 other less) odd))

-- Where all rows were read, and their steps are counted, they open as the state.
pub whole_opens :
    (m : RowFormat) (rows : List Row) (s : State) → rows ≡ rows_of m s → AllByRecursion (IsOnlyRecord m) (records_of s) → AreCounted s
    → OpenIn m rows s
whole_opens m rows s are only counted = record {
  are = are;
  spelled = all_weak (IsOnlyRecord m) (CanBeRow m) (λ e h. h.0) (records_of s) only;
  counted = counted;
}

good_can : (m : RowFormat) (es : List (ℕ × Record)) → AllByRecursion (CanBeRow m) es → AllByRecursion (IsGood m) (map (row_of m) es)
good_can m [] h = tt
good_can m (e ∷ es) h = ((e.1, stands_in m e h.0), good_can m es h.1)

begins_state : (m : RowFormat) (rows : List Row) (s : State) → rows ≡ rows_of m s → Begins m rows (head_of s)
begins_state m rows s are = ap first_row are

-- Rows that open as a state are bad nowhere, where their head stands for nothing else.
pub opens_not_bad :
    (m : RowFormat) (rows : List Row) (s : State) (head : Head) (key : RowKey) → Rises rows → Begins m rows head
    → IsOnlyRecord m (0, kept.Head head) → OpenIn m rows s → IsBad rows key → ⊥
opens_not_bad m rows s head key rise begins only opens bad =
    let mine : Begins m rows (head_of s) = begins_state m rows s opens.are in
    let row : ◌≡◌ {A = Row} (row_of m (0, kept.Head (head_of s))) (row_of m (0, kept.Head head)) = cc in
    let same : kept.Head (head_of s) ≡ kept.Head head =
    only.1 (kept.Head (head_of s)) (subst (λ (r : Row). StandsFor m r.key r.body (kept.Head (head_of s))) row
    (stands_in m (0, kept.Head (head_of s)) opens.spelled.0)) in
    let heads : head ≡ head_of s = cc in
    let only_mine : IsOnlyRecord m (0, kept.Head (head_of s)) =
    subst (λ (h : Head). IsOnlyRecord m (0, kept.Head h)) heads only in
    not_bad rows key (good_in m rows rows (head_of s) mine
    (subst (AllByRecursion (IsGood m)) (sym opens.are) (good_can m (records_of s) opens.spelled)))
    (has_head m rows (head_of s) mine)
    (λ odd. even_not m rows s key rise mine only_mine (ap (stands_at key) opens.are ∙ state_stands m s key odd.step)
    (λ fits. opens.counted fits key) odd) bad
