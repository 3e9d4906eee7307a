-- The rows of a state: their keys rise, each stands once, and where there were no rows, putting all of them gives them.
use Rattle.std.proofs.Common.{◌≡◌, ℕ, ◌+◌, ◌*◌, ◌^◌, ◌<◌, List, [], ◌∷◌, ◌++◌, map, refl, sym, ap}
use Rattle.std.proofs.Common.{◌∙◌, subst, append_assoc, append-nil, arith}
use Rattle.std.proofs.lemmas.Bool.Decides.{nat_tests}
use Rattle.std.specs.List.{AllByRecursion}
use Rattle.book_keeper.specs.declared.row.Row.{Row}
use Rattle.book_keeper.specs.declared.row.Change.TheVariants as change
use Rattle.book_keeper.specs.Rows.{AllAbove, AreRising, AreRisingFrom, Rises, after_changes, rank, with_row}
use Rattle.book_rows.specs.declared.record.Record.{Record}
use Rattle.book_opening.specs.BookRows.{behind_head, records_of, row_of, rows_of}
use Rattle.book_opening.specs.Changes.{all_put}
use Rattle.book_opening.specs.Opening.{CanBeRow, OpenIn}
use Rattle.book_rows.specs.declared.format.RowFormat.{RowFormat}
use Rattle.book_opening.specs.State.{State}
use Rattle.book_opening.specs.Steps.{AreCounted}
use Rattle.book_opening.proofs.FormatLaws.{can_in_two}
use Rattle.book_opening.proofs.Ranked.{RisesBy}
use Rattle.book_opening.proofs.StateRecords.{TablesRise, records_behind, records_rise}
use Rattle.book_opening.proofs.ThingRecords.{IsSmall, rank_of}
use Rattle.book_opening.proofs.ChangeLaws.{small_numbers}
use Rattle.book_rows.specs.declared.format.RowFormat.TheVariants.{Two}

above_mapped :
    (n : ℕ) (es : List (ℕ × Record)) → AllByRecursion (λ e. n < rank_of e) es → AllAbove n (map (row_of Two) es)
above_mapped n [] h = tt
above_mapped n (e ∷ es) h = (h.0, above_mapped n es h.1)

rises_mapped : (es : List (ℕ × Record)) → RisesBy rank_of es → Rises (map (row_of Two) es)
rises_mapped [] h = tt
rises_mapped (e ∷ es) h = (above_mapped (rank_of e) es h.0, rises_mapped es h.1)

-- The keys of a state's rows rise, so that each stands once.
pub rows_rise : (s : State) → TablesRise s → AllByRecursion IsSmall (behind_head s) → Rises (rows_of Two s)
rows_rise s rise small = (
  above_mapped (1 * 2 ^ 64 + 0) (behind_head s) (records_behind s small),
  rises_mapped (behind_head s) (records_rise s rise small),
)

front_below :
    (front rest : List Row) (row : Row) → Rises (front ++ row ∷ rest) → with_row row front ≡ front ++ row ∷ []
front_below [] rest row rise = refl
front_below (r ∷ front) rest row rise =
    let below : rank r.key < rank row.key = above_in (rank r.key) front rest row rise.0 in
    let more = front_below front rest row rise.1 in
    grind (arith, nat_tests, below, more)
  where
    above_in : (n : ℕ) (front rest : List Row) (row : Row) → AllAbove n (front ++ row ∷ rest) → n < rank row.key
    above_in n [] rest row a = a.0
    above_in n (r ∷ front) rest row a = above_in n front rest row a.1

put_behind :
    (front rest : List Row) → Rises (front ++ rest)
    → after_changes (map (λ row. change.Put row) rest) front ≡ front ++ rest
put_behind front [] rise = sym (append-nil front)
put_behind front (row ∷ rest) rise =
    let joined : (front ++ row ∷ []) ++ rest ≡ front ++ row ∷ rest = append_assoc front (row ∷ []) rest in
    ap (after_changes (map (λ row. change.Put row) rest)) (front_below front rest row rise)
    ∙ put_behind (front ++ row ∷ []) rest (subst Rises (sym joined) rise)
    ∙ joined

-- Where there were no rows, they open as a state once all its rows are put, where its steps are those that its head
-- counts.
pub opens_from_none :
    (s : State) → TablesRise s → AllByRecursion (CanBeRow Two) (records_of s) → AreCounted s
    → OpenIn Two (after_changes (all_put s) []) s
opens_from_none s rise can counted = record {
  are = put_behind [] (rows_of Two s) (rows_rise s rise (small_numbers (behind_head s) can.1));
  spelled = can;
  counted = counted;
}

front_above :
    (front rest : List Row) (row : Row) → Rises (front ++ row ∷ rest) → AllByRecursion (λ r. rank r.key < rank row.key) front
front_above [] rest row rise = tt
front_above (r ∷ front) rest row rise =
    (above_in (rank r.key) front rest row rise.0, front_above front rest row rise.1)
  where
    above_in : (n : ℕ) (front rest : List Row) (row : Row) → AllAbove n (front ++ row ∷ rest) → n < rank row.key
    above_in n [] rest row a = a.0
    above_in n (r ∷ front) rest row a = above_in n front rest row a.1

replaced :
    (front rest : List Row) (old new : Row) → rank new.key ≡ rank old.key
    → AllByRecursion (λ r. rank r.key < rank new.key) front → with_row new (front ++ old ∷ rest) ≡ front ++ new ∷ rest
replaced [] rest old new same below = grind (arith, nat_tests, same)
replaced (r ∷ front) rest old new same below =
    let more = replaced front rest old new same below.1 in
    let first = below.0 in
    grind (arith, nat_tests, first, more)

put_over :
    (format : RowFormat) (front : List Row) (es : List (ℕ × Record)) → Rises (front ++ map (row_of Two) es)
    → after_changes (map (λ row. change.Put row) (map (row_of Two) es)) (front ++ map (row_of format) es)
    ≡ front ++ map (row_of Two) es
put_over format front [] rise = refl
put_over format front (e ∷ es) rise =
    let new = row_of Two e in
    let joined : (rest : List Row) → (front ++ new ∷ []) ++ rest ≡ front ++ new ∷ rest =
    (λ rest. append_assoc front (new ∷ []) rest) in
    let changes = map (λ (row : Row). change.Put row) (map (row_of Two) es) in
    ap (after_changes changes)
    (replaced front (map (row_of format) es) (row_of format e) new refl
    (front_above front (map (row_of Two) es) new rise) ∙ sym (joined (map (row_of format) es)))
    ∙ put_over format (front ++ new ∷ []) es (subst Rises (sym (joined (map (row_of Two) es))) rise)
    ∙ joined (map (row_of Two) es)

-- Rows of a format that open as a state open as it in format 2, once all its rows are put.
pub opens_anew :
    (format : RowFormat) (rows : List Row) (s : State) → TablesRise s → OpenIn format rows s
    → OpenIn Two (after_changes (all_put s) rows) s
opens_anew format rows s rise opens = record {
  are = ap (after_changes (all_put s)) opens.are
      ∙ put_over format [] (records_of s) (rows_rise s rise (small_numbers (behind_head s)
      (can_in_two format (records_of s) opens.spelled).1));
  spelled = can_in_two format (records_of s) opens.spelled;
  counted = opens.counted;
}

put_rise :
    (n : ℕ) (es : List (ℕ × Record)) → Rises (map (row_of Two) es) → AllByRecursion (λ e. n < rank_of e + 1) es
    → AllByRecursion IsSmall es → AreRisingFrom n (map (λ row. change.Put row) (map (row_of Two) es))
put_rise n [] rise above small = tt
put_rise n (e ∷ es) rise above small =
    (above.0, small.0, put_rise (rank_of e + 1) es rise.1 (past (rank_of e) es rise.0) small.1)
  where
    past : (m : ℕ) (es : List (ℕ × Record)) → AllAbove m (map (row_of Two) es)
        → AllByRecursion (λ e. m + 1 < rank_of e + 1) es
    past m [] a = tt
    past m (e ∷ es) a = ((let first = a.0 in omega (arith, first)), past m es a.1)

all_positive : (es : List (ℕ × Record)) → AllByRecursion (λ e. 0 < rank_of e + 1) es
all_positive [] = tt
all_positive (e ∷ es) = (omega arith, all_positive es)

-- And the keys of these changes rise, as a commit wants it.
pub all_put_rise :
    (s : State) → TablesRise s → AllByRecursion (CanBeRow Two) (records_of s) → AreRising (all_put s)
all_put_rise s rise can =
    put_rise 0 (records_of s) (rows_rise s rise (small_numbers (behind_head s) can.1)) (all_positive (records_of s))
    (small_numbers (records_of s) can)
