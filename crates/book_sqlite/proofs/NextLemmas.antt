-- The rows that are read behind the first are each the first behind the one before it.
use Rattle.std.specs.Bool.{⊤}
use Rattle.std.proofs.Common.{◌≡◌, ◌⊎◌, ◌^◌, ◌+◌, ℕ, ℤ, ◌<◌, pos, ◌<ℤ◌, List, [], ◌∷◌, Some, IfOk, Result, Ok, Err, inl, inr, sym, ap, subst, ◌∙◌, arith, ◌++◌, drop, slice_get, append-nil, append_assoc}
use Rattle.std.proofs.lemmas.Int.{ints}
use Rattle.sqlite_value.specs.Order.{Row as Entry, column}
use Rattle.book_commodity.proofs.ListLemmas.{drop_at}
use Rattle.book_keeper.specs.declared.row.Row.{Row}
use Rattle.book_keeper.specs.declared.row.RowKey.{RowKey}
use Rattle.book_keeper.specs.Rows.{rank, first_after}
use Rattle.book_sqlite.specs.Content.{row_made, rows_of}
use Rattle.book_sqlite.specs.KnownRows.{rises_of}
use Rattle.book_sqlite.specs.RowCalls.{Later, Behind, From, ShowsOn, Shows, ReadsOn, ReadsFrom, PassesNone}
use Rattle.book_sqlite.specs.RowCalls.{AreNext, AreNextOn, AreAbove, AreAboveOn}
use Rattle.book_sqlite.proofs.MemberLemmas.{first_is}
use Rattle.book_sqlite.proofs.EntryLemmas.{AreEntries}
use Rattle.book_sqlite.proofs.FoundLemmas.{IsRead, read_by, fits_of, above_by, rank_up, holder_of}
use Rattle.book_sqlite.proofs.PassedLemmas.{passed_by}

-- A key that is behind one that passes passes too, or is behind all that pass.
abbrev pub IsRun : (ℤ → ℤ → Type 0) → Type 0
IsRun P =
    (kind id other number more further : ℤ) → P kind id → P other number → Later kind id more further
    → P more further ⊎ (other <ℤ more)

pub run_behind : (kind id : ℤ) → IsRun (Behind kind id)
run_behind kind id one first other number more further passes also (inl greater) = inr (omega (arith, ints, passes.0, also.0, greater))
run_behind kind id one first other number more further passes also (inr same) =
    inl (same.0 ∙ passes.0, omega (arith, ints, passes.1, same.1))

pub run_from : (kind : ℤ) → IsRun (From kind)
run_from kind one first other number more further passes also (inl greater) = inl (omega (arith, ints, passes, greater))
run_from kind one first other number more further passes also (inr same) = inl (omega (arith, ints, passes, same.0))

-- a row above another is behind it, and what is behind it is behind the other
later_than : (low high : RowKey) → low.id < 2 ^ 64 → high.id < 2 ^ 64 → rank low < rank high → (kind id : ℤ)
    → Later (pos high.kind) (pos high.id) kind id → Later (pos low.kind) (pos low.id) kind id
later_than low high fits also up kind id (inl greater) = elim (above_by low high fits also up) [
  | inl less ↦ inl (omega (arith, ints, less, greater))
  | inr same ↦ inl (omega (arith, ints, same.0, greater))
]
later_than low high fits also up kind id (inr at) = elim (above_by low high fits also up) [
  | inl less ↦ inl (omega (arith, ints, less, at.0))
  | inr same ↦ inr (at.0 ∙ ap pos same.0, omega (arith, ints, same.1, at.1))
]

module _ (P : ℤ → ℤ → Type 0) (run : IsRun P) (es : List Entry) (known : AreEntries es) where
  -- the key of a row that passes
  abbrev IsAt : RowKey → Type 0
  IsAt key = (key.id < 2 ^ 64) × P (pos key.kind) (pos key.id)

  -- one that is read behind a key is the first behind it
  next_is : (Late : ℤ → ℤ → Type 0) (key : RowKey) (row : Row) → IsAt key → IsRead P Late es row → rank key < rank row.key
      → ((kind id : ℤ) → Later (pos key.kind) (pos key.id) kind id → Late kind id)
      → (Some row ≡ first_after (Some key) (rows_of es)) × PassesNone (Some key) es (Some row)
  next_is Late key row at read up late = (
    sym (first_is (rank key) (rows_of es) row (rises_of es) read.there up (λ other h behind.
        let e = holder_of es other h in
        let fits = fits_of es other h in
        let later : Later (pos key.kind) (pos key.id) (pos other.key.kind) (pos other.key.id) =
        elim (above_by key other.key at.0 fits behind) [ inl less ↦ inl (omega (arith, ints, less)) | inr same ↦ inr (ap pos same.0, omega (arith, ints, same.1)) ] in
        elim (run (pos key.kind) (pos key.id) (pos row.key.kind) (pos row.key.id) (pos other.key.kind) (pos other.key.id) at.1 read.passes later) [
          | inl passes ↦
              rank_up row.key other.key read.fits fits
              (read.least e.0 (pos other.key.kind) (pos other.key.id) e.1 e.2 passes (late (pos other.key.kind) (pos other.key.id) later))
          | inr greater ↦ rank_up row.key other.key read.fits fits (inl greater)
        ])),
    λ e kind id there has behind before.
        let later : Later (pos key.kind) (pos key.id) kind id = behind in
        elim (run (pos key.kind) (pos key.id) (pos row.key.kind) (pos row.key.id) kind id at.1 read.passes later) [
          | inl passes ↦ passed_by P Late es row read e kind id there has passes (late kind id later) before
          | inr greater ↦ elim before [ inl low ↦ omega (arith, ints, greater, low) | inr same ↦ omega (arith, ints, greater, same.0) ]
        ],
  )

  next_on : (Late : ℤ → ℤ → Type 0) (key : RowKey) (shown : List Entry) (rows : List Row) → IsAt key
      → ((kind id : ℤ) → Later (pos key.kind) (pos key.id) kind id → Late kind id) → ShowsOn P Late es shown → ReadsOn key shown rows
      → AreNext (Some key) rows es
  next_on Late key shown [] at late shows reads = tt
  next_on Late key [] (row ∷ rows) at late shows reads = absurd reads
  next_on Late key (x ∷ shown) (row ∷ rows) at late shows reads =
      let it = read_by P Late es x row known shows.0 reads.0 in
      let read = it.2 in
      let both = next_is Late key row at read reads.1 late in (
        both.0,
        both.1,
        next_on (λ other number. Late other number × Later shows.0.kind shows.0.id other number) row.key shown rows (read.fits, read.passes)
            (λ kind id later. (
              late kind id (later_than key row.key at.0 read.fits reads.1 kind id later),
              subst (λ n. Later n shows.0.id kind id) (sym it.0) (subst (λ n. Later (pos row.key.kind) n kind id) (sym it.1) later),
            ))
            shows.1 reads.2,
      )

  next_by : (shown : List Entry) (rows : List Row) → Shows P es shown → ReadsFrom shown rows → AreNextOn rows es
  next_by [] rows shows reads = subst (λ rs. AreNextOn rs es) (sym reads) tt
  next_by (x ∷ shown) rows shows reads =
      let row = reads.0 in
      let it = read_by P (λ _ _. ⊤) es x row known shows.0 reads.3 in
      let read = it.2 in
      subst (λ rs. AreNextOn rs es) (sym reads.2)
      (next_on (λ other number. ⊤ × Later shows.0.kind shows.0.id other number) row.key shown reads.1 (read.fits, read.passes)
      (λ kind id later. (tt, subst (λ n. Later n shows.0.id kind id) (sym it.0) (subst (λ n. Later (pos row.key.kind) n kind id) (sym it.1) later)))
      shows.1 reads.4)

pub next_answer :
    {A E C O : Type 0} (rows : A → List Row) (P : ℤ → ℤ → Type 0) → IsRun P → (es shown slice : List Entry) (r : Result A E) → (C → O → AreEntries es) → slice ≡ shown
    → IfOk r (λ found. ReadsFrom slice (rows found)) → (C → O → Shows P es shown) → IfOk r (λ found. C → O → AreNextOn (rows found) es)
next_answer rows P run es shown slice (Ok found) known same reads shows = λ c o.
    next_by P run es (known c o) shown (rows found) (shows c o) (subst (λ l. ReadsFrom l (rows found)) same reads)
next_answer rows P run es shown slice (Err e) known same reads shows = tt

-- ---- what is read rises
above_on : (key : RowKey) (shown : List Entry) (rows : List Row) → ReadsOn key shown rows → AreAbove (Some key) rows
above_on key shown [] reads = tt
above_on key [] (row ∷ rows) reads = absurd reads
above_on key (x ∷ shown) (row ∷ rows) reads = (reads.1, above_on row.key shown rows reads.2)

above_from : (shown : List Entry) (rows : List Row) → ReadsFrom shown rows → AreAboveOn rows
above_from [] rows reads = subst AreAboveOn (sym reads) tt
above_from (x ∷ shown) rows reads = subst AreAboveOn (sym reads.2) (above_on reads.0.key shown reads.1 reads.4)

pub above_answer : {A E : Type 0} (rows : A → List Row) (slice : List Entry) (r : Result A E) → IfOk r (λ found. ReadsFrom slice (rows found))
    → IfOk r (λ found. AreAboveOn (rows found))
above_answer rows slice (Ok found) reads = above_from slice (rows found) reads
above_answer rows slice (Err e) reads = tt

-- ---- of the select that was made later, over the same rows
pub next_kept :
    {A E : Type 0} (rows : A → List Row) (C O : Type 0) (es now : List Entry) (r : Result A E) → (C → O → now ≡ es)
    → IfOk r (λ found. C → O → AreNextOn (rows found) now) → IfOk r (λ found. C → O → AreNextOn (rows found) es)
next_kept rows C O es now (Ok found) same h = λ c o. subst (AreNextOn (rows found)) (same c o) (h c o)
next_kept rows C O es now (Err e) same h = tt

-- ---- reading one after the other
-- what was read so far, and what may follow it
pub record ReadSoFar (key last : RowKey) (shown left : List Entry) (old now : List Row) : Type 0 where
  pub taken : List Row
  pub now_is : now ≡ old ++ taken
  pub goes_on : (rest : List Row) → ReadsOn last left rest → ReadsOn key shown (taken ++ rest)

pub read_end : (key last : RowKey) (shown left : List Entry) (old now : List Row) → ReadSoFar key last shown left old now
    → (more : List Row) × (now ≡ old ++ more) × ReadsOn key shown more
read_end key last shown left old now so_far =
    (so_far.taken, so_far.now_is, subst (ReadsOn key shown) (append-nil so_far.taken) (so_far.goes_on [] tt))

pub read_begin : (key : RowKey) (shown : List Entry) (old : List Row) → ReadSoFar key key shown shown old old
read_begin key shown old = record { taken = []; now_is = sym (append-nil old); goes_on = λ rest reads. reads }

pub read_more : (key last : RowKey) (shown : List Entry) (at : ℕ) (x : Entry) (row : Row) (old now : List Row) → slice_get shown at ≡ Some x
    → row_made (column x 0) (column x 1) (column x 2) ≡ Some row → rank last < rank row.key
    → ReadSoFar key last shown (drop at shown) old now → ReadSoFar key row.key shown (drop (at + 1) shown) old (now ++ row ∷ [])
read_more key last shown at x row old now here made up so_far = record {
  taken = so_far.taken ++ row ∷ [];
  now_is = ap (λ l. l ++ row ∷ []) so_far.now_is ∙ append_assoc old so_far.taken (row ∷ []);
  goes_on = λ rest reads.
      subst (ReadsOn key shown) (sym (append_assoc so_far.taken (row ∷ []) rest)) (so_far.goes_on (row ∷ rest)
      (subst (λ l. ReadsOn last l (row ∷ rest)) (sym (drop_at shown at x here)) (made, up, reads)));
}
