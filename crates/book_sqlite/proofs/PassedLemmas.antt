-- No entry between a key and the row that is found is passed over.
use Rattle.std.specs.Bool.{⊤}
use Rattle.std.proofs.Common.{◌≡◌, ◌≢◌, refl, ◌⊎◌, ℤ, pos, ◌<ℤ◌, ◌≤ℤ◌, List, [], ◌∷◌, Some, None, IfOk, Result, Ok, Err, inl, inr, sym, subst, arith}
use Rattle.std.proofs.lemmas.Int.{ints}
use Rattle.sqlite_value.specs.Order.{Row as Entry}
use Rattle.book_keeper.specs.declared.row.Row.{Row}
use Rattle.book_keeper.specs.declared.row.RowKey.{RowKey}
use Rattle.book_sqlite.specs.Content.{rows_of}
use Rattle.book_keeper.specs.Rows.{first_row}
use Rattle.sqlite_rules.specs.Lists.{Has}
use Rattle.book_sqlite.specs.RowCalls.{HasKey, UpTo, Behind, From, kinds_behind, Shows, ReadsFrom, IsFound, IsBefore, NoneBefore, PassesNone}
use Rattle.book_sqlite.proofs.EntryLemmas.{AreEntries}
use Rattle.book_sqlite.proofs.FoundLemmas.{IsRead, read_by}

apart : (kind id other more : ℤ) → UpTo kind id other more → (other <ℤ kind) ⊎ ((other ≡ kind) × (more <ℤ id)) → ⊥
apart kind id other more (inl less) (inl low) = omega (arith, ints, less, low)
apart kind id other more (inl less) (inr same) = omega (arith, ints, less, same.0)
apart kind id other more (inr up) (inl low) = omega (arith, ints, up.0, low)
apart kind id other more (inr up) (inr same) = omega (arith, ints, up.1, same.1)

-- nothing that passes and is late is before what a select shows
pub passed_by : (P Late : ℤ → ℤ → Type 0) (es : List Entry) (row : Row) → IsRead P Late es row
    → (e : Entry) (kind id : ℤ) → Has es e → HasKey e kind id → P kind id → Late kind id → IsBefore (Some row) kind id → ⊥
passed_by P Late es row read e kind id there has passes late before =
    apart (pos row.key.kind) (pos row.key.id) kind id (read.least e kind id there has passes late) before

none_before_by : (P : ℤ → ℤ → Type 0) (es shown : List Entry) (rows : List Row) → AreEntries es → Shows P es shown → ReadsFrom shown rows
    → NoneBefore P es (first_row rows)
none_before_by P es [] rows known none reads = λ e kind id there has passes before. none e kind id there has passes
none_before_by P es (x ∷ more) rows known shows reads =
    let it = (read_by P (λ _ _. ⊤) es x reads.0 known shows.0 reads.3).2 in
    subst (λ rs. NoneBefore P es (first_row rs)) (sym reads.2) (λ e kind id there has passes before.
    passed_by P (λ _ _. ⊤) es reads.0 it e kind id there has passes tt before)

pub before_answer :
    {A E C O : Type 0} (rows : A → List Row) (P : ℤ → ℤ → Type 0) (es shown slice : List Entry) (r : Result A E) → (C → O → AreEntries es) → slice ≡ shown
    → IfOk r (λ found. ReadsFrom slice (rows found)) → (C → O → Shows P es shown)
    → IfOk r (λ found. C → O → NoneBefore P es (first_row (rows found)))
before_answer rows P es shown slice (Ok found) known same reads shows = λ c o.
    none_before_by P es shown (rows found) (known c o) (shows c o) (subst (λ l. ReadsFrom l (rows found)) same reads)
before_answer rows P es shown slice (Err e) known same reads shows = tt

-- behind no key is everything that SQL has
pub all_passed :
    {A E : Type 0} (rows : A → List Row) (C O : Type 0) (es : List Entry) (r : Result A E)
    → IfOk r (λ found. C → O → NoneBefore (From (kinds_behind None)) es (first_row (rows found)))
    → IfOk r (λ found. C → O → PassesNone None es (first_row (rows found)))
all_passed rows C O es (Ok found) h = λ c o e kind id there has behind before. h c o e kind id there has behind before
all_passed rows C O es (Err e) h = tt

-- of the kind of the key, where one is found behind its number
pub behind_passed :
    (es : List Entry) (key : RowKey) (id : ℤ) (rows : List Row) → id ≤ℤ pos key.id → rows ≢ []
    → IsFound (Behind (pos key.kind) id) (rows_of es) (first_row rows) → NoneBefore (Behind (pos key.kind) id) es (first_row rows)
    → PassesNone (Some key) es (first_row rows)
behind_passed es key id [] under some found none = absurd (some refl)
behind_passed es key id (row ∷ rows) under some found none = λ e kind number there has behind before.
    let row_kind : pos row.key.kind ≡ pos key.kind = found.passes.0 in
    elim behind [
      | inl greater ↦ elim before [
        | inl low ↦ omega (arith, ints, greater, low, row_kind)
        | inr at ↦ omega (arith, ints, greater, at.0, row_kind)
      ]
      | inr same ↦ none e kind number there has (same.0, omega (arith, ints, under, same.1)) before
    ]

-- of the greater kinds, where none is found behind it
pub from_passed :
    {A E : Type 0} (rows : A → List Row) (C O : Type 0) (es now : List Entry) (key : RowKey) (id : ℤ) (r : Result A E) → id ≤ℤ pos key.id
    → (C → O → NoneBefore (Behind (pos key.kind) id) es None) → (C → O → now ≡ es)
    → IfOk r (λ found. C → O → NoneBefore (From (kinds_behind (Some key.kind))) now (first_row (rows found)))
    → IfOk r (λ found. C → O → PassesNone (Some key) es (first_row (rows found)))
from_passed rows C O es now key id (Ok found) under none same h = λ c o e kind number there has behind before.
    elim behind [
      | inl greater ↦
          let from : From (kinds_behind (Some key.kind)) kind number = omega (arith, ints, greater) in
          subst (λ l. NoneBefore (From (kinds_behind (Some key.kind))) l (first_row (rows found))) (same c o) (h c o) e kind number there has from before
      | inr at ↦ none c o e kind number there has (at.0, omega (arith, ints, under, at.1)) tt
    ]
from_passed rows C O es now key id (Err e) under none same h = tt
