-- The row that is read from what the selects show is the first behind a key.
use Rattle.std.specs.Bool.{⊤}
use Rattle.std.proofs.Common.{◌≡◌, ◌≢◌, ◌⊎◌, ◌^◌, ◌+◌, ℕ, ℤ, ◌<◌, ◌≤◌, pos, negsuc, ◌≤ℤ◌, List, [], ◌∷◌, Option, Some, None, IfSome, IfOk, Result, Ok, Err, inl, inr, refl, sym, ap, subst, ◌∙◌, arith}
use Rattle.std.proofs.lemmas.Int.{ints}
use Rattle.sqlite_value.specs.declared.value.Value.TheVariants.{Int}
use Rattle.sqlite_value.specs.Order.{Row as Entry, column}
use Rattle.sqlite_rules.specs.Lists.{Has}
use Rattle.book_keeper.specs.declared.row.Row.{Row}
use Rattle.book_keeper.specs.declared.row.RowKey.{RowKey}
use Rattle.book_keeper.specs.Rows.{rank, first_above, first_row, first_after}
use Rattle.book_sqlite.specs.Content.{row_made, row_held, rows_of}
use Rattle.book_sqlite.specs.KnownRows.{rises_of}
use Rattle.book_sqlite.specs.RowCalls.{HasKey, UpTo, Behind, From, IsShown, Shows, ReadsFrom, NonePasses, IsFound}
use Rattle.book_sqlite.proofs.MemberLemmas.{none_above, first_is}
use Rattle.book_sqlite.proofs.ContentLemmas.{Made, made_from, holder, held_in}
use Rattle.book_sqlite.proofs.EntryLemmas.{AreEntries, holds_once}

key_at : (e : Entry) (row : Row) → row_held e ≡ Some row → Made (column e 1) (column e 2) (column e 3) row
key_at e row is = made_from (column e 1) (column e 2) (column e 3) row is

pub rank_up : (a b : RowKey) → a.id < 2 ^ 64 → b.id < 2 ^ 64 → UpTo (pos a.kind) (pos a.id) (pos b.kind) (pos b.id) → rank a ≤ rank b
rank_up a b low fits (inl less) = let kinds : a.kind < b.kind = omega (arith, ints, less) in omega (arith, low, fits, kinds)
rank_up a b low fits (inr same) =
    let kinds : a.kind ≡ b.kind = (let e = same.0 in cc) in
    let numbers : a.id ≤ b.id = omega (arith, ints, same.1) in omega (arith, kinds, numbers)

-- ---- what is shown, and read
-- the row that is made of what is shown, and the entry that holds it
pub record IsRead (P Late : ℤ → ℤ → Type 0) (es : List Entry) (row : Row) : Type 0 where
  pub there : Has (rows_of es) row
  pub fits : row.key.id < 2 ^ 64
  pub passes : P (pos row.key.kind) (pos row.key.id)
  pub least : (e : Entry) (other more : ℤ) → Has es e → HasKey e other more → P other more → Late other more
      → UpTo (pos row.key.kind) (pos row.key.id) other more

pub read_by : (P Late : ℤ → ℤ → Type 0) (es : List Entry) (x : Entry) (row : Row) → AreEntries es → (s : IsShown P Late es x)
    → row_made (column x 0) (column x 1) (column x 2) ≡ Some row
    → (s.kind ≡ pos row.key.kind) × (s.id ≡ pos row.key.id) × IsRead P Late es row
read_by P Late es x row known s read =
    let third : row_made (column x 0) (column x 1) (column x 2) ≡ row_made (Int s.kind) (Int s.id) (column s.entry 3) =
    ap (λ (r : Entry). row_made (column r 0) (column r 1) (column r 2)) s.is in
    let held : row_held s.entry ≡ Some row =
    ap (λ v. row_made v (column s.entry 2) (column s.entry 3)) s.has.0 ∙ ap (λ v. row_made (Int s.kind) v (column s.entry 3)) s.has.1
    ∙ sym third ∙ read in
    let made = key_at s.entry row held in
    let kind : s.kind ≡ pos row.key.kind = (let k = sym s.has.0 ∙ made.kind_is in cc) in
    let number : s.id ≡ pos row.key.id = (let k = sym s.has.1 ∙ made.id_is in cc) in (
      kind,
      number,
      record {
        there = held_in es (holds_once es known) s.entry row s.there held;
        fits = made.fits;
        passes = subst (λ n. P n (pos row.key.id)) kind (subst (P s.kind) number s.passes);
        least = λ e other more h has passes late.
            subst (λ n. UpTo n (pos row.key.id) other more) kind (subst (λ n. UpTo s.kind n other more) number (s.least e other more h has passes late));
      },
    )

-- what is shown first and read is found
pub found_by : (P : ℤ → ℤ → Type 0) (es : List Entry) (shown : List Entry) (rows : List Row) → AreEntries es
    → Shows P es shown → ReadsFrom shown rows → IsFound P (rows_of es) (first_row rows)
found_by P es [] rows known none reads =
    subst (λ rs. IsFound P (rows_of es) (first_row rs)) (sym reads) (λ other h passes.
    let e = holder es other h in
    let made = key_at e.0 other e.2 in
    none e.0 (pos other.key.kind) (pos other.key.id) e.1 (made.kind_is, made.id_is) passes)
found_by P es (x ∷ more) rows known shows reads =
    let row = reads.0 in
    let it = (read_by P (λ _ _. ⊤) es x row known shows.0 reads.3).2 in
    subst (λ rs. IsFound P (rows_of es) (first_row rs)) (sym reads.2) (record {
      there = it.there;
      passes = it.passes;
      least = λ other h passes.
          let f = holder es other h in
          let key = key_at f.0 other f.2 in
          rank_up row.key other.key it.fits key.fits
          (it.least f.0 (pos other.key.kind) (pos other.key.id) f.1 (key.kind_is, key.id_is) passes tt);
    })

-- ---- the first behind a key, or the first of all
abbrev AllFit : List Row → Type 0
AllFit rows = (x : Row) → Has rows x → x.key.id < 2 ^ 64

-- the entry that holds a row, with its key
pub holder_of : (es : List Entry) (x : Row) → Has (rows_of es) x → (e : Entry) × Has es e × HasKey e (pos x.key.kind) (pos x.key.id)
holder_of es x h = let e = holder es x h in let made = key_at e.0 x e.2 in (e.0, e.1, (made.kind_is, made.id_is))

pub fits_of : (es : List Entry) → AllFit (rows_of es)
fits_of es x h = let e = holder es x h in (key_at e.0 x e.2).fits

-- a rank above that of a key: of a greater kind, or of its kind and behind its number
pub above_by : (key other : RowKey) → key.id < 2 ^ 64 → other.id < 2 ^ 64 → rank key < rank other
    → (key.kind < other.kind) ⊎ ((other.kind ≡ key.kind) × (key.id < other.id))
above_by key other low fits up = elim (Rattle.std.proofs.lemmas.Bool.cases_lt key.kind other.kind) [
  | inl less ↦ inl less
  | inr not_less ↦
      let same : other.kind ≡ key.kind = omega (arith, low, fits, up, not_less) in inr (same, omega (arith, up, same))
]

-- a greater kind has greater ranks
kind_up : (a b : RowKey) → a.id < 2 ^ 64 → a.kind < b.kind → rank a < rank b
kind_up a b low less = omega (arith, low, less)

-- the one that is found behind the number is the first behind the key
pub after_behind :
    (rows : List Row) (key : RowKey) (id : ℤ) (row : Row) → Rattle.book_keeper.specs.Rows.Rises rows → AllFit rows → key.id < 2 ^ 64
    → id ≤ℤ pos key.id → IsFound (Behind (pos key.kind) id) rows (Some row) → rank key < rank row.key
    → first_after (Some key) rows ≡ Some row
after_behind rows key id row up fit low under found above =
    let kind : row.key.kind ≡ key.kind = (let e = found.passes.0 in cc) in
    first_is (rank key) rows row up found.there above (λ other h behind.
    elim (above_by key other.key low (fit other h) behind) [
      | inl greater ↦ omega (arith, kind_up row.key other.key (fit row found.there) (omega (arith, kind, greater)))
      | inr same ↦ found.least other h (ap pos same.0, omega (arith, ints, under, same.1))
    ])

-- where none is found behind the number, it is the first of the greater kinds
pub after_from :
    (rows : List Row) (key : RowKey) (id next : ℤ) (found : Option Row) → Rattle.book_keeper.specs.Rows.Rises rows → AllFit rows → key.id < 2 ^ 64
    → id ≤ℤ pos key.id → next ≡ pos (key.kind + 1) → IsFound (Behind (pos key.kind) id) rows None → IsFound (From next) rows found
    → first_after (Some key) rows ≡ found
after_from rows key id next None up fit low under next_is none found =
    none_above (rank key) rows (λ other h. elim (Rattle.std.proofs.lemmas.Bool.cases_lt (rank key) (rank other.key)) [
      | inl behind ↦ absurd (elim (above_by key other.key low (fit other h) behind) [
        | inl greater ↦ found other h (omega (arith, ints, next_is, greater))
        | inr same ↦ none other h (ap pos same.0, omega (arith, ints, under, same.1))
      ])
      | inr not_behind ↦ not_behind
    ])
after_from rows key id next (Some row) up fit low under next_is none found =
    let kind : key.kind < row.key.kind = omega (arith, ints, next_is, found.passes) in
    first_is (rank key) rows row up found.there (kind_up key row.key low kind) (λ other h behind.
    elim (above_by key other.key low (fit other h) behind) [
      | inl greater ↦ found.least other h (omega (arith, ints, next_is, greater))
      | inr same ↦ absurd (none other h (ap pos same.0, omega (arith, ints, under, same.1)))
    ])

-- no kind is below the least, so it is the first of all
pub after_none :
    (rows : List Row) (n : ℕ) (found : Option Row) → Rattle.book_keeper.specs.Rows.Rises rows → IsFound (From (negsuc n)) rows found
    → first_after None rows ≡ found
after_none [] n None up found = refl
after_none [] n (Some row) up found = absurd found.there
after_none (r ∷ rows) n None up found = absurd (found r (inl refl) (omega (arith, ints)))
after_none (r ∷ rows) n (Some row) up found = elim found.there [
  | inl same ↦ ap Some (sym same)
  | inr later ↦
      let low = found.least r (inl refl) (omega (arith, ints)) in
      let high = Rattle.book_sqlite.proofs.MemberLemmas.above_member (rank r.key) rows row up.0 later in absurd (omega (arith, low, high))
]

-- what the selects show is read
pub found_answer :
    {A E C O : Type 0} (rows : A → List Row) (P : ℤ → ℤ → Type 0) (es shown slice : List Entry) (r : Result A E) → (C → O → AreEntries es) → slice ≡ shown
    → IfOk r (λ found. ReadsFrom slice (rows found)) → (C → O → Shows P es shown)
    → IfOk r (λ found. C → O → IsFound P (rows_of es) (first_row (rows found)))
found_answer rows P es shown slice (Ok found) known same reads shows = λ c o.
    found_by P es shown (rows found) (known c o) (shows c o) (subst (λ l. ReadsFrom l (rows found)) same reads)
found_answer rows P es shown slice (Err e) known same reads shows = tt

pub none_answer :
    {A E : Type 0} (rows : A → List Row) (C O : Type 0) (es : List Entry) (n : ℕ) (r : Result A E)
    → IfOk r (λ found. C → O → IsFound (From (negsuc n)) (rows_of es) (first_row (rows found)))
    → IfOk r (λ found. C → O → first_row (rows found) ≡ first_after None (rows_of es))
none_answer rows C O es n (Ok found) h = λ c o. sym (after_none (rows_of es) n (first_row (rows found)) (rises_of es) (h c o))
none_answer rows C O es n (Err e) h = tt

-- the row that is found is the first behind the key, if it is above that
abbrev pub IsNext : RowKey → List Row → Option Row → Type 0
IsNext key rows found = IfSome found (λ (row : Row). rank key < rank row.key) → found ≡ first_after (Some key) rows

pub behind_next :
    (es : List Entry) (key : RowKey) (id : ℤ) (rows : List Row) → key.id < 2 ^ 64 → id ≤ℤ pos key.id → rows ≢ []
    → IsFound (Behind (pos key.kind) id) (rows_of es) (first_row rows) → IsNext key (rows_of es) (first_row rows)
behind_next es key id [] low under some found above = absurd (some refl)
behind_next es key id (row ∷ rows) low under some found above =
    sym (after_behind (rows_of es) key id row (rises_of es) (fits_of es) low under found above)

pub from_next :
    {A E : Type 0} (rows : A → List Row) (C O : Type 0) (es now : List Entry) (key : RowKey) (id : ℤ) (r : Result A E) → key.id < 2 ^ 64 → id ≤ℤ pos key.id
    → (C → O → NonePasses (Behind (pos key.kind) id) (rows_of es)) → (C → O → rows_of now ≡ rows_of es)
    → IfOk r (λ found. C → O → IsFound (From (pos (key.kind + 1))) (rows_of now) (first_row (rows found)))
    → IfOk r (λ found. C → O → IsNext key (rows_of es) (first_row (rows found)))
from_next rows C O es now key id (Ok found) low under none same h = λ c o _.
    sym (after_from (rows_of es) key id (pos (key.kind + 1)) (first_row (rows found)) (rises_of es) (fits_of es) low under refl (none c o)
    (subst (λ rs. IsFound (From (pos (key.kind + 1))) rs (first_row (rows found))) (same c o) (h c o)))
from_next rows C O es now key id (Err e) low under none same h = tt
