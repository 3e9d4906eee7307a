-- How many rows failed, before and after something was compared.
use Rattle.std.specs.Prelude.{◌≡◌, ◌==◌, ◌&&◌, ◌<◌, ℕ, Bool, IfSome, IsTrue, List, [], ◌∷◌, if◌then◌else◌, length, nat_eq}
use Rattle.std.specs.List.{list_all}
use lib.Pointwise.{pointwise}
use Rattle.book_keeper.specs.declared.row.Row.{Row}
use Rattle.book_keeper.specs.declared.row.RowKey.{RowKey}
use Rattle.book_keeper.specs.Faults.{next_count}
use Rattle.gate_rows.specs.declared.answers.Wanted.{Wanted}
use Rattle.gate_rows.specs.declared.answers.WantedRow.{WantedRow}

-- A comparison counts one row more as failed, unless what came is the same as what is wanted; so where it counts none,
-- it is the same.
abbrev pub CountsUnless : Type 0 → ℕ → ℕ → Type 0
CountsUnless Same before after =
    (Same → after ≡ before) × ((Same → ⊥) → after ≡ next_count before) × (after < next_count before → Same)

-- The count after each of a list was compared: one more for each that is not right.
abbrev pub count_wrong : {A : Type 0} → (A → Bool) → List A → ℕ → ℕ
count_wrong is_right [] before = before
count_wrong is_right (one ∷ more) before =
    count_wrong is_right more (if is_right one then before else next_count before)

-- The body of the first row with a key; no bytes where there is no such row.
abbrev pub body_at : RowKey → List Row → List ℕ
body_at key [] = []
body_at key (row ∷ rows) =
    if (row.key.kind == key.kind) && (row.key.id == key.id) then row.body else body_at key rows

-- Whether a row that is wanted is held under its key with the same bytes.
abbrev pub is_held : List Row → WantedRow → Bool
is_held rows wanted = pointwise nat_eq (body_at wanted.key rows) wanted.body.items

-- As many rows are held as are wanted, where their number is wanted, and among them each row that is wanted.
abbrev pub AreHeld : List Row → Wanted → Type 0
AreHeld rows wanted =
    IfSome wanted.count (λ count. count ≡ length rows) × IsTrue (list_all (is_held rows) wanted.rows.items)
