-- What an edit of a book changes in its rows, which are written in format 2.
use Rattle.std.specs.Prelude.{ℕ, ◌^◌, ◌<◌, ◌≤◌, ⊤, List, [], ◌∷◌, flat_map, map}
use Rattle.std.specs.List.{AllByRecursion}
use Rattle.book_commodity.specs.Table.{with_entry, without_entry}
use Rattle.book_keeper.specs.declared.row.Change.{Change}
use Rattle.book_keeper.specs.declared.row.Change.TheVariants as change
use Rattle.book_undo.specs.Edit.{Leaf, OfCurrency, OfPut, OfGone, depth, leaves}
use Rattle.book_undo.specs.Thing.{row_kind}
use Rattle.book_undo.specs.declared.edit.Edit.{Edit}
use Rattle.book_rows.specs.Row.{IsRecord}
use Rattle.book_rows.specs.declared.format.RowFormat.TheVariants.{Two}
use Rattle.book_rows.specs.declared.head.Head.{Head}
use Rattle.book_rows.specs.declared.record.Record.{Record}
use Rattle.book_rows.specs.declared.record.Record.TheVariants as kept
use Rattle.book_opening.specs.BookRows.{row_of, rows_of}
use Rattle.book_opening.specs.State.{State}

-- The changes of rows that a leaf comes to: a thing that is put is written, and one that is deleted has no row any
-- more. The currency stands in the head.
abbrev pub leaf_changes : Leaf → List Change
leaf_changes (OfCurrency currency) = []
leaf_changes (OfPut number thing) = change.Put (row_of Two (number, kept.Thing thing)) ∷ []
leaf_changes (OfGone kind number) = change.Gone (record { kind = row_kind kind; id = number }) ∷ []

-- The changes of rows that an edit and a new head come to: the head is written, and then what each leaf changes.
abbrev pub changes_of : Head → Edit → List Change
changes_of head edit = change.Put (row_of Two (0, kept.Head head)) ∷ flat_map leaf_changes (leaves edit)

-- What a leaf writes has a spelling.
abbrev pub LeafFits : Leaf → Type 0
LeafFits (OfCurrency currency) = ⊤
LeafFits (OfPut number thing) = IsRecord Two (kept.Thing thing)
LeafFits (OfGone kind number) = ⊤

-- The number of what a leaf changes can be that of a row.
abbrev pub IsSmallLeaf : Leaf → Type 0
IsSmallLeaf (OfCurrency currency) = ⊤
IsSmallLeaf (OfPut number thing) = number < 2 ^ 62
IsSmallLeaf (OfGone kind number) = number < 2 ^ 62

-- The changes by which rows come to be where there were none, or those of format 1 come to be those of format 2: each
-- row of a state is written.
abbrev pub all_put : State → List Change
all_put state = map (λ row. change.Put row) (rows_of Two state)

-- Each of these records is written.
abbrev pub puts_of : List (ℕ × Record) → List Change
puts_of entries = map (λ row. change.Put row) (map (row_of Two) entries)

-- The change that writes an entry of a table whose rows have a kind, by the bytes of its values.
abbrev pub entry_put : {T : Type 0} → ℕ → (T → List ℕ) → ℕ × T → Change
entry_put kind bytes entry = change.Put (record {
  key = record { kind = kind; id = entry.0 };
  body = 2 ∷ bytes entry.1;
})

-- Of a step at most eight lists stand in one another.
abbrev pub IsShallow : ℕ × Edit → Type 0
IsShallow step = depth step.1 ≤ 8

-- Each of these records has a spelling.
abbrev pub AreRecords : List (ℕ × Record) → Type 0
AreRecords entries = AllByRecursion (λ entry. IsRecord Two entry.1) entries

-- A change of the steps that a state keeps.
pub data StepChange : Type 0 where
  PutBack : ℕ → Edit → StepChange
  GoneBack : ℕ → StepChange
  PutForth : ℕ → Edit → StepChange
  GoneForth : ℕ → StepChange

-- The change of rows that it comes to.
abbrev pub step_change : StepChange → Change
step_change (PutBack number edit) = change.Put (row_of Two (number, kept.Back edit))
step_change (GoneBack number) = change.Gone (record { kind = 11; id = number })
step_change (PutForth number edit) = change.Put (row_of Two (number, kept.Forth edit))
step_change (GoneForth number) = change.Gone (record { kind = 12; id = number })

-- The state after it.
abbrev pub with_step : StepChange → State → State
with_step (PutBack number edit) state = record state { back = with_entry number edit state.back }
with_step (GoneBack number) state = record state { back = without_entry number state.back }
with_step (PutForth number edit) state = record state { forth = with_entry number edit state.forth }
with_step (GoneForth number) state = record state { forth = without_entry number state.forth }

-- The state after such changes, one after another.
abbrev pub with_steps : List StepChange → State → State
with_steps [] state = state
with_steps (step ∷ steps) state = with_steps steps (with_step step state)

-- What such a change writes has a spelling.
abbrev pub StepFits : StepChange → Type 0
StepFits (PutBack number edit) = IsRecord Two (kept.Back edit)
StepFits (GoneBack number) = ⊤
StepFits (PutForth number edit) = IsRecord Two (kept.Forth edit)
StepFits (GoneForth number) = ⊤

-- The number of such a step.
abbrev pub step_number : StepChange → ℕ
step_number (PutBack number edit) = number
step_number (GoneBack number) = number
step_number (PutForth number edit) = number
step_number (GoneForth number) = number
