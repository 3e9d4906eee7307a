-- What becomes of the kept steps where the book is changed, and where a step is taken back or taken again.
use Rattle.std.specs.Prelude.{ℕ, ◌+◌, ◌-◌, ◌==◌, if◌then◌else◌, min, List}
use Rattle.book_commodity.specs.Table.{with_entry, without_entry}
use Rattle.book_undo.specs.declared.edit.Edit.{Edit}

-- The steps back without the oldest one, where there are 256.
abbrev pub with_room : ℕ → ℕ → List (ℕ × Edit) → List (ℕ × Edit)
with_room position past back = if past == 256 then without_entry (position - 255) back else back

-- The steps back after a change, which adds the step that leads back from it. The steps forth are all gone then.
abbrev pub back_after_change : ℕ → ℕ → Edit → List (ℕ × Edit) → List (ℕ × Edit)
back_after_change position past inverse back = with_entry (position + 1) inverse (with_room position past back)

-- How many steps back are kept after a change.
abbrev pub past_after_change : ℕ → ℕ
past_after_change past = min (past + 1) 256

-- The steps back, and those forth, after the last step was taken back.
abbrev pub back_after_undo : ℕ → List (ℕ × Edit) → List (ℕ × Edit)
back_after_undo position back = without_entry position back

abbrev pub forth_after_undo : ℕ → Edit → List (ℕ × Edit) → List (ℕ × Edit)
forth_after_undo position inverse forth = with_entry position inverse forth

-- The steps back, and those forth, after a step that was taken back is taken again.
abbrev pub back_after_redo : ℕ → Edit → List (ℕ × Edit) → List (ℕ × Edit)
back_after_redo position inverse back = with_entry (position + 1) inverse back

abbrev pub forth_after_redo : ℕ → List (ℕ × Edit) → List (ℕ × Edit)
forth_after_redo position forth = without_entry (position + 1) forth
