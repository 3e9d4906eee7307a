-- The steps that a state keeps: when its head counts them; and records that can be rows.
use Rattle.std.proofs.Common.{◌≡◌, ℕ, ◌==◌, ◌&&◌, ◌||◌, Bool, is_some, ap, ◌∙◌}
use Rattle.std.specs.List.{AllByRecursion}
use Rattle.book_commodity.specs.Table.{value_of}
use Rattle.book_rows.specs.declared.format.RowFormat.{RowFormat}
use Rattle.book_rows.specs.declared.format.RowFormat.TheVariants.{Two}
use Rattle.book_opening.specs.BookRows.{records_of}
use Rattle.book_opening.specs.Opening.{CanBeRow, IsOnlyRecord}
use Rattle.book_opening.specs.State.{State, head_of}
use Rattle.book_opening.specs.Steps.{AreCounted, is_back, is_forth}
use Rattle.book_opening.proofs.FormatLaws.{can_in_two}
use Rattle.book_opening.proofs.Ranked.{all_weak}

-- The steps of a state are those that its head counts, where each table has exactly the numbers that the head counts.
pub are_counted :
    (s : State) → ((number : ℕ) → is_some (value_of number s.back) ≡ is_back (head_of s) number)
    → ((number : ℕ) → is_some (value_of number s.forth) ≡ is_forth (head_of s) number) → AreCounted s
are_counted s back forth fits key step =
    ap (λ (b : Bool). ((key.kind == 11) && b) || ((key.kind == 12) && is_some (value_of key.id s.forth))) (back key.id)
    ∙ ap (λ (b : Bool). ((key.kind == 11) && is_back (head_of s) key.id) || ((key.kind == 12) && b)) (forth key.id)

-- Records that are the only ones of their rows can be rows of format 2.
pub only_can :
    (m : RowFormat) (s : State) → AllByRecursion (IsOnlyRecord m) (records_of s)
    → AllByRecursion (CanBeRow Two) (records_of s)
only_can m s only =
    can_in_two m (records_of s) (all_weak (IsOnlyRecord m) (CanBeRow m) (λ e h. h.0) (records_of s) only)
