-- What becomes of the lines of statements where other splits stand in the place of a transaction's.
use Rattle.std.specs.Prelude.{ℕ, ◌==◌, not, Bool, false, ◌&&◌, if◌then◌else◌, List, [], ◌∷◌, map, Option}
use Rattle.std.specs.Prelude.{Some, None}
use Rattle.std.specs.Ordering.{int_eq}
use Rattle.book_splits.specs.TransactionRules.{is_voided}
use Rattle.book_splits.specs.declared.split.Split.{Split}
use Rattle.book_statement.specs.declared.line.Line.{Line}
use Rattle.book_statement.specs.declared.line_state.LineState.TheVariants.{Dismissed}
use Rattle.book_undo.specs.declared.edit.Edit.{Edit, Put}
use Rattle.book_undo.specs.declared.thing.Thing.TheVariants as thing
use Rattle.book_sound.specs.LineRules.{matched_split, split_among}

-- Whether there is a later split, it has the account and the quantity of this one, and it is not voided.
abbrev pub stays_as : Split → Option Split → Bool
stays_as split None = false
stays_as split (Some later) =
    (later.account == split.account) && (int_eq later.quantity split.quantity && not (is_voided later.mark))

-- Whether there was a split that is gone, whose account or quantity is another, or that is voided.
abbrev pub is_lost_split : Option Split → Option Split → Bool
is_lost_split None later = false
is_lost_split (Some split) later = not (stays_as split later)

-- Whether a number is that of one of the old splits, which is lost where the new ones stand in their place.
abbrev pub is_lost : List Split → List Split → Option ℕ → Bool
is_lost old new None = false
is_lost old new (Some number) = is_lost_split (split_among number old) (split_among number new)

-- Whether a line is matched with a split that is lost.
abbrev pub loses_split : List Split → List Split → Line → Bool
loses_split old new line = is_lost old new (matched_split line.state)

-- The line, dismissed.
abbrev pub dismissed : Line → Line
dismissed line = record line { state = Dismissed }

-- The line, dismissed if that is asked.
abbrev pub dismissed_if : Bool → Line → Line
dismissed_if test line = if test then dismissed line else line

-- The lines, of which those that pass a test are dismissed.
abbrev pub dismissed_where : (Line → Bool) → List (ℕ × Line) → List (ℕ × Line)
dismissed_where test [] = []
dismissed_where test (entry ∷ more) =
    (entry.0, dismissed_if (test entry.1) entry.1) ∷ dismissed_where test more

-- The lines after new splits stand in the place of old ones: those that are matched with one that is lost are
-- dismissed (a rule of this project).
abbrev pub lines_after : List Split → List Split → List (ℕ × Line) → List (ℕ × Line)
lines_after old new lines = dismissed_where (loses_split old new) lines

-- The lines that pass a test, dismissed, without the others.
abbrev pub newly_dismissed : (Line → Bool) → List (ℕ × Line) → List (ℕ × Line)
newly_dismissed test [] = []
newly_dismissed test (entry ∷ more) =
    if test entry.1 then (entry.0, dismissed entry.1) ∷ newly_dismissed test more else newly_dismissed test more

-- The edits that dismiss the lines which lose their splits: one for each of them, and none for the others.
abbrev pub dismissing : List Split → List Split → List (ℕ × Line) → List Edit
dismissing old new lines =
    map (λ entry. Put entry.0 (thing.Line entry.1)) (newly_dismissed (loses_split old new) lines)
