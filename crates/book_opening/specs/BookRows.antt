-- The rows of a state in a format: one for its head, one for each thing and one for each step, in rising order of
-- their keys.
use Rattle.std.specs.Prelude.{ℕ, List, [], ◌∷◌, ◌++◌, map, flat_map}
use Rattle.book_keeper.specs.declared.row.Row.{Row}
use Rattle.book_undo.specs.Book.{Book}
use Rattle.book_undo.specs.declared.edit.Edit.{Edit}
use Rattle.book_undo.specs.declared.thing.Thing.{Thing}
use Rattle.book_undo.specs.declared.thing.Thing.TheVariants as thing
use Rattle.book_rows.specs.Format.{format_in}
use Rattle.book_rows.specs.Row.{kind_of, body_of}
use Rattle.book_rows.specs.declared.format.RowFormat.{RowFormat}
use Rattle.book_rows.specs.declared.format.RowFormat.TheVariants.{Two}
use Rattle.book_rows.specs.declared.record.Record.{Record}
use Rattle.book_rows.specs.declared.record.Record.TheVariants as kept
use Rattle.book_opening.specs.State.{State, head_of}

-- The records of a table, each with its number.
abbrev pub records_in : {T : Type 0} → (T → Thing) → List (ℕ × T) → List (ℕ × Record)
records_in of entries = map (λ entry. (entry.0, kept.Thing (of entry.1))) entries

-- The records of the nine tables, in the order of their kinds.
abbrev pub tables_of : Book → List (List (ℕ × Record))
tables_of book =
    records_in (λ it. thing.Commodity it) book.commodities
    ∷ records_in (λ it. thing.Account it) book.accounts
    ∷ records_in (λ it. thing.Txn it) book.transactions
    ∷ records_in (λ it. thing.Price it) book.prices
    ∷ records_in (λ it. thing.Schedule it) book.schedules
    ∷ records_in (λ it. thing.Held it) book.statements
    ∷ records_in (λ it. thing.Line it) book.lines
    ∷ records_in (λ it. thing.Binding it) book.bindings
    ∷ records_in (λ it. thing.Recon it) book.reconciliations
    ∷ []

-- The records of all things of a book, each with its number, by rising kinds and numbers.
unfoldable pub things_of : Book → List (ℕ × Record)
things_of book = flat_map (λ table. table) (tables_of book)

-- The records of the steps back, each with its number.
abbrev pub back_records : List (ℕ × Edit) → List (ℕ × Record)
back_records steps = map (λ step. (step.0, kept.Back step.1)) steps

-- The records of the steps forth, each with its number.
abbrev pub forth_records : List (ℕ × Edit) → List (ℕ × Record)
forth_records steps = map (λ step. (step.0, kept.Forth step.1)) steps

-- The records of a state behind its head: those of its book, and then those of its steps.
abbrev pub behind_head : State → List (ℕ × Record)
behind_head state = things_of state.book ++ (back_records state.back ++ forth_records state.forth)

-- The row of a record under a number, in a format.
abbrev pub row_of : RowFormat → ℕ × Record → Row
row_of format entry = record {
  key = record { kind = kind_of entry.1; id = entry.0 };
  body = body_of format entry.1;
}

-- The records of a state.
abbrev pub records_of : State → List (ℕ × Record)
records_of state = (0, kept.Head (head_of state)) ∷ behind_head state

-- The rows of a state in a format: that of its head, one for each thing, and one for each step.
abbrev pub rows_of : RowFormat → State → List Row
rows_of format state = map (row_of format) (records_of state)

-- The format of rows: that of the first of them. Where this is not the head, the rows are bad at it or at (1, 0),
-- whatever their format.
abbrev pub rows_format : List Row → RowFormat
rows_format [] = Two
rows_format (row ∷ rows) = format_in row.body
