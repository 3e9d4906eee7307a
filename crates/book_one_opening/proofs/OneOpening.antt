-- Rows open as one machine at most.
use Rattle.std.proofs.Common.{◌≡◌, ℕ, List, [], ◌∷◌, inl, inr, sym, ap, ◌∙◌}
use Rattle.std.specs.List.{AllByRecursion}
use Rattle.book_keeper.specs.declared.row.Row.{Row}
use Rattle.book_rows.specs.declared.format.RowFormat.{RowFormat}
use Rattle.book_rows.specs.declared.record.Record.{Record}
use Rattle.book_opening.specs.BookRows.{records_of, row_of, rows_of}
use Rattle.book_opening.specs.Opening.{CanBeRow, IsOnlyRecord, OpenAs}
use Rattle.book_opening.specs.State.{State}
use Rattle.book_opening.proofs.OpenLaws.{only_state}
use Rattle.book_opening.proofs.UpTo.{stands_in}
use Rattle.book_engine.specs.Books.{machine_of}
use Rattle.book_engine.specs.Machine.{Machine}
use Rattle.book_engine.specs.Opens.{Opens, OpensTo}
use Rattle.book_one_opening.proofs.RecordCodes.{only-record}

only-one : (m : RowFormat) (entry : ℕ × Record) → CanBeRow m entry → IsOnlyRecord m entry
only-one m entry can = (
  can,
  λ it stands. only-record m (row_of m entry).key (row_of m entry).body it entry.1 stands
      (stands_in m entry can),
)

all-only :
    (m : RowFormat) (entries : List (ℕ × Record)) → AllByRecursion (CanBeRow m) entries
    → AllByRecursion (IsOnlyRecord m) entries
all-only m [] all = tt
all-only m (entry ∷ entries) all = (only-one m entry all.0, all-only m entries all.1)

-- Rows open as one state at most.
pub one-state : (rows : List Row) (one other : State) → OpenAs rows one → OpenAs rows other → one ≡ other
one-state rows one other opens also =
    only_state opens.0 rows one other opens.1.are (all-only opens.0 (records_of one) opens.1.spelled) also

some-rows : (m : RowFormat) (state : State) → rows_of m state ≡ [] → ⊥
some-rows m state none = cc

-- Rows open as one machine at most.
pub only-machine :
    (rows : List Row) (one other : Machine) → OpensTo rows (Opens one) → OpensTo rows (Opens other) → one ≡ other
only-machine rows one other (inl none) (inl also) = none.1 ∙ sym also.1
only-machine rows one other (inl none) (inr also) =
    absurd (some-rows also.1.0 also.0 (sym also.1.1.are ∙ none.0))
only-machine rows one other (inr opens) (inl none) =
    absurd (some-rows opens.1.0 opens.0 (sym opens.1.1.are ∙ none.0))
only-machine rows one other (inr opens) (inr also) =
    opens.3 ∙ ap machine_of (one-state rows opens.0 also.0 opens.1 also.1) ∙ sym also.3
