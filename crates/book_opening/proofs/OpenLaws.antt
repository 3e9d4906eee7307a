-- What was read of all rows is what they open as.
use Rattle.std.proofs.Common.{◌≡◌, ◌<◌, List, Some, Err, inl, inr, refl, sym, ap, ◌∙◌, subst, arith}
use Rattle.std.specs.List.{AllByRecursion}
use Rattle.book_keeper.specs.Rows.{Rises, first_row, rank}
use Rattle.book_keeper.specs.declared.row.Row.{Row}
use Rattle.book_rows.specs.declared.head.Head.{Head}
use Rattle.book_rows.specs.declared.record.Record.TheVariants as kept
use Rattle.book_opening.specs.BookRows.{records_of, row_of, rows_of}
use Rattle.book_opening.specs.Opening.{Answers, Begins, CanBeRow, IsBadFor, IsBadHead, IsNoRecord, IsOnlyRecord, IsOpened}
use Rattle.book_opening.specs.Opening.{OpenAs, OpenIn, head_key}
use Rattle.book_opening.specs.State.{State, head_of}
use Rattle.book_opening.specs.declared.fault.OpenFault.{OpenFault}
use Rattle.book_opening.specs.declared.fault.OpenFault.TheVariants as fault
use Rattle.book_opening.proofs.FormatLaws.{can_in_two}
use Rattle.book_opening.proofs.SameRecords.{same_state}
use Rattle.book_opening.proofs.StepLaws.{begins_format, format_is, opens_not_bad}
use Rattle.book_opening.proofs.UpTo.{stands_in}
use Rattle.book_opening.proofs.UpTo.{only_records}
use Rattle.book_rows.specs.Format.{format_in}
use Rattle.book_rows.specs.HeadBytes.{head_bytes}
use Rattle.book_rows.specs.declared.format.RowFormat.{RowFormat}
use Rattle.book_rows.specs.declared.format.RowFormat.TheVariants.{Two}

pub bad_answers : (rows : List Row) (error : OpenFault) → IsBadFor rows error → Answers rows (Err error)
bad_answers rows (fault.BadRows kind id) bad = bad
bad_answers rows fault.Keeper bad = tt
bad_answers rows fault.OutOfMemory bad = tt

-- Rows that begin with a head in a format, and open as a state, open as it in this format.
opens_in :
    (m : RowFormat) (rows : List Row) (state : State) (head : Head) → Begins m rows head → OpenAs rows state
    → OpenIn m rows state
opens_in m rows state head begins opens =
    let mine : Begins opens.0 rows (head_of state) = ap first_row opens.1.are in
    let same : opens.0 ≡ m =
    sym (begins_format opens.0 rows (head_of state) mine) ∙ begins_format m rows head begins in
    subst (λ (k : RowFormat). OpenIn k rows state) same opens.1

-- Rows that open as a state are not answered to be bad behind the head that was read.
pub bad_opens :
    (m : RowFormat) (rows : List Row) (state : State) (head : Head) (error : OpenFault) → Rises rows
    → Begins m rows head → IsOnlyRecord m (0, kept.Head head) → OpenAs rows state → IsBadFor rows error
    → IsOpened state (Err error)
bad_opens m rows state head (fault.BadRows kind id) rise begins only opens bad =
    opens_not_bad m rows state head (record { kind = kind; id = id }) rise begins only
    (opens_in m rows state head begins opens) bad.bad
bad_opens m rows state head fault.Keeper rise begins only opens bad = tt
bad_opens m rows state head fault.OutOfMemory rise begins only opens bad = tt

-- Nor is their first row.
pub start_opens :
    (rows : List Row) (state : State) (row : Row) (error : OpenFault) → first_row rows ≡ Some row → OpenAs rows state
    → IsBadHead row error → IsOpened state (Err error)
start_opens rows state row (fault.BadRows kind id) first opens bad =
    let m = opens.0 in
    let head = head_of state in
    let mine : first_row rows ≡ Some (row_of m (0, kept.Head head)) = ap first_row opens.1.are in
    let same : row_of m (0, kept.Head head) ≡ row = cc in
    elim bad as (λ _. ⊥) [
      | inl h ↦ absurd (
          let past : rank head_key < rank head_key =
          subst (λ (r : Row). rank head_key < rank r.key) (sym same) h.0 in
          omega (arith, past))
      | inr h ↦
          subst (λ (k : RowFormat). IsNoRecord k (row_of m (0, kept.Head head))) (format_is m (head_bytes head))
          (subst (λ (r : Row). IsNoRecord (format_in r.body) r) (sym same) h.3) (kept.Head head)
          (stands_in m (0, kept.Head head) opens.1.spelled.0)
    ]
start_opens rows state row fault.Keeper first opens bad = absurd bad
start_opens rows state row fault.OutOfMemory first opens bad = tt

-- Rows open as no other state than the one that was read.
pub only_state :
    (m : RowFormat) (rows : List Row) (s state : State) → rows ≡ rows_of m s
    → AllByRecursion (IsOnlyRecord m) (records_of s) → OpenAs rows state → s ≡ state
only_state m rows s state are only opens =
    let mine = opens_in m rows state (head_of s) (ap first_row are) opens in
    let records = only_records m (records_of s) (records_of state) (sym are ∙ mine.are) only mine.spelled in
    same_state s state (sym records)

-- The rows of a state in the one format open as it where those in the other do, and its records can be rows of the one.
pub in_both :
    (one other : RowFormat) (state : State) → OpenIn one (rows_of one state) state
    → AllByRecursion (CanBeRow other) (records_of state) → OpenIn other (rows_of other state) state
in_both one other state opens can = record { are = refl; spelled = can; counted = opens.counted }

-- Those of format 2 open as it where those of a format do: what can be a row of format 1 can be one of format 2.
pub in_two : (m : RowFormat) (state : State) → OpenIn m (rows_of m state) state → OpenIn Two (rows_of Two state) state
in_two m state opens = in_both m Two state opens (can_in_two m (records_of state) opens.spelled)
