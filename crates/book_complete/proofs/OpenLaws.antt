-- Rows that open as a machine are neither bad nor those of an unsound book.
use Rattle.std.proofs.Common.{◌≡◌, ℕ, List, [], None, inl, inr, refl, sym, ap, ◌∙◌, subst}
use Rattle.book_keeper.specs.Rows.{Rises, first_row}
use Rattle.book_keeper.specs.declared.row.Row.{Row}
use Rattle.book_keeper.specs.declared.row.RowKey.{RowKey}
use Rattle.book_rows.specs.declared.record.Record.{Record}
use Rattle.book_rows.specs.declared.record.Record.TheVariants as kept
use Rattle.book_opening.specs.BookRows.{row_of, rows_of}
use Rattle.book_rows.specs.declared.format.RowFormat.{RowFormat}
use Rattle.book_opening.specs.Opening.{IsBad, IsOnlyRecord, OpenIn}
use Rattle.book_opening.proofs.UpTo.{stands_in}
use Rattle.book_opening.specs.State.{State, head_of}
use Rattle.book_opening.proofs.StepLaws.{opens_not_bad}
use Rattle.book_state_check.specs.SoundState.{unsound_at}
use Rattle.book_engine.specs.Machine.{Machine}
use Rattle.book_engine.specs.Opens.{Bad, Opens, OpensTo, Unsound}
use Rattle.book_one_opening.proofs.OneOpening.{one-state}
use Rattle.book_one_opening.proofs.RecordCodes.{only-record}

only-head :
    (m : RowFormat) (rows : List Row) (state : State) → OpenIn m rows state
    → IsOnlyRecord m (0, kept.Head (head_of state))
only-head m rows state opens =
    let entry : ℕ × Record = (0, kept.Head (head_of state)) in
    let can = opens.spelled.0 in (
      can,
      λ it stands. only-record m (row_of m entry).key (row_of m entry).body it entry.1 stands
          (stands_in m entry can),
    )

none-bad : (key : RowKey) → IsBad [] key → ⊥
none-bad key (inl some) = some
none-bad key (inr (inl lacks)) = lacks.1.0 refl
none-bad key (inr (inr odd)) = odd.has

some-rows : (m : RowFormat) (state : State) → rows_of m state ≡ [] → ⊥
some-rows m state none = cc

-- They are bad at no key.
pub opens-not_bad :
    (rows : List Row) (machine : Machine) (key : RowKey) → Rises rows → OpensTo rows (Opens machine)
    → OpensTo rows (Bad key) → ⊥
opens-not_bad rows machine key rise (inl none) least =
    none-bad key (subst (λ (l : List Row). IsBad l key) none.0 least.bad)
opens-not_bad rows machine key rise (inr opens) least =
    opens_not_bad opens.1.0 rows opens.0 (head_of opens.0) key rise (ap first_row opens.1.1.are)
    (only-head opens.1.0 rows opens.0 opens.1.1) opens.1.1 least.bad

-- And unsound at none.
pub opens-not_unsound :
    (rows : List Row) (machine : Machine) (key : RowKey) → OpensTo rows (Opens machine) → OpensTo rows (Unsound key)
    → ⊥
opens-not_unsound rows machine key (inl none) other = some-rows other.1.0 other.0 (sym other.1.1.are ∙ none.0)
opens-not_unsound rows machine key (inr opens) other =
    let same = one-state rows opens.0 other.0 opens.1 other.1 in
    let none : unsound_at other.0 ≡ None = subst (λ (s : State). unsound_at s ≡ None) same opens.2 in
    absurd cc
