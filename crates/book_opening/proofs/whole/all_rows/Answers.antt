-- The head, the nine tables of things behind it, and the two tables of steps.
use Rattle.std.proofs.Common.{◌≡◌, List, [], ◌∷◌, ◌++◌, ap, ◌∙◌, subst}
use Rattle.book_keeper.specs.declared.row.Row.{Row}
use Rattle.book_keeper.specs.declared.row.Change.{Change}
use Rattle.book_keeper.specs.declared.row.Change.TheVariants as change
use Rattle.book_rows.specs.Row.{IsRecord}
use Rattle.book_rows.specs.declared.head.Head.{Head}
use Rattle.book_rows.specs.declared.record.Record.TheVariants as kept
use Rattle.book_opening.specs.BookRows.{back_records, forth_records, row_of, things_of}
use Rattle.book_opening.specs.State.{head_of, state_of}
use Rattle.book_opening.proofs.Ranked.{beside}
use Rattle.book_opening.proofs.TableLaws.{all-things, all_fit, all_put_steps, all_put_whole}
use Rattle.book_opening.proofs.whole.all_rows.Goals as goal
use Rattle.book_rows.specs.declared.format.RowFormat.TheVariants.{Two}

pub returns-clause-changes : goal.returns-clause-changes
returns-clause-changes c =
    let head : Head = head_of (state_of c.args.saved.now) in
    let row : c.in_ok-head_row.field-0 ≡ row_of Two (0, kept.Head head) =
    c.in_ok-head_row.ensures.row ∙ ap (λ (h : Head). row_of Two (0, kept.Head h)) c.head_of.ensures in
    let first = c.in_ok-push.ensures.added
    ∙ ap (λ (l : List Change). l ++ change.Put c.in_ok-head_row.field-0 ∷ []) c.new-changes.ensures
    ∙ ap (λ (r : Row). change.Put r ∷ []) row in
    let state = state_of c.args.saved.now in
    all_put_steps (change.Put (row_of Two (0, kept.Head head))) (things_of state.book) (back_records state.back)
    (forth_records state.forth) c.add_bank.new.changes c.add_steps.new.changes
    (all_put_whole state.book (change.Put (row_of Two (0, kept.Head head))) c.push.new.self
    c.add_ledger.new.changes c.add_plans.new.changes c.add_bank.new.changes first c.in_ok-add_ledger.ensures.added
    c.in_ok-add_plans.ensures.added c.in_ok-add_bank.ensures.added) c.in_ok-add_steps.ensures.added

pub returns-clause-fit : goal.returns-clause-fit
returns-clause-fit c = (
  subst (λ (h : Head). IsRecord Two (kept.Head h)) c.head_of.ensures c.in_ok-head_row.ensures.fits,
  let state = state_of c.args.saved.now in
      all_fit (things_of state.book) (back_records state.back) (forth_records state.forth)
      (all-things state.book
      (beside c.in_ok-add_ledger.ensures.commodities
      (beside c.in_ok-add_ledger.ensures.accounts
      (beside c.in_ok-add_ledger.ensures.transactions
      (beside c.in_ok-add_plans.ensures.prices
      (beside c.in_ok-add_plans.ensures.schedules
      (beside c.in_ok-add_plans.ensures.statements
      (beside c.in_ok-add_bank.ensures.lines
      (beside c.in_ok-add_bank.ensures.bindings
      (beside c.in_ok-add_bank.ensures.reconciliations
      tt)))))))))) c.in_ok-add_steps.ensures.back c.in_ok-add_steps.ensures.forth,
)
