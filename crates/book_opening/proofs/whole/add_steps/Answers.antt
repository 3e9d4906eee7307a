-- Both tables of steps, each behind what was there.
use Rattle.std.proofs.Common.{subst, List, ℕ}
use Rattle.std.specs.List.{AllByRecursion}
use Rattle.book_undo.specs.declared.edit.Edit.{Edit}
use Rattle.book_rows.specs.EditBytes.{IsEdit}
use Rattle.book_rows.specs.declared.format.RowFormat.TheVariants.{Two}
use Rattle.book_opening.proofs.TableLaws.{back_fit, forth_fit, steps_added}
use Rattle.book_opening.proofs.whole.add_steps.Goals as goal

pub returns-clause-added : goal.returns-clause-added
returns-clause-added c =
    steps_added c.args.saved.now.back.entries c.args.saved.now.forth.entries c.as_slice.result.now
    c.as_slice-2.result.now c.args.changes.now c.put_steps.new.changes c.put_steps-2.new.changes c.as_slice.ensures
    c.as_slice-2.ensures c.in_ok-put_steps.ensures.added c.in_ok-put_steps-2.ensures.added

pub returns-clause-back : goal.returns-clause-back
returns-clause-back c =
    back_fit c.args.saved.now.back.entries
    (subst (λ (l : List (ℕ × Edit)). AllByRecursion (λ e. IsEdit Two e.1) l) c.as_slice.ensures
    c.in_ok-put_steps.ensures.fit)

pub returns-clause-forth : goal.returns-clause-forth
returns-clause-forth c =
    forth_fit c.args.saved.now.forth.entries
    (subst (λ (l : List (ℕ × Edit)). AllByRecursion (λ e. IsEdit Two e.1) l) c.as_slice-2.ensures
    c.in_ok-put_steps-2.ensures.fit)
