-- Three tables, each behind what was there.
use Rattle.std.proofs.Common.{refl}
use Rattle.book_undo.specs.declared.thing.Thing.TheVariants as thing
use Rattle.book_rows.specs.StatementBytes.{line_bytes, IsLine, binding_bytes, IsBinding}
use Rattle.book_rows.specs.ReconciliationBytes.{recon_bytes, IsRecon}
use Rattle.book_opening.specs.BookRows.{records_in}
use Rattle.book_opening.specs.Changes.{puts_of}
use Rattle.book_opening.proofs.TableLaws.{slice_fit, table_added, three_behind}
use Rattle.book_opening.proofs.whole.add_bank.Goals as goal

pub returns-clause-added : goal.returns-clause-added
returns-clause-added c =
    let plain = c.args.plain.now in
    three_behind c.args.changes.now
    (puts_of (records_in (λ it. thing.Line it) plain.lines.entries))
    (puts_of (records_in (λ it. thing.Binding it) plain.bindings.entries))
    (puts_of (records_in (λ it. thing.Recon it) plain.reconciliations.entries))
    c.put_entries.new.changes c.put_entries-2.new.changes c.put_entries-3.new.changes
    (table_added 8 line_bytes (λ it. thing.Line it) (λ _. refl) (λ _. refl) plain.lines.entries c.as_slice.result.now
    c.args.changes.now c.put_entries.new.changes c.as_slice.ensures c.in_ok-put_entries.ensures.added)
    (table_added 9 binding_bytes (λ it. thing.Binding it) (λ _. refl)
    (λ _. refl) plain.bindings.entries c.as_slice-2.result.now
    c.put_entries.new.changes c.put_entries-2.new.changes c.as_slice-2.ensures c.in_ok-put_entries-2.ensures.added)
    (table_added 10 recon_bytes (λ it. thing.Recon it) (λ _. refl)
    (λ _. refl) plain.reconciliations.entries c.as_slice-3.result.now
    c.put_entries-2.new.changes c.put_entries-3.new.changes c.as_slice-3.ensures c.in_ok-put_entries-3.ensures.added)

pub returns-clause-lines : goal.returns-clause-lines
returns-clause-lines c =
    slice_fit IsLine (λ it. thing.Line it)
    (λ _ fits. fits) c.args.plain.now.lines.entries c.as_slice.result.now c.as_slice.ensures
    c.in_ok-put_entries.ensures.fit

pub returns-clause-bindings : goal.returns-clause-bindings
returns-clause-bindings c =
    slice_fit IsBinding (λ it. thing.Binding it)
    (λ _ fits. fits) c.args.plain.now.bindings.entries c.as_slice-2.result.now c.as_slice-2.ensures
    c.in_ok-put_entries-2.ensures.fit

pub returns-clause-reconciliations : goal.returns-clause-reconciliations
returns-clause-reconciliations c =
    slice_fit IsRecon (λ it. thing.Recon it)
    (λ _ fits. fits) c.args.plain.now.reconciliations.entries c.as_slice-3.result.now c.as_slice-3.ensures
    c.in_ok-put_entries-3.ensures.fit
