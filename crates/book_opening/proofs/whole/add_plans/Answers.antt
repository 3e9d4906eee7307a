-- Three tables, each behind what was there.
use Rattle.std.proofs.Common.{refl}
use Rattle.book_undo.specs.declared.thing.Thing.TheVariants as thing
use Rattle.book_rows.specs.PriceBytes.{price_bytes, IsPrice}
use Rattle.book_rows.specs.ScheduleBytes.{schedule_bytes, IsSchedule}
use Rattle.book_rows.specs.StatementBytes.{held_bytes, IsHeld}
use Rattle.book_opening.specs.BookRows.{records_in}
use Rattle.book_opening.specs.Changes.{puts_of}
use Rattle.book_opening.proofs.TableLaws.{slice_fit, table_added, three_behind}
use Rattle.book_opening.proofs.whole.add_plans.Goals as goal
use Rattle.book_rows.specs.declared.format.RowFormat.TheVariants.{Two}

pub returns-clause-added : goal.returns-clause-added
returns-clause-added c =
    let plain = c.args.plain.now in
    three_behind c.args.changes.now
    (puts_of (records_in (λ it. thing.Price it) plain.prices.entries))
    (puts_of (records_in (λ it. thing.Schedule it) plain.schedules.entries))
    (puts_of (records_in (λ it. thing.Held it) plain.statements.entries))
    c.put_prices.new.changes c.put_entries.new.changes c.put_entries-2.new.changes
    (table_added 5 price_bytes (λ it. thing.Price it) (λ _. refl) (λ _. refl) plain.prices.entries plain.prices.entries
    c.args.changes.now c.put_prices.new.changes refl c.in_ok-put_prices.ensures.added)
    (table_added 6 (schedule_bytes Two) (λ it. thing.Schedule it) (λ _. refl)
    (λ _. refl) plain.schedules.entries c.as_slice.result.now
    c.put_prices.new.changes c.put_entries.new.changes c.as_slice.ensures c.in_ok-put_entries.ensures.added)
    (table_added 7 held_bytes (λ it. thing.Held it) (λ _. refl)
    (λ _. refl) plain.statements.entries c.as_slice-2.result.now
    c.put_entries.new.changes c.put_entries-2.new.changes c.as_slice-2.ensures c.in_ok-put_entries-2.ensures.added)

pub returns-clause-prices : goal.returns-clause-prices
returns-clause-prices c =
    slice_fit IsPrice (λ it. thing.Price it)
    (λ _ fits. fits) c.args.plain.now.prices.entries c.args.plain.now.prices.entries refl
    c.in_ok-put_prices.ensures.fit

pub returns-clause-schedules : goal.returns-clause-schedules
returns-clause-schedules c =
    slice_fit (IsSchedule Two) (λ it. thing.Schedule it)
    (λ _ fits. fits) c.args.plain.now.schedules.entries c.as_slice.result.now c.as_slice.ensures
    c.in_ok-put_entries.ensures.fit

pub returns-clause-statements : goal.returns-clause-statements
returns-clause-statements c =
    slice_fit IsHeld (λ it. thing.Held it)
    (λ _ fits. fits) c.args.plain.now.statements.entries c.as_slice-2.result.now c.as_slice-2.ensures
    c.in_ok-put_entries-2.ensures.fit
