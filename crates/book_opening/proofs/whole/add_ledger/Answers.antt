-- Three tables, each behind what was there.
use Rattle.std.proofs.Common.{refl}
use Rattle.book_undo.specs.declared.thing.Thing.TheVariants as thing
use Rattle.book_rows.specs.CommodityBytes.{commodity_bytes, IsCommodity}
use Rattle.book_rows.specs.AccountBytes.{account_bytes, IsAccount}
use Rattle.book_rows.specs.TransactionBytes.{txn_bytes, IsTxn}
use Rattle.book_opening.specs.BookRows.{records_in}
use Rattle.book_opening.specs.Changes.{puts_of}
use Rattle.book_opening.proofs.TableLaws.{slice_fit, table_added, three_behind}
use Rattle.book_opening.proofs.whole.add_ledger.Goals as goal
use Rattle.book_rows.specs.declared.format.RowFormat.TheVariants.{Two}

pub returns-clause-added : goal.returns-clause-added
returns-clause-added c =
    let plain = c.args.plain.now in
    three_behind c.args.changes.now
    (puts_of (records_in (λ it. thing.Commodity it) plain.commodities.entries))
    (puts_of (records_in (λ it. thing.Account it) plain.accounts.entries))
    (puts_of (records_in (λ it. thing.Txn it) plain.transactions.entries))
    c.put_entries.new.changes c.put_accounts.new.changes c.put_entries-2.new.changes
    (table_added 2 commodity_bytes (λ it. thing.Commodity it) (λ _. refl)
    (λ _. refl) plain.commodities.entries c.as_slice.result.now
    c.args.changes.now c.put_entries.new.changes c.as_slice.ensures c.in_ok-put_entries.ensures.added)
    (table_added 3 account_bytes (λ it. thing.Account it) (λ _. refl)
    (λ _. refl) plain.accounts.entries plain.accounts.entries
    c.put_entries.new.changes c.put_accounts.new.changes refl c.in_ok-put_accounts.ensures.added)
    (table_added 4 (txn_bytes Two) (λ it. thing.Txn it) (λ _. refl)
    (λ _. refl) plain.transactions.entries c.as_slice-2.result.now
    c.put_accounts.new.changes c.put_entries-2.new.changes c.as_slice-2.ensures.entries
    c.in_ok-put_entries-2.ensures.added)

pub returns-clause-commodities : goal.returns-clause-commodities
returns-clause-commodities c =
    slice_fit IsCommodity (λ it. thing.Commodity it)
    (λ _ fits. fits) c.args.plain.now.commodities.entries c.as_slice.result.now c.as_slice.ensures
    c.in_ok-put_entries.ensures.fit

pub returns-clause-accounts : goal.returns-clause-accounts
returns-clause-accounts c =
    slice_fit IsAccount (λ it. thing.Account it)
    (λ _ fits. fits) c.args.plain.now.accounts.entries c.args.plain.now.accounts.entries refl
    c.in_ok-put_accounts.ensures.fit

pub returns-clause-transactions : goal.returns-clause-transactions
returns-clause-transactions c =
    slice_fit (IsTxn Two) (λ it. thing.Txn it)
    (λ _ fits. fits) c.args.plain.now.transactions.entries c.as_slice-2.result.now c.as_slice-2.ensures.entries
    c.in_ok-put_entries-2.ensures.fit
