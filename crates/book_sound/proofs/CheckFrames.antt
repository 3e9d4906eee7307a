-- What the check of a transaction sees of the commodities and of the accounts.
use Rattle.std.proofs.Common.{◌≡◌, ℕ, true, List, IsTrue}
use Rattle.std.proofs.Common.{is_none, ap}
use Rattle.book_commodity.specs.Table.{value_of}
use Rattle.book_commodity.specs.declared.commodity.Commodity.{Commodity}
use Rattle.book_commodity.proofs.DrawnLemmas.{Stays}
use Rattle.book_accounts.specs.declared.account.Account.{Account}
use Rattle.book_splits.specs.declared.transaction.Txn.{Txn}
use Rattle.book_splits.proofs.CheckLemmas.{KeepsCheck, none_of_parts, parts_of}
use Rattle.book_splits.proofs.TransactionRuleLemmas.{Suits, is_none_of, currency_kept, splits_kept}
use Rattle.book_sound.specs.Naming.{is_on_some}
use Rattle.book_sound.specs.Tests.{passes_check}

-- ---- where commodities are added

-- The check sees of the commodities only the currency that is there.
pub check_beside :
    (old new : List (ℕ × Commodity)) (accounts : List (ℕ × Account)) (transaction : Txn) → Stays old new
    → IsTrue (passes_check old accounts transaction) → IsTrue (passes_check new accounts transaction)
check_beside old new accounts t stays passes =
    let is = parts_of old accounts t (is_none_of _ passes) in
    let currency = currency_kept t.currency (value_of t.currency old) (value_of t.currency new)
    (stays.each t.currency) is.currency in
    let later : KeepsCheck new accounts t =
    record { count = is.count; currency = currency; splits = is.splits; balance = is.balance } in
    ap is_none (none_of_parts new accounts t later)

-- ---- where accounts change

-- The check sees of the accounts only those of its splits.
pub check_on :
    (commodities : List (ℕ × Commodity)) (old new : List (ℕ × Account)) (transaction : Txn)
    → ((account : ℕ) → is_on_some account transaction.splits ≡ true
    → Suits (value_of account old) (value_of account new))
    → IsTrue (passes_check commodities old transaction) → IsTrue (passes_check commodities new transaction)
check_on commodities old new t suits passes =
    let is = parts_of commodities old t (is_none_of _ passes) in
    let splits = splits_kept old new t.currency 0 t.splits suits is.splits in
    let later : KeepsCheck commodities new t =
    record { count = is.count; currency = is.currency; splits = splits; balance = is.balance } in
    ap is_none (none_of_parts commodities new t later)
