-- After a change of the accounts, those that have splits take them as before.
use Rattle.std.proofs.Common.{ℕ, List, refl}
use Rattle.book_commodity.specs.Table.{value_of}
use Rattle.book_commodity.proofs.DrawnLemmas.{Stays}
use Rattle.book_accounts.specs.declared.account.Account.{Account}
use Rattle.book_splits.proofs.TransactionRuleLemmas.{Suits, TakesAs}

-- an account takes splits as itself
pub takes_as_itself : (account : Account) → TakesAs account account
takes_as_itself account = record { kind = refl; commodity = refl; basis = refl; placeholder = λ still. still }

-- where all that stood still stands
pub suits_stays : (old new : List (ℕ × Account)) (n : ℕ) → Stays old new → Suits (value_of n old) (value_of n new)
suits_stays old new n stays =
    record { each = λ account there. (account, stays.each n account there, takes_as_itself account) }
