-- The rules on voided transactions, which the commands keep that change a transaction or one of its splits.
use Rattle.std.specs.Prelude.{ℕ, List, Option, Some, None, find, is_none, is_some}
use Rattle.book_commodity.specs.Rules.{broken_where}
use Rattle.book_splits.specs.TransactionRules.{is_among, numbers_of}
use Rattle.book_splits.specs.declared.transaction.Txn.{Txn}
use Rattle.book_command.specs.declared.rule.Rule.{Rule}
use Rattle.book_command.specs.declared.rule.Rule.TheVariants.{NotVoided, Voided}

-- The transaction under a number is voided: so it is only looked at, or brought back (GnuCash Manual, voiding a
-- transaction).
abbrev pub voided_transaction : ℕ → Txn → Option Rule
voided_transaction number transaction = broken_where (is_some transaction.voided) (Voided number)

-- The transaction under a number is not voided.
abbrev pub not_voided : ℕ → Txn → Option Rule
not_voided number transaction = broken_where (is_none transaction.voided) (NotVoided number)

-- The transaction that has the split of a number, under its own number, if there is one.
abbrev pub holder_of : ℕ → List (ℕ × Txn) → Option (ℕ × Txn)
holder_of split transactions = find (λ entry. is_among (numbers_of entry.1.splits) split) transactions

-- The transaction is voided, if there is one.
abbrev pub voided_holder : Option (ℕ × Txn) → Option Rule
voided_holder None = None
voided_holder (Some entry) = voided_transaction entry.0 entry.1

-- The transaction that has the split of a number is voided.
abbrev pub voided_transaction_of : List (ℕ × Txn) → ℕ → Option Rule
voided_transaction_of transactions split = voided_holder (holder_of split transactions)
