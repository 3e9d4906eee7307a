-- When a book is sound: each thing keeps the rules of its kind, and so does the whole book.
use Rattle.std.specs.Prelude.{ℕ, ◌<◌, ◌≤◌, All, IsTrue, is_some, length}
use Rattle.book_commodity.specs.CommodityRules.{commodity_rules}
use Rattle.book_commodity.specs.Currency.{is_currency_of}
use Rattle.book_commodity.specs.Rules.{IsSoundTable}
use Rattle.book_commodity.specs.Table.{value_of}
use Rattle.book_accounts.specs.AccountRules.{account_rules, root_of}
use Rattle.book_splits.specs.Balance.{splits_of}
use Rattle.book_undo.specs.Book.{Book}
use Rattle.book_sound.specs.BindingRules.{binding_rules}
use Rattle.book_sound.specs.LineRules.{line_rules}
use Rattle.book_sound.specs.MarkedTransactionRules.{marked_transaction_rules}
use Rattle.book_sound.specs.PriceRules.{price_rules}
use Rattle.book_sound.specs.ReconciliationRules.{reconciliation_rules}
use Rattle.book_sound.specs.ScheduleRules.{schedule_rules}
use Rattle.book_sound.specs.StatementRules.{statement_rules}

-- A book is sound: the things of each of its nine tables keep the rules of their kind, and no table has more of them
-- than its limit, nor the transactions more than 1,000,000 splits (limits of this project); there is a root; and the
-- book's currency is one of its commodities, and a currency (GnuCash Manual, book currency).
pub record IsSoundBook (book : Book) : Type 0 where
  pub commodities : IsSoundTable (commodity_rules book.commodities) 10000 book.commodities
  pub accounts : IsSoundTable (account_rules book.commodities book.accounts) 10000 book.accounts
  pub transactions :
      IsSoundTable (marked_transaction_rules book.commodities book.accounts book.reconciliations book.transactions)
      200000 book.transactions
  pub prices : IsSoundTable (price_rules book.commodities book.prices) 1000000 book.prices
  pub schedules : IsSoundTable (schedule_rules book.commodities book.accounts) 1000 book.schedules
  pub statements : IsSoundTable (statement_rules book.accounts book.statements) 100000 book.statements
  pub lines :
      IsSoundTable (line_rules book.accounts book.statements book.transactions book.lines) 1000000 book.lines
  pub bindings : IsSoundTable (binding_rules book.accounts book.bindings) 10000 book.bindings
  pub reconciliations : IsSoundTable (reconciliation_rules book.accounts) 100000 book.reconciliations
  pub few_splits : length (splits_of book.transactions) ≤ 1000000
  pub root : IsTrue (is_some (root_of book.accounts))
  pub currency : IsTrue (is_currency_of (value_of book.currency book.commodities))

-- Every number is below the next, which therefore is of nothing: that of each thing and of each split, also in the
-- lists of reconciliations, where it may be that of a split that is gone. So is the count that each schedule has made.
pub record AreDrawn (book : Book) (next : ℕ) : Type 0 where
  pub commodities : All (λ entry. entry.0 < next) book.commodities
  pub accounts : All (λ entry. entry.0 < next) book.accounts
  pub transactions : All (λ entry. entry.0 < next) book.transactions
  pub prices : All (λ entry. entry.0 < next) book.prices
  pub schedules : All (λ entry. entry.0 < next) book.schedules
  pub statements : All (λ entry. entry.0 < next) book.statements
  pub lines : All (λ entry. entry.0 < next) book.lines
  pub bindings : All (λ entry. entry.0 < next) book.bindings
  pub reconciliations : All (λ entry. entry.0 < next) book.reconciliations
  pub splits : All (λ split. split.id < next) (splits_of book.transactions)
  pub marked : All (λ entry. All (λ marked. marked.split < next) entry.1.marked) book.reconciliations
  pub made : All (λ entry. entry.1.timing.made < next) book.schedules
