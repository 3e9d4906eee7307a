-- The whole book. No sum, balance or register stands in it: these are computed from its transactions.
use Rattle.std.specs.Prelude.{ℕ, List, [], Option, option_map}
use Rattle.book_commodity.specs.Table.{Rises, value_of, with_entry, without_entry}
use Rattle.book_commodity.specs.declared.commodity.Commodity.{Commodity}
use Rattle.book_accounts.specs.declared.account.Account.{Account}
use Rattle.book_splits.specs.declared.transaction.Txn.{Txn}
use Rattle.book_prices.specs.declared.price.Price.{Price}
use Rattle.book_undo.specs.declared.schedule.Schedule.{Schedule}
use Rattle.book_statement.specs.declared.held.Held.{Held}
use Rattle.book_statement.specs.declared.line.Line.{Line}
use Rattle.book_statement.specs.declared.binding.Binding.{Binding}
use Rattle.book_splits.specs.declared.reconciliation.Recon.{Recon}
use Rattle.book_undo.specs.declared.plain.Plain.{Plain}
use Rattle.book_undo.specs.declared.thing.Thing.{Thing}
use Rattle.book_undo.specs.declared.thing.Thing.TheVariants as thing
use Rattle.book_undo.specs.declared.thing.ThingKind.{ThingKind}
use Rattle.book_undo.specs.declared.thing.ThingKind.TheVariants as kind

-- A book: its commodities, accounts, transactions, prices, schedules, statements, lines of statements, bindings and
-- reconciliations, each under a number and by rising numbers, and the commodity that is its currency (GnuCash SQL
-- schema, tables commodities, accounts, transactions, prices and schedxactions; GnuCash Manual, reconciling accounts).
pub record Book : Type 0 where
  pub commodities : List (ℕ × Commodity)
  pub accounts : List (ℕ × Account)
  pub transactions : List (ℕ × Txn)
  pub prices : List (ℕ × Price)
  pub schedules : List (ℕ × Schedule)
  pub statements : List (ℕ × Held)
  pub lines : List (ℕ × Line)
  pub bindings : List (ℕ × Binding)
  pub reconciliations : List (ℕ × Recon)
  pub currency : ℕ

-- The book with nothing in it.
abbrev pub empty_book : ℕ → Book
empty_book currency = record {
  commodities = [];
  accounts = [];
  transactions = [];
  prices = [];
  schedules = [];
  statements = [];
  lines = [];
  bindings = [];
  reconciliations = [];
  currency = currency;
}

-- The book that the tables hold.
abbrev pub book_of : Plain → Book
book_of plain = record {
  commodities = plain.commodities.entries;
  accounts = plain.accounts.entries;
  transactions = plain.transactions.entries;
  prices = plain.prices.entries;
  schedules = plain.schedules.entries;
  statements = plain.statements.entries;
  lines = plain.lines.entries;
  bindings = plain.bindings.entries;
  reconciliations = plain.reconciliations.entries;
  currency = plain.currency;
}

-- The thing of a kind that stands under a number, if there is one.
abbrev pub thing_at : ThingKind → ℕ → Book → Option Thing
thing_at kind.Commodity number book =
    option_map (λ commodity. thing.Commodity commodity) (value_of number book.commodities)
thing_at kind.Account number book =
    option_map (λ account. thing.Account account) (value_of number book.accounts)
thing_at kind.Txn number book =
    option_map (λ transaction. thing.Txn transaction) (value_of number book.transactions)
thing_at kind.Price number book =
    option_map (λ price. thing.Price price) (value_of number book.prices)
thing_at kind.Schedule number book =
    option_map (λ schedule. thing.Schedule schedule) (value_of number book.schedules)
thing_at kind.Held number book =
    option_map (λ statement. thing.Held statement) (value_of number book.statements)
thing_at kind.Line number book =
    option_map (λ line. thing.Line line) (value_of number book.lines)
thing_at kind.Binding number book =
    option_map (λ binding. thing.Binding binding) (value_of number book.bindings)
thing_at kind.Recon number book =
    option_map (λ reconciliation. thing.Recon reconciliation) (value_of number book.reconciliations)

-- The book with another currency.
abbrev pub with_currency : ℕ → Book → Book
with_currency currency book = record book { currency = currency }

-- The book with a thing under a number, instead of one of its kind that stood there.
abbrev pub with_thing : ℕ → Thing → Book → Book
with_thing number (thing.Commodity commodity) book =
    record book { commodities = with_entry number commodity book.commodities }
with_thing number (thing.Account account) book =
    record book { accounts = with_entry number account book.accounts }
with_thing number (thing.Txn transaction) book =
    record book { transactions = with_entry number transaction book.transactions }
with_thing number (thing.Price price) book =
    record book { prices = with_entry number price book.prices }
with_thing number (thing.Schedule schedule) book =
    record book { schedules = with_entry number schedule book.schedules }
with_thing number (thing.Held statement) book =
    record book { statements = with_entry number statement book.statements }
with_thing number (thing.Line line) book =
    record book { lines = with_entry number line book.lines }
with_thing number (thing.Binding binding) book =
    record book { bindings = with_entry number binding book.bindings }
with_thing number (thing.Recon reconciliation) book =
    record book { reconciliations = with_entry number reconciliation book.reconciliations }

-- The book without the thing of a kind under a number.
abbrev pub without_thing : ThingKind → ℕ → Book → Book
without_thing kind.Commodity number book =
    record book { commodities = without_entry number book.commodities }
without_thing kind.Account number book =
    record book { accounts = without_entry number book.accounts }
without_thing kind.Txn number book =
    record book { transactions = without_entry number book.transactions }
without_thing kind.Price number book =
    record book { prices = without_entry number book.prices }
without_thing kind.Schedule number book =
    record book { schedules = without_entry number book.schedules }
without_thing kind.Held number book =
    record book { statements = without_entry number book.statements }
without_thing kind.Line number book =
    record book { lines = without_entry number book.lines }
without_thing kind.Binding number book =
    record book { bindings = without_entry number book.bindings }
without_thing kind.Recon number book =
    record book { reconciliations = without_entry number book.reconciliations }

-- The numbers of each table rise, so that none stands twice.
pub record IsRising (book : Book) : Type 0 where
  pub commodities : Rises book.commodities
  pub accounts : Rises book.accounts
  pub transactions : Rises book.transactions
  pub prices : Rises book.prices
  pub schedules : Rises book.schedules
  pub statements : Rises book.statements
  pub lines : Rises book.lines
  pub bindings : Rises book.bindings
  pub reconciliations : Rises book.reconciliations
