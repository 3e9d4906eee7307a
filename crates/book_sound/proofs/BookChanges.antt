-- A book stays sound where a price, a schedule, a statement, a line, a binding or a reconciliation is put or taken, and
-- where the splits of a transaction are marked.
use Rattle.std.proofs.Common.{◌≡◌, ◌≢◌, ℕ, ◌≤◌, length, Some, None, find, true, false}
use Rattle.book_commodity.specs.Rules.{AllHold}
use Rattle.book_commodity.specs.Table.{value_of, with_entry, without_entry}
use Rattle.book_commodity.proofs.DrawnLemmas.{drawn_free, stays_with}
use Rattle.book_splits.specs.declared.reconciliation.Recon.{Recon}
use Rattle.book_prices.specs.Rate.{is_same}
use Rattle.book_prices.specs.declared.price.Price.{Price}
use Rattle.book_statement.specs.declared.binding.Binding.{Binding}
use Rattle.book_statement.specs.declared.held.Held.{Held}
use Rattle.book_statement.specs.declared.line.Line.{Line}
use Rattle.book_statement.specs.declared.line_state.LineState.{LineState}
use Rattle.book_statement.specs.declared.line_state.LineState.TheVariants.{Open}
use Rattle.book_undo.specs.Book.{Book}
use Rattle.book_undo.specs.declared.schedule.Schedule.{Schedule}
use Rattle.book_sound.specs.BindingRules.{is_same_binding, takes_splits}
use Rattle.book_sound.specs.LineRules.{fits_in_state, has_same_key, is_over_limit, shares_split}
use Rattle.book_sound.specs.ReconciliationRules.{reconciliation_rules}
use Rattle.book_sound.specs.ScheduleRules.{schedule_rules}
use Rattle.book_sound.specs.Soundness.{IsSoundBook, AreDrawn}
use Rattle.book_sound.specs.StatementRules.{is_same_statement}
use Rattle.book_sound.specs.Tests.{is_live}
use Rattle.book_sound.proofs.LineFrames.{lines_under}
use Rattle.book_sound.proofs.OwnChanges.{IsOfPair, IsPrice, bindings_put, bindings_replaced, lines_moved, lines_put}
use Rattle.book_sound.proofs.OwnChanges.{prices_put, prices_replaced, prices_taken, reconciliations_put}
use Rattle.book_sound.proofs.OwnChanges.{schedules_put, schedules_taken, statements_put}
use Rattle.book_sound.proofs.TransactionFrames.{transactions_under}

-- ---- prices

pub price_put :
    (book : Book) (n : ℕ) (new : Price) → AreDrawn book n
    → find (λ (e : ℕ × Price). is_same new e.1) book.prices ≡ None → IsPrice book.commodities new
    → length (with_entry n new book.prices) ≤ 1000000 → IsSoundBook book
    → IsSoundBook (record book { prices = with_entry n new book.prices })
price_put book n new are free fit few is = record {
  commodities = is.commodities;
  accounts = is.accounts;
  transactions = is.transactions;
  prices = prices_put book.commodities n new 1000000 book.prices are.prices free fit few is.prices;
  schedules = is.schedules;
  statements = is.statements;
  lines = is.lines;
  bindings = is.bindings;
  reconciliations = is.reconciliations;
  few_splits = is.few_splits;
  root = is.root;
  currency = is.currency;
}

pub price_replaced :
    (book : Book) (n : ℕ) (old new : Price) → value_of n book.prices ≡ Some old → IsOfPair old new
    → IsPrice book.commodities new
    → length (with_entry n new book.prices) ≤ 1000000 → IsSoundBook book
    → IsSoundBook (record book { prices = with_entry n new book.prices })
price_replaced book n old new found same fit few is = record {
  commodities = is.commodities;
  accounts = is.accounts;
  transactions = is.transactions;
  prices = prices_replaced book.commodities n old new 1000000 book.prices found same fit few is.prices;
  schedules = is.schedules;
  statements = is.statements;
  lines = is.lines;
  bindings = is.bindings;
  reconciliations = is.reconciliations;
  few_splits = is.few_splits;
  root = is.root;
  currency = is.currency;
}

pub price_taken :
    (book : Book) (n : ℕ) → IsSoundBook book
    → IsSoundBook (record book { prices = without_entry n book.prices })
price_taken book n is = record {
  commodities = is.commodities;
  accounts = is.accounts;
  transactions = is.transactions;
  prices = prices_taken book.commodities n 1000000 book.prices is.prices;
  schedules = is.schedules;
  statements = is.statements;
  lines = is.lines;
  bindings = is.bindings;
  reconciliations = is.reconciliations;
  few_splits = is.few_splits;
  root = is.root;
  currency = is.currency;
}

-- ---- schedules, under a drawn number or in the place of one

pub schedule_put :
    (book : Book) (n : ℕ) (new : Schedule) → AllHold (schedule_rules book.commodities book.accounts n new)
    → length (with_entry n new book.schedules) ≤ 1000 → IsSoundBook book
    → IsSoundBook (record book { schedules = with_entry n new book.schedules })
schedule_put book n new own few is = record {
  commodities = is.commodities;
  accounts = is.accounts;
  transactions = is.transactions;
  prices = is.prices;
  schedules = schedules_put book.commodities book.accounts n new 1000 book.schedules own few is.schedules;
  statements = is.statements;
  lines = is.lines;
  bindings = is.bindings;
  reconciliations = is.reconciliations;
  few_splits = is.few_splits;
  root = is.root;
  currency = is.currency;
}

pub schedule_taken :
    (book : Book) (n : ℕ) → IsSoundBook book
    → IsSoundBook (record book { schedules = without_entry n book.schedules })
schedule_taken book n is = record {
  commodities = is.commodities;
  accounts = is.accounts;
  transactions = is.transactions;
  prices = is.prices;
  schedules = schedules_taken book.commodities book.accounts n 1000 book.schedules is.schedules;
  statements = is.statements;
  lines = is.lines;
  bindings = is.bindings;
  reconciliations = is.reconciliations;
  few_splits = is.few_splits;
  root = is.root;
  currency = is.currency;
}

-- ---- statements

pub statement_put :
    (book : Book) (n : ℕ) (new : Held) → AreDrawn book n
    → find (λ (e : ℕ × Held). is_same_statement new e.1) book.statements ≡ None
    → is_live book.accounts new.account ≡ true
    → length (with_entry n new book.statements) ≤ 100000 → IsSoundBook book
    → IsSoundBook (record book { statements = with_entry n new book.statements })
statement_put book n new are free live few is =
    let later = with_entry n new book.statements in
    let stays = stays_with n new book.statements (drawn_free n book.statements are.statements) in
    record {
      commodities = is.commodities;
      accounts = is.accounts;
      transactions = is.transactions;
      prices = is.prices;
      schedules = is.schedules;
      statements = statements_put book.accounts n new 100000 book.statements are.statements free live few is.statements;
      lines = lines_under book.accounts book.statements later book.transactions 1000000 book.lines stays is.lines;
      bindings = is.bindings;
      reconciliations = is.reconciliations;
      few_splits = is.few_splits;
      root = is.root;
      currency = is.currency;
    }

-- ---- lines

-- What a line keeps that is imported: it is open.
pub record IsImported (book : Book) (new : Line) : Type 0 where
  pub free : find (λ (e : ℕ × Line). has_same_key new e.1) book.lines ≡ None
  pub account : is_live book.accounts new.account ≡ true
  pub statement : is_live book.statements new.statement ≡ true
  pub amount : is_over_limit new.body.amount ≡ false
  pub is_open : new.state ≡ Open

pub line_put :
    (book : Book) (n : ℕ) (new : Line) → AreDrawn book n → IsImported book new
    → length (with_entry n new book.lines) ≤ 1000000 → IsSoundBook book
    → IsSoundBook (record book { lines = with_entry n new book.lines })
line_put book n new are fit few is = record {
  commodities = is.commodities;
  accounts = is.accounts;
  transactions = is.transactions;
  prices = is.prices;
  schedules = is.schedules;
  statements = is.statements;
  lines = lines_put book.accounts book.statements book.transactions n new 1000000 book.lines are.lines fit.free
      fit.account fit.statement fit.amount fit.is_open few is.lines;
  bindings = is.bindings;
  reconciliations = is.reconciliations;
  few_splits = is.few_splits;
  root = is.root;
  currency = is.currency;
}

-- a line takes another state, as which it fits, and in which no other line is matched with its split
pub line_moved :
    (book : Book) (n : ℕ) (old : Line) (state : LineState) → value_of n book.lines ≡ Some old
    → fits_in_state book.transactions old state ≡ true
    → ((k : ℕ) (x : Line) → k ≢ n → value_of k book.lines ≡ Some x
    → shares_split (record old { state = state }) x ≡ false)
    → IsSoundBook book
    → IsSoundBook (record book { lines = with_entry n (record old { state = state }) book.lines })
line_moved book n old state found fits apart is = record {
  commodities = is.commodities;
  accounts = is.accounts;
  transactions = is.transactions;
  prices = is.prices;
  schedules = is.schedules;
  statements = is.statements;
  lines = lines_moved book.accounts book.statements book.transactions n old state 1000000 book.lines found fits apart
      is.lines;
  bindings = is.bindings;
  reconciliations = is.reconciliations;
  few_splits = is.few_splits;
  root = is.root;
  currency = is.currency;
}

-- ---- bindings

pub binding_put :
    (book : Book) (n : ℕ) (new : Binding) → AreDrawn book n
    → find (λ (e : ℕ × Binding). is_same_binding new e.1) book.bindings ≡ None
    → takes_splits (value_of new.account book.accounts) ≡ true
    → length (with_entry n new book.bindings) ≤ 10000 → IsSoundBook book
    → IsSoundBook (record book { bindings = with_entry n new book.bindings })
binding_put book n new are free takes few is = record {
  commodities = is.commodities;
  accounts = is.accounts;
  transactions = is.transactions;
  prices = is.prices;
  schedules = is.schedules;
  statements = is.statements;
  lines = is.lines;
  bindings = bindings_put book.accounts n new 10000 book.bindings are.bindings free takes few is.bindings;
  reconciliations = is.reconciliations;
  few_splits = is.few_splits;
  root = is.root;
  currency = is.currency;
}

pub binding_replaced :
    (book : Book) (n : ℕ) (old new : Binding) → value_of n book.bindings ≡ Some old → new.text ≡ old.text
    → takes_splits (value_of new.account book.accounts) ≡ true
    → length (with_entry n new book.bindings) ≤ 10000 → IsSoundBook book
    → IsSoundBook (record book { bindings = with_entry n new book.bindings })
binding_replaced book n old new found same takes few is = record {
  commodities = is.commodities;
  accounts = is.accounts;
  transactions = is.transactions;
  prices = is.prices;
  schedules = is.schedules;
  statements = is.statements;
  lines = is.lines;
  bindings = bindings_replaced book.accounts n old new 10000 book.bindings found same takes few is.bindings;
  reconciliations = is.reconciliations;
  few_splits = is.few_splits;
  root = is.root;
  currency = is.currency;
}

-- ---- reconciliations

pub reconciliation_put :
    (book : Book) (n : ℕ) (new : Recon) → AreDrawn book n → AllHold (reconciliation_rules book.accounts n new)
    → length (with_entry n new book.reconciliations) ≤ 100000 → IsSoundBook book
    → IsSoundBook (record book { reconciliations = with_entry n new book.reconciliations })
reconciliation_put book n new are own few is =
    let later = with_entry n new book.reconciliations in
    let stays = stays_with n new book.reconciliations (drawn_free n book.reconciliations are.reconciliations) in
    record {
      commodities = is.commodities;
      accounts = is.accounts;
      transactions = transactions_under book.commodities book.accounts book.reconciliations later 200000
          book.transactions stays is.transactions;
      prices = is.prices;
      schedules = is.schedules;
      statements = is.statements;
      lines = is.lines;
      bindings = is.bindings;
      reconciliations = reconciliations_put book.accounts n new 100000 book.reconciliations own few is.reconciliations;
      few_splits = is.few_splits;
      root = is.root;
      currency = is.currency;
    }
