-- After a price, a schedule, a statement, a line, a binding or a reconciliation is put or taken all numbers are below
-- the next, where those that are put are.
use Rattle.std.proofs.Common.{ℕ, ◌<◌, All}
use Rattle.book_commodity.specs.Table.{with_entry, without_entry}
use Rattle.book_commodity.proofs.DrawnLemmas.{all_with, all_without}
use Rattle.book_splits.specs.declared.reconciliation.MarkedSplit.{MarkedSplit}
use Rattle.book_splits.specs.declared.reconciliation.Recon.{Recon}
use Rattle.book_prices.specs.declared.price.Price.{Price}
use Rattle.book_statement.specs.declared.binding.Binding.{Binding}
use Rattle.book_statement.specs.declared.held.Held.{Held}
use Rattle.book_statement.specs.declared.line.Line.{Line}
use Rattle.book_undo.specs.Book.{Book}
use Rattle.book_undo.specs.declared.schedule.Schedule.{Schedule}
use Rattle.book_sound.specs.Soundness.{AreDrawn}

pub price_drawn :
    (book : Book) (n next : ℕ) (new : Price) → n < next → AreDrawn book next
    → AreDrawn (record book { prices = with_entry n new book.prices }) next
price_drawn book n next new below are = record {
  commodities = are.commodities;
  accounts = are.accounts;
  transactions = are.transactions;
  prices = all_with (λ (e : ℕ × Price). e.0 < next) n new book.prices below are.prices;
  schedules = are.schedules;
  statements = are.statements;
  lines = are.lines;
  bindings = are.bindings;
  reconciliations = are.reconciliations;
  splits = are.splits;
  marked = are.marked;
  made = are.made;
}

pub price_left_drawn :
    (book : Book) (n next : ℕ) → AreDrawn book next
    → AreDrawn (record book { prices = without_entry n book.prices }) next
price_left_drawn book n next are = record {
  commodities = are.commodities;
  accounts = are.accounts;
  transactions = are.transactions;
  prices = all_without (λ (e : ℕ × Price). e.0 < next) n book.prices are.prices;
  schedules = are.schedules;
  statements = are.statements;
  lines = are.lines;
  bindings = are.bindings;
  reconciliations = are.reconciliations;
  splits = are.splits;
  marked = are.marked;
  made = are.made;
}

pub schedule_drawn :
    (book : Book) (n next : ℕ) (new : Schedule) → n < next → new.timing.made < next → AreDrawn book next
    → AreDrawn (record book { schedules = with_entry n new book.schedules }) next
schedule_drawn book n next new below made are = record {
  commodities = are.commodities;
  accounts = are.accounts;
  transactions = are.transactions;
  prices = are.prices;
  schedules = all_with (λ (e : ℕ × Schedule). e.0 < next) n new book.schedules below are.schedules;
  statements = are.statements;
  lines = are.lines;
  bindings = are.bindings;
  reconciliations = are.reconciliations;
  splits = are.splits;
  marked = are.marked;
  made = all_with (λ (e : ℕ × Schedule). e.1.timing.made < next) n new book.schedules made are.made;
}

pub schedule_left_drawn :
    (book : Book) (n next : ℕ) → AreDrawn book next
    → AreDrawn (record book { schedules = without_entry n book.schedules }) next
schedule_left_drawn book n next are = record {
  commodities = are.commodities;
  accounts = are.accounts;
  transactions = are.transactions;
  prices = are.prices;
  schedules = all_without (λ (e : ℕ × Schedule). e.0 < next) n book.schedules are.schedules;
  statements = are.statements;
  lines = are.lines;
  bindings = are.bindings;
  reconciliations = are.reconciliations;
  splits = are.splits;
  marked = are.marked;
  made = all_without (λ (e : ℕ × Schedule). e.1.timing.made < next) n book.schedules are.made;
}

pub statement_drawn :
    (book : Book) (n next : ℕ) (new : Held) → n < next → AreDrawn book next
    → AreDrawn (record book { statements = with_entry n new book.statements }) next
statement_drawn book n next new below are = record {
  commodities = are.commodities;
  accounts = are.accounts;
  transactions = are.transactions;
  prices = are.prices;
  schedules = are.schedules;
  statements = all_with (λ (e : ℕ × Held). e.0 < next) n new book.statements below are.statements;
  lines = are.lines;
  bindings = are.bindings;
  reconciliations = are.reconciliations;
  splits = are.splits;
  marked = are.marked;
  made = are.made;
}

pub line_drawn :
    (book : Book) (n next : ℕ) (new : Line) → n < next → AreDrawn book next
    → AreDrawn (record book { lines = with_entry n new book.lines }) next
line_drawn book n next new below are = record {
  commodities = are.commodities;
  accounts = are.accounts;
  transactions = are.transactions;
  prices = are.prices;
  schedules = are.schedules;
  statements = are.statements;
  lines = all_with (λ (e : ℕ × Line). e.0 < next) n new book.lines below are.lines;
  bindings = are.bindings;
  reconciliations = are.reconciliations;
  splits = are.splits;
  marked = are.marked;
  made = are.made;
}

pub binding_drawn :
    (book : Book) (n next : ℕ) (new : Binding) → n < next → AreDrawn book next
    → AreDrawn (record book { bindings = with_entry n new book.bindings }) next
binding_drawn book n next new below are = record {
  commodities = are.commodities;
  accounts = are.accounts;
  transactions = are.transactions;
  prices = are.prices;
  schedules = are.schedules;
  statements = are.statements;
  lines = are.lines;
  bindings = all_with (λ (e : ℕ × Binding). e.0 < next) n new book.bindings below are.bindings;
  reconciliations = are.reconciliations;
  splits = are.splits;
  marked = are.marked;
  made = are.made;
}

pub reconciliation_drawn :
    (book : Book) (n next : ℕ) (new : Recon) → n < next → All (λ (m : MarkedSplit). m.split < next) new.marked
    → AreDrawn book next
    → AreDrawn (record book { reconciliations = with_entry n new book.reconciliations }) next
reconciliation_drawn book n next new below marked are = record {
  commodities = are.commodities;
  accounts = are.accounts;
  transactions = are.transactions;
  prices = are.prices;
  schedules = are.schedules;
  statements = are.statements;
  lines = are.lines;
  bindings = are.bindings;
  reconciliations = all_with (λ (e : ℕ × Recon). e.0 < next) n new book.reconciliations below are.reconciliations;
  splits = are.splits;
  marked = all_with (λ (e : ℕ × Recon). All (λ (m : MarkedSplit). m.split < next) e.1.marked) n new
      book.reconciliations marked are.marked;
  made = are.made;
}
