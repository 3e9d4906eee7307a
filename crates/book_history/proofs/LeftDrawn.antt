-- After a statement, a line, a binding or a reconciliation is deleted all numbers are below the next as before.
use Rattle.std.proofs.Common.{ℕ, ◌<◌, All}
use Rattle.book_commodity.specs.Table.{without_entry}
use Rattle.book_commodity.proofs.DrawnLemmas.{all_without}
use Rattle.book_splits.specs.declared.reconciliation.MarkedSplit.{MarkedSplit}
use Rattle.book_splits.specs.declared.reconciliation.Recon.{Recon}
use Rattle.book_statement.specs.declared.binding.Binding.{Binding}
use Rattle.book_statement.specs.declared.held.Held.{Held}
use Rattle.book_statement.specs.declared.line.Line.{Line}
use Rattle.book_undo.specs.Book.{Book}
use Rattle.book_sound.specs.Soundness.{AreDrawn}

pub statement_left_drawn :
    (book : Book) (n next : ℕ) → AreDrawn book next
    → AreDrawn (record book { statements = without_entry n book.statements }) next
statement_left_drawn book n next are = record {
  commodities = are.commodities;
  accounts = are.accounts;
  transactions = are.transactions;
  prices = are.prices;
  schedules = are.schedules;
  statements = all_without (λ (e : ℕ × Held). e.0 < next) n book.statements are.statements;
  lines = are.lines;
  bindings = are.bindings;
  reconciliations = are.reconciliations;
  splits = are.splits;
  marked = are.marked;
  made = are.made;
}

pub line_left_drawn :
    (book : Book) (n next : ℕ) → AreDrawn book next
    → AreDrawn (record book { lines = without_entry n book.lines }) next
line_left_drawn book n next are = record {
  commodities = are.commodities;
  accounts = are.accounts;
  transactions = are.transactions;
  prices = are.prices;
  schedules = are.schedules;
  statements = are.statements;
  lines = all_without (λ (e : ℕ × Line). e.0 < next) n book.lines are.lines;
  bindings = are.bindings;
  reconciliations = are.reconciliations;
  splits = are.splits;
  marked = are.marked;
  made = are.made;
}

pub binding_left_drawn :
    (book : Book) (n next : ℕ) → AreDrawn book next
    → AreDrawn (record book { bindings = without_entry n book.bindings }) next
binding_left_drawn book n next are = record {
  commodities = are.commodities;
  accounts = are.accounts;
  transactions = are.transactions;
  prices = are.prices;
  schedules = are.schedules;
  statements = are.statements;
  lines = are.lines;
  bindings = all_without (λ (e : ℕ × Binding). e.0 < next) n book.bindings are.bindings;
  reconciliations = are.reconciliations;
  splits = are.splits;
  marked = are.marked;
  made = are.made;
}

pub reconciliation_left_drawn :
    (book : Book) (n next : ℕ) → AreDrawn book next
    → AreDrawn (record book { reconciliations = without_entry n book.reconciliations }) next
reconciliation_left_drawn book n next are = record {
  commodities = are.commodities;
  accounts = are.accounts;
  transactions = are.transactions;
  prices = are.prices;
  schedules = are.schedules;
  statements = are.statements;
  lines = are.lines;
  bindings = are.bindings;
  reconciliations = all_without (λ (e : ℕ × Recon). e.0 < next) n book.reconciliations are.reconciliations;
  splits = are.splits;
  marked = all_without (λ (e : ℕ × Recon). All (λ (m : MarkedSplit). m.split < next) e.1.marked) n
      book.reconciliations are.marked;
  made = are.made;
}
