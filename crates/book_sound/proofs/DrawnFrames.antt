-- After a change all numbers are below the next, where those that are put are.
use Rattle.std.proofs.Common.{ℕ, ◌<◌, ◌≤◌, Bool, All, List, [], ◌∷◌, arith}
use Rattle.std.proofs.lemmas.List.Elements.{All-cons, All-head, All-nil, All-tail, All-weaker}
use Rattle.book_commodity.specs.Table.{with_entry, without_entry}
use Rattle.book_commodity.specs.declared.commodity.Commodity.{Commodity}
use Rattle.book_commodity.proofs.DrawnLemmas.{all_with, all_without, drawn_before}
use Rattle.book_accounts.specs.declared.account.Account.{Account}
use Rattle.book_splits.specs.Balance.{splits_of}
use Rattle.book_splits.specs.declared.reconciliation.MarkedSplit.{MarkedSplit}
use Rattle.book_splits.specs.declared.reconciliation.Recon.{Recon}
use Rattle.book_splits.specs.declared.split.Split.{Split}
use Rattle.book_splits.specs.declared.transaction.Txn.{Txn}
use Rattle.book_splits.proofs.ReplacedLemmas.{all_splits_with, all_splits_without}
use Rattle.book_statement.specs.declared.line.Line.{Line}
use Rattle.book_undo.specs.Book.{Book}
use Rattle.book_undo.specs.declared.schedule.Schedule.{Schedule}
use Rattle.book_sound.specs.Dismissal.{dismissed_where}
use Rattle.book_sound.specs.Soundness.{AreDrawn}

-- numbers stay below a greater next one
pub drawn_later : (book : Book) (next later : ℕ) → next ≤ later → AreDrawn book next → AreDrawn book later
drawn_later book next later le are = record {
  commodities = drawn_before next later book.commodities le are.commodities;
  accounts = drawn_before next later book.accounts le are.accounts;
  transactions = drawn_before next later book.transactions le are.transactions;
  prices = drawn_before next later book.prices le are.prices;
  schedules = drawn_before next later book.schedules le are.schedules;
  statements = drawn_before next later book.statements le are.statements;
  lines = drawn_before next later book.lines le are.lines;
  bindings = drawn_before next later book.bindings le are.bindings;
  reconciliations = drawn_before next later book.reconciliations le are.reconciliations;
  splits = All-weaker (λ (split : Split). split.id < next) (λ (split : Split). split.id < later)
      (λ split below. omega (arith, below, le)) (splits_of book.transactions) are.splits;
  marked = All-weaker (λ (e : ℕ × Recon). All (λ (m : MarkedSplit). m.split < next) e.1.marked)
      (λ (e : ℕ × Recon). All (λ (m : MarkedSplit). m.split < later) e.1.marked)
      (λ e all.
      All-weaker (λ (m : MarkedSplit). m.split < next) (λ (m : MarkedSplit). m.split < later)
      (λ m below. omega (arith, below, le)) e.1.marked all) book.reconciliations are.marked;
  made = All-weaker (λ (e : ℕ × Schedule). e.1.timing.made < next) (λ (e : ℕ × Schedule). e.1.timing.made < later)
      (λ e below. omega (arith, below, le)) book.schedules are.made;
}

pub currency_drawn : (book : Book) (n next : ℕ) → AreDrawn book next → AreDrawn (record book { currency = n }) next
currency_drawn book n next are = record {
  commodities = are.commodities;
  accounts = are.accounts;
  transactions = are.transactions;
  prices = are.prices;
  schedules = are.schedules;
  statements = are.statements;
  lines = are.lines;
  bindings = are.bindings;
  reconciliations = are.reconciliations;
  splits = are.splits;
  marked = are.marked;
  made = are.made;
}

pub commodity_drawn :
    (book : Book) (n next : ℕ) (new : Commodity) → n < next → AreDrawn book next
    → AreDrawn (record book { commodities = with_entry n new book.commodities }) next
commodity_drawn book n next new below are = record {
  commodities = all_with (λ (e : ℕ × Commodity). e.0 < next) n new book.commodities below are.commodities;
  accounts = are.accounts;
  transactions = are.transactions;
  prices = are.prices;
  schedules = are.schedules;
  statements = are.statements;
  lines = are.lines;
  bindings = are.bindings;
  reconciliations = are.reconciliations;
  splits = are.splits;
  marked = are.marked;
  made = are.made;
}

pub account_drawn :
    (book : Book) (n next : ℕ) (new : Account) → n < next → AreDrawn book next
    → AreDrawn (record book { accounts = with_entry n new book.accounts }) next
account_drawn book n next new below are = record {
  commodities = are.commodities;
  accounts = all_with (λ (e : ℕ × Account). e.0 < next) n new book.accounts below are.accounts;
  transactions = are.transactions;
  prices = are.prices;
  schedules = are.schedules;
  statements = are.statements;
  lines = are.lines;
  bindings = are.bindings;
  reconciliations = are.reconciliations;
  splits = are.splits;
  marked = are.marked;
  made = are.made;
}

pub account_left_drawn :
    (book : Book) (n next : ℕ) → AreDrawn book next
    → AreDrawn (record book { accounts = without_entry n book.accounts }) next
account_left_drawn book n next are = record {
  commodities = are.commodities;
  accounts = all_without (λ (e : ℕ × Account). e.0 < next) n book.accounts are.accounts;
  transactions = are.transactions;
  prices = are.prices;
  schedules = are.schedules;
  statements = are.statements;
  lines = are.lines;
  bindings = are.bindings;
  reconciliations = are.reconciliations;
  splits = are.splits;
  marked = are.marked;
  made = are.made;
}

-- a transaction, under a drawn number or in the place of one
pub transaction_drawn :
    (book : Book) (n next : ℕ) (new : Txn) → n < next → All (λ (split : Split). split.id < next) new.splits
    → AreDrawn book next
    → AreDrawn (record book { transactions = with_entry n new book.transactions }) next
transaction_drawn book n next new below ids are = record {
  commodities = are.commodities;
  accounts = are.accounts;
  transactions = all_with (λ (e : ℕ × Txn). e.0 < next) n new book.transactions below are.transactions;
  prices = are.prices;
  schedules = are.schedules;
  statements = are.statements;
  lines = are.lines;
  bindings = are.bindings;
  reconciliations = are.reconciliations;
  splits = all_splits_with (λ (split : Split). split.id < next) n new book.transactions ids are.splits;
  marked = are.marked;
  made = are.made;
}

pub transaction_left_drawn :
    (book : Book) (n next : ℕ) → AreDrawn book next
    → AreDrawn (record book { transactions = without_entry n book.transactions }) next
transaction_left_drawn book n next are = record {
  commodities = are.commodities;
  accounts = are.accounts;
  transactions = all_without (λ (e : ℕ × Txn). e.0 < next) n book.transactions are.transactions;
  prices = are.prices;
  schedules = are.schedules;
  statements = are.statements;
  lines = are.lines;
  bindings = are.bindings;
  reconciliations = are.reconciliations;
  splits = all_splits_without (λ (split : Split). split.id < next) n book.transactions are.splits;
  marked = are.marked;
  made = are.made;
}

dismissed_drawn :
    (test : Line → Bool) (next : ℕ) (lines : List (ℕ × Line)) → All (λ (e : ℕ × Line). e.0 < next) lines
    → All (λ (e : ℕ × Line). e.0 < next) (dismissed_where test lines)
dismissed_drawn test next [] all = All-nil (λ (e : ℕ × Line). e.0 < next)
dismissed_drawn test next (e ∷ lines) all =
    let Below : ℕ × Line → Type 0 = λ x. x.0 < next in
    All-cons Below _ (dismissed_where test lines) (All-head Below e lines all)
    (dismissed_drawn test next lines (All-tail Below e lines all))

-- lines of which some are dismissed
pub dismissed_lines_drawn :
    (book : Book) (test : Line → Bool) (next : ℕ) → AreDrawn book next
    → AreDrawn (record book { lines = dismissed_where test book.lines }) next
dismissed_lines_drawn book test next are = record {
  commodities = are.commodities;
  accounts = are.accounts;
  transactions = are.transactions;
  prices = are.prices;
  schedules = are.schedules;
  statements = are.statements;
  lines = dismissed_drawn test next book.lines are.lines;
  bindings = are.bindings;
  reconciliations = are.reconciliations;
  splits = are.splits;
  marked = are.marked;
  made = are.made;
}
