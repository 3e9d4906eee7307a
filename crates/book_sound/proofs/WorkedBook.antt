-- A small book of which worked rows ask.
use Rattle.std.proofs.Common.{ℕ, ℤ, pos, negsuc, Bool, true, false, List, [], ◌∷◌, Option, Some, None, codes}
use Rattle.book_commodity.specs.declared.commodity.Commodity.{Commodity}
use Rattle.book_accounts.specs.declared.account.Account.{Account}
use Rattle.book_accounts.specs.declared.kind.AccountKind.{AccountKind}
use Rattle.book_accounts.specs.declared.kind.AccountKind.TheVariants.{Root, Asset, Bank, Expense}
use Rattle.book_splits.specs.declared.reconciliation.Recon.{Recon}
use Rattle.book_splits.specs.declared.split.Mark.{Mark}
use Rattle.book_splits.specs.declared.split.Mark.TheVariants.{New, Cleared, Reconciled}
use Rattle.book_splits.specs.declared.split.Split.{Split}
use Rattle.book_splits.specs.declared.transaction.Txn.{Txn}
use Rattle.book_prices.specs.declared.price.Price.{Price}
use Rattle.book_schedule.specs.declared.recurrence.Adjust.TheVariants.{Back}
use Rattle.book_schedule.specs.declared.recurrence.Recurrence.{Recurrence}
use Rattle.book_schedule.specs.declared.recurrence.RecurrenceKind.TheVariants.{Monthly}
use Rattle.book_schedule.specs.declared.timing.End.TheVariants.{After}
use Rattle.book_schedule.specs.declared.timing.Timing.{Timing}
use Rattle.book_statement.specs.declared.binding.Binding.{Binding}
use Rattle.book_statement.specs.declared.held.Held.{Held}
use Rattle.book_statement.specs.declared.line.Line.{Line}
use Rattle.book_statement.specs.declared.line_state.LineState.{LineState}
use Rattle.book_statement.specs.declared.statement_line.StatementLine.{StatementLine}
use Rattle.book_undo.specs.Book.{Book}
use Rattle.book_undo.specs.declared.schedule.Schedule.{Schedule}

-- the euro and a share; the root, a bank account, the rent, a placeholder
abbrev pub commodities : List (ℕ × Commodity)
commodities =
    (1, record { space = codes "CURRENCY"; name = codes "EUR"; full_name = []; fraction = 100 })
    ∷ (7, record { space = codes "NYSE"; name = codes "ACME"; full_name = []; fraction = 1 }) ∷ []

abbrev pub account : List ℕ → AccountKind → Option ℕ → Bool → Account
account name kind parent placeholder = record {
  name = name;
  kind = kind;
  commodity = 1;
  parent = parent;
  code = [];
  note = [];
  hidden = false;
  placeholder = placeholder;
  basis = None;
}

abbrev pub accounts : List (ℕ × Account)
accounts =
    (2, account (codes "Root") Root None true) ∷ (3, account (codes "Bank") Bank (Some 5) false)
    ∷ (4, account (codes "Rent") Expense (Some 2) false) ∷ (5, account (codes "Assets") Asset (Some 2) true) ∷ []

abbrev pub price : Price
price = record { commodity = 7; currency = 1; day = pos 19723; num = 150; denom = 100 }

abbrev pub prices : List (ℕ × Price)
prices = (8, price) ∷ []

abbrev pub split : ℕ → ℕ → ℤ → Mark → Option ℕ → Split
split id account value mark recon = record {
  id = id;
  account = account;
  memo = [];
  action = [];
  mark = mark;
  recon = recon;
  value = value;
  quantity = value;
}

abbrev pub txn : List Split → Txn
txn splits =
    record { currency = 1; day = pos 19723; num = []; description = []; splits = splits; voided = None }

-- a transaction whose split on the bank account is reconciled, and one whose split there is cleared
abbrev pub opening : Txn
opening = txn (split 11 3 (pos 1000) Reconciled (Some 19) ∷ split 12 4 (negsuc 999) New None ∷ [])

abbrev pub rent : Txn
rent = txn (split 14 3 (negsuc 199) Cleared None ∷ split 15 4 (pos 200) New None ∷ [])

abbrev pub transactions : List (ℕ × Txn)
transactions = (10, opening) ∷ (13, rent) ∷ []

abbrev pub reconciliation : Recon
reconciliation = record {
  account = 3;
  day = pos 19753;
  opening = pos 0;
  closing = pos 1000;
  marked = record { split = 11; quantity = pos 1000 } ∷ [];
}

abbrev pub reconciliations : List (ℕ × Recon)
reconciliations = (19, reconciliation) ∷ []

abbrev pub monthly : Recurrence
monthly = record { kind = Monthly; every = 1; start = pos 19753; adjust = Back }

abbrev pub timing : Timing
timing = record { recurrences = monthly ∷ []; end = After 12; advance = 366; last = None; made = 0 }

abbrev pub template : Txn
template = txn (split 0 3 (negsuc 199) New None ∷ split 0 4 (pos 200) New None ∷ [])

abbrev pub schedule : Timing → Txn → Schedule
schedule timing template = record { name = codes "Rent"; timing = timing; template = template }

abbrev pub statement : Held
statement = record {
  account = 3;
  account_text = codes "NL01BANK0123456789";
  number = codes "1";
  opening = Some (pos 0);
  closing = Some (pos 800);
  day = pos 19753;
  ties = Some true;
}

abbrev pub body : ℤ → StatementLine
body amount = record {
  day = pos 19727;
  value_day = pos 19727;
  amount = amount;
  kind = codes "NTRF";
  ref_own = codes "RENT";
  ref_bank = codes "B77";
  text = codes "January rent";
  category = [];
  parts = [];
}

abbrev pub line : ℕ → ℤ → LineState → Line
line ordinal amount state =
    record { account = 3; statement = 20; ordinal = ordinal; body = body amount; state = state }

abbrev pub binding : ℕ → Binding
binding account = record { text = codes "NL01BANK0123456789"; account = account }

-- the book with these lines
abbrev pub book_with : List (ℕ × Line) → Book
book_with lines = record {
  commodities = commodities;
  accounts = accounts;
  transactions = transactions;
  prices = prices;
  schedules = (16, schedule timing template) ∷ [];
  statements = (20, statement) ∷ [];
  lines = lines;
  bindings = (24, binding 3) ∷ [];
  reconciliations = reconciliations;
  currency = 1;
}
