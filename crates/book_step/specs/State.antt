-- The state of the machine, and the one in which each run begins.
use Rattle.std.specs.Prelude.{ℕ, [], ◌∷◌, None, true, false, codes}
use Rattle.book_commodity.specs.declared.commodity.Commodity.{Commodity}
use Rattle.book_accounts.specs.declared.account.Account.{Account}
use Rattle.book_accounts.specs.declared.kind.AccountKind.TheVariants.{Root}
use Rattle.book_undo.specs.Book.{Book, book_of}
use Rattle.book_undo.specs.declared.plain.Plain.{Plain}

-- The present book, the number that the next thing gets, and the count of the changes so far.
pub record State : Type 0 where
  pub book : Book
  pub next : ℕ
  pub version : ℕ

-- The state of a book in tables, with the next number and the version.
abbrev pub state_of : Plain → ℕ → ℕ → State
state_of plain next version = record { book = book_of plain; next = next; version = version }

-- The euro, of which a hundred smallest units make one.
abbrev pub euro : Commodity
euro = record { space = codes "CURRENCY"; name = codes "EUR"; full_name = []; fraction = 100 }

-- The account that all others stand under (GnuCash SQL schema, column root_account_guid of table books); it takes no
-- splits.
abbrev pub root : Account
root = record {
  name = codes "Root";
  kind = Root;
  commodity = 1;
  parent = None;
  code = [];
  note = [];
  hidden = false;
  placeholder = true;
  basis = None;
}

-- The fresh book: the euro has number 1 and is the book's currency, the root has number 2, and there is nothing else.
abbrev pub fresh_book : Book
fresh_book = record {
  commodities = (1, euro) ∷ [];
  accounts = (2, root) ∷ [];
  transactions = [];
  prices = [];
  schedules = [];
  statements = [];
  lines = [];
  bindings = [];
  reconciliations = [];
  currency = 1;
}

-- A run begins with the fresh book, before any change.
abbrev pub fresh_state : State
fresh_state = record { book = fresh_book; next = 3; version = 0 }
