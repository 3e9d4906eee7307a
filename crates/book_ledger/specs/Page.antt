-- What is kept for an account: its register, and lots that were reckoned from the register's first rows.
use Rattle.std.specs.Prelude.{ℕ, ◌-◌, ◌+◌, ◌^◌, min, length, take, List}
use Rattle.book_lots.specs.Lots.{Reckoned}
use Rattle.book_register.specs.Register.{Rows}
use Rattle.book_register.specs.declared.entry.Entry.{Entry}

-- What contracts see of an account's page in the ledger: the rows of its register, for how many more there is room, how
-- often they were changed, how many of the first are reckoned into lots, and how many rows were reckoned so far, those
-- that were reckoned again included.
pub record Page : Type 0 where
  pub rows : List Entry
  pub spare : ℕ
  pub changes : ℕ
  pub reckoned : ℕ
  pub work : ℕ

-- The register on a page.
abbrev pub register_on : Page → Rows
register_on page = record { rows = page.rows; spare = page.spare; changes = page.changes }

-- The lots on a page: those of the rows that are reckoned.
abbrev pub lots_on : Page → Reckoned
lots_on page = record { entries = take page.reckoned page.rows; work = page.work }

-- The page once all its rows are reckoned; the work rises by the rows that weren't, and at 2^64 - 1 it stays.
abbrev pub brought_up : Page → Page
brought_up page = record page {
  reckoned = length page.rows;
  work = min (page.work + (length page.rows - page.reckoned)) (2 ^ 64 - 1);
}
