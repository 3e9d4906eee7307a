-- How often the register of each account was changed, and how many rows differ between two registers.
use Rattle.std.specs.Prelude.{◌≡◌, ℕ, ◌+◌, ◌-◌, ◌^◌, ◌<◌, min, not, Bool, count_by, List, Option, Some, None}
use Rattle.std.specs.List.{list_any}
use Rattle.book_commodity.specs.Table.{value_of}
use Rattle.book_ledger.specs.Page.{Page}
use Rattle.book_register.specs.declared.entry.Entry.{Entry}
use Rattle.book_ledger.specs.Change.{is_same}

-- How often a register was changed; 0 where there is none.
abbrev pub changes_in : Option Page → ℕ
changes_in None = 0
changes_in (Some register) = register.changes

-- How often the register of an account was changed; 0 where there is none.
abbrev pub changes_of : ℕ → List (ℕ × Page) → ℕ
changes_of account registers = changes_in (value_of account registers)

-- Whether a row stands among others.
abbrev pub has_row : Entry → List Entry → Bool
has_row row rows = list_any (is_same row) rows

-- How many of the rows don't stand among others.
abbrev pub missing : List Entry → List Entry → ℕ
missing rows others = count_by (λ row. not (has_row row others)) rows

-- How many rows one of two registers has and the other hasn't.
abbrev pub differing : List Entry → List Entry → ℕ
differing one other = missing one other + missing other one

-- A count of changes rises by so many; at 2^64 - 1 it stays.
abbrev pub RisesBy : ℕ → ℕ → ℕ → Type 0
RisesBy count old new = new ≡ min (old + count) (2 ^ 64 - 1)

-- Each register's count of changes is a number of 64 bits.
pub record AreBounded (registers : List (ℕ × Page)) : Type 0 where
  pub each : (account : ℕ) → changes_of account registers < 2 ^ 64
