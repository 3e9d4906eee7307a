-- Which of the lots that were reckoned from registers are left where these change.
use Rattle.std.specs.Prelude.{◌≡◌, ℕ, suc, ◌*◌, ◌/◌, ◌≤◌, ◌==◌, min, Bool, if◌then◌else◌, List, [], ◌∷◌}
use Rattle.std.specs.Prelude.{Option, Some, None, option_map}
use Rattle.book_commodity.specs.Table.{value_of}
use Rattle.book_register.specs.declared.entry.Entry.{Entry}
use Rattle.book_ledger.specs.Change.{is_same}
use Rattle.book_ledger.specs.Page.{Page, brought_up}

-- How many rows of a page are reckoned; none where there is no page.
abbrev pub reckoned_in : Option Page → ℕ
reckoned_in None = 0
reckoned_in (Some page) = page.reckoned

-- How many rows of an account's register are reckoned.
abbrev pub reckoned_of : ℕ → List (ℕ × Page) → ℕ
reckoned_of account pages = reckoned_in (value_of account pages)

-- How many rows of a page were reckoned so far; none where there is no page.
abbrev pub work_in : Option Page → ℕ
work_in None = 0
work_in (Some page) = page.work

-- How many rows of an account's register were reckoned so far.
abbrev pub work_of : ℕ → List (ℕ × Page) → ℕ
work_of account pages = work_in (value_of account pages)

-- How many rows at the front of two registers are the same.
abbrev pub common : List Entry → List Entry → ℕ
common [] others = 0
common (row ∷ more) [] = 0
common (row ∷ more) (other ∷ others) = if is_same row other then suc (common more others) else 0

-- The greatest multiple of 256 that is at most a number.
abbrev pub checkpoint_before : ℕ → ℕ
checkpoint_before count = 256 * (count / 256)

-- Of so many reckoned rows of a register at least those are left that stand before the last checkpoint in the part that
-- another register has in common with it.
abbrev pub AreLeft : List Entry → ℕ → List Entry → ℕ → Type 0
AreLeft first reckoned rows left = min reckoned (checkpoint_before (common first rows)) ≤ left

-- All rows of an account's register are reckoned, where this is done; all else stays.
pub record IsBroughtUp (account : ℕ) (done : Bool) (old new : List (ℕ × Page)) : Type 0 where
  pub values :
      (other : ℕ)
      → value_of other new
      ≡ (if other == account then option_map (λ page. if done then brought_up page else page) (value_of account old)
      else value_of other old)
