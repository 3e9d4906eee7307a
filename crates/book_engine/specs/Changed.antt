-- How often the registers and the index that an engine keeps were changed, and which of the lots it keeps.
use Rattle.std.specs.Prelude.{◌≡◌, ℕ, ◌-◌, ◌⊎◌, if◌then◌else◌, Bool, is_some, length, take, Option, Some, None}
use Rattle.book_commodity.specs.Table.{value_of}
use Rattle.book_free.specs.FreeSplits.{free_splits}
use Rattle.book_free.specs.Kept.{differing as differing_free}
use Rattle.book_ledger.specs.Changes.{RisesBy, changes_of, differing}
use Rattle.book_ledger.specs.Ledger.{register_of}
use Rattle.book_ledger.specs.Lots.{AreLeft as AreLotsLeft, reckoned_of, work_of}
use Rattle.book_lots.specs.Lots.{Reckoned}
use Rattle.book_report_answers.specs.LotsAsked.{is_security_in}
use Rattle.book_undo.specs.Book.{Book}
use Rattle.book_engine.specs.Kept.{Kept}

-- How often the register of an account of the present book was changed; none where the book has no such account.
abbrev pub live_changes : Kept → ℕ → Option ℕ
live_changes kept account =
    if is_some (value_of account kept.state.book.accounts) then Some (changes_of account kept.registers) else None

-- Whether an account is a security account of a book.
abbrev pub is_live_security : Book → ℕ → Bool
is_live_security book account = is_security_in book.accounts account

-- The lots that are kept of a security account of the present book: those of the first rows of its register, as many as
-- are reckoned; none where the book has no such account.
abbrev pub live_lots : Kept → ℕ → Option Reckoned
live_lots kept account =
    if is_live_security kept.state.book account then Some (record {
      entries = take (reckoned_of account kept.registers) (register_of account kept.state.book.transactions);
      work = work_of account kept.registers;
    }) else None

-- From one state to the next the changes of each account's register rise by the rows that one of the two registers has
-- and the other hasn't, and those of the index by the splits that are free in one of the two books alone; at 2^64 - 1
-- they stay.
pub record HaveRisen (before now : Kept) : Type 0 where
  pub each :
      (account : ℕ)
      → RisesBy (differing (register_of account before.state.book.transactions)
      (register_of account now.state.book.transactions)) (changes_of account before.registers)
      (changes_of account now.registers)
  pub free :
      RisesBy (differing_free (free_splits before.state.book) (free_splits now.state.book))
      before.free.index.changes now.free.index.changes

-- From one state to the next the registers and the index are changed and not made anew. Of an account's lots at least
-- those stay that stand before the last checkpoint in the part that its two registers have in common, and none is
-- reckoned.
pub record AreChanged (before now : Kept) : Type 0 where
  pub changes : HaveRisen before now
  pub left :
      (account : ℕ)
      → AreLotsLeft (register_of account before.state.book.transactions) (reckoned_of account before.registers)
      (register_of account now.state.book.transactions) (reckoned_of account now.registers)
  pub work : (account : ℕ) → work_of account now.registers ≡ work_of account before.registers

-- Each account's register and the index were changed as often as before, and the lots are as they were.
pub record AreLeft (before now : Kept) : Type 0 where
  pub each : (account : ℕ) → changes_of account now.registers ≡ changes_of account before.registers
  pub reckoned : (account : ℕ) → reckoned_of account now.registers ≡ reckoned_of account before.registers
  pub work : (account : ℕ) → work_of account now.registers ≡ work_of account before.registers
  pub free : now.free.index.changes ≡ before.free.index.changes

-- The lots of an account are as they were.
pub record HasSameLots (before now : Kept) (account : ℕ) : Type 0 where
  pub reckoned : reckoned_of account now.registers ≡ reckoned_of account before.registers
  pub work : work_of account now.registers ≡ work_of account before.registers

-- The lots of an account are brought up to its register: the work rises by the rows that weren't reckoned.
pub record HasAllLots (before now : Kept) (account : ℕ) : Type 0 where
  pub reckoned : reckoned_of account now.registers ≡ length (register_of account before.state.book.transactions)
  pub work :
      RisesBy (length (register_of account before.state.book.transactions) - reckoned_of account before.registers)
      (work_of account before.registers) (work_of account now.registers)

-- Each account's register and the index were changed as often as before. The lots of the account that is asked for,
-- if there is one, are as they were, or brought up to its register; those of all others are as they were.
pub record AreKeptUp (before now : Kept) (asked : Option ℕ) : Type 0 where
  pub each : (account : ℕ) → changes_of account now.registers ≡ changes_of account before.registers
  pub free : now.free.index.changes ≡ before.free.index.changes
  pub others : (account : ℕ) → (asked ≡ Some account → ⊥) → HasSameLots before now account
  pub one :
      (account : ℕ) → asked ≡ Some account → HasSameLots before now account ⊎ HasAllLots before now account

-- The lots of the account that is asked for, if there is one, are brought up to its register.
pub record AreReckoned (before now : Kept) (asked : Option ℕ) : Type 0 where
  pub one : (account : ℕ) → asked ≡ Some account → HasAllLots before now account

-- What a command does to registers, lots and the index: first those lots are brought up that are asked for, and then
-- the registers and the index are changed.
pub record IsActed (before now : Kept) (asked : Option ℕ) : Type 0 where
  pub mid : Kept
  pub kept_up : AreKeptUp before mid asked
  pub reckoned : AreReckoned before mid asked
  pub changed : AreChanged mid now
