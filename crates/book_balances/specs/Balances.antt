-- What the balances of an answer are summed from: the registers of a book, and the transaction that an edit puts there.
use Rattle.std.specs.Prelude.{◌≡◌, ℕ, ◌*◌, ◌==◌, if◌then◌else◌, List, [], ◌∷◌, Option, Some, None, ℤ, pos}
use Rattle.std.specs.Prelude.{◌+ℤ◌}
use Rattle.book_commodity.specs.Table.{value_of}
use Rattle.book_ledger.specs.Ledger.{Keeps}
use Rattle.book_ledger.specs.Page.{Page}
use Rattle.book_limits.specs.Limits.{largest_split_amount}
use Rattle.book_sound.specs.Soundness.{IsSoundBook}
use Rattle.book_splits.specs.Balance.{quantity_on}
use Rattle.book_splits.specs.Check as transaction
use Rattle.book_splits.specs.declared.transaction.Txn.{Txn}
use Rattle.book_undo.specs.Book.{Book}
use Rattle.book_undo.specs.Edit.{Leaf, OfCurrency, OfPut, OfGone, edited}
use Rattle.book_undo.specs.EditRules.{IsAllowed}
use Rattle.book_undo.specs.declared.edit.Edit.{Edit}
use Rattle.book_undo.specs.declared.thing.Thing.TheVariants as thing

-- The registers are those of a sound book, an edit may be applied to it and leads to a sound one, and puts what this
-- says.
pub record CanSum (registers : List (ℕ × Page)) (book : Book) (edit : Edit) (Puts : Type 0) : Type 0 where
  pub kept : Keeps registers book
  pub sound : IsSoundBook book
  pub after : IsSoundBook (edited edit book)
  pub allowed : IsAllowed book edit
  pub puts : Puts

-- The registers are those of a sound book, and a transaction has the form of a sound one.
pub record CanMove (registers : List (ℕ × Page)) (book : Book) (new : Txn) : Type 0 where
  pub kept : Keeps registers book
  pub sound : IsSoundBook book
  pub form : transaction.IsSound new.splits

-- What a transaction gives to an account; nothing where there is none.
abbrev pub given : ℕ → Option Txn → ℤ
given account None = pos 0
given account (Some transaction) = quantity_on account transaction.splits

-- The largest size of what a transaction gives to an account, by its splits, of which there are at most 500.
abbrev pub largest_move : ℕ
largest_move = largest_split_amount * 500

-- A sum, or 0 where there is none.
abbrev pub sum_in : Option ℤ → ℤ
sum_in None = pos 0
sum_in (Some sum) = sum

-- What is given to an account.
abbrev pub moved : ℕ → List (ℕ × ℤ) → ℤ
moved account sums = sum_in (value_of account sums)

-- An account is given so much more.
pub record IsMoved (account : ℕ) (quantity : ℤ) (old new : List (ℕ × ℤ)) : Type 0 where
  pub values :
      (other : ℕ)
      → value_of other new ≡ (if other == account then Some (moved account old +ℤ quantity) else value_of other old)

-- The transaction that the first of some leaves puts which puts one under a number, if one does.
abbrev pub put_at : List Leaf → ℕ → Option Txn
put_at [] number = None
put_at (OfPut other (thing.Txn transaction) ∷ more) number =
    if number == other then Some transaction else put_at more number
put_at (OfPut other thing ∷ more) number = put_at more number
put_at (OfCurrency currency ∷ more) number = put_at more number
put_at (OfGone kind other ∷ more) number = put_at more number
