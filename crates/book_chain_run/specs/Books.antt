-- What holds of all books of a machine: the past ones, the present one and the later ones (a rule of this project).
use Rattle.std.specs.Prelude.{◌≡◌, ℕ, Bool, true, false, All, List, [], ◌∷◌, ⊤}
use Rattle.book_undo.specs.Book.{Book}
use Rattle.book_sound.specs.Soundness.{AreDrawn, IsSoundBook}
use Rattle.book_command.specs.declared.command.What.{What}
use Rattle.book_command.specs.declared.command.What.TheVariants.{Redo, Undo}
use Rattle.book_step.specs.Soundness.{IsSound}
use Rattle.book_splits.specs.declared.reconciliation.Recon.{Recon}
use Rattle.book_chain.specs.Chain.{IsChained, IsLast, KeepsBroken, are_intact, of_account, sum_of_lists}
use Rattle.book_engine.specs.Machine.{Machine, present}

-- The books of a machine are all chained.
pub record AreChained (machine : Machine) : Type 0 where
  pub past : All (λ book. IsChained book) machine.past
  pub book : IsChained machine.book
  pub later : All (λ book. IsChained book) machine.later

-- A book is sound, and its numbers are drawn below this one.
pub record IsSoundBelow (next : ℕ) (book : Book) : Type 0 where
  pub sound : IsSoundBook book
  pub drawn : AreDrawn book next

-- The books of a machine are all sound, and so is the state from which a command steps.
pub record AreSound (machine : Machine) : Type 0 where
  pub past : All (λ book. IsSoundBelow machine.next book) machine.past
  pub state : IsSound (present machine)
  pub later : All (λ book. IsSoundBelow machine.next book) machine.later

-- Where all reconciliations of an account are intact, the quantities of their lists sum to the last closing balance.
pub record SumsToLast (book : Book) : Type 0 where
  pub each : (number : ℕ) (reconciliation : Recon) → IsLast book number reconciliation
      → are_intact book.transactions (of_account reconciliation.account book.reconciliations) ≡ true
      → sum_of_lists (of_account reconciliation.account book.reconciliations) ≡ reconciliation.closing

-- This holds of all books of a machine.
pub record AllSumToLast (machine : Machine) : Type 0 where
  pub past : All (λ book. SumsToLast book) machine.past
  pub book : SumsToLast machine.book
  pub later : All (λ book. SumsToLast book) machine.later

-- From each of some past books, the nearest first, to the one after it what isn't intact stays so; the last one is this
-- book.
abbrev pub KeepBrokenTo : Book → List Book → Type 0
KeepBrokenTo book [] = ⊤
KeepBrokenTo book (before ∷ past) = KeepsBroken before book × KeepBrokenTo before past

-- From this book to the later ones, the nearest first, what isn't intact in one stays so in the next.
abbrev pub KeepBrokenFrom : Book → List Book → Type 0
KeepBrokenFrom book [] = ⊤
KeepBrokenFrom book (after ∷ later) = KeepsBroken book after × KeepBrokenFrom after later

-- From each book of a machine to the one after it what isn't intact stays so.
pub record AllKeepBroken (machine : Machine) : Type 0 where
  pub past : KeepBrokenTo machine.book machine.past
  pub later : KeepBrokenFrom machine.book machine.later

-- Whether a command goes to a book that was there before.
abbrev pub is_undo_or_redo : What → Bool
is_undo_or_redo Undo = true
is_undo_or_redo Redo = true
is_undo_or_redo _ = false
