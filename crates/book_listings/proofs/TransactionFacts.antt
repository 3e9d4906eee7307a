-- Of a voided transaction of a sound book the amounts of each split are kept.
use Rattle.std.proofs.Common.{◌≡◌, ℕ, ◌==◌, true, List, length, Option, Some, None, Bor, sym}
use Rattle.std.specs.Prelude.{IfSome}
use Rattle.std.specs.Option.{option_copied}
use Rattle.std.proofs.lemmas.Bool.{eqb-true}
use Rattle.book_commodity.specs.Table.{value_of}
use Rattle.book_splits.specs.declared.split.Split.{Split}
use Rattle.book_splits.specs.declared.transaction.Txn.{Txn}
use Rattle.book_splits.specs.declared.void.Void.{Void}
use Rattle.book_void.specs.Voiding.{keeps_as_many}
use Rattle.book_undo.specs.Book.{Book}
use Rattle.book_sound.specs.Soundness.{IsSoundBook}

each_of : (voided : Option Void) (splits : List Split) → keeps_as_many voided splits ≡ true
    → IfSome voided (λ void. length void.kept ≡ length splits)
each_of None splits keeps = tt
each_of (Some void) splits keeps = eqb-true (length void.kept) (length splits) keeps

keeps-each :
    (book : Book) (n : ℕ) (t : Txn) → IsSoundBook book → value_of n book.transactions ≡ Some t
    → IfSome t.voided (λ void. length void.kept ≡ length t.splits)
keeps-each book n t is there = each_of t.voided t.splits (is.transactions.keep.each n t there).1.1.1.1.0

-- The same of a transaction that is lent, where there is one.
pub lent-each :
    (book : Book) (n : ℕ) (found : Option (Bor Txn)) → IsSoundBook book
    → option_copied found ≡ value_of n book.transactions
    → IfSome found (λ it. IfSome it.now.voided (λ void. length void.kept ≡ length it.now.splits))
lent-each book n None sound is = tt
lent-each book n (Some it) sound is = keeps-each book n it.now sound (sym is)
