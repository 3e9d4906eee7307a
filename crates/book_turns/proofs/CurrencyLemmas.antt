-- The currency of a book after an edit is that of the last leaf which sets one.
use Rattle.std.proofs.Common.{◌≡◌, ℕ, List, [], ◌∷◌, ◌++◌, refl, ap, ◌∙◌}
use Rattle.book_undo.specs.Book.{Book, with_currency, with_thing, without_thing}
use Rattle.book_undo.specs.Edit.{Leaf, OfCurrency, OfPut, OfGone, edited, leaves}
use Rattle.book_undo.specs.declared.edit.Edit.{Edit}
use Rattle.book_undo.proofs.BookLaws.{currency-with, currency-without}
use Rattle.book_undo.proofs.EditLaws.{after_leaves, edited-leaves}
use Rattle.book_turns.specs.Changes.{currency_after}

pub currency_after-append :
    (xs ys : List Leaf) (c : ℕ) → currency_after (xs ++ ys) c ≡ currency_after ys (currency_after xs c)
currency_after-append [] ys c = refl
currency_after-append (OfCurrency new ∷ xs) ys c = currency_after-append xs ys new
currency_after-append (OfPut n t ∷ xs) ys c = currency_after-append xs ys c
currency_after-append (OfGone k n ∷ xs) ys c = currency_after-append xs ys c

currency_of_leaves : (ls : List Leaf) (b : Book) → (after_leaves ls b).currency ≡ currency_after ls b.currency
currency_of_leaves [] b = refl
currency_of_leaves (OfCurrency c ∷ ls) b = currency_of_leaves ls (with_currency c b)
currency_of_leaves (OfPut n t ∷ ls) b =
    currency_of_leaves ls (with_thing n t b) ∙ ap (currency_after ls) (currency-with n t b)
currency_of_leaves (OfGone k n ∷ ls) b =
    currency_of_leaves ls (without_thing k n b) ∙ ap (currency_after ls) (currency-without k n b)

-- The currency of the book after an edit.
pub edited_currency : (e : Edit) (b : Book) → (edited e b).currency ≡ currency_after (leaves e) b.currency
edited_currency e b = ap (λ (x : Book). x.currency) (edited-leaves e b) ∙ currency_of_leaves (leaves e) b
