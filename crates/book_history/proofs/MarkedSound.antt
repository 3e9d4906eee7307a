-- A sound book stays sound where a transaction is deleted with whose splits no line is matched, and where the splits of
-- one are only marked otherwise.
use Rattle.std.proofs.Common.{◌≡◌, ℕ, ◌<◌, ◌==◌, not, Bool, true, All, List, [], ◌∷◌, Option, Some, None}
use Rattle.std.proofs.Common.{is_none, refl, sym, ap, subst, ◌∙◌}
use Rattle.std.specs.List.{list_all}
use Rattle.std.specs.Ordering.{int_eq}
use Rattle.std.proofs.lemmas.Bool.{and_parts, eqb-true, not-true}
use Rattle.std.proofs.lemmas.Bool.Decides.{Decides-int_eq}
use Rattle.std.proofs.lemmas.List.Elements.{All-cons, All-head, All-tail}
use Rattle.book_commodity.specs.Table.{value_of, with_entry, without_entry}
use Rattle.book_commodity.proofs.DrawnLemmas.{drawn_below}
use Rattle.book_splits.specs.declared.split.Split.{Split}
use Rattle.book_splits.specs.declared.transaction.Txn.{Txn}
use Rattle.book_splits.proofs.ReplacedLemmas.{all_of_one}
use Rattle.book_statement.specs.declared.line.Line.{Line}
use Rattle.book_sound.specs.Dismissal.{dismissed_if, lines_after, loses_split}
use Rattle.book_sound.specs.Soundness.{AreDrawn, IsSoundBook}
use Rattle.book_sound.specs.MarkedTransactionRules.{is_rightly_marked}
use Rattle.book_sound.proofs.BookFrames.{transaction_taken}
use Rattle.book_sound.proofs.DrawnFrames.{transaction_drawn, transaction_left_drawn}
use Rattle.book_sound.proofs.MarkFrames.{AreRemarked, IsRemarked, transaction_marked}
use Rattle.book_undo.specs.Book.{Book}
use Rattle.book_history.specs.Leaving.{are_remarked, is_remarked, is_unmatched, none_loses, only_marks}

-- ---- a transaction that is deleted

-- no line is dismissed where none loses its split
pub lines_kept :
    (old new : List Split) (lines : List (ℕ × Line)) → none_loses old new lines ≡ true
    → lines_after old new lines ≡ lines
lines_kept old new [] none = refl
lines_kept old new (e ∷ lines) none =
    let parts = and_parts (not (loses_split old new e.1)) _ none in
    ap (λ (t : Bool). (e.0, dismissed_if t e.1) ∷ lines_after old new lines) (not-true _ parts.0)
    ∙ ap (λ (more : List (ℕ × Line)). e ∷ more) (lines_kept old new lines parts.1)

unmatched_taken :
    (book : Book) (n next : ℕ) (found : Option Txn) → value_of n book.transactions ≡ found
    → is_unmatched book.lines found ≡ true → IsSoundBook book → AreDrawn book next
    → IsSoundBook (record book { transactions = without_entry n book.transactions })
    × AreDrawn (record book { transactions = without_entry n book.transactions }) next
unmatched_taken book n next None there unmatched is are = absurd cc
unmatched_taken book n next (Some old) there unmatched is are = (
  subst (λ (lines : List (ℕ × Line)).
      IsSoundBook (record book { transactions = without_entry n book.transactions; lines = lines }))
      (lines_kept old.splits [] book.lines unmatched) (transaction_taken book n old there is),
  transaction_left_drawn book n next are,
)

pub transaction_gone :
    (book : Book) (n next : ℕ) → is_unmatched book.lines (value_of n book.transactions) ≡ true → IsSoundBook book
    → AreDrawn book next
    → IsSoundBook (record book { transactions = without_entry n book.transactions })
    × AreDrawn (record book { transactions = without_entry n book.transactions }) next
transaction_gone book n next = unmatched_taken book n next (value_of n book.transactions) refl

-- ---- a transaction whose splits are marked otherwise

remarked_of : (old new : Split) → is_remarked old new ≡ true → IsRemarked old new
remarked_of old new same =
    let id = and_parts (new.id == old.id) _ same in
    let account = and_parts (new.account == old.account) _ id.1 in
    let amounts = and_parts (int_eq new.value old.value) (int_eq new.quantity old.quantity) account.1 in
    record {
      id = sym (eqb-true new.id old.id id.0);
      account = sym (eqb-true new.account old.account account.0);
      value = sym ((Decides-int_eq new.value old.value).0 amounts.0);
      quantity = sym ((Decides-int_eq new.quantity old.quantity).0 amounts.1);
    }

all_remarked_of : (olds news : List Split) → are_remarked olds news ≡ true → AreRemarked olds news
all_remarked_of [] [] same = tt
all_remarked_of [] (new ∷ news) same = absurd cc
all_remarked_of (old ∷ olds) [] same = absurd cc
all_remarked_of (old ∷ olds) (new ∷ news) same =
    let parts = and_parts (is_remarked old new) (are_remarked olds news) same in
    (remarked_of old new parts.0, all_remarked_of olds news parts.1)

-- their numbers are those that were drawn
remarked_drawn :
    (next : ℕ) (olds news : List Split) → AreRemarked olds news → All (λ (s : Split). s.id < next) olds
    → All (λ (s : Split). s.id < next) news
remarked_drawn next [] [] stay below = below
remarked_drawn next [] (new ∷ news) stay below = absurd stay
remarked_drawn next (old ∷ olds) [] stay below = absurd stay
remarked_drawn next (old ∷ olds) (new ∷ news) stay below =
    let Below : Split → Type 0 = λ s. s.id < next in
    All-cons Below new news
    (subst (λ (id : ℕ). id < next) stay.0.id (All-head Below old olds below))
    (remarked_drawn next olds news stay.1 (All-tail Below old olds below))

marked_put :
    (book : Book) (n next : ℕ) (new : Txn) (found : Option Txn) → value_of n book.transactions ≡ found
    → only_marks book.reconciliations new found ≡ true → IsSoundBook book → AreDrawn book next
    → IsSoundBook (record book { transactions = with_entry n new book.transactions })
    × AreDrawn (record book { transactions = with_entry n new book.transactions }) next
marked_put book n next new None there marks is are = absurd cc
marked_put book n next new (Some old) there marks is are =
    let currency = and_parts (new.currency == old.currency) _ marks in
    let splits = and_parts (are_remarked old.splits new.splits) _ currency.1 in
    let marked = and_parts (list_all (is_rightly_marked book.reconciliations) new.splits) _ splits.1 in
    let unvoided = and_parts (is_none old.voided) (is_none new.voided) marked.1 in
    let stay = all_remarked_of old.splits new.splits splits.0 in
    let Below : Split → Type 0 = λ s. s.id < next in (
      transaction_marked book n next old new there are (sym (eqb-true new.currency old.currency currency.0)) unvoided.0
          unvoided.1 stay marked.0 is,
      transaction_drawn book n next new (drawn_below n next old book.transactions are.transactions there)
          (remarked_drawn next old.splits new.splits stay
          (all_of_one Below n old book.transactions there are.splits)) are,
    )

pub transaction_remarked :
    (book : Book) (n next : ℕ) (new : Txn)
    → only_marks book.reconciliations new (value_of n book.transactions) ≡ true → IsSoundBook book
    → AreDrawn book next
    → IsSoundBook (record book { transactions = with_entry n new book.transactions })
    × AreDrawn (record book { transactions = with_entry n new book.transactions }) next
transaction_remarked book n next new = marked_put book n next new (value_of n book.transactions) refl
