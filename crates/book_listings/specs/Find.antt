-- The transactions in which a text stands, whatever the case of its letters (The Unicode Standard, section 3.13,
-- default case folding).
use Rattle.std.specs.Prelude.{ℕ, ◌==◌, ◌&&◌, ◌||◌, ◌≡◌, ℤ, Bool, true, false, List, [], ◌∷◌, filter, map, chars, Option, Some, None}
use Rattle.std.specs.Prelude.{encode_utf8_all}
use Rattle.std.specs.List.{list_any}
use Rattle.caseless.specs.Caseless.{default_case_fold}
use Rattle.book_reports.specs.declared.form.Form.{Form}
use Rattle.book_splits.specs.declared.transaction.Txn.{Txn}
use Rattle.book_splits.specs.declared.void.Void.{Void}
use Rattle.book_undo.specs.Book.{Book}
use Rattle.book_listings.specs.Journal.{AreByDay, listed}

-- A text without the case of its letters.
unfoldable pub folded : List ℕ → List ℕ
folded text = encode_utf8_all (default_case_fold (chars text))

-- Whether a text begins with a part.
abbrev pub begins : List ℕ → List ℕ → Bool
begins [] text = true
begins (byte ∷ part) [] = false
begins (byte ∷ part) (other ∷ text) = (byte == other) && begins part text

-- Whether a part stands in a text.
abbrev pub holds : List ℕ → List ℕ → Bool
holds part [] = begins part []
holds part (byte ∷ text) = begins part (byte ∷ text) || holds part text

-- Whether a part without case stands in the reason for which a transaction was voided.
abbrev pub has_reason : List ℕ → Option Void → Bool
has_reason part None = false
has_reason part (Some void) = holds part (folded void.reason)

-- Whether a part without case stands in the num, the description or a memo of a transaction, or in the reason for which
-- it was voided.
abbrev pub has_part : List ℕ → Txn → Bool
has_part part transaction =
    holds part (folded transaction.num)
    || (holds part (folded transaction.description)
    || (has_reason part transaction.voided
    || list_any (λ split. holds part (folded split.memo)) transaction.splits))

-- The transactions that have the part, by number: the day of each, and its number.
abbrev pub with_part : List ℕ → List (ℕ × Txn) → List (ℤ × ℕ)
with_part part transactions = map (λ e. (e.1.day, e.0)) (filter (λ e. has_part part e.1) transactions)

-- A text lists the transactions of a book in which a text stands, by day.
pub record AreFound (book : Book) (sought : List ℕ) (form : Form) (text : List ℕ) : Type 0 where
  pub order : List (ℤ × ℕ)
  pub by_day : AreByDay (with_part (folded sought) book.transactions) order
  pub are : text ≡ listed form book order
