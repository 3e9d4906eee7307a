-- A line of a sound book that becomes matched with a split which fits it, and which no other line has, keeps the book
-- sound; and no line has a split whose number isn't drawn yet.
use Rattle.std.proofs.Common.{◌≡◌, ◌≢◌, ℕ, ◌<◌, ◌≤◌, nat_eq, false, Option, Some, None, IsTrue, refl, ap, subst, ◌∙◌}
use Rattle.std.proofs.Common.{eq-eqb, arith}
use Rattle.std.specs.Option.{option_eq}
use Rattle.std.proofs.lemmas.Bool.{and_from, not_from_false}
use Rattle.std.proofs.lemmas.Bool.Decides.{Decides-int_eq, nat_tests}
use Rattle.book_commodity.specs.Table.{value_of, with_entry}
use Rattle.book_splits.specs.Balance.{splits_of}
use Rattle.book_splits.specs.TransactionRules.{is_voided}
use Rattle.book_splits.specs.declared.split.Split.{Split}
use Rattle.book_statement.specs.declared.line.Line.{Line}
use Rattle.book_statement.specs.declared.line_state.LineState.{LineState}
use Rattle.book_statement.specs.declared.line_state.LineState.TheVariants.{Open, Matched, Dismissed}
use Rattle.book_undo.specs.Book.{Book}
use Rattle.book_sound.specs.LineRules.{fits_in_state, fits_line, matched_split, split_at}
use Rattle.book_sound.specs.Soundness.{IsSoundBook, AreDrawn}
use Rattle.book_sound.proofs.BookChanges.{line_moved}
use Rattle.book_sound.proofs.SplitFrames.{found_holds, found_number}
use Rattle.book_step.specs.LineAdding.{matched_with}

-- A split fits a line: it stands in the book, in the line's account, has the line's amount as its quantity, and is not
-- voided.
pub record Fits (book : Book) (line : Line) (number : ℕ) : Type 0 where
  pub split : Split
  pub there : split_at number book.transactions ≡ Some split
  pub account : split.account ≡ line.account
  pub quantity : split.quantity ≡ line.body.amount
  pub unvoided : is_voided split.mark ≡ false

-- No other line than the one of this number is matched with the split.
pub record IsFree (book : Book) (n number : ℕ) : Type 0 where
  pub each : (k : ℕ) (x : Line) → k ≢ n → value_of k book.lines ≡ Some x → x.state ≢ Matched number

-- a line that isn't matched with a split shares it with none
not_shared :
    (number : ℕ) (state : LineState) → state ≢ Matched number
    → option_eq nat_eq (matched_split state) (Some number) ≡ false
not_shared number Open other = refl
not_shared number (Matched m) other =
    let apart : m ≢ number = λ same. other (ap (λ (k : ℕ). Matched k) same) in
    grind (arith, nat_tests, apart)
not_shared number Dismissed other = refl

pub matched-sound :
    (book : Book) (n number : ℕ) (line : Line) → value_of n book.lines ≡ Some line → Fits book line number
    → IsFree book n number → IsSoundBook book
    → IsSoundBook (record book { lines = with_entry n (matched_with number line) book.lines })
matched-sound book n number line found fits free is =
    let split = fits.split in
    let same = and_from _ _ (eq-eqb split.account line.account fits.account)
    (and_from _ _ ((Decides-int_eq split.quantity line.body.amount).1 fits.quantity)
    (not_from_false _ fits.unvoided)) in
    line_moved book n line (Matched number) found (ap (fits_line line) fits.there ∙ same)
    (λ k x other there. not_shared number x.state (free.each k x other there)) is

-- ---- a split whose number isn't drawn yet

-- what fits a line is there
fitting :
    (line : Line) (found : Option Split) → IsTrue (fits_line line found) → (split : Split) × (found ≡ Some split)
fitting line None fits = absurd cc
fitting line (Some split) fits = (split, refl)

pub not_matched_yet :
    (book : Book) (next number k : ℕ) (x : Line) → next ≤ number → value_of k book.lines ≡ Some x
    → AreDrawn book next → IsSoundBook book
    → x.state ≢ Matched number
not_matched_yet book next number k x le there are is matched =
    let kept = is.lines.keep.each k x there in
    let fits : IsTrue (fits_line x (split_at number book.transactions)) =
    subst (λ (state : LineState). IsTrue (fits_in_state book.transactions x state)) matched kept.1.1.1.1.0 in
    let split = fitting x (split_at number book.transactions) fits in
    let splits = splits_of book.transactions in
    let below = found_holds (λ (s : Split). s.id < next) number splits split.0 are.splits split.1 in
    let same = found_number number splits split.0 split.1 in
    absurd (omega (arith, le, below, same))
