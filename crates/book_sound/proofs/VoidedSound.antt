-- A book stays sound where a transaction is voided and the lines that are matched with its splits are dismissed, and
-- where one is brought back.
use Rattle.std.proofs.Common.{◌≡◌, ℕ, ◌≤◌, ◌==◌, not, Bool, true, false, cond, All, List, [], ◌∷◌, length, map}
use Rattle.std.proofs.Common.{Option, Some, None, IsTrue, inl, is_none, refl, sym, ap, subst, ◌∙◌, eq-eqb, arith}
use Rattle.std.specs.List.{list_all}
use Rattle.std.specs.Ordering.{int_eq}
use Rattle.std.proofs.lemmas.Bool.{and_parts, eqb-true, not-true}
use Rattle.std.proofs.lemmas.List.{length-map}
use Rattle.std.proofs.lemmas.List.Elements.{All-weaker}
use Rattle.book_commodity.specs.Rules.{stands_before}
use Rattle.book_commodity.specs.Table.{Rises, value_of, with_entry}
use Rattle.book_splits.specs.Balance.{splits_of}
use Rattle.book_splits.specs.SplitCount.{splits_in}
use Rattle.book_splits.specs.TransactionRules.{are_once, is_among, is_voided, numbers_of, share_numbers}
use Rattle.book_splits.specs.declared.reconciliation.Recon.{Recon}
use Rattle.book_splits.specs.declared.split.Split.{Split}
use Rattle.book_splits.specs.declared.transaction.Txn.{Txn}
use Rattle.book_splits.specs.declared.void.KeptSplit.{KeptSplit}
use Rattle.book_splits.specs.declared.void.Void.{Void}
use Rattle.book_splits.proofs.CountLemmas.{splits-with}
use Rattle.book_splits.proofs.ReplacedLemmas.{IsFrom}
use Rattle.book_void.specs.Voiding.{all_new, kept_of, new_again, restored, restored_splits, restored_with}
use Rattle.book_void.specs.Voiding.{voided_for, voided_split}
use Rattle.book_void.proofs.VoidLaws.{numbers_voided, void_and_back}
use Rattle.book_statement.specs.declared.line.Line.{Line}
use Rattle.book_statement.specs.declared.line_state.LineState.{LineState}
use Rattle.book_statement.specs.declared.line_state.LineState.TheVariants.{Open, Matched, Dismissed}
use Rattle.book_undo.specs.Book.{Book}
use Rattle.book_sound.specs.Dismissal.{is_lost, is_lost_split, lines_after, loses_split}
use Rattle.book_sound.specs.LineRules.{fits_in_state, fits_line, matched_split, split_among, split_at}
use Rattle.book_sound.specs.MarkedTransactionRules.{are_rightly_marked, is_rightly_marked, is_rightly_voided}
use Rattle.book_sound.specs.MarkedTransactionRules.{keeps_as_many}
use Rattle.book_sound.specs.Soundness.{IsSoundBook, AreDrawn}
use Rattle.book_sound.specs.Tests.{passes_check}
use Rattle.book_sound.proofs.BookFrames.{transaction_changed}
use Rattle.book_sound.proofs.MarkFrames.{AreRemarked, all_among, none_dismissed, same_check, same_length, same_numbers}
use Rattle.book_sound.proofs.MarkFrames.{transaction_marked}
use Rattle.book_sound.proofs.OwnFrames.{all_of_each}
use Rattle.book_sound.proofs.SplitFrames.{found_among, split_of_one}
use Rattle.book_sound.proofs.VoidFrames.{length_restored, numbers_restored, restored_unvoided, rightly_voided_is}

-- ---- a transaction that is voided

all_renewed : (splits : List Split) → AreRemarked splits (map new_again splits)
all_renewed [] = tt
all_renewed (s ∷ splits) = (record { id = refl; account = refl; value = refl; quantity = refl }, all_renewed splits)

all_voided : (splits : List Split) → list_all is_rightly_voided (map voided_split splits) ≡ true
all_voided [] = refl
all_voided (s ∷ splits) = all_voided splits

-- Each of some numbers is one that was there.
pub all_there : (limit : ℕ) (numbers : List ℕ) → All (IsFrom limit numbers) numbers
all_there limit numbers =
    All-weaker (λ (m : ℕ). is_among numbers m ≡ true) (IsFrom limit numbers) (λ m among. inl among) numbers
    (all_among numbers)

pub transaction_voided :
    (book : Book) (n limit : ℕ) (reason : List ℕ) (old : Txn) → value_of n book.transactions ≡ Some old
    → AreDrawn book limit → is_none old.voided ≡ true → IsSoundBook book
    → IsSoundBook
    (record book {
      transactions = with_entry n (voided_for reason old) book.transactions;
      lines = lines_after old.splits (voided_for reason old).splits book.lines;
    })
transaction_voided book n limit reason old there are unvoided is =
    let new = voided_for reason old in
    let kept = is.transactions.keep.each n old there in
    let numbers = sym (numbers_voided old.splits) in
    let passes : IsTrue (passes_check book.commodities book.accounts old) =
    ap (passes_check book.commodities book.accounts) (sym (restored_unvoided old unvoided)) ∙ kept.0 in
    let From = IsFrom limit (numbers_of old.splits) in
    let count = splits-with n new book.transactions is.transactions.rise in
    let had : splits_in (value_of n book.transactions) ≡ length old.splits = ap splits_in there in
    let same : length (map voided_split old.splits) ≡ length old.splits = length-map old.splits voided_split in
    let few : length (splits_of (with_entry n new book.transactions)) ≤ 1000000 =
    omega (arith, is.few_splits, count, had, same) in
    transaction_changed book n limit old new there are
    (record {
      check = ap (passes_check book.commodities book.accounts) (void_and_back reason old)
          ∙ same_check book.commodities book.accounts old (all_new old) refl (all_renewed old.splits) passes;
      once = subst (λ (ns : List ℕ). are_once ns ≡ true) numbers kept.1.0;
      from = subst (λ (ns : List ℕ). All From ns) numbers (all_there limit (numbers_of old.splits));
      marks = all_voided old.splits;
      keeps = eq-eqb (length (map kept_of old.splits)) (length (map voided_split old.splits))
          (length-map old.splits kept_of ∙ sym same);
    }) few is

-- ---- a transaction that is brought back

all_right :
    (reconciliations : List (ℕ × Recon)) (splits : List Split) (kept : List KeptSplit)
    → list_all (is_rightly_marked reconciliations) (restored_splits splits kept) ≡ true
all_right reconciliations [] kept = refl
all_right reconciliations (s ∷ splits) [] = refl
all_right reconciliations (s ∷ splits) (k ∷ kept) = all_right reconciliations splits kept

found_voided :
    (id : ℕ) (splits : List Split) (split : Split) → list_all is_rightly_voided splits ≡ true
    → split_among id splits ≡ Some split → is_rightly_voided split ≡ true
found_voided id [] split all found = absurd cc
found_voided id (s ∷ splits) split all found =
    let parts = and_parts (is_rightly_voided s) (list_all is_rightly_voided splits) all in
    let First : Bool → Type 0 = λ t. cond t (Some s) (split_among id splits) ≡ Some split
    → is_rightly_voided split ≡ true in
    elim (s.id == id) as First [
      | true ↦ λ here.
          let one : s ≡ split = cc in
          subst (λ (x : Split). is_rightly_voided x ≡ true) one parts.0
      | false ↦ λ rest. found_voided id splits split parts.1 rest
    ] found

-- A voided split of the book fits no line.
fits_none :
    (line : Line) (split : Split) → is_rightly_voided split ≡ true → IsTrue (fits_line line (Some split)) → ⊥
fits_none line split voided fits =
    let parts = and_parts (split.account == line.account) _ fits in
    let more = and_parts (int_eq split.quantity line.body.amount) (not (is_voided split.mark)) parts.1 in
    let is = (rightly_voided_is split voided).mark in
    let not_voided = not-true _ more.1 in
    absurd cc

never_lost :
    (n id : ℕ) (old : Txn) (ts : List (ℕ × Txn)) (line : Line) (found later : Option Split) → Rises ts
    → value_of n ts ≡ Some old → stands_before (share_numbers old) n ts ≡ false
    → list_all is_rightly_voided old.splits ≡ true → split_among id old.splits ≡ found
    → IsTrue (fits_line line (split_at id ts)) → is_lost_split found later ≡ false
never_lost n id old ts line None later r there free voided found fits = refl
never_lost n id old ts line (Some split) later r there free voided found fits =
    let own = split_of_one n id old ts r there free (found_among id old.splits split found) ∙ found in
    absurd (fits_none line split (found_voided id old.splits split voided found) (ap (fits_line line) (sym own) ∙ fits))

no_line_loses :
    (n : ℕ) (old : Txn) (news : List Split) (ts : List (ℕ × Txn)) (line : Line) (state : LineState) → Rises ts
    → value_of n ts ≡ Some old → stands_before (share_numbers old) n ts ≡ false
    → list_all is_rightly_voided old.splits ≡ true → IsTrue (fits_in_state ts line state)
    → is_lost old.splits news (matched_split state) ≡ false
no_line_loses n old news ts line Open r there free voided fits = refl
no_line_loses n old news ts line (Matched id) r there free voided fits =
    never_lost n id old ts line (split_among id old.splits) (split_among id news) r there free voided refl fits
no_line_loses n old news ts line Dismissed r there free voided fits = refl

-- No line of a sound book is matched with a split of a voided transaction.
pub lines_beside_voided :
    (book : Book) (n : ℕ) (old : Txn) (news : List Split) → value_of n book.transactions ≡ Some old
    → list_all is_rightly_voided old.splits ≡ true → IsSoundBook book
    → lines_after old.splits news book.lines ≡ book.lines
lines_beside_voided book n old news there voided is =
    let was = is.transactions.keep.each n old there in
    none_dismissed old.splits news book.lines
    (all_of_each (λ (e : ℕ × Line). loses_split old.splits news e.1 ≡ false) book.lines is.lines.rise
    (λ k line found.
    no_line_loses n old news book.transactions line line.state is.transactions.rise there (not-true _ was.1.1.0) voided
    (is.lines.keep.each k line found).1.1.1.1.0))

restored_of :
    (book : Book) (n limit : ℕ) (old : Txn) (voided : Option Void) → value_of n book.transactions ≡ Some old
    → AreDrawn book limit → old.voided ≡ voided → is_none voided ≡ false → IsSoundBook book
    → IsSoundBook (record book { transactions = with_entry n (restored_with old voided) book.transactions })
restored_of book n limit old None there are state is_voided is = absurd cc
restored_of book n limit old (Some void) there are state is_voided is =
    let new = restored_with old (Some void) in
    let kept = is.transactions.keep.each n old there in
    let voided : list_all is_rightly_voided old.splits ≡ true =
    ap (λ (v : Option Void). are_rightly_marked book.reconciliations v old.splits) (sym state) ∙ kept.1.1.1.0 in
    let each = eqb-true (length void.kept) (length old.splits)
    (ap (λ (v : Option Void). keeps_as_many v old.splits) (sym state) ∙ kept.1.1.1.1.0) in
    let numbers = sym (numbers_restored old.splits void.kept each) in
    let From = IsFrom limit (numbers_of old.splits) in
    let count = splits-with n new book.transactions is.transactions.rise in
    let had : splits_in (value_of n book.transactions) ≡ length old.splits = ap splits_in there in
    let same : length new.splits ≡ length old.splits = length_restored old.splits void.kept each in
    let few : length (splits_of (with_entry n new book.transactions)) ≤ 1000000 =
    omega (arith, is.few_splits, count, had, same) in
    let changed = transaction_changed book n limit old new there are
    (record {
      check = ap (λ (v : Option Void). passes_check book.commodities book.accounts (restored_with old v)) (sym state)
          ∙ kept.0;
      once = subst (λ (ns : List ℕ). are_once ns ≡ true) numbers kept.1.0;
      from = subst (λ (ns : List ℕ). All From ns) numbers (all_there limit (numbers_of old.splits));
      marks = all_right book.reconciliations old.splits void.kept;
      keeps = refl;
    }) few is in
    subst (λ (lines : List (ℕ × Line)).
    IsSoundBook (record book { transactions = with_entry n new book.transactions; lines = lines }))
    (lines_beside_voided book n old new.splits there voided is) changed

pub transaction_restored :
    (book : Book) (n limit : ℕ) (old : Txn) → value_of n book.transactions ≡ Some old → AreDrawn book limit
    → is_none old.voided ≡ false → IsSoundBook book
    → IsSoundBook (record book { transactions = with_entry n (restored old) book.transactions })
transaction_restored book n limit old there are is_voided is =
    restored_of book n limit old old.voided there are refl is_voided is

-- ---- a transaction whose splits are marked otherwise, and rightly as its state says

restored_remarked :
    (olds news : List Split) (kept : List KeptSplit) → AreRemarked olds news
    → AreRemarked (restored_splits olds kept) (restored_splits news kept)
restored_remarked [] [] kept stay = tt
restored_remarked [] (new ∷ news) kept stay = absurd stay
restored_remarked (old ∷ olds) [] kept stay = absurd stay
restored_remarked (old ∷ olds) (new ∷ news) [] stay = tt
restored_remarked (old ∷ olds) (new ∷ news) (k ∷ kept) stay = (
  record { id = stay.0.id; account = stay.0.account; value = refl; quantity = refl },
  restored_remarked olds news kept stay.1,
)

remarked_of :
    (book : Book) (n limit : ℕ) (old new : Txn) (voided : Option Void) → value_of n book.transactions ≡ Some old
    → AreDrawn book limit → old.currency ≡ new.currency → old.voided ≡ voided → new.voided ≡ voided
    → AreRemarked old.splits new.splits → are_rightly_marked book.reconciliations voided new.splits ≡ true
    → IsSoundBook book
    → IsSoundBook (record book { transactions = with_entry n new book.transactions })
remarked_of book n limit old new None there are currency was now stay marks is =
    transaction_marked book n limit old new there are currency (ap is_none was) (ap is_none now) stay marks is
remarked_of book n limit old new (Some void) there are currency was now stay marks is =
    let Passes : Txn → Type 0 = λ t. IsTrue (passes_check book.commodities book.accounts t) in
    let kept = is.transactions.keep.each n old there in
    let voided : list_all is_rightly_voided old.splits ≡ true =
    ap (λ (v : Option Void). are_rightly_marked book.reconciliations v old.splits) (sym was) ∙ kept.1.1.1.0 in
    let keeps = ap (λ (v : Option Void). keeps_as_many v old.splits) (sym was) ∙ kept.1.1.1.1.0 in
    let same = same_length old.splits new.splits stay in
    let numbers = same_numbers old.splits new.splits stay in
    let passed = subst (λ (v : Option Void). Passes (restored_with old v)) was kept.0 in
    let passes = same_check book.commodities book.accounts (restored_with old (Some void))
    (restored_with new (Some void)) currency (restored_remarked old.splits new.splits void.kept stay) passed in
    let From = IsFrom limit (numbers_of old.splits) in
    let count = splits-with n new book.transactions is.transactions.rise in
    let had : splits_in (value_of n book.transactions) ≡ length old.splits = ap splits_in there in
    let few : length (splits_of (with_entry n new book.transactions)) ≤ 1000000 =
    omega (arith, is.few_splits, count, had, same) in
    let changed = transaction_changed book n limit old new there are
    (record {
      check = subst (λ (v : Option Void). Passes (restored_with new v)) (sym now) passes;
      once = subst (λ (ns : List ℕ). are_once ns ≡ true) numbers kept.1.0;
      from = subst (λ (ns : List ℕ). All From ns) numbers (all_there limit (numbers_of old.splits));
      marks = ap (λ (v : Option Void). are_rightly_marked book.reconciliations v new.splits) now ∙ marks;
      keeps = ap (λ (v : Option Void). keeps_as_many v new.splits) now
          ∙ sym (ap (λ (count : ℕ). length void.kept == count) same) ∙ keeps;
    }) few is in
    subst (λ (lines : List (ℕ × Line)).
    IsSoundBook (record book { transactions = with_entry n new book.transactions; lines = lines }))
    (lines_beside_voided book n old new.splits there voided is) changed

-- A book stays sound where splits of a transaction are marked otherwise, and rightly; it stays voided where it was.
pub transaction_remarked :
    (book : Book) (n limit : ℕ) (old new : Txn) → value_of n book.transactions ≡ Some old → AreDrawn book limit
    → old.currency ≡ new.currency → old.voided ≡ new.voided → AreRemarked old.splits new.splits
    → are_rightly_marked book.reconciliations new.voided new.splits ≡ true → IsSoundBook book
    → IsSoundBook (record book { transactions = with_entry n new book.transactions })
transaction_remarked book n limit old new there are currency voided =
    remarked_of book n limit old new new.voided there are currency voided refl
