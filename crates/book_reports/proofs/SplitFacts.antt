-- What a sound book says of each of its splits: where its account is listed, and what it has as quantity.
use Rattle.std.proofs.Common.{◌≡◌, ℕ, ◌+◌, ◌==◌, nat_eq, ◌&&◌, not, pos, Bool, true, false, if◌then◌else◌, List, [], ◌∷◌, All, length}
use Rattle.std.proofs.Common.{Option, Some, None, is_some, refl, sym, ap, ◌∙◌, arith}
use Rattle.std.specs.List.{list_all}
use Rattle.std.specs.Ordering.{int_eq}
use Rattle.std.proofs.lemmas.Bool.{and_parts, eqb-true, not-false}
use Rattle.std.proofs.lemmas.Bool.Decides.{Decides-int_eq, nat_tests}
use Rattle.std.proofs.lemmas.List.Elements.{All-append, All-cons, All-head, All-nil, All-tail, All-weaker}
use Rattle.std.proofs.lemmas.List.Sums.{length-filter}
use Rattle.book_accounts.specs.Order.{depth_first}
use Rattle.book_accounts.specs.declared.account.Account.{Account}
use Rattle.book_accounts.proofs.OnceLemmas.{listed_once}
use Rattle.book_commodity.specs.Rules.{AllKept}
use Rattle.book_commodity.specs.Table.{value_of}
use Rattle.book_commodity.proofs.RuleLemmas.{kept_back, kept_front, not-broken}
use Rattle.book_sound.proofs.MarkLemmas.{right_is_unvoided}
use Rattle.book_sound.proofs.OwnFrames.{all_of_each}
use Rattle.book_sound.proofs.SoundFacts.{accounts_are_rooted, transactions_balance}
use Rattle.book_sound.proofs.VoidFrames.{rightly_voided_is}
use Rattle.book_ledger.specs.Ledger.{HasPlaces}
use Rattle.book_sound.specs.MarkedTransactionRules.{are_rightly_marked, is_rightly_marked, is_rightly_voided}
use Rattle.book_sound.specs.MarkedTransactionRules.{keeps_as_many}
use Rattle.book_sound.specs.Soundness.{IsSoundBook}
use Rattle.book_splits.specs.Balance.{splits_of}
use Rattle.book_splits.specs.Check.{rules_of_splits, split_rules}
use Rattle.book_splits.specs.TransactionRules.{is_voided}
use Rattle.book_splits.specs.declared.reconciliation.Recon.{Recon}
use Rattle.book_splits.specs.declared.split.Split.{Split}
use Rattle.book_splits.specs.declared.transaction.Txn.{Txn}
use Rattle.book_splits.specs.declared.void.KeptSplit.{KeptSplit}
use Rattle.book_splits.specs.declared.void.Void.{Void}
use Rattle.book_splits.proofs.CheckLemmas.{parts_of}
use Rattle.book_splits.proofs.TransactionRuleLemmas.{is_none_of}
use Rattle.book_undo.specs.Book.{Book}
use Rattle.book_void.specs.Voiding.{restored, restored_split, restored_splits, restored_with}
use Rattle.book_reports.proofs.SumLemmas.{IsListedOnce}

-- A split of a transaction in a currency stands on an account that takes splits, and its value is its quantity where
-- the account holds the currency.
pub record FitsAccount (accounts : List (ℕ × Account)) (currency : ℕ) (split : Split) : Type 0 where
  pub account : Account
  pub there : value_of split.account accounts ≡ Some account
  pub open_for : account.placeholder ≡ false
  pub same : account.commodity ≡ currency → split.value ≡ split.quantity

-- a test that two numbers are the same passes where they are
same_number : (n m : ℕ) → n ≡ m → (n == m) ≡ true
same_number n m same = grind (arith, nat_tests, same)

fits_found :
    (accounts : List (ℕ × Account)) (currency place : ℕ) (split : Split) (found : Option Account)
    → value_of split.account accounts ≡ found → AllKept (split_rules currency place split found)
    → FitsAccount accounts currency split
fits_found accounts currency place split None there kept = absurd (let broken = kept.0 in cc)
fits_found accounts currency place split (Some account) there kept = record {
  account = account;
  there = there;
  open_for = not-broken _ _ kept.0;
  same = λ holds.
      let rule : ((account.commodity == currency) && not (int_eq split.value split.quantity)) ≡ false =
      not-broken _ _ kept.1.1.1.0 in
      let differs : not (int_eq split.value split.quantity) ≡ false =
      sym (ap (λ (t : Bool). t && not (int_eq split.value split.quantity))
      (same_number account.commodity currency holds)) ∙ rule in
      (Decides-int_eq split.value split.quantity).0 (not-false _ differs);
}

-- a voided split fits its account where it does as it is brought back
fits_voided :
    (accounts : List (ℕ × Account)) (currency : ℕ) (splits : List Split) (kept : List KeptSplit)
    → length kept ≡ length splits → list_all is_rightly_voided splits ≡ true
    → All (FitsAccount accounts currency) (restored_splits splits kept) → All (FitsAccount accounts currency) splits
fits_voided accounts currency [] kept same voided fits = All-nil (FitsAccount accounts currency)
fits_voided accounts currency (split ∷ more) [] same voided fits = absurd (omega (arith, same))
fits_voided accounts currency (split ∷ more) (first ∷ kept) same voided fits =
    let Fits : Split → Type 0 = FitsAccount accounts currency in
    let rest = restored_splits more kept in
    let parts = and_parts (is_rightly_voided split) (list_all is_rightly_voided more) voided in
    let is = rightly_voided_is split parts.0 in
    let one = All-head Fits (restored_split split first) rest fits in
    All-cons Fits split more
    (record {
      account = one.account;
      there = one.there;
      open_for = one.open_for;
      same = λ holds. is.value ∙ sym is.quantity;
    })
    (fits_voided accounts currency more kept (omega (arith, same)) parts.1
    (All-tail Fits (restored_split split first) rest fits))

fits_with :
    (accounts : List (ℕ × Account)) (reconciliations : List (ℕ × Recon)) (t : Txn) (voided : Option Void)
    → All (FitsAccount accounts (restored_with t voided).currency) (restored_with t voided).splits
    → are_rightly_marked reconciliations voided t.splits ≡ true → keeps_as_many voided t.splits ≡ true
    → All (FitsAccount accounts t.currency) t.splits
fits_with accounts reconciliations t None fits marks keeps = fits
fits_with accounts reconciliations t (Some void) fits marks keeps =
    fits_voided accounts t.currency t.splits void.kept (eqb-true (length void.kept) (length t.splits) keeps) marks fits

-- A split has no amounts where it is voided.
abbrev pub IsZeroVoided : Split → Type 0
IsZeroVoided split = is_voided split.mark ≡ true → (split.value ≡ pos 0) × (split.quantity ≡ pos 0)

zero_voided :
    (reconciliations : List (ℕ × Recon)) (voided : Option Void) (splits : List Split)
    → are_rightly_marked reconciliations voided splits ≡ true → All IsZeroVoided splits
zero_voided reconciliations voided [] marks = All-nil IsZeroVoided
zero_voided reconciliations None (split ∷ more) marks =
    let right = is_rightly_marked reconciliations in
    let parts = and_parts (right split) (list_all right more) marks in
    All-cons IsZeroVoided split more (λ is. absurd (let none = right_is_unvoided reconciliations split parts.0 in cc))
    (zero_voided reconciliations None more parts.1)
zero_voided reconciliations (Some void) (split ∷ more) marks =
    let parts = and_parts (is_rightly_voided split) (list_all is_rightly_voided more) marks in
    All-cons IsZeroVoided split more (λ is. let zero = rightly_voided_is split parts.0 in (zero.value, zero.quantity))
    (zero_voided reconciliations (Some void) more parts.1)

-- A voided split of a sound book has no amounts.
pub voided_are_zero :
    (book : Book) (n : ℕ) (t : Txn) → IsSoundBook book → value_of n book.transactions ≡ Some t
    → All IsZeroVoided t.splits
voided_are_zero book n t is there =
    zero_voided book.reconciliations t.voided t.splits (is.transactions.keep.each n t there).1.1.1.0

fit_all :
    (accounts : List (ℕ × Account)) (currency place : ℕ) (splits : List Split)
    → AllKept (rules_of_splits accounts currency place splits) → All (FitsAccount accounts currency) splits
fit_all accounts currency place [] kept = All-nil (FitsAccount accounts currency)
fit_all accounts currency place (split ∷ more) kept =
    let rules = split_rules currency place split (value_of split.account accounts) in
    let rest = rules_of_splits accounts currency (place + 1) more in
    All-cons (FitsAccount accounts currency) split more
    (fits_found accounts currency place split (value_of split.account accounts) refl (kept_front rules rest kept))
    (fit_all accounts currency (place + 1) more (kept_back rules rest kept))

-- Each transaction has few splits.
pub has_places : (book : Book) → IsSoundBook book → HasPlaces book.transactions
has_places book is = record {
  each = λ n t there. let sound = transactions_balance book n t is there in omega (arith, sound.few);
}

-- The splits of each transaction of a sound book fit their accounts.
pub splits_fit :
    (book : Book) → IsSoundBook book
    → All (λ (e : ℕ × Txn). All (FitsAccount book.accounts e.1.currency) e.1.splits) book.transactions
splits_fit book is =
    all_of_each (λ (e : ℕ × Txn). All (FitsAccount book.accounts e.1.currency) e.1.splits) book.transactions
    is.transactions.rise
    (λ n t there.
    let kept = is.transactions.keep.each n t there in
    let parts = parts_of book.commodities book.accounts (restored t) (is_none_of _ kept.0) in
    fits_with book.accounts book.reconciliations t t.voided
    (fit_all book.accounts (restored t).currency 0 (restored t).splits parts.splits) kept.1.1.1.0 kept.1.1.1.1.0)

all_splits :
    (P : Split → Type 0) (ts : List (ℕ × Txn)) → All (λ (e : ℕ × Txn). All P e.1.splits) ts → All P (splits_of ts)
all_splits P [] all = All-nil P
all_splits P (e ∷ ts) all =
    let Each : ℕ × Txn → Type 0 = λ x. All P x.1.splits in
    All-append P e.1.splits (splits_of ts) (All-head Each e ts all) (all_splits P ts (All-tail Each e ts all))

-- What follows of a split from where it stands holds of all splits of a sound book.
pub each_split :
    (book : Book) (P : Split → Type 0) → IsSoundBook book
    → ((currency : ℕ) (split : Split) → FitsAccount book.accounts currency split → P split)
    → All P (splits_of book.transactions)
each_split book P is follows =
    all_splits P book.transactions
    (All-weaker (λ (e : ℕ × Txn). All (FitsAccount book.accounts e.1.currency) e.1.splits)
    (λ (e : ℕ × Txn). All P e.1.splits)
    (λ e fit. All-weaker (FitsAccount book.accounts e.1.currency) P (λ split fits. follows e.1.currency split fits)
    e.1.splits fit) book.transactions (splits_fit book is))

-- The account of each split is listed once in the order of the tree.
pub accounts_are_listed :
    (book : Book) → IsSoundBook book → All (IsListedOnce (depth_first book.accounts)) (splits_of book.transactions)
accounts_are_listed book is =
    each_split book (IsListedOnce (depth_first book.accounts)) is
    (λ currency split fits.
    length-filter (nat_eq split.account) (depth_first book.accounts)
    ∙ listed_once book.accounts is.accounts.rise (accounts_are_rooted book is) split.account
    ∙ ap (λ (o : Option Account). if is_some o then 1 else 0) fits.there)
