-- What the rules of transactions see of the commodities, the accounts, the reconciliations and the other transactions.
use Rattle.std.proofs.Common.{◌≡◌, ℕ, ◌+◌, ◌<◌, ◌≤◌, ◌&&◌, nat_lt, Bool, true, false, All, List, [], ◌∷◌, length}
use Rattle.std.proofs.Common.{Option, Some, None, is_none, inr, refl, ap, ◌∙◌, arith}
use Rattle.std.specs.List.{list_all, list_any}
use Rattle.std.proofs.lemmas.Bool.{and_right, not-true, not_from_false, or_from, or_parts}
use Rattle.std.proofs.lemmas.List.Elements.{All-weaker}
use Rattle.book_commodity.specs.Rules.{IsSoundTable, stands_before}
use Rattle.book_commodity.specs.Table.{value_of, with_entry, without_entry}
use Rattle.book_commodity.specs.declared.commodity.Commodity.{Commodity}
use Rattle.book_commodity.proofs.DrawnLemmas.{Stays, drawn_below, length_changed, length_drawn, length_left}
use Rattle.book_commodity.proofs.DrawnLemmas.{value_without}
use Rattle.book_commodity.proofs.ListLemmas.{all_back, all_front}
use Rattle.book_commodity.proofs.RuleLemmas.{each_with, fails_before, none_before_with, none_before_without}
use Rattle.book_commodity.proofs.TableLemmas.{rises_with, rises_without}
use Rattle.book_accounts.specs.declared.account.Account.{Account}
use Rattle.book_splits.specs.Balance.{has_splits, splits_of}
use Rattle.book_splits.specs.TransactionRules.{are_once, is_among, numbers_of, share_numbers}
use Rattle.book_splits.specs.declared.reconciliation.Recon.{Recon}
use Rattle.book_splits.specs.declared.split.Mark.{Mark}
use Rattle.book_splits.specs.declared.split.Mark.TheVariants.{New, Cleared, Reconciled, Voided}
use Rattle.book_splits.specs.declared.split.Split.{Split}
use Rattle.book_splits.specs.declared.transaction.Txn.{Txn}
use Rattle.book_splits.proofs.ReplacedLemmas.{IsFrom, all_of_one, none_shared_by, numbers_below, shares_none}
use Rattle.book_splits.proofs.TransactionRuleLemmas.{Suits, has_of_one}
use Rattle.book_void.specs.Voiding.{restored}
use Rattle.book_sound.specs.MarkedTransactionRules.{are_rightly_marked, fits_mark, has_marked, is_named_rightly}
use Rattle.book_sound.specs.MarkedTransactionRules.{is_rightly_marked, keeps_as_many, marked_transaction_rules}
use Rattle.book_sound.specs.Naming.{is_on_some}
use Rattle.book_sound.specs.Tests.{passes_check}
use Rattle.book_sound.proofs.CheckFrames.{check_beside, check_on}
use Rattle.book_sound.proofs.TableFrames.{all_still, sound_still}
use Rattle.book_sound.proofs.VoidFrames.{keeps_unvoided, marks_still, marks_unvoided, restored_on_some}
use Rattle.book_sound.proofs.VoidFrames.{restored_unvoided}

-- Transactions stay sound where commodities are added.
pub transactions_beside :
    (old new : List (ℕ × Commodity)) (accounts : List (ℕ × Account)) (reconciliations : List (ℕ × Recon)) (most : ℕ)
    (ts : List (ℕ × Txn)) → Stays old new
    → IsSoundTable (marked_transaction_rules old accounts reconciliations ts) most ts
    → IsSoundTable (marked_transaction_rules new accounts reconciliations ts) most ts
transactions_beside old new accounts reconciliations most ts stays =
    sound_still (marked_transaction_rules old accounts reconciliations ts)
    (marked_transaction_rules new accounts reconciliations ts) most ts
    (λ k t there kept. (check_beside old new accounts (restored t) stays kept.0, kept.1))

-- Transactions stay sound where the accounts that have splits take them as before.
pub transactions_on :
    (commodities : List (ℕ × Commodity)) (old new : List (ℕ × Account)) (reconciliations : List (ℕ × Recon))
    (most : ℕ) (ts : List (ℕ × Txn))
    → ((account : ℕ) → has_splits ts account ≡ true → Suits (value_of account old) (value_of account new))
    → IsSoundTable (marked_transaction_rules commodities old reconciliations ts) most ts
    → IsSoundTable (marked_transaction_rules commodities new reconciliations ts) most ts
transactions_on commodities old new reconciliations most ts suits =
    sound_still (marked_transaction_rules commodities old reconciliations ts)
    (marked_transaction_rules commodities new reconciliations ts) most ts
    (λ k t there kept.
    let named = λ (account : ℕ) (has : is_on_some account (restored t).splits ≡ true). suits account
    (has_of_one k account t ts there (restored_on_some account t has)) in
    (check_on commodities old new (restored t) named kept.0, kept.1))

-- ---- where reconciliations are added

marked_still :
    (split : Split) (found later : Option Recon) → ((r : Recon) → found ≡ Some r → later ≡ Some r)
    → has_marked split found ≡ true → has_marked split later ≡ true
marked_still split None later same marked = absurd cc
marked_still split (Some r) later same marked = ap (has_marked split) (same r refl) ∙ marked

named_still :
    (old new : List (ℕ × Recon)) (split : Split) (named : Option ℕ) → Stays old new
    → is_named_rightly old split named ≡ true → is_named_rightly new split named ≡ true
named_still old new split None stays is = is
named_still old new split (Some r) stays is =
    marked_still split (value_of r old) (value_of r new) (stays.each r) is

mark_still :
    (old new : List (ℕ × Recon)) (split : Split) (mark : Mark) → Stays old new
    → fits_mark old split mark ≡ true → fits_mark new split mark ≡ true
mark_still old new split New stays is = is
mark_still old new split Cleared stays is = is
mark_still old new split Reconciled stays is = named_still old new split split.recon stays is
mark_still old new split Voided stays is = absurd cc

-- Transactions stay sound where reconciliations are added.
pub transactions_under :
    (commodities : List (ℕ × Commodity)) (accounts : List (ℕ × Account)) (old new : List (ℕ × Recon)) (most : ℕ)
    (ts : List (ℕ × Txn)) → Stays old new
    → IsSoundTable (marked_transaction_rules commodities accounts old ts) most ts
    → IsSoundTable (marked_transaction_rules commodities accounts new ts) most ts
transactions_under commodities accounts old new most ts stays =
    sound_still (marked_transaction_rules commodities accounts old ts)
    (marked_transaction_rules commodities accounts new ts) most ts
    (λ k t there kept.
    let marks = marks_still old new t.voided t.splits
    (all_still (is_rightly_marked old) (is_rightly_marked new) t.splits
    (λ split. mark_still old new split split.mark stays)) kept.1.1.1.0 in
    (kept.0, (kept.1.0, (kept.1.1.0, (marks, kept.1.1.1.1)))))

-- ---- where a transaction is put

-- What a transaction brings that is put: as it is brought back it breaks no rule; its splits have numbers of their own,
-- which are some that were there or are drawn from the limit on; they are as its state says; and where it is voided the
-- amounts of each are kept.
pub record IsRight
    (commodities : List (ℕ × Commodity)) (accounts : List (ℕ × Account)) (reconciliations : List (ℕ × Recon))
    (limit : ℕ) (olds : List ℕ) (new : Txn)
    : Type 0 where
  pub check : passes_check commodities accounts (restored new) ≡ true
  pub once : are_once (numbers_of new.splits) ≡ true
  pub from : All (IsFrom limit olds) (numbers_of new.splits)
  pub marks : are_rightly_marked reconciliations new.voided new.splits ≡ true
  pub keeps : keeps_as_many new.voided new.splits ≡ true

-- The same of one that is not voided: it breaks no rule, and its splits are rightly marked.
pub record IsFit
    (commodities : List (ℕ × Commodity)) (accounts : List (ℕ × Account)) (reconciliations : List (ℕ × Recon))
    (limit : ℕ) (olds : List ℕ) (new : Txn)
    : Type 0 where
  pub check : passes_check commodities accounts new ≡ true
  pub once : are_once (numbers_of new.splits) ≡ true
  pub from : All (IsFrom limit olds) (numbers_of new.splits)
  pub marks : list_all (is_rightly_marked reconciliations) new.splits ≡ true
  pub unvoided : is_none new.voided ≡ true

pub right_of_fit :
    (commodities : List (ℕ × Commodity)) (accounts : List (ℕ × Account)) (reconciliations : List (ℕ × Recon))
    (limit : ℕ) (olds : List ℕ) (new : Txn) → IsFit commodities accounts reconciliations limit olds new
    → IsRight commodities accounts reconciliations limit olds new
right_of_fit commodities accounts reconciliations limit olds new fit = record {
  check = ap (passes_check commodities accounts) (restored_unvoided new fit.unvoided) ∙ fit.check;
  once = fit.once;
  from = fit.from;
  marks = marks_unvoided reconciliations new.voided new.splits fit.unvoided ∙ fit.marks;
  keeps = keeps_unvoided new.voided new.splits fit.unvoided;
}

-- numbers above one are drawn from it on
pub drawn_from : (n : ℕ) (numbers : List ℕ) → All (λ (m : ℕ). n < m) numbers → All (IsFrom n []) numbers
drawn_from n numbers above =
    All-weaker (λ (m : ℕ). n < m) (IsFrom n []) (λ m more. inr (omega (arith, more))) numbers above

-- Whether a transaction has a split with one of these numbers.
abbrev pub has_numbers : List ℕ → Txn → Bool
has_numbers numbers transaction = list_any (is_among (numbers_of transaction.splits)) numbers

-- no transaction before shares a number with one whose numbers are drawn, or were there and are of none before
pub free_from :
    (k limit : ℕ) (olds : List ℕ) (new : Txn) (ts : List (ℕ × Txn)) → All (IsFrom limit olds) (numbers_of new.splits)
    → All (λ (s : Split). s.id < limit) (splits_of ts) → stands_before (has_numbers olds) k ts ≡ false
    → stands_before (share_numbers new) k ts ≡ false
free_from k limit olds new [] from below none = refl
free_from k limit olds new (e ∷ ts) from below none =
    let Below : Split → Type 0 = λ s. s.id < limit in
    let parts = or_parts (nat_lt e.0 k && has_numbers olds e.1) (stands_before (has_numbers olds) k ts) none in
    let numbers = numbers_below limit e.1.splits (all_front Below e.1.splits (splits_of ts) below) in
    let first : (nat_lt e.0 k && share_numbers new e.1) ≡ false =
    (elim (nat_lt e.0 k) as
    (λ (b : Bool). (b && has_numbers olds e.1) ≡ false → (b && share_numbers new e.1) ≡ false) [
      | true ↦ λ free. none_shared_by limit olds (numbers_of new.splits) (numbers_of e.1.splits) numbers from free
      | false ↦ λ free. refl
    ]) parts.0 in
    or_from (nat_lt e.0 k && share_numbers new e.1) _ first
    (free_from k limit olds new ts from (all_back Below e.1.splits (splits_of ts) below) parts.1)

-- no transaction has one of no numbers
none_of_none : (k : ℕ) (ts : List (ℕ × Txn)) → stands_before (has_numbers []) k ts ≡ false
none_of_none k [] = refl
none_of_none k (e ∷ ts) =
    or_from (nat_lt e.0 k && has_numbers [] e.1) _ (and_right (nat_lt e.0 k) (has_numbers [] e.1) refl)
    (none_of_none k ts)

-- Transactions stay sound where one is added under a drawn number, whose splits draw numbers too.
pub transactions_posted :
    (commodities : List (ℕ × Commodity)) (accounts : List (ℕ × Account)) (reconciliations : List (ℕ × Recon)) (n : ℕ)
    (new : Txn) (most : ℕ) (ts : List (ℕ × Txn))
    → All (λ (e : ℕ × Txn). e.0 < n) ts → All (λ (split : Split). split.id < n) (splits_of ts)
    → IsRight commodities accounts reconciliations n [] new → length ts + 1 ≤ most
    → IsSoundTable (marked_transaction_rules commodities accounts reconciliations ts) most ts
    → IsSoundTable (marked_transaction_rules commodities accounts reconciliations (with_entry n new ts)) most
    (with_entry n new ts)
transactions_posted commodities accounts reconciliations n new most ts below ids fit few is =
    let later = with_entry n new ts in
    let own = none_before_with (share_numbers new) n n new ts (λ before. absurd (omega (arith, before)))
    (free_from n n [] new ts fit.from ids (none_of_none n ts)) in
    record {
      rise = rises_with n new ts is.rise;
      keep = each_with (marked_transaction_rules commodities accounts reconciliations ts)
          (marked_transaction_rules commodities accounts reconciliations later) n new ts
          (fit.check, (fit.once, (not_from_false _ own, (fit.marks, (fit.keeps, tt)))))
          (λ k t other there kept.
          let drawn = drawn_below k n t ts below there in
          let once = none_before_with (share_numbers t) k n new ts (λ before. absurd (omega (arith, before, drawn)))
          (not-true _ kept.1.1.0) in
          (kept.0, (kept.1.0, (not_from_false _ once, kept.1.1.1)))) is.keep;
      few = omega (arith, few, length_drawn n new ts is.rise below);
    }

-- Transactions stay sound where another stands in the place of one, with numbers of its splits or drawn ones.
pub transactions_replaced :
    (commodities : List (ℕ × Commodity)) (accounts : List (ℕ × Account)) (reconciliations : List (ℕ × Recon))
    (limit n : ℕ) (old new : Txn) (most : ℕ) (ts : List (ℕ × Txn))
    → value_of n ts ≡ Some old → All (λ (split : Split). split.id < limit) (splits_of ts)
    → IsRight commodities accounts reconciliations limit (numbers_of old.splits) new
    → IsSoundTable (marked_transaction_rules commodities accounts reconciliations ts) most ts
    → IsSoundTable (marked_transaction_rules commodities accounts reconciliations (with_entry n new ts)) most
    (with_entry n new ts)
transactions_replaced commodities accounts reconciliations limit n old new most ts there below fit is =
    let later = with_entry n new ts in
    let Below : Split → Type 0 = λ s. s.id < limit in
    let was = is.keep.each n old there in
    let own = none_before_with (share_numbers new) n n new ts (λ before. absurd (omega (arith, before)))
    (free_from n limit (numbers_of old.splits) new ts fit.from below (not-true _ was.1.1.0)) in
    record {
      rise = rises_with n new ts is.rise;
      keep = each_with (marked_transaction_rules commodities accounts reconciliations ts)
          (marked_transaction_rules commodities accounts reconciliations later) n new ts
          (fit.check, (fit.once, (not_from_false _ own, (fit.marks, (fit.keeps, tt)))))
          (λ k t other found kept.
          let free = not-true _ kept.1.1.0 in
          let numbers = numbers_below limit t.splits (all_of_one Below k t ts found below) in
          let once = none_before_with (share_numbers t) k n new ts
          (λ before. shares_none limit (numbers_of old.splits) (numbers_of new.splits) (numbers_of t.splits) numbers
          fit.from (fails_before (share_numbers t) k n old ts free before there)) free in
          (kept.0, (kept.1.0, (not_from_false _ once, kept.1.1.1)))) is.keep;
      few = omega (arith, is.few, length_changed n new old ts is.rise there);
    }

-- Transactions stay sound where one is taken.
pub transactions_dropped :
    (commodities : List (ℕ × Commodity)) (accounts : List (ℕ × Account)) (reconciliations : List (ℕ × Recon)) (n : ℕ)
    (most : ℕ) (ts : List (ℕ × Txn))
    → IsSoundTable (marked_transaction_rules commodities accounts reconciliations ts) most ts
    → IsSoundTable (marked_transaction_rules commodities accounts reconciliations (without_entry n ts)) most
    (without_entry n ts)
transactions_dropped commodities accounts reconciliations n most ts is = record {
  rise = rises_without n ts is.rise;
  keep = record {
    each = λ k t left.
        let kept = is.keep.each k t (value_without k n t ts is.rise left) in
        let alone = none_before_without (share_numbers t) k n ts (not-true _ kept.1.1.0) in
        (kept.0, (kept.1.0, (not_from_false _ alone, kept.1.1.1)));
  };
  few = omega (arith, is.few, length_left n ts);
}
