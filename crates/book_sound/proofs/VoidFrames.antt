-- What the rules of transactions say of one that is not voided, and of one that is: how the two differ ends here.
use Rattle.std.proofs.Common.{◌∙◌}
use Rattle.std.proofs.Common.{◌≡◌, ℕ, ◌==◌, ◌||◌, pos, Bool, true, false, All, List, [], ◌∷◌, length, map, Option, Some}
use Rattle.std.proofs.Common.{None, is_none, unsigned_abs, refl, ap, arith}
use Rattle.std.specs.List.{list_all}
use Rattle.std.specs.Ordering.{int_eq}
use Rattle.std.proofs.lemmas.Bool.{and_parts, eqb-true}
use Rattle.std.proofs.lemmas.Bool.Decides.{Decides-int_eq}
use Rattle.std.proofs.lemmas.Int.{ints}
use Rattle.std.proofs.lemmas.List.Elements.{All-cons, All-nil}
use Rattle.book_splits.specs.Balance.{sum_of_values}
use Rattle.book_splits.specs.Check as transaction
use Rattle.book_splits.specs.TransactionRules.{is_voided, numbers_of}
use Rattle.book_splits.specs.declared.reconciliation.Recon.{Recon}
use Rattle.book_splits.specs.declared.split.Split.{Split}
use Rattle.book_splits.specs.declared.transaction.Txn.{Txn}
use Rattle.book_splits.specs.declared.void.KeptSplit.{KeptSplit}
use Rattle.book_splits.specs.declared.void.Void.{Void}
use Rattle.book_void.specs.Voiding.{restored, restored_splits, restored_with}
use Rattle.book_sound.specs.MarkedTransactionRules.{are_rightly_marked, is_rightly_marked, is_rightly_voided}
use Rattle.book_sound.specs.MarkedTransactionRules.{keeps_as_many}
use Rattle.book_sound.specs.Naming.{is_on_some}

-- ---- a transaction that is not voided

restored_as : (t : Txn) (voided : Option Void) → is_none voided ≡ true → restored_with t voided ≡ t
restored_as t None none = refl
restored_as t (Some void) none = absurd cc

-- It is brought back as it is.
pub restored_unvoided : (t : Txn) → is_none t.voided ≡ true → restored t ≡ t
restored_unvoided t = restored_as t t.voided

-- Its splits are each rightly marked.
pub marks_unvoided :
    (reconciliations : List (ℕ × Recon)) (voided : Option Void) (splits : List Split) → is_none voided ≡ true
    → are_rightly_marked reconciliations voided splits ≡ list_all (is_rightly_marked reconciliations) splits
marks_unvoided reconciliations None splits none = refl
marks_unvoided reconciliations (Some void) splits none = absurd cc

-- Nothing has to be kept of it.
pub keeps_unvoided : (voided : Option Void) (splits : List Split) → is_none voided ≡ true → keeps_as_many voided splits ≡ true
keeps_unvoided None splits none = refl
keeps_unvoided (Some void) splits none = absurd cc

-- ---- the accounts of a transaction that is brought back

restored_on :
    (account : ℕ) (splits : List Split) (kept : List KeptSplit)
    → is_on_some account (restored_splits splits kept) ≡ true → is_on_some account splits ≡ true
restored_on account [] kept on = on
restored_on account (s ∷ splits) [] on = absurd cc
restored_on account (s ∷ splits) (k ∷ kept) on =
    let First : Bool → Type 0 = λ b. (b || is_on_some account (restored_splits splits kept)) ≡ true
    → (b || is_on_some account splits) ≡ true in
    elim (s.account == account) as First [ true ↦ λ here. refl | false ↦ λ rest. restored_on account splits kept rest ] on

on_with :
    (account : ℕ) (t : Txn) (voided : Option Void) → is_on_some account (restored_with t voided).splits ≡ true
    → is_on_some account t.splits ≡ true
on_with account t None on = on
on_with account t (Some void) on = restored_on account t.splits void.kept on

-- They are those of the transaction as it is.
pub restored_on_some :
    (account : ℕ) (t : Txn) → is_on_some account (restored t).splits ≡ true → is_on_some account t.splits ≡ true
restored_on_some account t = on_with account t t.voided

-- ---- where reconciliations are added

-- The splits of a transaction stay as its state says, where those that are rightly marked stay so.
pub marks_still :
    (old new : List (ℕ × Recon)) (voided : Option Void) (splits : List Split)
    → (list_all (is_rightly_marked old) splits ≡ true → list_all (is_rightly_marked new) splits ≡ true)
    → are_rightly_marked old voided splits ≡ true → are_rightly_marked new voided splits ≡ true
marks_still old new None splits still marks = still marks
marks_still old new (Some void) splits still marks = marks

-- ---- a voided transaction

-- What a split says that is rightly voided.
pub record IsVoided (split : Split) : Type 0 where
  pub mark : is_voided split.mark ≡ true
  pub recon : is_none split.recon ≡ true
  pub value : split.value ≡ pos 0
  pub quantity : split.quantity ≡ pos 0

pub rightly_voided_is : (split : Split) → is_rightly_voided split ≡ true → IsVoided split
rightly_voided_is split is =
    let parts = and_parts (is_voided split.mark) _ is in
    let more = and_parts (is_none split.recon) _ parts.1 in
    let amounts = and_parts (int_eq split.value (pos 0)) (int_eq split.quantity (pos 0)) more.1 in
    record {
      mark = parts.0;
      recon = more.0;
      value = (Decides-int_eq split.value (pos 0)).0 amounts.0;
      quantity = (Decides-int_eq split.quantity (pos 0)).0 amounts.1;
    }

values_of_voided : (splits : List Split) → list_all is_rightly_voided splits ≡ true → sum_of_values splits ≡ pos 0
values_of_voided [] all = refl
values_of_voided (s ∷ splits) all =
    let parts = and_parts (is_rightly_voided s) (list_all is_rightly_voided splits) all in
    let first = (rightly_voided_is s parts.0).value in
    let rest = values_of_voided splits parts.1 in
    omega (arith, ints, first, rest)

amounts_of_voided :
    (splits : List Split) → list_all is_rightly_voided splits ≡ true → All transaction.HasAmounts splits
amounts_of_voided [] all = All-nil transaction.HasAmounts
amounts_of_voided (s ∷ splits) all =
    let parts = and_parts (is_rightly_voided s) (list_all is_rightly_voided splits) all in
    let is = rightly_voided_is s parts.0 in
    let value = ap unsigned_abs is.value in
    let quantity = ap unsigned_abs is.quantity in
    All-cons transaction.HasAmounts s splits (omega (arith, value), omega (arith, quantity))
    (amounts_of_voided splits parts.1)

pub length_restored :
    (splits : List Split) (kept : List KeptSplit) → length kept ≡ length splits
    → length (restored_splits splits kept) ≡ length splits
length_restored [] kept same = refl
length_restored (s ∷ splits) [] same = absurd (omega (arith, same))
length_restored (s ∷ splits) (k ∷ kept) same =
    let rest = length_restored splits kept (omega (arith, same)) in omega (arith, rest)

-- The numbers of its splits stay where it is brought back.
pub numbers_restored :
    (splits : List Split) (kept : List KeptSplit) → length kept ≡ length splits
    → numbers_of (restored_splits splits kept) ≡ numbers_of splits
numbers_restored [] kept same = refl
numbers_restored (s ∷ splits) [] same = absurd (omega (arith, same))
numbers_restored (s ∷ splits) (k ∷ kept) same =
    ap (λ (more : List ℕ). s.id ∷ more) (numbers_restored splits kept (omega (arith, same)))

-- ---- a transaction of either state

sound_with :
    (reconciliations : List (ℕ × Recon)) (t : Txn) (voided : Option Void)
    → transaction.IsSound (restored_with t voided).splits → are_rightly_marked reconciliations voided t.splits ≡ true
    → keeps_as_many voided t.splits ≡ true → transaction.IsSound t.splits
sound_with reconciliations t None is marks keeps = is
sound_with reconciliations t (Some void) is marks keeps =
    let same = length_restored t.splits void.kept (eqb-true (length void.kept) (length t.splits) keeps) in
    record {
      balanced = values_of_voided t.splits marks;
      amounts = amounts_of_voided t.splits marks;
      some = omega (arith, is.some, same);
      few = omega (arith, is.few, same);
    }

-- Its splits balance and keep the limits, where those of the transaction as it is brought back do.
pub sound_as_restored :
    (reconciliations : List (ℕ × Recon)) (t : Txn) → transaction.IsSound (restored t).splits
    → are_rightly_marked reconciliations t.voided t.splits ≡ true → keeps_as_many t.voided t.splits ≡ true
    → transaction.IsSound t.splits
sound_as_restored reconciliations t = sound_with reconciliations t t.voided

-- ---- splits that are marked otherwise

stay_voided :
    (rule : Split → Split) (splits : List Split) → ((s : Split) → is_rightly_voided s ≡ true → rule s ≡ s)
    → list_all is_rightly_voided splits ≡ true → map rule splits ≡ splits
stay_voided rule [] stays all = refl
stay_voided rule (s ∷ splits) stays all =
    let parts = and_parts (is_rightly_voided s) (list_all is_rightly_voided splits) all in
    ap (λ (first : Split). first ∷ map rule splits) (stays s parts.0)
    ∙ ap (λ (more : List Split). s ∷ more) (stay_voided rule splits stays parts.1)

-- The splits of a transaction stay as its state says where a rule leaves those that are voided, and marks others rightly.
pub marks_remarked :
    (old new : List (ℕ × Recon)) (rule : Split → Split) (voided : Option Void) (splits : List Split)
    → ((s : Split) → is_rightly_voided s ≡ true → rule s ≡ s)
    → (list_all (is_rightly_marked old) splits ≡ true → list_all (is_rightly_marked new) (map rule splits) ≡ true)
    → are_rightly_marked old voided splits ≡ true → are_rightly_marked new voided (map rule splits) ≡ true
marks_remarked old new rule None splits stays right marks = right marks
marks_remarked old new rule (Some void) splits stays right marks =
    ap (list_all is_rightly_voided) (stay_voided rule splits stays marks) ∙ marks
