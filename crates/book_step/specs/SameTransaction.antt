-- Whether a transaction is the same as another.
use Rattle.std.specs.Prelude.{◌≡◌, ℕ, ℤ, ◌==◌, Bool, true, false, if◌then◌else◌, List, Option, Some, None, is_some}
use Rattle.std.specs.Prelude.{unwrap_or, refl}
use Rattle.std.specs.Cmp.{unsigned_Decides}
use Rattle.std.specs.Ordering.{int_eq}
use Rattle.std.proofs.Common.{ap, sym, ◌∙◌}
use Rattle.std.proofs.lemmas.Bool.Decides.{Decides-int_eq}
use Rattle.std.proofs.lemmas.Slice.Eq.{slice_eq-Decides}
use lib.Pointwise.{pointwise}
use Rattle.book_commodity.specs.Decision.{Decision, as_well, both, same_option, same_text}
use Rattle.book_splits.specs.declared.split.Mark.{Mark}
use Rattle.book_splits.specs.declared.split.Mark.TheVariants.{New, Cleared, Reconciled, Voided}
use Rattle.book_splits.specs.declared.split.Split.{Split}
use Rattle.book_splits.specs.declared.transaction.Txn.{Txn}
use Rattle.book_splits.specs.declared.void.KeptSplit.{KeptSplit}
use Rattle.book_splits.specs.declared.void.Void.{Void}

-- Two numbers are the same.
abbrev pub same_number : (m n : ℕ) → Decision (m ≡ n)
same_number m n = record { is = m == n; decides = unsigned_Decides m n }

-- Two amounts or days are the same.
abbrev pub same_integer : (m n : ℤ) → Decision (m ≡ n)
same_integer m n = record { is = int_eq m n; decides = Decides-int_eq m n }

-- Whether two marks are the same.
abbrev pub is_mark : Mark → Mark → Bool
is_mark New New = true
is_mark Cleared Cleared = true
is_mark Reconciled Reconciled = true
is_mark Voided Voided = true
is_mark _ _ = false

-- Marks of which the test says that they are the same are the same.
pub mark_is : (m n : Mark) → is_mark m n ≡ true → m ≡ n
mark_is New New e = refl
mark_is New Cleared e = absurd cc
mark_is New Reconciled e = absurd cc
mark_is New Voided e = absurd cc
mark_is Cleared New e = absurd cc
mark_is Cleared Cleared e = refl
mark_is Cleared Reconciled e = absurd cc
mark_is Cleared Voided e = absurd cc
mark_is Reconciled New e = absurd cc
mark_is Reconciled Cleared e = absurd cc
mark_is Reconciled Reconciled e = refl
mark_is Reconciled Voided e = absurd cc
mark_is Voided New e = absurd cc
mark_is Voided Cleared e = absurd cc
mark_is Voided Reconciled e = absurd cc
mark_is Voided Voided e = refl

-- A mark is the same as itself.
pub mark_itself : (m : Mark) → is_mark m m ≡ true
mark_itself New = refl
mark_itself Cleared = refl
mark_itself Reconciled = refl
mark_itself Voided = refl

-- Two marks are the same.
abbrev pub same_mark : (m n : Mark) → Decision (m ≡ n)
same_mark m n = record {
  is = is_mark m n;
  decides = (mark_is m n, λ h. ap (is_mark m) (sym h) ∙ mark_itself m);
}

-- A split has what another has.
abbrev pub HasSameParts : Split → Split → Type 0
HasSameParts old new =
    (new.id ≡ old.id)
    × ((new.account ≡ old.account)
    × ((new.memo ≡ old.memo)
    × ((new.action ≡ old.action)
    × ((new.mark ≡ old.mark)
    × ((new.recon ≡ old.recon) × ((new.value ≡ old.value) × (new.quantity ≡ old.quantity)))))))

-- A split that has what another has is the same split.
pub same_parts : (old new : Split) → HasSameParts old new → new ≡ old
same_parts old new same i = record {
  id = same.0 i;
  account = same.1.0 i;
  memo = same.1.1.0 i;
  action = same.1.1.1.0 i;
  mark = same.1.1.1.1.0 i;
  recon = same.1.1.1.1.1.0 i;
  value = same.1.1.1.1.1.1.0 i;
  quantity = same.1.1.1.1.1.1.1 i;
}

-- Whether a split is the same as another.
abbrev pub same_split : (new old : Split) → Decision (new ≡ old)
same_split new old =
    as_well (same_parts old new)
    (λ same. (
      ap (λ s. s.id) same,
      (
        ap (λ s. s.account) same,
        (
          ap (λ s. s.memo) same,
          (
            ap (λ s. s.action) same,
            (
              ap (λ s. s.mark) same,
              (ap (λ s. s.recon) same, (ap (λ s. s.value) same, ap (λ s. s.quantity) same)),
            ),
          ),
        ),
      ),
    ))
    (both (same_number new.id old.id)
    (both (same_number new.account old.account)
    (both (same_text new.memo old.memo)
    (both (same_text new.action old.action)
    (both (same_mark new.mark old.mark)
    (both (same_option new.recon old.recon)
    (both (same_integer new.value old.value) (same_integer new.quantity old.quantity))))))))

-- Whether splits are the same as others, place by place.
abbrev pub same_splits : (new old : List Split) → Decision (new ≡ old)
same_splits new old = record {
  is = pointwise (λ a b. (same_split a b).is) new old;
  decides = slice_eq-Decides (λ a b. (same_split a b).decides) new old
      (pointwise (λ a b. (same_split a b).is) new old) refl;
}

-- What is kept of a voided split is the same as of another.
abbrev pub same_kept : (new old : KeptSplit) → Decision (new ≡ old)
same_kept new old =
    as_well (λ same i. record { value = same.0 i; quantity = same.1 i })
    (λ same. (ap (λ k. k.value) same, ap (λ k. k.quantity) same))
    (both (same_integer new.value old.value) (same_integer new.quantity old.quantity))

-- What is kept of each split is the same, place by place.
abbrev pub same_kept_splits : (new old : List KeptSplit) → Decision (new ≡ old)
same_kept_splits new old = record {
  is = pointwise (λ a b. (same_kept a b).is) new old;
  decides = slice_eq-Decides (λ a b. (same_kept a b).decides) new old
      (pointwise (λ a b. (same_kept a b).is) new old) refl;
}

-- What is kept of a voided transaction is the same as of another.
abbrev pub same_void : (new old : Void) → Decision (new ≡ old)
same_void new old =
    as_well (λ same i. record { reason = same.0 i; kept = same.1 i })
    (λ same. (ap (λ v. v.reason) same, ap (λ v. v.kept) same))
    (both (same_text new.reason old.reason) (same_kept_splits new.kept old.kept))

-- What is kept of a transaction that may be voided is the same as of another.
abbrev pub same_voided : (new old : Option Void) → Decision (new ≡ old)
same_voided None None = record { is = true; decides = (λ h. refl, λ h. refl) }
same_voided None (Some old) = record {
  is = false;
  decides = (λ h. ap (λ (t : Bool). if t then Some old else None) h, λ h. ap is_some h);
}
same_voided (Some new) None = record {
  is = false;
  decides = (
    λ h. ap (λ (t : Bool). if t then None else Some new) h,
    λ h. ap (λ (o : Option Void). if is_some o then false else true) h,
  );
}
same_voided (Some new) (Some old) =
    as_well (λ same. ap (λ (v : Void). Some v) same) (λ same. ap (λ (o : Option Void). unwrap_or o new) same)
    (same_void new old)

-- A transaction has what another has.
abbrev pub HasSameTerms : Txn → Txn → Type 0
HasSameTerms old new =
    (new.currency ≡ old.currency)
    × ((new.day ≡ old.day)
    × ((new.num ≡ old.num)
    × ((new.description ≡ old.description) × ((new.splits ≡ old.splits) × (new.voided ≡ old.voided)))))

-- A transaction that has what another has is the same transaction.
pub same_terms : (old new : Txn) → HasSameTerms old new → new ≡ old
same_terms old new same i = record {
  currency = same.0 i;
  day = same.1.0 i;
  num = same.1.1.0 i;
  description = same.1.1.1.0 i;
  splits = same.1.1.1.1.0 i;
  voided = same.1.1.1.1.1 i;
}

-- Whether a transaction is the same as another.
abbrev pub same_transaction : (new old : Txn) → Decision (new ≡ old)
same_transaction new old =
    as_well (same_terms old new)
    (λ same. (
      ap (λ t. t.currency) same,
      (
        ap (λ t. t.day) same,
        (
          ap (λ t. t.num) same,
          (ap (λ t. t.description) same, (ap (λ t. t.splits) same, ap (λ t. t.voided) same)),
        ),
      ),
    ))
    (both (same_number new.currency old.currency)
    (both (same_integer new.day old.day)
    (both (same_text new.num old.num)
    (both (same_text new.description old.description)
    (both (same_splits new.splits old.splits) (same_voided new.voided old.voided))))))
