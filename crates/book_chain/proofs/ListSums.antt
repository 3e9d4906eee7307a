-- While the records of an account's reconciliations are intact, the account's reconciled splits are those of their
-- lists, and so both have one sum.
use Rattle.std.proofs.Common.{◌≡◌, ℕ, ◌<◌, ◌==◌, ◌&&◌, ◌||◌, not, ℤ, pos, ◌+ℤ◌, Bool, true, false, All, List, [], ◌∷◌}
use Rattle.std.proofs.Common.{if◌then◌else◌, filter, map, Option, Some, None, refl, sym, ap, subst, ◌∙◌, eq-eqb}
use Rattle.std.proofs.Common.{arith}
use Rattle.std.specs.List.{list_all, list_any}
use Rattle.std.specs.Ordering.{int_eq}
use Rattle.std.proofs.lemmas.Bool.{and_from, and_left, and_parts, and_right, eqb-true, not-true, or_from, or_left}
use Rattle.std.proofs.lemmas.Bool.{or_parts, or_right, true_from_ne_false}
use Rattle.std.proofs.lemmas.Bool.Decides.{Decides-int_eq, nat_tests}
use Rattle.std.proofs.lemmas.Int.{ints}
use Rattle.std.proofs.lemmas.List.Elements.{All-append, All-cons, All-head, All-nil, All-tail, All-weaker}
use Rattle.book_commodity.specs.Table.{AllAbove, Rises, value_of}
use Rattle.book_splits.specs.Balance.{splits_of, total}
use Rattle.book_splits.specs.TransactionRules.{are_once, is_among, is_voided, numbers_of}
use Rattle.book_splits.specs.declared.reconciliation.MarkedSplit.{MarkedSplit}
use Rattle.book_splits.specs.declared.reconciliation.Recon.{Recon}
use Rattle.book_splits.specs.declared.split.Mark.{Mark}
use Rattle.book_splits.specs.declared.split.Mark.TheVariants.{New, Cleared, Reconciled, Voided}
use Rattle.book_splits.specs.declared.split.Split.{Split}
use Rattle.book_splits.specs.declared.transaction.Txn.{Txn}
use Rattle.book_undo.specs.Book.{Book}
use Rattle.book_reconcile.specs.Reconciliation.{has_mark, is_intact, is_kept_by, is_mark, is_under, opening}
use Rattle.book_reconcile.proofs.KeptLemmas.{asks-number}
use Rattle.book_sound.specs.MarkedTransactionRules.{are_rightly_marked, is_marked_as, is_reconciled, is_rightly_marked}
use Rattle.book_sound.specs.MarkedTransactionRules.{is_rightly_voided}
use Rattle.book_sound.proofs.VoidFrames.{rightly_voided_is}
use Rattle.book_splits.specs.declared.void.Void.{Void}
use Rattle.book_sound.specs.ReconciliationRules.{marked_numbers, marked_sum}
use Rattle.book_sound.specs.Soundness.{IsSoundBook}
use Rattle.book_sound.proofs.MarkLemmas.{reconciled_is_marked}
use Rattle.book_sound.proofs.OwnFrames.{all_of_each}
use Rattle.book_free.proofs.SplitsOnce.{splits_once}
use Rattle.book_chain.specs.Chain.{are_intact, of_account, sum_of_lists}

-- ---- the sum of the quantities of the splits that pass a test

abbrev quantity : Split → ℤ
quantity split = split.quantity

abbrev pub sum_where : (Split → Bool) → List Split → ℤ
sum_where test splits = total (map quantity (filter test splits))

-- an amount, where it counts
abbrev counted : Bool → ℤ → ℤ
counted true amount = amount
counted false amount = pos 0

sum-cons :
    (test : Split → Bool) (s : Split) (splits : List Split)
    → sum_where test (s ∷ splits) ≡ counted (test s) s.quantity +ℤ sum_where test splits
sum-cons test s splits =
    let rest = filter test splits in
    let Here : Bool → Type 0 = λ b. total (map quantity (if b then s ∷ rest else rest))
    ≡ counted b s.quantity +ℤ total (map quantity rest) in
    elim (test s) as Here [ true ↦ refl | false ↦ omega (arith, ints) ]

counted-or :
    (a b : Bool) (amount : ℤ) → (a ≡ true → b ≡ false)
    → counted (a || b) amount ≡ counted a amount +ℤ counted b amount
counted-or true true amount apart = absurd (let none = apart refl in cc)
counted-or true false amount apart = omega (arith, ints)
counted-or false b amount apart = omega (arith, ints)

-- tests that no split passes both add up
sum-or :
    (one other : Split → Bool) (splits : List Split) → ((s : Split) → one s ≡ true → other s ≡ false)
    → sum_where (λ s. one s || other s) splits ≡ sum_where one splits +ℤ sum_where other splits
sum-or one other [] apart = refl
sum-or one other (s ∷ splits) apart =
    let rest = sum-or one other splits apart in
    let both = sum-cons (λ x. one x || other x) s splits in
    let first = sum-cons one s splits in
    let second = sum-cons other s splits in
    let here = counted-or (one s) (other s) s.quantity (apart s) in
    omega (arith, ints, rest, both, first, second, here)

sum-same :
    (one other : Split → Bool) (splits : List Split) → All (λ (s : Split). one s ≡ other s) splits
    → sum_where one splits ≡ sum_where other splits
sum-same one other [] same = refl
sum-same one other (s ∷ splits) same =
    let Same : Split → Type 0 = λ x. one x ≡ other x in
    let rest = sum-same one other splits (All-tail Same s splits same) in
    let first = sum-cons one s splits in
    let second = sum-cons other s splits in
    let here : counted (one s) s.quantity ≡ counted (other s) s.quantity =
    ap (λ (b : Bool). counted b s.quantity) (All-head Same s splits same) in
    omega (arith, ints, rest, first, second, here)

sum-none : (test : Split → Bool) (splits : List Split) → list_any test splits ≡ false → sum_where test splits ≡ pos 0
sum-none test [] none = refl
sum-none test (s ∷ splits) none =
    let parts = or_parts (test s) (list_any test splits) none in
    let rest = sum-none test splits parts.1 in
    let first = sum-cons test s splits in
    let here : counted (test s) s.quantity ≡ pos 0 = ap (λ (b : Bool). counted b s.quantity) parts.0 in
    omega (arith, ints, rest, first, here)

no-test : (splits : List Split) → list_any (λ (s : Split). false) splits ≡ false
no-test [] = refl
no-test (s ∷ splits) = no-test splits

-- ---- one marked split

none-kept :
    (n account : ℕ) (m : MarkedSplit) (splits : List Split) → is_among (numbers_of splits) m.split ≡ false
    → list_any (is_kept_by n account m) splits ≡ false
none-kept n account m [] none = refl
none-kept n account m (s ∷ splits) none =
    let parts = or_parts (s.id == m.split) (is_among (numbers_of splits) m.split) none in
    or_from (is_kept_by n account m s) (list_any (is_kept_by n account m) splits)
    (and_left (s.id == m.split) _ parts.0) (none-kept n account m splits parts.1)

kept-quantity :
    (n account : ℕ) (m : MarkedSplit) (s : Split) → is_kept_by n account m s ≡ true → s.quantity ≡ m.quantity
kept-quantity n account m s is =
    let same = int_eq s.quantity m.quantity in
    let named = is_under n s.recon && same in
    let marked = has_mark Reconciled account s && named in
    let behind = (and_parts (s.id == m.split) marked is).1 in
    let last = (and_parts (has_mark Reconciled account s) named behind).1 in
    (Decides-int_eq s.quantity m.quantity).0 (and_parts (is_under n s.recon) same last).1

sum-kept :
    (n account : ℕ) (m : MarkedSplit) (splits : List Split) → are_once (numbers_of splits) ≡ true
    → list_any (is_kept_by n account m) splits ≡ true → sum_where (is_kept_by n account m) splits ≡ m.quantity
sum-kept n account m [] once some = absurd cc
sum-kept n account m (s ∷ splits) once some =
    let test = is_kept_by n account m in
    let parts = and_parts (not (is_among (numbers_of splits) s.id)) (are_once (numbers_of splits)) once in
    let first = sum-cons test s splits in
    let Here : Bool → Type 0 = λ b. test s ≡ b → (b || list_any test splits) ≡ true
    → counted b s.quantity +ℤ sum_where test splits ≡ m.quantity in
    let both = (elim (test s) as Here [
      | true ↦ λ is any.
          let own = asks-number n account m s is in
          let none = sum-none test splits (none-kept n account m splits
          (ap (is_among (numbers_of splits)) (sym own) ∙ not-true _ parts.0)) in
          let same = kept-quantity n account m s is in
          omega (arith, ints, none, same)
      | false ↦ λ is any.
          let rest = sum-kept n account m splits parts.1 any in
          omega (arith, ints, rest)
    ]) refl some in
    first ∙ both

-- ---- the list of one reconciliation

-- Whether a split is one of a list, as it was when the reconciliation with a number marked it.
abbrev is_listed : ℕ → ℕ → List MarkedSplit → Split → Bool
is_listed n account listed s = list_any (λ m. is_kept_by n account m s) listed

not-listed :
    (n account : ℕ) (listed : List MarkedSplit) (s : Split) → is_among (marked_numbers listed) s.id ≡ false
    → is_listed n account listed s ≡ false
not-listed n account [] s none = refl
not-listed n account (m ∷ listed) s none =
    let parts = or_parts (m.split == s.id) (is_among (marked_numbers listed) s.id) none in
    let turned : (s.id == m.split) ≡ false = let other = parts.0 in grind (arith, nat_tests, other) in
    or_from (is_kept_by n account m s) (is_listed n account listed s) (and_left (s.id == m.split) _ turned)
    (not-listed n account listed s parts.1)

sum-listed :
    (n account : ℕ) (listed : List MarkedSplit) (splits : List Split) → are_once (marked_numbers listed) ≡ true
    → are_once (numbers_of splits) ≡ true
    → list_all (λ (m : MarkedSplit). list_any (is_kept_by n account m) splits) listed ≡ true
    → sum_where (is_listed n account listed) splits ≡ marked_sum listed
sum-listed n account [] splits once alone kept = sum-none (λ s. false) splits (no-test splits)
sum-listed n account (m ∷ listed) splits once alone kept =
    let parts = and_parts (not (is_among (marked_numbers listed) m.split)) (are_once (marked_numbers listed)) once in
    let both = and_parts (list_any (is_kept_by n account m) splits) _ kept in
    let rest = sum-listed n account listed splits parts.1 alone both.1 in
    let first = sum-kept n account m splits alone both.0 in
    let sum = sum-or (is_kept_by n account m) (is_listed n account listed) splits
    (λ s is. not-listed n account listed s
    (ap (is_among (marked_numbers listed)) (asks-number n account m s is) ∙ not-true _ parts.0)) in
    omega (arith, ints, rest, first, sum)

-- ---- the lists of an account's reconciliations

-- Whether a reconciliation is of an account, and a split is one of its list, as it was when that marked it.
abbrev is_of : ℕ → ℕ × Recon → Split → Bool
is_of account e s = (e.1.account == account) && is_listed e.0 account e.1.marked s

abbrev is_of_some : ℕ → List (ℕ × Recon) → Split → Bool
is_of_some account reconciliations s = list_any (λ e. is_of account e s) reconciliations

other-number :
    (n account : ℕ) (listed : List MarkedSplit) (s : Split) → is_under n s.recon ≡ false
    → is_listed n account listed s ≡ false
other-number n account [] s other = refl
other-number n account (m ∷ listed) s other =
    let named = is_under n s.recon && int_eq s.quantity m.quantity in
    or_from (is_kept_by n account m s) (is_listed n account listed s)
    (and_right (s.id == m.split) (has_mark Reconciled account s && named)
    (and_right (has_mark Reconciled account s) named (and_left (is_under n s.recon) _ other)))
    (other-number n account listed s other)

under-one : (n k : ℕ) (recon : Option ℕ) → is_under n recon ≡ true → n < k → is_under k recon ≡ false
under-one n k None is less = absurd cc
under-one n k (Some other) is less = grind (arith, nat_tests, is, less)

apart-above :
    (account n : ℕ) (reconciliations : List (ℕ × Recon)) (s : Split) → AllAbove n reconciliations
    → is_under n s.recon ≡ true → is_of_some account reconciliations s ≡ false
apart-above account n [] s above under = refl
apart-above account n (e ∷ reconciliations) s above under =
    or_from (is_of account e s) (is_of_some account reconciliations s)
    (and_right (e.1.account == account) _
    (other-number e.0 account e.1.marked s (under-one n e.0 s.recon under above.0)))
    (apart-above account n reconciliations s above.1 under)

of-one :
    (account : ℕ) (e : ℕ × Recon) (s : Split) → is_of account e s ≡ true → is_under e.0 s.recon ≡ true
of-one account e s is =
    let listed = (and_parts (e.1.account == account) (is_listed e.0 account e.1.marked s) is).1 in
    true_from_ne_false (is_under e.0 s.recon)
    (λ other. let none = other-number e.0 account e.1.marked s other in absurd (let both = sym listed ∙ none in cc))

sum-first :
    (account : ℕ) (e : ℕ × Recon) (ts : List (ℕ × Txn)) (own : Bool) → (e.1.account == account) ≡ own
    → are_once (marked_numbers e.1.marked) ≡ true → are_once (numbers_of (splits_of ts)) ≡ true
    → (own ≡ true → is_intact e.0 e.1 ts ≡ true)
    → sum_where (λ s. own && is_listed e.0 account e.1.marked s) (splits_of ts)
    ≡ counted own (marked_sum e.1.marked)
sum-first account e ts true is once alone intact =
    let same = eqb-true e.1.account account is in
    let Kept : ℕ → Type 0 = λ a.
    list_all (λ (m : MarkedSplit). list_any (is_kept_by e.0 a m) (splits_of ts)) e.1.marked ≡ true in
    sum-listed e.0 account e.1.marked (splits_of ts) once alone (subst Kept same (intact refl))
sum-first account e ts false is once alone intact = sum-none (λ s. false) (splits_of ts) (no-test (splits_of ts))

sum-chain :
    (account : ℕ) (reconciliations : List (ℕ × Recon)) (ts : List (ℕ × Txn)) → Rises reconciliations
    → All (λ (e : ℕ × Recon). are_once (marked_numbers e.1.marked) ≡ true) reconciliations
    → are_once (numbers_of (splits_of ts)) ≡ true
    → are_intact ts (of_account account reconciliations) ≡ true
    → sum_where (is_of_some account reconciliations) (splits_of ts) ≡ sum_of_lists (of_account account reconciliations)
sum-chain account [] ts r once alone intact = sum-none (λ s. false) (splits_of ts) (no-test (splits_of ts))
sum-chain account (e ∷ reconciliations) ts r once alone intact =
    let Once : ℕ × Recon → Type 0 = λ x. are_once (marked_numbers x.1.marked) ≡ true in
    let own = e.1.account == account in
    let behind = of_account account reconciliations in
    let Parts : Bool → Type 0 = λ b. are_intact ts (if b then e ∷ behind else behind) ≡ true
    → (b ≡ true → is_intact e.0 e.1 ts ≡ true) × (are_intact ts behind ≡ true) in
    let parts : (own ≡ true → is_intact e.0 e.1 ts ≡ true) × (are_intact ts behind ≡ true) = (elim own as Parts [
      | true ↦ λ all. let both = and_parts (is_intact e.0 e.1 ts) (are_intact ts behind) all in (λ is. both.0, both.1)
      | false ↦ λ all. (λ is. absurd cc, all)
    ]) intact in
    let rest = sum-chain account reconciliations ts r.1 (All-tail Once e reconciliations once) alone parts.1 in
    let first = sum-first account e ts own refl (All-head Once e reconciliations once) alone parts.0 in
    let sum = sum-or (is_of account e) (is_of_some account reconciliations) (splits_of ts)
    (λ s is. apart-above account e.0 reconciliations s r.0 (of-one account e s is)) in
    let Sum : Bool → Type 0 = λ b. sum_of_lists (if b then e ∷ behind else behind)
    ≡ counted b (marked_sum e.1.marked) +ℤ sum_of_lists behind in
    let whole : sum_of_lists (of_account account (e ∷ reconciliations))
    ≡ counted own (marked_sum e.1.marked) +ℤ sum_of_lists behind =
    elim own as Sum [ true ↦ refl | false ↦ omega (arith, ints) ] in
    omega (arith, ints, rest, first, sum, whole)

-- ---- the account's reconciled splits are those of the lists

not-marked :
    (n account : ℕ) (listed : List MarkedSplit) (s : Split) → has_mark Reconciled account s ≡ false
    → is_listed n account listed s ≡ false
not-marked n account [] s other = refl
not-marked n account (m ∷ listed) s other =
    or_from (is_kept_by n account m s) (is_listed n account listed s)
    (and_right (s.id == m.split) _ (and_left (has_mark Reconciled account s) _ other))
    (not-marked n account listed s other)

not-of-some :
    (account : ℕ) (reconciliations : List (ℕ × Recon)) (s : Split) → has_mark Reconciled account s ≡ false
    → is_of_some account reconciliations s ≡ false
not-of-some account [] s other = refl
not-of-some account (e ∷ reconciliations) s other =
    or_from (is_of account e s) (is_of_some account reconciliations s)
    (and_right (e.1.account == account) _ (not-marked e.0 account e.1.marked s other))
    (not-of-some account reconciliations s other)

-- what is found under its number passes a test that it passes
any-there :
    {T : Type 0} (test : ℕ × T → Bool) (n : ℕ) (x : T) (es : List (ℕ × T)) → value_of n es ≡ Some x
    → test (n, x) ≡ true → list_any test es ≡ true
any-there test n x [] there is = absurd cc
any-there {T} test n x (e ∷ es) there is =
    let Here : Bool → Type 0 = λ b. (n == e.0) ≡ b → (if b then Some e.1 else value_of n es) ≡ Some x
    → list_any test (e ∷ es) ≡ true in
    (elim (n == e.0) as Here [
      | true ↦ λ same found.
          let one : e.1 ≡ x = cc in
          let number = eqb-true n e.0 same in
          or_left (test e) (list_any test es)
          (ap (λ (y : T). test (e.0, y)) one ∙ ap (λ (k : ℕ). test (k, x)) (sym number) ∙ is)
      | false ↦ λ other found. or_right (test e) (list_any test es) (any-there test n x es found is)
    ]) refl there

listed-as :
    (n account : ℕ) (listed : List MarkedSplit) (s : Split) → has_mark Reconciled account s ≡ true
    → is_under n s.recon ≡ true → list_any (is_marked_as s) listed ≡ true → is_listed n account listed s ≡ true
listed-as n account [] s has under some = absurd cc
listed-as n account (m ∷ listed) s has under some =
    let Here : Bool → Type 0 = λ b. is_marked_as s m ≡ b → (b || list_any (is_marked_as s) listed) ≡ true
    → is_listed n account (m ∷ listed) s ≡ true in
    (elim (is_marked_as s m) as Here [
      | true ↦ λ is any.
          let parts = and_parts (m.split == s.id) (int_eq m.quantity s.quantity) is in
          let number = eqb-true m.split s.id parts.0 in
          let amount = (Decides-int_eq m.quantity s.quantity).0 parts.1 in
          or_left (is_kept_by n account m s) (is_listed n account listed s)
          (and_from (s.id == m.split) _ (eq-eqb s.id m.split (sym number))
          (and_from (has_mark Reconciled account s) _ has
          (and_from (is_under n s.recon) _ under ((Decides-int_eq s.quantity m.quantity).1 (sym amount)))))
      | false ↦ λ is any.
          or_right (is_kept_by n account m s) (is_listed n account listed s)
          (listed-as n account listed s has under any)
    ]) refl some

mark-reconciled : (mark : Mark) → is_mark mark Reconciled ≡ true → is_reconciled mark ≡ true
mark-reconciled New is = absurd cc
mark-reconciled Cleared is = absurd cc
mark-reconciled Reconciled is = refl
mark-reconciled Voided is = absurd cc

same-test :
    (account : ℕ) (reconciliations : List (ℕ × Recon)) (s : Split) → is_rightly_marked reconciliations s ≡ true
    → has_mark Reconciled account s ≡ is_of_some account reconciliations s
same-test account reconciliations s right =
    let Has : Bool → Type 0 = λ b. has_mark Reconciled account s ≡ b → b ≡ is_of_some account reconciliations s in
    (elim (has_mark Reconciled account s) as Has [
      | true ↦ λ has.
          let parts = and_parts (s.account == account) (is_mark s.mark Reconciled) has in
          let by = reconciled_is_marked reconciliations s right (mark-reconciled s.mark parts.1) in
          let own = by.account ∙ eqb-true s.account account parts.0 in
          let under : is_under by.number s.recon ≡ true =
          ap (is_under by.number) by.named ∙ eq-eqb by.number by.number refl in
          sym (any-there (λ e. is_of account e s) by.number by.reconciliation reconciliations by.there
          (and_from (by.reconciliation.account == account) _ (eq-eqb by.reconciliation.account account own)
          (listed-as by.number account by.reconciliation.marked s has under by.listed)))
      | false ↦ λ has. sym (not-of-some account reconciliations s has)
    ]) refl

-- ---- all splits of a sound book are rightly marked

all-pass : {X : Type 0} (test : X → Bool) (xs : List X) → list_all test xs ≡ true → All (λ (x : X). test x ≡ true) xs
all-pass {X} test [] all = All-nil (λ (x : X). test x ≡ true)
all-pass {X} test (x ∷ xs) all =
    let parts = and_parts (test x) (list_all test xs) all in
    All-cons (λ (y : X). test y ≡ true) x xs parts.0 (all-pass test xs parts.1)

voided-not : (mark : Mark) → is_voided mark ≡ true → is_mark mark Reconciled ≡ false
voided-not New is = absurd cc
voided-not Cleared is = absurd cc
voided-not Reconciled is = absurd cc
voided-not Voided is = refl

-- Whether a split is reconciled on the account says whether a reconciliation of it lists the split.
abbrev IsTold : ℕ → List (ℕ × Recon) → Split → Type 0
IsTold account reconciliations s = has_mark Reconciled account s ≡ is_of_some account reconciliations s

-- so it is of the splits of each transaction, be it voided or not
told-of :
    (account : ℕ) (reconciliations : List (ℕ × Recon)) (voided : Option Void) (splits : List Split)
    → are_rightly_marked reconciliations voided splits ≡ true → All (IsTold account reconciliations) splits
told-of account reconciliations None splits right =
    All-weaker (λ (s : Split). is_rightly_marked reconciliations s ≡ true) (IsTold account reconciliations)
    (λ s marked. same-test account reconciliations s marked) splits
    (all-pass (is_rightly_marked reconciliations) splits right)
told-of account reconciliations (Some void) splits right =
    All-weaker (λ (s : Split). is_rightly_voided s ≡ true) (IsTold account reconciliations)
    (λ s voided.
    let has : has_mark Reconciled account s ≡ false =
    and_right (s.account == account) _ (voided-not s.mark (rightly_voided_is s voided).mark) in
    has ∙ sym (not-of-some account reconciliations s has)) splits
    (all-pass is_rightly_voided splits right)

all-splits :
    (P : Split → Type 0) (ts : List (ℕ × Txn)) → All (λ (e : ℕ × Txn). All P e.1.splits) ts → All P (splits_of ts)
all-splits P [] all = All-nil P
all-splits P (e ∷ ts) all =
    let Each : ℕ × Txn → Type 0 = λ x. All P x.1.splits in
    All-append P e.1.splits (splits_of ts) (All-head Each e ts all) (all-splits P ts (All-tail Each e ts all))

-- While the records of an account's reconciliations are intact in a sound book, the opening balance of the next one is
-- the sum of their lists.
pub opening-sums :
    (book : Book) (account : ℕ) → IsSoundBook book
    → are_intact book.transactions (of_account account book.reconciliations) ≡ true
    → opening account book.transactions ≡ sum_of_lists (of_account account book.reconciliations)
opening-sums book account is intact =
    let reconciliations = book.reconciliations in
    let ts = book.transactions in
    let Told : Split → Type 0 = IsTold account reconciliations in
    let same = all-splits Told ts
    (all_of_each (λ (e : ℕ × Txn). All Told e.1.splits) ts is.transactions.rise
    (λ k t there. told-of account reconciliations t.voided t.splits (is.transactions.keep.each k t there).1.1.1.0)) in
    let once = all_of_each (λ (e : ℕ × Recon). are_once (marked_numbers e.1.marked) ≡ true) reconciliations
    is.reconciliations.rise (λ k r there. (is.reconciliations.keep.each k r there).1.0) in
    sum-same (has_mark Reconciled account) (is_of_some account reconciliations) (splits_of ts) same
    ∙ sum-chain account reconciliations ts is.reconciliations.rise once (splits_once book is) intact
