-- The record of a reconciliation is intact in the book that has it.
use Rattle.std.proofs.Common.{◌≡◌, ℕ, ◌==◌, ℤ, int_le, Bool, true, false, All, List, [], ◌∷◌, ◌++◌, if◌then◌else◌}
use Rattle.std.proofs.Common.{filter, flat_map, map, refl, sym, subst, ◌∙◌, eq-eqb}
use Rattle.std.specs.List.{list_all, list_any}
use Rattle.std.specs.Prelude.{int_lt}
use Rattle.std.proofs.lemmas.Bool.{and_from, and_parts, or_left, or_right}
use Rattle.std.proofs.lemmas.Bool.Decides.{Decides-int_eq}
use Rattle.std.proofs.lemmas.List.Elements.{All-append, All-cons, All-head, All-map, All-nil, All-tail, All-weaker}
use Rattle.std.proofs.lemmas.List.Folds.{list_any-append}
use Rattle.book_splits.specs.Balance.{splits_of}
use Rattle.book_splits.specs.declared.reconciliation.MarkedSplit.{MarkedSplit}
use Rattle.book_splits.specs.declared.split.Mark.TheVariants.{Cleared, Reconciled}
use Rattle.book_splits.specs.declared.split.Split.{Split}
use Rattle.book_splits.specs.declared.transaction.Txn.{Txn}
use Rattle.book_reconcile.specs.Reconciliation.{by_day, dated_splits, has_mark, is_kept, is_kept_by, is_mark, marked}
use Rattle.book_reconcile.specs.Reconciliation.{splits_to_mark, until, with_dated}
use Rattle.book_step.specs.Reconciling.{is_to_mark, marked_under, reconciled_under}
use Rattle.book_step.specs.Remarking.{all_remarked}

abbrev Row : Type 0
Row = ℤ × MarkedSplit

-- ---- what holds of all rows holds of them by day

with_all : (P : Row → Type 0) (row : Row) (rows : List Row) → P row → All P rows → All P (with_dated row rows)
with_all P row [] here all = All-cons P row [] here all
with_all P row (first ∷ more) here all =
    let Less : Bool → Type 0 = λ t. All P (if t then first ∷ with_dated row more else row ∷ first ∷ more) in
    elim (int_lt first.0 row.0) as Less [
      | true ↦ All-cons P first (with_dated row more) (All-head P first more all)
          (with_all P row more here (All-tail P first more all))
      | false ↦ All-cons P row (first ∷ more) here all
    ]

all_by_day : (P : Row → Type 0) (rows : List Row) → All P rows → All P (by_day rows)
all_by_day P [] all = all
all_by_day P (row ∷ rows) all =
    with_all P row (by_day rows) (All-head P row rows all) (all_by_day P rows (All-tail P row rows all))

-- ---- the cleared splits of a transaction

-- Whether one of some splits is the marked one of a row, as the reconciliation with a number marked it.
abbrev is_in : ℕ → ℕ → List Split → Row → Bool
is_in n account splits row = list_any (is_kept_by n account row.1) splits

marked-kept :
    (n account : ℕ) (upto day : ℤ) (s : Split) → has_mark Cleared account s ≡ true → int_le day upto ≡ true
    → is_kept_by n account (marked s) (marked_under n account upto day s) ≡ true
marked-kept n account upto day s has early =
    let own = (and_parts (s.account == account) (is_mark s.mark Cleared) has).0 in
    let becomes : is_to_mark account upto day s ≡ true =
    and_from (has_mark Cleared account s) (int_le day upto) has early in
    let Kept : Bool → Type 0 =
    λ b. is_kept_by n account (marked s) (if b then reconciled_under n s else s) ≡ true in
    subst Kept (sym becomes)
    (and_from (s.id == s.id) _ (eq-eqb s.id s.id refl)
    (and_from (has_mark Reconciled account (reconciled_under n s)) _ (and_from (s.account == account) true own refl)
    (and_from (n == n) _ (eq-eqb n n refl) ((Decides-int_eq s.quantity s.quantity).1 refl))))

own-kept :
    (n account : ℕ) (upto day : ℤ) (splits : List Split) → int_le day upto ≡ true
    → All (λ (row : Row). is_in n account (map (marked_under n account upto day) splits) row ≡ true)
    (map (λ (s : Split). (day, marked s)) (filter (has_mark Cleared account) splits))
own-kept n account upto day [] early = All-nil (λ (row : Row). is_in n account [] row ≡ true)
own-kept n account upto day (s ∷ splits) early =
    let rule = marked_under n account upto day in
    let later = map rule splits in
    let row_of : Split → Row = λ x. (day, marked x) in
    let behind = filter (has_mark Cleared account) splits in
    let Old : Row → Type 0 = λ row. is_in n account later row ≡ true in
    let New : Row → Type 0 = λ row. is_in n account (rule s ∷ later) row ≡ true in
    let rest : All New (map row_of behind) = All-weaker Old New
    (λ row is. or_right (is_kept_by n account row.1 (rule s)) (is_in n account later row) is) (map row_of behind)
    (own-kept n account upto day splits early) in
    let Has : Bool → Type 0 = λ b. has_mark Cleared account s ≡ b
    → All New (map row_of (if b then s ∷ behind else behind)) in
    (elim (has_mark Cleared account s) as Has [
      | true ↦ λ has.
          All-cons New (row_of s) (map row_of behind)
          (or_left (is_kept_by n account (marked s) (rule s)) (is_in n account later (row_of s))
          (marked-kept n account upto day s has early)) rest
      | false ↦ λ has. rest
    ]) refl

-- ---- those of all transactions

rows-kept :
    (n account : ℕ) (upto : ℤ) (ts : List (ℕ × Txn))
    → All (λ (row : Row). is_in n account (splits_of (all_remarked (marked_under n account upto) ts)) row ≡ true)
    (flat_map (λ (e : ℕ × Txn). dated_splits account e.1) (until upto ts))
rows-kept n account upto [] = All-nil (λ (row : Row). is_in n account [] row ≡ true)
rows-kept n account upto (e ∷ ts) =
    let rule = marked_under n account upto in
    let here = map (rule e.1.day) e.1.splits in
    let later = splits_of (all_remarked rule ts) in
    let rows : List (ℕ × Txn) → List Row = flat_map (λ (x : ℕ × Txn). dated_splits account x.1) in
    let Old : Row → Type 0 = λ row. is_in n account later row ≡ true in
    let Own : Row → Type 0 = λ row. is_in n account here row ≡ true in
    let New : Row → Type 0 = λ row. is_in n account (here ++ later) row ≡ true in
    let rest : All New (rows (until upto ts)) = All-weaker Old New
    (λ row is. list_any-append (is_kept_by n account row.1) here later
    ∙ or_right (is_in n account here row) (is_in n account later row) is) (rows (until upto ts))
    (rows-kept n account upto ts) in
    let Early : Bool → Type 0 = λ b. int_le e.1.day upto ≡ b
    → All New (rows (if b then e ∷ until upto ts else until upto ts)) in
    (elim (int_le e.1.day upto) as Early [
      | true ↦ λ early.
          All-append New (dated_splits account e.1) (rows (until upto ts))
          (All-weaker Own New
          (λ row is. list_any-append (is_kept_by n account row.1) here later
          ∙ or_left (is_in n account here row) (is_in n account later row) is) (dated_splits account e.1)
          (own-kept n account upto e.1.day e.1.splits early)) rest
      | false ↦ λ late. rest
    ]) refl

all-true :
    (test : MarkedSplit → Bool) (listed : List MarkedSplit) → All (λ (m : MarkedSplit). test m ≡ true) listed
    → list_all test listed ≡ true
all-true test [] all = refl
all-true test (m ∷ listed) all =
    let True : MarkedSplit → Type 0 = λ x. test x ≡ true in
    and_from (test m) (list_all test listed) (All-head True m listed all)
    (all-true test listed (All-tail True m listed all))

-- Each split that a reconciliation marks under a number is then as it was when that marked it.
pub marked-intact :
    (n account : ℕ) (upto : ℤ) (ts : List (ℕ × Txn))
    → list_all (is_kept n account (all_remarked (marked_under n account upto) ts)) (splits_to_mark account upto ts)
    ≡ true
marked-intact n account upto ts =
    let later = all_remarked (marked_under n account upto) ts in
    let rows = flat_map (λ (e : ℕ × Txn). dated_splits account e.1) (until upto ts) in
    let Kept : Row → Type 0 = λ row. is_in n account (splits_of later) row ≡ true in
    all-true (is_kept n account later) (splits_to_mark account upto ts)
    (All-map (λ (m : MarkedSplit). is_kept n account later m ≡ true) (λ (row : Row). row.1) (by_day rows)
    (all_by_day Kept rows (rows-kept n account upto ts)))
