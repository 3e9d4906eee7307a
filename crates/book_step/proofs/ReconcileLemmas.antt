-- What the definition of a reconciliation says of the splits that it marks: they are the account's cleared splits on or
-- before the day, each once.
use Rattle.std.proofs.Common.{◌≡◌, ℕ, ◌<◌, ◌==◌, ◌&&◌, ◌||◌, not, ℤ, int_le, Bool, true, false, All, List, [], ◌∷◌}
use Rattle.std.proofs.Common.{◌++◌, if◌then◌else◌, filter, flat_map, map, Some, refl, sym, ap, subst, ◌∙◌, eq-eqb}
use Rattle.std.proofs.Common.{arith}
use Rattle.std.specs.Prelude.{⊤, int_lt}
use Rattle.std.specs.List.{list_any}
use Rattle.std.specs.Ordering.{int_eq}
use Rattle.std.proofs.lemmas.Bool.{and_from, and_parts, not-true, not_from_false, or_from, or_left, or_parts, or_right}
use Rattle.std.proofs.lemmas.Bool.Decides.{Decides-int_eq, nat_tests}
use Rattle.std.proofs.lemmas.List.{map-append}
use Rattle.std.proofs.lemmas.List.Elements.{All-append, All-cons, All-filter, All-head, All-map, All-nil, All-tail}
use Rattle.std.proofs.lemmas.List.Folds.{list_any-append}
use Rattle.book_commodity.specs.Table.{value_of}
use Rattle.book_commodity.proofs.ListLemmas.{all_back, all_front}
use Rattle.book_splits.specs.Balance.{splits_of}
use Rattle.book_splits.specs.TransactionRules.{are_once, is_among, numbers_of}
use Rattle.book_splits.specs.declared.reconciliation.MarkedSplit.{MarkedSplit}
use Rattle.book_splits.specs.declared.split.Mark.TheVariants.{Cleared}
use Rattle.book_splits.specs.declared.split.Split.{Split}
use Rattle.book_splits.specs.declared.transaction.Txn.{Txn}
use Rattle.book_reconcile.specs.Reconciliation.{by_day, dated_splits, has_mark, marked, splits_to_mark, until}
use Rattle.book_reconcile.specs.Reconciliation.{with_dated}
use Rattle.book_sound.specs.MarkedTransactionRules.{is_marked_as}
use Rattle.book_sound.specs.ReconciliationRules.{marked_numbers}

abbrev Row : Type 0
Row = ℤ × MarkedSplit

-- The rows from which the marked splits come.
abbrev rows_of : ℕ → ℤ → List (ℕ × Txn) → List Row
rows_of account day ts = flat_map (λ (e : ℕ × Txn). dated_splits account e.1) (until day ts)

abbrev numbers : List Row → List ℕ
numbers rows = marked_numbers (map (λ (row : Row). row.1) rows)

-- ---- the order of days changes nothing of these

any_swapped : (a b c : Bool) → (a || (b || c)) ≡ (b || (a || c))
any_swapped true true c = refl
any_swapped true false c = refl
any_swapped false true c = refl
any_swapped false false c = refl

-- whether one passes a test
with_any : (p : MarkedSplit → Bool) (row : Row) (rows : List Row)
    → list_any p (map (λ (r : Row). r.1) (with_dated row rows))
    ≡ (p row.1 || list_any p (map (λ (r : Row). r.1) rows))
with_any p row [] = refl
with_any p row (first ∷ more) =
    let rest = list_any p (map (λ (r : Row). r.1) more) in
    let Less : Bool → Type 0 = λ t.
    list_any p (map (λ (r : Row). r.1) (if t then first ∷ with_dated row more else row ∷ first ∷ more))
    ≡ (p row.1 || (p first.1 || rest)) in
    elim (int_lt first.0 row.0) as Less [
      | true ↦ ap (λ (b : Bool). p first.1 || b) (with_any p row more) ∙ any_swapped (p first.1) (p row.1) rest
      | false ↦ refl
    ]

by_day_any : (p : MarkedSplit → Bool) (rows : List Row)
    → list_any p (map (λ (r : Row). r.1) (by_day rows)) ≡ list_any p (map (λ (r : Row). r.1) rows)
by_day_any p [] = refl
by_day_any p (row ∷ rows) =
    with_any p row (by_day rows) ∙ ap (λ (b : Bool). p row.1 || b) (by_day_any p rows)

-- whether a number is among theirs
among_marked : (n : ℕ) (splits : List MarkedSplit)
    → is_among (marked_numbers splits) n ≡ list_any (λ (m : MarkedSplit). m.split == n) splits
among_marked n [] = refl
among_marked n (m ∷ splits) = ap (λ (b : Bool). (m.split == n) || b) (among_marked n splits)

with_among : (n : ℕ) (row : Row) (rows : List Row)
    → is_among (numbers (with_dated row rows)) n ≡ ((row.1.split == n) || is_among (numbers rows) n)
with_among n row rows =
    let test = λ (m : MarkedSplit). m.split == n in
    among_marked n (map (λ (r : Row). r.1) (with_dated row rows))
    ∙ with_any test row rows
    ∙ ap (λ (b : Bool). test row.1 || b) (sym (among_marked n (map (λ (r : Row). r.1) rows)))

by_day_among : (n : ℕ) (rows : List Row) → is_among (numbers (by_day rows)) n ≡ is_among (numbers rows) n
by_day_among n rows =
    among_marked n (map (λ (r : Row). r.1) (by_day rows))
    ∙ by_day_any (λ (m : MarkedSplit). m.split == n) rows
    ∙ sym (among_marked n (map (λ (r : Row). r.1) rows))

-- whether each number stands once
once_swapped : (s t a b c : Bool) → s ≡ t
    → (not (s || a) && (not b && c)) ≡ (not (t || b) && (not a && c))
once_swapped true false a b c e = absurd cc
once_swapped false true a b c e = absurd cc
once_swapped true true a b c e = refl
once_swapped false false true true c e = refl
once_swapped false false true false c e = refl
once_swapped false false false true c e = refl
once_swapped false false false false c e = refl

same_turned : (m n : ℕ) → (m == n) ≡ (n == m)
same_turned m n = grind (arith, nat_tests)

with_once : (row : Row) (rows : List Row)
    → are_once (numbers (with_dated row rows)) ≡ (not (is_among (numbers rows) row.1.split) && are_once (numbers rows))
with_once row [] = refl
with_once row (first ∷ more) =
    let n = row.1.split in
    let m = first.1.split in
    let rest = numbers more in
    let Less : Bool → Type 0 = λ t.
    are_once (numbers (if t then first ∷ with_dated row more else row ∷ first ∷ more))
    ≡ (not ((m == n) || is_among rest n) && (not (is_among rest m) && are_once rest)) in
    elim (int_lt first.0 row.0) as Less [
      | true ↦ ap (λ (b : Bool). not b && are_once (numbers (with_dated row more))) (with_among m row more)
          ∙ ap (λ (b : Bool). not ((n == m) || is_among rest m) && b) (with_once row more)
          ∙ once_swapped (n == m) (m == n) (is_among rest m) (is_among rest n) (are_once rest) (same_turned n m)
      | false ↦ refl
    ]

by_day_once : (rows : List Row) → are_once (numbers (by_day rows)) ≡ are_once (numbers rows)
by_day_once [] = refl
by_day_once (row ∷ rows) =
    with_once row (by_day rows)
    ∙ ap (λ (b : Bool). not b && are_once (numbers (by_day rows))) (by_day_among row.1.split rows)
    ∙ ap (λ (b : Bool). not (is_among (numbers rows) row.1.split) && b) (by_day_once rows)

-- what holds of all
with_all : (P : Row → Type 0) (row : Row) (rows : List Row) → P row → All P rows → All P (with_dated row rows)
with_all P row [] here all = All-cons P row [] here all
with_all P row (first ∷ more) here all =
    let Less : Bool → Type 0 = λ t. All P (if t then first ∷ with_dated row more else row ∷ first ∷ more) in
    elim (int_lt first.0 row.0) as Less [
      | true ↦ All-cons P first (with_dated row more) (All-head P first more all)
          (with_all P row more here (All-tail P first more all))
      | false ↦ All-cons P row (first ∷ more) here all
    ]

by_day_all : (P : Row → Type 0) (rows : List Row) → All P rows → All P (by_day rows)
by_day_all P [] all = all
by_day_all P (row ∷ rows) all =
    with_all P row (by_day rows) (All-head P row rows all) (by_day_all P rows (All-tail P row rows all))

-- ---- the numbers of the marked splits are some of those of all, in their order

-- Numbers that are picked from others: they are among those, and stand once where those do.
record Picks (picked all : List ℕ) : Type 0 where
  among : (n : ℕ) → is_among all n ≡ false → is_among picked n ≡ false
  once : are_once all ≡ true → are_once picked ≡ true

picks_none : Picks [] []
picks_none = record { among = λ n none. none; once = λ is. is }

picks_past : (n : ℕ) (picked all : List ℕ) → Picks picked all → Picks picked (n ∷ all)
picks_past n picked all is = record {
  among = λ m none. is.among m (or_parts (n == m) (is_among all m) none).1;
  once = λ both. is.once (and_parts (not (is_among all n)) (are_once all) both).1;
}

picks_more : (n : ℕ) (picked all : List ℕ) → Picks picked all → Picks (n ∷ picked) (n ∷ all)
picks_more n picked all is = record {
  among = λ m none.
      let parts = or_parts (n == m) (is_among all m) none in
      or_from (n == m) (is_among picked m) parts.0 (is.among m parts.1);
  once = λ both.
      let parts = and_parts (not (is_among all n)) (are_once all) both in
      and_from (not (is_among picked n)) (are_once picked)
      (not_from_false (is_among picked n) (is.among n (not-true (is_among all n) parts.0))) (is.once parts.1);
}

-- from the splits of a transaction that isn't reached
picks_later : (splits : List Split) (picked all : List ℕ) → Picks picked all → Picks picked (numbers_of splits ++ all)
picks_later [] picked all is = is
picks_later (s ∷ splits) picked all is =
    picks_past s.id picked (numbers_of splits ++ all) (picks_later splits picked all is)

-- from those of one that is
picks_here : (account : ℕ) (day : ℤ) (splits : List Split) (picked all : List ℕ) → Picks picked all
    → Picks (numbers (map (λ (s : Split). (day, marked s)) (filter (has_mark Cleared account) splits)) ++ picked)
    (numbers_of splits ++ all)
picks_here account day [] picked all is = is
picks_here account day (s ∷ splits) picked all is =
    let rest = picks_here account day splits picked all is in
    let behind = filter (has_mark Cleared account) splits in
    let Has : Bool → Type 0 = λ b.
    Picks (numbers (map (λ (x : Split). (day, marked x)) (if b then s ∷ behind else behind)) ++ picked)
    (s.id ∷ (numbers_of splits ++ all)) in
    elim (has_mark Cleared account s) as Has [
      | true ↦ picks_more s.id (numbers (map (λ (x : Split). (day, marked x)) behind) ++ picked)
          (numbers_of splits ++ all) rest
      | false ↦ picks_past s.id (numbers (map (λ (x : Split). (day, marked x)) behind) ++ picked)
          (numbers_of splits ++ all) rest
    ]

numbers_append : (xs ys : List Row) → numbers (xs ++ ys) ≡ numbers xs ++ numbers ys
numbers_append [] ys = refl
numbers_append (x ∷ xs) ys = ap (λ (ns : List ℕ). x.1.split ∷ ns) (numbers_append xs ys)

picks_all : (account : ℕ) (day : ℤ) (ts : List (ℕ × Txn))
    → Picks (numbers (rows_of account day ts)) (numbers_of (splits_of ts))
picks_all account day [] = picks_none
picks_all account day (e ∷ ts) =
    let rest = picks_all account day ts in
    let all = numbers_of (splits_of ts) in
    let whole : numbers_of e.1.splits ++ all ≡ numbers_of (e.1.splits ++ splits_of ts) =
    sym (map-append (λ (s : Split). s.id) e.1.splits (splits_of ts)) in
    let rows : List (ℕ × Txn) → List Row = flat_map (λ (x : ℕ × Txn). dated_splits account x.1) in
    let Until : Bool → Type 0 = λ b.
    Picks (numbers (rows (if b then e ∷ until day ts else until day ts))) (numbers_of e.1.splits ++ all) in
    let either : Until (int_le e.1.day day) = elim (int_le e.1.day day) as Until [
      | true ↦ subst (λ (ns : List ℕ). Picks ns (numbers_of e.1.splits ++ all))
          (sym (numbers_append (dated_splits account e.1) (rows (until day ts))))
          (picks_here account e.1.day e.1.splits (numbers (rows (until day ts))) all rest)
      | false ↦ picks_later e.1.splits (numbers (rows (until day ts))) all rest
    ] in
    subst (λ (ns : List ℕ). Picks (numbers (rows_of account day (e ∷ ts))) ns) whole either

-- So each marked split stands once in the list, where no two splits have one number.
pub marked_once : (account : ℕ) (day : ℤ) (ts : List (ℕ × Txn)) → are_once (numbers_of (splits_of ts)) ≡ true
    → are_once (marked_numbers (splits_to_mark account day ts)) ≡ true
marked_once account day ts once =
    by_day_once (rows_of account day ts) ∙ (picks_all account day ts).once once

-- ---- their numbers are below the next one

rows_below : (account : ℕ) (day : ℤ) (next : ℕ) (ts : List (ℕ × Txn))
    → All (λ (s : Split). s.id < next) (splits_of ts)
    → All (λ (row : Row). row.1.split < next) (rows_of account day ts)
rows_below account day next [] below = All-nil (λ (row : Row). row.1.split < next)
rows_below account day next (e ∷ ts) below =
    let Below : Split → Type 0 = λ s. s.id < next in
    let Marked : Row → Type 0 = λ row. row.1.split < next in
    let rest = rows_below account day next ts (all_back Below e.1.splits (splits_of ts) below) in
    let own = All-filter (has_mark Cleared account) Below e.1.splits
    (all_front Below e.1.splits (splits_of ts) below) in
    let rows : List (ℕ × Txn) → List Row = flat_map (λ (x : ℕ × Txn). dated_splits account x.1) in
    let Until : Bool → Type 0 = λ b. All Marked (rows (if b then e ∷ until day ts else until day ts)) in
    elim (int_le e.1.day day) as Until [
      | true ↦ All-append Marked (dated_splits account e.1) (rows (until day ts))
          (All-map Marked (λ (s : Split). (e.1.day, marked s)) (filter (has_mark Cleared account) e.1.splits) own) rest
      | false ↦ rest
    ]

pub marked_below : (account : ℕ) (day : ℤ) (next : ℕ) (ts : List (ℕ × Txn))
    → All (λ (s : Split). s.id < next) (splits_of ts)
    → All (λ (m : MarkedSplit). m.split < next) (splits_to_mark account day ts)
marked_below account day next ts below =
    All-map (λ (m : MarkedSplit). m.split < next) (λ (row : Row). row.1) (by_day (rows_of account day ts))
    (by_day_all (λ (row : Row). row.1.split < next) (rows_of account day ts) (rows_below account day next ts below))

-- ---- each of the account's cleared splits on or before the day is in the list

-- Each cleared split of an account is in a list of marked ones, with its number and its quantity.
abbrev pub AreListed : ℕ → List MarkedSplit → List Split → Type 0
AreListed account listed [] = ⊤
AreListed account listed (s ∷ splits) =
    (has_mark Cleared account s ≡ true → list_any (is_marked_as s) listed ≡ true) × AreListed account listed splits

-- so it is in a list that holds that one
listed_more : (account : ℕ) (listed more : List MarkedSplit) (splits : List Split)
    → ((p : MarkedSplit → Bool) → list_any p listed ≡ true → list_any p more ≡ true)
    → AreListed account listed splits → AreListed account more splits
listed_more account listed more [] later are = tt
listed_more account listed more (s ∷ splits) later are =
    (λ has. later (is_marked_as s) (are.0 has), listed_more account listed more splits later are.1)

own_mark : (s : Split) → is_marked_as s (marked s) ≡ true
own_mark s =
    and_from (s.id == s.id) (int_eq s.quantity s.quantity) (eq-eqb s.id s.id refl)
    ((Decides-int_eq s.quantity s.quantity).1 refl)

listed_own : (account : ℕ) (day : ℤ) (splits : List Split)
    → AreListed account
    (map (λ (row : Row). row.1) (map (λ (s : Split). (day, marked s)) (filter (has_mark Cleared account) splits)))
    splits
listed_own account day [] = tt
listed_own account day (s ∷ splits) =
    let picked : List Split → List MarkedSplit = λ xs.
    map (λ (row : Row). row.1) (map (λ (x : Split). (day, marked x)) xs) in
    let behind = filter (has_mark Cleared account) splits in
    let rest = listed_own account day splits in
    let Has : Bool → Type 0 = λ b.
    ((b ≡ true → list_any (is_marked_as s) (picked (if b then s ∷ behind else behind)) ≡ true)
    × AreListed account (picked (if b then s ∷ behind else behind)) splits) in
    elim (has_mark Cleared account s) as Has [
      | true ↦ (
        λ has. or_left (is_marked_as s (marked s)) (list_any (is_marked_as s) (picked behind)) (own_mark s),
        listed_more account (picked behind) (marked s ∷ picked behind) splits
            (λ p some. or_right (p (marked s)) (list_any p (picked behind)) some) rest,
      )
      | false ↦ (λ has. absurd cc, rest)
    ]

any_rows : (p : MarkedSplit → Bool) (xs ys : List Row)
    → list_any p (map (λ (row : Row). row.1) (xs ++ ys))
    ≡ (list_any p (map (λ (row : Row). row.1) xs) || list_any p (map (λ (row : Row). row.1) ys))
any_rows p xs ys =
    ap (list_any p) (map-append (λ (row : Row). row.1) xs ys)
    ∙ list_any-append p (map (λ (row : Row). row.1) xs) (map (λ (row : Row). row.1) ys)

listed_rows : (account : ℕ) (day : ℤ) (k : ℕ) (t : Txn) (ts : List (ℕ × Txn)) → value_of k ts ≡ Some t
    → int_le t.day day ≡ true
    → AreListed account (map (λ (row : Row). row.1) (rows_of account day ts)) t.splits
listed_rows account day k t [] there early = absurd cc
listed_rows account day k t (e ∷ ts) there early =
    let rows : List (ℕ × Txn) → List Row = flat_map (λ (x : ℕ × Txn). dated_splits account x.1) in
    let shown : List Row → List MarkedSplit = map (λ (row : Row). row.1) in
    let rest = rows (until day ts) in
    let Here : Bool → Type 0 = λ b. (if b then Some e.1 else value_of k ts) ≡ Some t
    → AreListed account (shown (rows_of account day (e ∷ ts))) t.splits in
    elim (k == e.0) as Here [
      | true ↦ λ same.
          let one : e.1 ≡ t = cc in
          subst (λ (x : Txn). AreListed account (shown (rows_of account day ((e.0, x) ∷ ts))) t.splits) (sym one)
          (subst (λ (b : Bool). AreListed account (shown (rows (if b then (e.0, t) ∷ until day ts else until day ts)))
          t.splits) (sym early)
          (listed_more account (shown (dated_splits account t)) (shown (dated_splits account t ++ rest)) t.splits
          (λ p some. any_rows p (dated_splits account t) rest
          ∙ or_left (list_any p (shown (dated_splits account t))) (list_any p (shown rest)) some)
          (listed_own account t.day t.splits)))
      | false ↦ λ found.
          let behind = listed_rows account day k t ts found early in
          (elim (int_le e.1.day day) as
          (λ (b : Bool). AreListed account (shown (rows (if b then e ∷ until day ts else until day ts))) t.splits) [
            | true ↦ listed_more account (shown rest) (shown (dated_splits account e.1 ++ rest)) t.splits
                (λ p some. any_rows p (dated_splits account e.1) rest
                ∙ or_right (list_any p (shown (dated_splits account e.1))) (list_any p (shown rest)) some)
                behind
            | false ↦ behind
          ])
    ] there

pub cleared_are_listed : (account : ℕ) (day : ℤ) (k : ℕ) (t : Txn) (ts : List (ℕ × Txn)) → value_of k ts ≡ Some t
    → int_le t.day day ≡ true → AreListed account (splits_to_mark account day ts) t.splits
cleared_are_listed account day k t ts there early =
    let rows = rows_of account day ts in
    listed_more account (map (λ (row : Row). row.1) rows) (splits_to_mark account day ts) t.splits
    (λ p some. by_day_any p rows ∙ some) (listed_rows account day k t ts there early)
