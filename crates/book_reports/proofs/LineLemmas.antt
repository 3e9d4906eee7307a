-- The lines of a report are few, and their amounts small, so that they can be added up.
use Rattle.std.proofs.Common.{◌≡◌, ℕ, suc, ◌+◌, ◌*◌, ◌^◌, ◌≤◌, ◌<◌, get_or, ℤ, pos, negsuc, neg_ℤ, int_lt, ◌+ℤ◌, ◌-ℤ◌, ◌≤ℤ◌, ◌&&◌, not, unsigned_abs, Bool, true}
use Rattle.std.proofs.Common.{false, nat_eq, ◌++◌, if◌then◌else◌, List, [], ◌∷◌, All, IfSome, length, map, filter, take}
use Rattle.std.proofs.Common.{Option, Some, None, is_some, refl, sym, ap, subst, ◌∙◌, arith}
use Rattle.std.specs.List.{cons_option, filter_map}
use Rattle.std.specs.Ordering.{int_eq}
use Rattle.std.proofs.lemmas.Bool.{eqb-true}
use Rattle.std.proofs.lemmas.Bool.Decides.{nat_tests}
use Rattle.std.proofs.lemmas.Int.{ints}
use Rattle.std.proofs.lemmas.List.{length-map, length-take, map-append, take_more}
use Rattle.std.proofs.Math.IntN.{+ℤ_idr}
use Rattle.std.proofs.lemmas.List.Elements.{All-cons, All-get_or, All-head, All-map, All-nil, All-tail, All-take}
use Rattle.std.proofs.lemmas.List.Elements.{All-weaker, filter_map-append}
use Rattle.std.proofs.lemmas.List.Filters.{length-filter_both}
use Rattle.std.proofs.lemmas.List.Sums.{length-filter}
use Rattle.book_accounts.specs.Order.{ListsEachOnce}
use Rattle.book_accounts.specs.Path.{path}
use Rattle.book_accounts.specs.declared.account.Account.{Account}
use Rattle.book_commodity.specs.Table.{value_of}
use Rattle.book_splits.specs.Balance.{total}
use Rattle.book_splits.proofs.BalanceLemmas.{total-append}
use Rattle.book_undo.specs.Book.{Book}
use Rattle.book_sound.specs.Soundness.{IsSoundBook}
use Rattle.book_limits.specs.Limits.{largest_sum}
use Rattle.book_reports.specs.Measure.{sum_in, value_in, worth}
use Rattle.book_reports.specs.Sections.{CanBeAdded, amount_in, holds, line_of, line_with, signed_in}
use Rattle.book_reports.specs.declared.lines.Line.{Line}
use Rattle.book_reports.specs.declared.period.Period.{Period}
use Rattle.book_reports.specs.Sheet.{until}
use Rattle.book_reports.specs.Trial as trial
use Rattle.book_reports.specs.Trial.{positive}
use Rattle.book_reports.specs.declared.section.Section.{Section}
use Rattle.book_reports.specs.declared.trial_balance.TrialLine.{TrialLine}
use Rattle.book_reports.proofs.MeasureLemmas.{signed_small, size_turned, worth_small}
use Rattle.book_reports.proofs.RowLemmas.{value_small}

-- ---- sums

size_at_most :
    (most : ℕ) (z : ℤ) → (pos 0 -ℤ pos most) ≤ℤ z → z ≤ℤ pos most → unsigned_abs z ≤ most
size_at_most most (pos n) low high = omega (arith, ints, low, high)
size_at_most most (negsuc n) low high = omega (arith, ints, low, high)

-- a size is a bound on both sides
pub within : (most : ℕ) (z : ℤ) → unsigned_abs z ≤ most → ((pos 0 -ℤ pos most) ≤ℤ z) × (z ≤ℤ pos most)
within most (pos n) small = (omega (arith, ints, small), omega (arith, ints, small))
within most (negsuc n) small = (omega (arith, ints, small), omega (arith, ints, small))

bounded :
    (amounts : List ℤ) → All (λ (a : ℤ). unsigned_abs a ≤ 10 ^ 30) amounts
    → ((pos 0 -ℤ pos (10 ^ 30 * length amounts)) ≤ℤ total amounts) × (total amounts ≤ℤ pos (10 ^ 30 * length amounts))
bounded [] small = (omega (arith, ints), omega (arith, ints))
bounded (a ∷ amounts) small =
    let Small : ℤ → Type 0 = λ x. unsigned_abs x ≤ 10 ^ 30 in
    let first = within (10 ^ 30) a (All-head Small a amounts small) in
    let rest = bounded amounts (All-tail Small a amounts small) in
    (omega (arith, ints, first.0, rest.0), omega (arith, ints, first.1, rest.1))

-- the sum of at most 10,000 amounts of at most 10 ^ 30 in size
total_small :
    (amounts : List ℤ) → All (λ (a : ℤ). unsigned_abs a ≤ 10 ^ 30) amounts → length amounts ≤ 10000
    → unsigned_abs (total amounts) ≤ 10 ^ 34
total_small amounts small few =
    let is = bounded amounts small in
    size_at_most (10 ^ 34) (total amounts) (omega (arith, ints, is.0, few)) (omega (arith, ints, is.1, few))

-- a sum goes on by the next amount
pub total_next :
    {X : Type 0} (amount : X → ℤ) (xs : List X) (i : ℕ) (d : X) → i < length xs
    → total (map amount (take (i + 1) xs)) ≡ total (map amount (take i xs)) +ℤ amount (get_or xs i d)
total_next {X} amount xs i d lt =
    let last : total (amount (get_or xs i d) ∷ []) ≡ amount (get_or xs i d) = +ℤ_idr (amount (get_or xs i d)) in
    ap (λ (l : List X). total (map amount l)) (take_more xs i d lt)
    ∙ ap total (map-append amount (take i xs) (get_or xs i d ∷ []))
    ∙ total-append (map amount (take i xs)) (amount (get_or xs i d) ∷ [])
    ∙ ap (λ (z : ℤ). total (map amount (take i xs)) +ℤ z) last

-- ---- what is found in a list

cons_all :
    {Y : Type 0} (P : Y → Type 0) (found : Option Y) (ys : List Y) → IfSome found P → All P ys
    → All P (cons_option found ys)
cons_all P None ys holds all = all
cons_all P (Some y) ys holds all = All-cons P y ys holds all

-- what is found in a list is as each that is found
pub all_found :
    {X Y : Type 0} (P : Y → Type 0) (h : X → Option Y) → ((x : X) → IfSome (h x) P) → (xs : List X)
    → All P (filter_map h xs)
all_found P h each [] = All-nil P
all_found P h each (x ∷ xs) = cons_all P (h x) (filter_map h xs) (each x) (all_found P h each xs)

cons_few : {Y : Type 0} (found : Option Y) (ys : List Y) (most : ℕ) → length ys ≤ most → length (cons_option found ys) ≤ suc most
cons_few None ys most few = omega (arith, few)
cons_few (Some y) ys most few = omega (arith, few)

-- no more is found in a list than it has
pub few_found : {X Y : Type 0} (h : X → Option Y) (xs : List X) → length (filter_map h xs) ≤ length xs
few_found h [] = omega arith
few_found h (x ∷ xs) = cons_few (h x) (filter_map h xs) (length xs) (few_found h xs)

-- what is found goes on by what is found at the next place
pub found_next :
    {X Y : Type 0} (h : X → Option Y) (xs : List X) (i : ℕ) (d : X) → i < length xs
    → filter_map h (take (i + 1) xs) ≡ filter_map h (take i xs) ++ cons_option (h (get_or xs i d)) []
found_next {X} h xs i d lt =
    ap (λ (l : List X). filter_map h l) (take_more xs i d lt) ∙ filter_map-append h (take i xs) (get_or xs i d ∷ [])

-- ---- the lines of a section

abbrev IsSmallLine : Line → Type 0
IsSmallLine line = unsigned_abs (amount_in line.worth) ≤ 10 ^ 30

line_small :
    (book : Book) (period : Period) (section : Section) (number : ℕ) (o : Option Account)
    → IfSome (line_with book period section number o) IsSmallLine
line_small book period section number None = tt
line_small book period section number (Some account) =
    let sum = sum_in book period number in
    let worths = worth book period.to account.commodity sum in
    elim (holds section account.kind && not (int_eq sum (pos 0))) as
    (λ b. IfSome (if b then Some (record { path = path book.accounts number; worth = signed_in section worths }) else None) IsSmallLine) [
      | true ↦ signed_small section worths (worth_small book period.to account.commodity sum)
      | false ↦ tt
    ]

pub can_be_added :
    (book : Book) (period : Period) (section : Section) (order : List ℕ) → length order ≤ 10000
    → CanBeAdded (filter_map (line_of book period section) order)
unfolding line_of
can_be_added book period section order few = record {
  few = omega (arith, few_found (line_of book period section) order, few);
  small = all_found IsSmallLine (line_of book period section)
      (λ n. line_small book period section n (value_of n book.accounts)) order;
}

-- the amount of a line that can be added up
pub item_small :
    (lines : List Line) (i : ℕ) (d : Line) → CanBeAdded lines → i < length lines
    → unsigned_abs (amount_in (get_or lines i d).worth) ≤ 10 ^ 30
item_small lines i d can within = All-get_or IsSmallLine lines i d within can.small

-- the sum of the first lines is small
pub first_small :
    (lines : List Line) (i : ℕ) → CanBeAdded lines
    → unsigned_abs (total (map (λ (l : Line). amount_in l.worth) (take i lines))) ≤ 10 ^ 34
first_small lines i can =
    total_small (map (λ (l : Line). amount_in l.worth) (take i lines))
    (All-map (λ (a : ℤ). unsigned_abs a ≤ 10 ^ 30) (λ (l : Line). amount_in l.worth) (take i lines)
    (All-take IsSmallLine i lines can.small))
    (omega (arith, length-map (take i lines) (λ (l : Line). amount_in l.worth), length-take i lines, can.few))

-- ---- the lines of a currency

abbrev IsSmallSide : TrialLine → Type 0
IsSmallSide line = (unsigned_abs line.debit ≤ largest_sum) × (unsigned_abs line.credit ≤ largest_sum)

-- the sum of the first debits is small
pub debits_small :
    (lines : List TrialLine) (i : ℕ) → trial.CanBeAdded lines
    → unsigned_abs (total (map (λ (l : TrialLine). l.debit) (take i lines))) ≤ 10 ^ 34
debits_small lines i can =
    total_small (map (λ (l : TrialLine). l.debit) (take i lines))
    (All-map (λ (a : ℤ). unsigned_abs a ≤ 10 ^ 30) (λ (l : TrialLine). l.debit) (take i lines)
    (All-weaker IsSmallSide (λ (l : TrialLine). unsigned_abs l.debit ≤ 10 ^ 30) (λ l small. omega (arith, small.0))
    (take i lines) (All-take IsSmallSide i lines can.small)))
    (omega (arith, length-map (take i lines) (λ (l : TrialLine). l.debit), length-take i lines, can.few))

-- and so is that of the first credits
pub credits_small :
    (lines : List TrialLine) (i : ℕ) → trial.CanBeAdded lines
    → unsigned_abs (total (map (λ (l : TrialLine). l.credit) (take i lines))) ≤ 10 ^ 34
credits_small lines i can =
    total_small (map (λ (l : TrialLine). l.credit) (take i lines))
    (All-map (λ (a : ℤ). unsigned_abs a ≤ 10 ^ 30) (λ (l : TrialLine). l.credit) (take i lines)
    (All-weaker IsSmallSide (λ (l : TrialLine). unsigned_abs l.credit ≤ 10 ^ 30) (λ l small. omega (arith, small.1))
    (take i lines) (All-take IsSmallSide i lines can.small)))
    (omega (arith, length-map (take i lines) (λ (l : TrialLine). l.credit), length-take i lines, can.few))

-- the sides of a line that can be added up
pub side_small :
    (lines : List TrialLine) (i : ℕ) (d : TrialLine) → trial.CanBeAdded lines → i < length lines
    → IsSmallSide (get_or lines i d)
side_small lines i d can within = All-get_or IsSmallSide lines i d within can.small

positive_small : (sum : ℤ) → unsigned_abs sum ≤ largest_sum → unsigned_abs (positive sum) ≤ largest_sum
positive_small sum small =
    elim (int_lt (pos 0) sum) as (λ b. unsigned_abs (if b then sum else pos 0) ≤ largest_sum) [
      | true ↦ small
      | false ↦ omega arith
    ]

side_found :
    (book : Book) (day : ℤ) (currency account : ℕ) → IsSoundBook book
    → IfSome (trial.line_of book day currency account) IsSmallSide
side_found book day currency account is =
    let sum = value_in book (until day) currency account in
    let small = value_small book (until day) currency account is in
    elim (int_eq sum (pos 0)) as
    (λ b. IfSome (if b then None
    else Some (record { path = path book.accounts account; debit = positive sum; credit = positive (neg_ℤ sum) }))
    IsSmallSide) [
      | true ↦ tt
      | false ↦ (
        positive_small sum small,
        positive_small (neg_ℤ sum) (subst (λ n. n ≤ largest_sum) (sym (size_turned sum)) small),
      )
    ]

pub sides_can_be_added :
    (book : Book) (day : ℤ) (currency : ℕ) (order : List ℕ) → IsSoundBook book → length order ≤ 10000
    → trial.CanBeAdded (filter_map (trial.line_of book day currency) order)
sides_can_be_added book day currency order is few = record {
  few = omega (arith, few_found (trial.line_of book day currency) order, few);
  small = all_found IsSmallSide (trial.line_of book day currency)
      (λ n. side_found book day currency n is) order;
}

-- ---- numbers that are each listed once

self_equal : (n : ℕ) → nat_eq n n ≡ true
self_equal n = grind (arith, nat_tests)

others :
    (m n : ℕ) → nat_eq n m ≡ false → (xs : List ℕ)
    → length (filter (nat_eq n) (filter (λ x. not (nat_eq m x)) xs)) ≡ length (filter (nat_eq n) xs)
others m n apart [] = refl
others m n apart (x ∷ xs) = here (nat_eq m x) refl (others m n apart xs)
  where
    here :
        (t : Bool) → nat_eq m x ≡ t
        → length (filter (nat_eq n) (filter (λ y. not (nat_eq m y)) xs)) ≡ length (filter (nat_eq n) xs)
        → length (filter (nat_eq n) (if not t then x ∷ filter (λ y. not (nat_eq m y)) xs else filter (λ y. not (nat_eq m y)) xs))
        ≡ length (filter (nat_eq n) (x ∷ xs))
    here true is same =
        let other : nat_eq n x ≡ false = grind (arith, nat_tests, is, apart) in
        same ∙ sym (ap (λ (t : Bool). length (if t then x ∷ filter (nat_eq n) xs else filter (nat_eq n) xs)) other)
    here false is same =
        elim (nat_eq n x) as
        (λ b. length (if b then x ∷ filter (nat_eq n) (filter (λ y. not (nat_eq m y)) xs)
        else filter (nat_eq n) (filter (λ y. not (nat_eq m y)) xs))
        ≡ length (if b then x ∷ filter (nat_eq n) xs else filter (nat_eq n) xs)) [
          | true ↦ omega (arith, same)
          | false ↦ same
        ]

none_left : (m : ℕ) (xs : List ℕ) → length (filter (nat_eq m) (filter (λ x. not (nat_eq m x)) xs)) ≡ 0
none_left m [] = refl
none_left m (x ∷ xs) = here (nat_eq m x) refl (none_left m xs)
  where
    here :
        (t : Bool) → nat_eq m x ≡ t → length (filter (nat_eq m) (filter (λ y. not (nat_eq m y)) xs)) ≡ 0
        → length (filter (nat_eq m) (if not t then x ∷ filter (λ y. not (nat_eq m y)) xs
        else filter (λ y. not (nat_eq m y)) xs)) ≡ 0
    here true is none = none
    here false is none =
        ap (λ (t : Bool). length (if t then x ∷ filter (nat_eq m) (filter (λ y. not (nat_eq m y)) xs)
        else filter (nat_eq m) (filter (λ y. not (nat_eq m y)) xs))) is
        ∙ none

at_most_one : (t : Bool) → (if t then 1 else 0) ≤ 1
at_most_one true = omega arith
at_most_one false = omega arith

abbrev pub AreAtMostOnce : {T : Type 0} → List (ℕ × T) → List ℕ → Type 0
AreAtMostOnce tree xs = (n : ℕ) → length (filter (nat_eq n) xs) ≤ (if is_some (value_of n tree) then 1 else 0)

-- numbers of a table that are each listed once are no more than the table has
fits : {T : Type 0} (tree : List (ℕ × T)) (xs : List ℕ) → AreAtMostOnce tree xs → length xs ≤ length tree
fits [] [] each = omega arith
fits [] (x ∷ xs) each =
    let one = each x in
    let here = ap (λ (t : Bool). length (if t then x ∷ filter (nat_eq x) xs else filter (nat_eq x) xs)) (self_equal x) in
    absurd (omega (arith, one, here))
fits (e ∷ es) xs each =
    let rest = filter (λ x. not (nat_eq e.0 x)) xs in
    let both = length-filter_both (nat_eq e.0) (λ x. not (nat_eq e.0 x)) (λ x. refl) xs in
    let own = each e.0 in
    omega (arith, both, own, at_most_one (is_some (value_of e.0 (e ∷ es))), fits es rest (λ n. by n (nat_eq n e.0) refl))
  where
    by :
        (n : ℕ) (t : Bool) → nat_eq n e.0 ≡ t
        → length (filter (nat_eq n) (filter (λ x. not (nat_eq e.0 x)) xs)) ≤ (if is_some (value_of n es) then 1 else 0)
    by n true is =
        let same : n ≡ e.0 = eqb-true n e.0 is in
        let none = subst (λ m. length (filter (nat_eq m) (filter (λ x. not (nat_eq e.0 x)) xs)) ≡ 0) (sym same)
        (none_left e.0 xs) in omega (arith, none)
    by n false is =
        let found : is_some (value_of n (e ∷ es)) ≡ is_some (value_of n es) =
        ap (λ (t : Bool). is_some (if t then Some e.1 else value_of n es)) is in
        let most = ap {B = ℕ} (λ (t : Bool). if t then 1 else 0) found in
        omega (arith, each n, most, others e.0 n is xs)

-- the accounts of a tree in their order are no more than the tree has
pub few_in_order :
    (tree : List (ℕ × Account)) (order : List ℕ) → ListsEachOnce tree order → length order ≤ length tree
few_in_order tree order each = fits tree order (λ n. omega (arith, length-filter (nat_eq n) order, each n))
