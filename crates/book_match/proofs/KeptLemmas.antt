-- The splits that an index has for an account: their number texts, and those of them that a line may take.
use Rattle.std.proofs.Common.{◌≡◌, ℕ, zero, suc, ◌+◌, ◌<◌, ◌==◌, nat_le, Bool, true, false, not, ◌&&◌, ◌||◌}
use Rattle.std.proofs.Common.{cond, if◌then◌else◌, List, [], ◌∷◌, ◌++◌, length, drop, take, get_or, filter, map, Option}
use Rattle.std.proofs.Common.{Some, None, option_map, refl, sym, ap, ◌∙◌, arith}
use Rattle.std.proofs.lemmas.List.{append-nil, map-append}
use Rattle.std.proofs.lemmas.List.Elements.{filter-append}
use Rattle.std.proofs.lemmas.List.Sums.{fold-append}
use Rattle.std.specs.List.{find}
use Rattle.std.specs.BTreeSet.{BTreeSet, contains}
use Rattle.std.specs.Ordering.{int_eq, nat_cmp}
use Rattle.std.proofs.lemmas.Bool.{eqb-true}
use Rattle.book_commodity.proofs.ListLemmas.{from-item, take-item}
use Rattle.book_splits.specs.Balance.{splits_of}
use Rattle.book_splits.specs.TransactionRules.{are_once, is_among, numbers_of}
use Rattle.book_splits.specs.declared.split.Split.{Split}
use Rattle.book_splits.specs.declared.transaction.Txn.{Txn}
use Rattle.book_match.specs.Bounds.{is_near}
use Rattle.book_match.specs.Kept.{has_split, num_of, view_of, views_on}
use Rattle.book_match.specs.Proposal.{choice, distance, is_candidate, is_nearer, nearer, nearest}
use Rattle.book_match.specs.Rank.{first_of, rank_of}
use Rattle.book_match.specs.Taken.{is_left, left}
use Rattle.book_match.specs.declared.rank.Rank.{Rank}
use Rattle.book_match.specs.declared.free.Free.{Free}
use Rattle.book_match.specs.declared.views.LineView.{LineView}
use Rattle.book_match.specs.declared.views.SplitView.{SplitView}
use Rattle.book_match.proofs.TakenLemmas.{filter-both}

-- ---- numbers that stand once
among-back : (xs ys : List Split) (n : ℕ) → is_among (numbers_of ys) n ≡ true
    → is_among (numbers_of (xs ++ ys)) n ≡ true
among-back [] ys n h = h
among-back (x ∷ xs) ys n h = either (x.id == n) (is_among (numbers_of (xs ++ ys)) n) (among-back xs ys n h)
  where
    either : (s t : Bool) → t ≡ true → (s || t) ≡ true
    either true t e = refl
    either false t e = e

among-front : (xs ys : List Split) (n : ℕ) → is_among (numbers_of xs) n ≡ true
    → is_among (numbers_of (xs ++ ys)) n ≡ true
among-front [] ys n h = absurd cc
among-front (x ∷ xs) ys n h = either (x.id == n) h (among-front xs ys n)
  where
    either : (s : Bool) → (s || is_among (numbers_of xs) n) ≡ true
        → (is_among (numbers_of xs) n ≡ true → is_among (numbers_of (xs ++ ys)) n ≡ true)
        → (s || is_among (numbers_of (xs ++ ys)) n) ≡ true
    either true e more = refl
    either false e more = more e

once-first : (a b : Bool) → (not a && b) ≡ true → a ≡ false
once-first true b e = absurd cc
once-first false b e = refl

once-rest : (a b : Bool) → (not a && b) ≡ true → b ≡ true
once-rest true b e = absurd cc
once-rest false b e = e

once-back : (xs ys : List Split) → are_once (numbers_of (xs ++ ys)) ≡ true → are_once (numbers_of ys) ≡ true
once-back [] ys once = once
once-back (x ∷ xs) ys once =
    once-back xs ys (once-rest (is_among (numbers_of (xs ++ ys)) x.id) (are_once (numbers_of (xs ++ ys))) once)

-- a number of the splits behind isn't one of those in front
once-apart : (xs ys : List Split) (n : ℕ) → are_once (numbers_of (xs ++ ys)) ≡ true → is_among (numbers_of ys) n ≡ true
    → is_among (numbers_of xs) n ≡ false
once-apart [] ys n once has = refl
once-apart (x ∷ xs) ys n once has =
    by_test (x.id == n) refl
    (once-apart xs ys n (once-rest (is_among (numbers_of (xs ++ ys)) x.id) (are_once (numbers_of (xs ++ ys))) once) has)
  where
    by_test : (s : Bool) → (x.id == n) ≡ s → is_among (numbers_of xs) n ≡ false
        → (s || is_among (numbers_of xs) n) ≡ false
    by_test true same more = absurd (
        let here : is_among (numbers_of (xs ++ ys)) x.id ≡ false =
        once-first (is_among (numbers_of (xs ++ ys)) x.id) (are_once (numbers_of (xs ++ ys))) once in
        let there : is_among (numbers_of (xs ++ ys)) x.id ≡ true =
        ap (is_among (numbers_of (xs ++ ys))) (eqb-true x.id n same) ∙ among-back xs ys n has in
        cc)
    by_test false same more = more

among-of : (ts : List (ℕ × Txn)) (i : ℕ) (d : ℕ × Txn) (n : ℕ) → i < length ts
    → is_among (numbers_of (get_or ts i d).1.splits) n ≡ true → is_among (numbers_of (splits_of ts)) n ≡ true
among-of [] i d n lt h = absurd (omega (arith, lt))
among-of (t ∷ ts) zero d n lt h = among-front t.1.splits (splits_of ts) n h
among-of (t ∷ ts) (suc i) d n lt h =
    among-back t.1.splits (splits_of ts) n (among-of ts i d n (omega (arith, lt)) h)

-- the first transaction has the split, or those behind it tell
by_first : (n : ℕ) (t : ℕ × Txn) (ts : List (ℕ × Txn)) (b : Bool) → is_among (numbers_of t.1.splits) n ≡ b
    → num_of n (t ∷ ts) ≡ cond b (Some t.1.num) (num_of n ts)
by_first n t ts true e =
    ap (λ (b : Bool). option_map (λ (x : ℕ × Txn). x.1.num) (cond b (Some t) (find (has_split n) ts))) e
by_first n t ts false e =
    ap (λ (b : Bool). option_map (λ (x : ℕ × Txn). x.1.num) (cond b (Some t) (find (has_split n) ts))) e

-- the transaction at a place that has the split is the first that has it
pub num-at : (ts : List (ℕ × Txn)) (i : ℕ) (d : ℕ × Txn) (n : ℕ) → are_once (numbers_of (splits_of ts)) ≡ true
    → i < length ts → is_among (numbers_of (get_or ts i d).1.splits) n ≡ true
    → num_of n ts ≡ Some (get_or ts i d).1.num
num-at [] i d n once lt h = absurd (omega (arith, lt))
num-at (t ∷ ts) zero d n once lt h = by_first n t ts true h
num-at (t ∷ ts) (suc i) d n once lt h =
    let less : i < length ts = omega (arith, lt) in
    by_first n t ts false
    (once-apart t.1.splits (splits_of ts) n once (among-of ts i d n less h))
    ∙ num-at ts i d n (once-back t.1.splits (splits_of ts) once) less h

-- at the transaction that a loop reads
pub num-here : (ts : List (ℕ × Txn)) (i : ℕ) (t : ℕ × Txn) (n : ℕ) → i < length ts → t ≡ get_or ts i t
    → is_among (numbers_of t.1.splits) n ≡ true → num_of n (drop i ts) ≡ Some t.1.num
num-here ts i t n below is has =
    ap (num_of n) (from-item ts i t below is)
    ∙ by_first n t (drop (i + 1) ts) true has

pub num-later : (ts : List (ℕ × Txn)) (i : ℕ) (t : ℕ × Txn) (n : ℕ) → i < length ts → t ≡ get_or ts i t
    → is_among (numbers_of t.1.splits) n ≡ false → num_of n (drop i ts) ≡ num_of n (drop (i + 1) ts)
num-later ts i t n below is lacks =
    ap (num_of n) (from-item ts i t below is)
    ∙ by_first n t (drop (i + 1) ts) false lacks

-- ---- the candidates of a line
filter-mapped : {X Y : Type 0} (p : Y → Bool) (f : X → Y) (xs : List X)
    → filter p (map f xs) ≡ map f (filter (λ x. p (f x)) xs)
filter-mapped p f [] = refl
filter-mapped {X} {Y} p f (x ∷ xs) = by_test (p (f x)) (filter-mapped p f xs)
  where
    by_test : (t : Bool) → filter p (map f xs) ≡ map f (filter (λ x. p (f x)) xs)
        → (if t then f x ∷ filter p (map f xs) else filter p (map f xs))
        ≡ map f (if t then x ∷ filter (λ x. p (f x)) xs else filter (λ x. p (f x)) xs)
    by_test true more = ap (λ l. f x ∷ l) more
    by_test false more = more

regrouped : (a t m d : Bool) → ((a && t) && (m && d)) ≡ (((a && m) && d) && t)
regrouped true true true true = refl
regrouped true true true false = refl
regrouped true true false d = refl
regrouped true false true true = refl
regrouped true false true false = refl
regrouped true false false d = refl
regrouped false t m d = refl

-- they are those splits of its amount that are near enough and left
pub candidates-are : (window account : ℕ) (line : LineView) (taken : BTreeSet ℕ) (es : List Free) (ts : List (ℕ × Txn))
    → filter (is_candidate window line) (left taken (views_on account es ts))
    ≡ map (view_of ts) (filter (is_left taken) (filter (is_near account line.amount line.day window) es))
candidates-are window account line taken es ts =
    let on : Free → Bool = λ e. e.account == account in
    let may : Free → Bool = λ e. is_candidate window line (view_of ts e) in
    let both : Free → Bool = λ e. on e && is_left taken e in
    let all : Free → Bool = λ e. both e && may e in
    ap (filter (is_candidate window line))
    (filter-mapped (λ (s : SplitView). not (contains nat_cmp taken s.split)) (view_of ts) (filter on es))
    ∙ filter-mapped (is_candidate window line) (view_of ts) (filter (is_left taken) (filter on es))
    ∙ ap (map (view_of ts)) (ap (filter may) (sym (filter-both both on (is_left taken) es (λ e. refl)))
    ∙ sym (filter-both all both may es (λ e. refl))
    ∙ filter-both all (is_near account line.amount line.day window) (is_left taken) es
    (λ e. regrouped (e.account == account) (not (contains nat_cmp taken e.split)) (int_eq e.amount line.amount)
    (nat_le (distance line.day e.day) window)))

-- the number of the nearest of them is that of the line's choice
pub choice-kept : (window account : ℕ) (line : LineView) (taken : BTreeSet ℕ) (es : List Free) (ts : List (ℕ × Txn))
    → option_map (λ (v : SplitView). v.split)
    (nearest line (map (view_of ts) (filter (is_left taken) (filter (is_near account line.amount line.day window) es))))
    ≡ option_map (λ (v : SplitView). v.split) (choice window line (left taken (views_on account es ts)))
choice-kept window account line taken es ts =
    ap (λ l. option_map (λ (v : SplitView). v.split) (nearest line l))
    (sym (candidates-are window account line taken es ts))

-- ---- how near the nearest of them is
-- of some that are left
abbrev pub rank_before : LineView → List (ℕ × Txn) → BTreeSet ℕ → List Free → Option Rank
rank_before line ts taken es =
    option_map (rank_of line) (nearest line (map (view_of ts) (filter (is_left taken) es)))

rank-nearer : (line : LineView) (o : Option SplitView) (x : SplitView)
    → rank_of line (nearer line o x) ≡ first_of (option_map (rank_of line) o) (rank_of line x)
rank-nearer line None x = refl
rank-nearer line (Some other) x = by_test (is_nearer line x other)
  where
    by_test : (t : Bool) → rank_of line (if t then x else other) ≡ (if t then rank_of line x else rank_of line other)
    by_test true = refl
    by_test false = refl

filter-one : (test : Free → Bool) (e : Free) (b : Bool) → test e ≡ b → filter test (e ∷ []) ≡ (if b then e ∷ [] else [])
filter-one test e b is = ap (λ (t : Bool). if t then e ∷ [] else []) is

-- at a split that is left
pub rank-more : (line : LineView) (ts : List (ℕ × Txn)) (taken : BTreeSet ℕ) (es : List Free) (i : ℕ) (e : Free)
    → i < length es → e ≡ get_or es i e → contains nat_cmp taken e.split ≡ false
    → rank_before line ts taken (take (i + 1) es)
    ≡ Some (first_of (rank_before line ts taken (take i es)) (rank_of line (view_of ts e)))
rank-more line ts taken es i e below is free =
    let before : List Free = filter (is_left taken) (take i es) in
    let views : List SplitView = map (view_of ts) before in
    ap (rank_before line ts taken) (sym (take-item es i e below is))
    ∙ ap (λ l. option_map (rank_of line) (nearest line (map (view_of ts) l)))
    (filter-append (is_left taken) (take i es) (e ∷ [])
    ∙ ap (λ l. before ++ l) (filter-one (is_left taken) e true (ap not free)))
    ∙ ap (λ l. option_map (rank_of line) (nearest line l)) (map-append (view_of ts) before (e ∷ []))
    ∙ ap (option_map (rank_of line)) (fold-append (λ other split. Some (nearer line other split)) None views
    (view_of ts e ∷ []))
    ∙ ap (λ r. Some r) (rank-nearer line (nearest line views) (view_of ts e))

-- and at one that isn't
pub rank-same : (line : LineView) (ts : List (ℕ × Txn)) (taken : BTreeSet ℕ) (es : List Free) (i : ℕ) (e : Free)
    → i < length es → e ≡ get_or es i e → contains nat_cmp taken e.split ≡ true
    → rank_before line ts taken (take (i + 1) es) ≡ rank_before line ts taken (take i es)
rank-same line ts taken es i e below is gone =
    let before : List Free = filter (is_left taken) (take i es) in
    ap (rank_before line ts taken) (sym (take-item es i e below is))
    ∙ ap (λ l. option_map (rank_of line) (nearest line (map (view_of ts) l)))
    (filter-append (is_left taken) (take i es) (e ∷ [])
    ∙ ap (λ l. before ++ l) (filter-one (is_left taken) e false (ap not gone)) ∙ append-nil before)

-- it has the number of the nearest
pub rank-split : (line : LineView) (o : Option SplitView)
    → option_map (λ (r : Rank). r.split) (option_map (rank_of line) o) ≡ option_map (λ (v : SplitView). v.split) o
rank-split line None = refl
rank-split line (Some x) = refl
