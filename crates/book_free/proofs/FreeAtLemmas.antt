-- Which splits are among the free ones of a sound book: those that are found free by their number.
use Rattle.std.proofs.Common.{◌≡◌, ℕ, zero, suc, ◌<◌, get_or, length, ◌==◌, ℤ, Bool, true, false, not, ◌&&◌, ◌||◌}
use Rattle.std.proofs.Common.{if◌then◌else◌, cond, List, [], ◌∷◌}
use Rattle.std.proofs.Common.{◌++◌, filter, find, map, Option, Some, None, refl, sym, ap, ◌∙◌, arith}
use Rattle.std.specs.Option.{option_and_then}
use Rattle.std.specs.Ordering.{int_eq}
use Rattle.std.proofs.lemmas.Bool.{and_parts, eqb-true, not-true, or_parts}
use Rattle.std.proofs.lemmas.Bool.Decides.{nat_tests}
use Rattle.std.proofs.lemmas.List.{map-append}
use Rattle.std.proofs.lemmas.List.Folds.{list_any-append}
use Rattle.book_splits.specs.Balance.{splits_of}
use Rattle.book_splits.specs.TransactionRules.{are_once, is_among, numbers_of}
use Rattle.book_splits.specs.declared.split.Split.{Split}
use Rattle.book_splits.specs.declared.transaction.Txn.{Txn}
use Rattle.book_match.specs.AmountIndex.{is_same, is_there}
use Rattle.book_match.specs.Kept.{has_split}
use Rattle.book_match.specs.declared.free.Free.{Free}
use Rattle.book_match.proofs.IndexLaws.{there-ordered}
use Rattle.book_sound.specs.LineRules.{split_among}
use Rattle.book_sound.specs.Soundness.{IsSoundBook}
use Rattle.book_sound.proofs.SplitFrames.{found_among, found_number}
use Rattle.book_undo.specs.Book.{Book}
use Rattle.book_free.specs.FreeSplits.{free_among, free_at, free_of, free_split, free_splits, is_free, is_matched}
use Rattle.book_free.specs.FreeSplits.{is_never_free, open_at, open_in, open_split}
use Rattle.book_free.proofs.FreeLemmas.{not_among_fewer, not_there, numbers_among, numbers_free}
use Rattle.book_free.proofs.SplitsOnce.{splits_once}

-- Whether a split that may be given is another one.
abbrev pub is_entry : Option Free → Free → Bool
is_entry None f = false
is_entry (Some g) f = is_same f g

-- ---- numbers that stand once in two lists together

once_behind : (xs ys : List ℕ) → are_once (xs ++ ys) ≡ true → are_once ys ≡ true
once_behind [] ys once = once
once_behind (x ∷ xs) ys once =
    once_behind xs ys (and_parts (not (is_among (xs ++ ys) x)) (are_once (xs ++ ys)) once).1

once_front : (xs ys : List ℕ) → are_once (xs ++ ys) ≡ true → are_once xs ≡ true
once_front [] ys once = refl
once_front (x ∷ xs) ys once =
    let parts = and_parts (not (is_among (xs ++ ys) x)) (are_once (xs ++ ys)) once in
    let none = or_parts (is_among xs x) (is_among ys x)
    (sym (list_any-append (λ (k : ℕ). k == x) xs ys) ∙ not-true (is_among (xs ++ ys) x) parts.0) in
    ap (λ (t : Bool). not t && are_once xs) none.0 ∙ once_front xs ys parts.1

once_apart : (n : ℕ) (xs ys : List ℕ) → are_once (xs ++ ys) ≡ true → is_among xs n ≡ true → is_among ys n ≡ false
once_apart n [] ys once among = absurd cc
once_apart n (x ∷ xs) ys once among =
    let parts = and_parts (not (is_among (xs ++ ys) x)) (are_once (xs ++ ys)) once in
    let none = or_parts (is_among xs x) (is_among ys x)
    (sym (list_any-append (λ (k : ℕ). k == x) xs ys) ∙ not-true (is_among (xs ++ ys) x) parts.0) in
    elim (x == n) as (λ (t : Bool). (x == n) ≡ t → (t || is_among xs n) ≡ true → is_among ys n ≡ false) [
      | true ↦ λ same here. ap (is_among ys) (sym (eqb-true x n same)) ∙ none.1
      | false ↦ λ other rest. once_apart n xs ys parts.1 rest
    ] refl among

-- ---- the splits of one transaction

last_other : (a b c d : Bool) → d ≡ false → (a && (b && (c && d))) ≡ false
last_other false b c d e = refl
last_other true false c d e = refl
last_other true true false d e = refl
last_other true true true d e = e

-- a split of another number is another
other_number : (f : Free) (day : ℤ) (x : Split) → (x.id == f.split) ≡ false → is_same f (free_split day x) ≡ false
other_number f day x other =
    last_other (f.account == x.account) (int_eq f.amount x.quantity) (int_eq f.day day) (f.split == x.id)
    (grind (arith, nat_tests, other))

none_among : (taken : ℕ → Bool) (f : Free) (day : ℤ) (xs : List Split) → is_among (numbers_of xs) f.split ≡ false
    → is_there f (map (free_split day) (filter (is_free taken) xs)) ≡ false
none_among taken f day xs none =
    not_there f (map (free_split day) (filter (is_free taken) xs))
    (ap (λ (ns : List ℕ). is_among ns f.split) (numbers_free day (filter (is_free taken) xs))
    ∙ not_among_fewer (is_free taken) f.split xs none)

-- Whether a split is free as another one.
abbrev free_as : (ℕ → Bool) → Free → Option Free → Bool
free_as taken f split = not (taken f.split) && is_entry split f

and_false : (t : Bool) → (t && false) ≡ false
and_false true = refl
and_false false = refl

one_free : (taken : ℕ → Bool) (f : Free) (day : ℤ) (x : Split) (rest : List Free) → x.id ≡ f.split
    → is_there f rest ≡ false
    → is_there f (if is_free taken x then free_split day x ∷ rest else rest) ≡ free_as taken f (open_split day x)
one_free taken f day x rest same none = by_tests (is_never_free x.mark) (taken x.id) refl
  where
    turned : taken f.split ≡ taken x.id
    turned = ap taken (sym same)

    by_tests : (r t : Bool) → taken x.id ≡ t
        → is_there f (if not r && not t then free_split day x ∷ rest else rest)
        ≡ (not (taken f.split) && is_entry (if r then None else Some (free_split day x)) f)
    by_tests true t e = none ∙ sym (and_false (not (taken f.split)))
    by_tests false true e =
        none ∙ sym (ap (λ (b : Bool). not b && is_same f (free_split day x)) (turned ∙ e))
    by_tests false false e =
        ap (λ (b : Bool). is_same f (free_split day x) || b) none ∙ or_none (is_same f (free_split day x))
        ∙ sym (ap (λ (b : Bool). not b && is_same f (free_split day x)) (turned ∙ e))
      where
        or_none : (b : Bool) → (b || false) ≡ b
        or_none true = refl
        or_none false = refl

own_free : (taken : ℕ → Bool) (f : Free) (day : ℤ) (xs : List Split) → are_once (numbers_of xs) ≡ true
    → is_there f (map (free_split day) (filter (is_free taken) xs))
    ≡ free_as taken f (option_and_then (open_split day) (split_among f.split xs))
own_free taken f day [] once = sym (and_false (not (taken f.split)))
own_free taken f day (x ∷ xs) once =
    let parts = and_parts (not (is_among (numbers_of xs) x.id)) (are_once (numbers_of xs)) once in
    let rest = map (free_split day) (filter (is_free taken) xs) in
    let mapped = passed (is_free taken x) in
    elim (x.id == f.split) as (λ (t : Bool). (x.id == f.split) ≡ t
    → is_there f (map (free_split day) (if is_free taken x then x ∷ filter (is_free taken) xs else
    filter (is_free taken) xs))
    ≡ free_as taken f (option_and_then (open_split day) (cond t (Some x) (split_among f.split xs)))) [
      | true ↦ λ same.
          let number = eqb-true x.id f.split same in
          let none = ap (is_among (numbers_of xs)) (sym number) ∙ not-true _ parts.0 in
          ap (is_there f) mapped ∙ one_free taken f day x rest number (none_among taken f day xs none)
      | false ↦ λ other.
          ap (is_there f) mapped ∙ beside (is_free taken x) (other_number f day x other)
          ∙ own_free taken f day xs parts.1
    ] refl
  where
    passed : (b : Bool)
        → map (free_split day) (if b then x ∷ filter (is_free taken) xs else filter (is_free taken) xs)
        ≡ (if b then free_split day x ∷ map (free_split day) (filter (is_free taken) xs) else
        map (free_split day) (filter (is_free taken) xs))
    passed true = refl
    passed false = refl

    beside : (b : Bool) → is_same f (free_split day x) ≡ false
        → is_there f (if b then free_split day x ∷ map (free_split day) (filter (is_free taken) xs) else
        map (free_split day) (filter (is_free taken) xs))
        ≡ is_there f (map (free_split day) (filter (is_free taken) xs))
    beside true other = ap (λ (t : Bool). t || is_there f (map (free_split day) (filter (is_free taken) xs))) other
    beside false other = refl

-- ---- the splits of all

none_later : (taken : ℕ → Bool) (f : Free) (ts : List (ℕ × Txn)) → is_among (numbers_of (splits_of ts)) f.split ≡ false
    → is_there f (free_among taken ts) ≡ false
none_later taken f ts none =
    not_there f (free_among taken ts)
    (ap (λ (ns : List ℕ). is_among ns f.split) (numbers_among taken ts)
    ∙ not_among_fewer (is_free taken) f.split (splits_of ts) none)

all_free : (taken : ℕ → Bool) (f : Free) (ts : List (ℕ × Txn)) → are_once (numbers_of (splits_of ts)) ≡ true
    → is_there f (free_among taken ts) ≡ free_as taken f (open_at f.split ts)
all_free taken f [] once = sym (and_false (not (taken f.split)))
all_free taken f (e ∷ ts) once =
    let own = numbers_of e.1.splits in
    let others = numbers_of (splits_of ts) in
    let both : are_once (own ++ others) ≡ true =
    sym (ap are_once (map-append (λ (s : Split). s.id) e.1.splits (splits_of ts))) ∙ once in
    let here = own_free taken f e.1.day e.1.splits (once_front own others both) in
    list_any-append (is_same f) (free_of taken e.1) (free_among taken ts)
    ∙ elim (is_among own f.split) as (λ (t : Bool). is_among own f.split ≡ t
    → (is_there f (free_of taken e.1) || is_there f (free_among taken ts))
    ≡ free_as taken f (option_and_then (open_in f.split) (cond t (Some e) (find (has_split f.split) ts)))) [
      | true ↦ λ has.
          ap (λ (b : Bool). is_there f (free_of taken e.1) || b)
          (none_later taken f ts (once_apart f.split own others both has))
          ∙ or_none (is_there f (free_of taken e.1)) ∙ here
      | false ↦ λ lacks.
          ap (λ (b : Bool). b || is_there f (free_among taken ts)) (none_among taken f e.1.day e.1.splits lacks)
          ∙ all_free taken f ts (once_behind own others both)
    ] refl
  where
    or_none : (b : Bool) → (b || false) ≡ b
    or_none true = refl
    or_none false = refl

-- A split is among the free ones of a sound book if and only if it is the one that is free there by its number.
pub free_there : (book : Book) (f : Free) → IsSoundBook book
    → is_there f (free_splits book) ≡ is_entry (free_at f.split book) f
free_there book f is =
    there-ordered f (free_among (is_matched book.lines) book.transactions)
    ∙ all_free (is_matched book.lines) f book.transactions (splits_once book is)
    ∙ unless (is_matched book.lines f.split) (open_at f.split book.transactions)
  where
    unless : (t : Bool) (o : Option Free) → (not t && is_entry o f) ≡ is_entry (if t then None else o) f
    unless true o = refl
    unless false o = refl

-- ---- what is found by a number has the number

open_number : (n : ℕ) (e : ℕ × Txn) (g : Free) → open_in n e ≡ Some g → g.split ≡ n
open_number n e g is = by_found (split_among n e.1.splits) refl is
  where
    by_mark : (r : Bool) (x : Split) → x.id ≡ n → (if r then None else Some (free_split e.1.day x)) ≡ Some g
        → g.split ≡ n
    by_mark true x number there = absurd cc
    by_mark false x number there =
        let one : free_split e.1.day x ≡ g = cc in
        sym (ap (λ (y : Free). y.split) one) ∙ number

    by_found : (o : Option Split) → split_among n e.1.splits ≡ o → option_and_then (open_split e.1.day) o ≡ Some g
        → g.split ≡ n
    by_found None found there = absurd cc
    by_found (Some x) found there =
        by_mark (is_never_free x.mark) x (found_number n e.1.splits x found) there

pub free_number : (n : ℕ) (book : Book) (g : Free) → free_at n book ≡ Some g → g.split ≡ n
free_number n book g is = by_matched (is_matched book.lines n) is
  where
    by_found : (o : Option (ℕ × Txn)) → option_and_then (open_in n) o ≡ Some g → g.split ≡ n
    by_found None there = absurd cc
    by_found (Some e) there = open_number n e g there

    by_matched : (t : Bool) → (if t then None else open_at n book.transactions) ≡ Some g → g.split ≡ n
    by_matched true there = absurd cc
    by_matched false there = by_found (find (has_split n) book.transactions) there

-- the split that is found in the first of some transactions that has it
pub open_here : (n : ℕ) (e : ℕ × Txn) (ts : List (ℕ × Txn)) (x : Split) → split_among n e.1.splits ≡ Some x
    → open_at n (e ∷ ts) ≡ open_split e.1.day x
open_here n e ts x found =
    ap (λ (t : Bool). option_and_then (open_in n) (cond t (Some e) (find (has_split n) ts)))
    (found_among n e.1.splits x found)
    ∙ ap (option_and_then (open_split e.1.day)) found

none_found : (n : ℕ) (splits : List Split) → split_among n splits ≡ None → is_among (numbers_of splits) n ≡ false
none_found n [] none = refl
none_found n (x ∷ splits) none =
    elim (x.id == n) as (λ (t : Bool). cond t (Some x) (split_among n splits) ≡ None
    → (t || is_among (numbers_of splits) n) ≡ false) [
      | true ↦ λ here. absurd cc
      | false ↦ λ rest. none_found n splits rest
    ] none

-- a transaction that doesn't have the split is passed over
pub open_past : (n : ℕ) (e : ℕ × Txn) (ts : List (ℕ × Txn)) → split_among n e.1.splits ≡ None
    → open_at n (e ∷ ts) ≡ open_at n ts
open_past n e ts none =
    ap (λ (t : Bool). option_and_then (open_in n) (cond t (Some e) (find (has_split n) ts)))
    (none_found n e.1.splits none)

among_at : (n : ℕ) (ts : List (ℕ × Txn)) (i : ℕ) (d : ℕ × Txn) (x : Split) → i < length ts
    → split_among n (get_or ts i d).1.splits ≡ Some x → is_among (numbers_of (splits_of ts)) n ≡ true
among_at n [] i d x below found = absurd (omega (arith, below))
among_at n (e ∷ ts) zero d x below found =
    ap (λ (ns : List ℕ). is_among ns n) (map-append (λ (s : Split). s.id) e.1.splits (splits_of ts))
    ∙ list_any-append (λ (k : ℕ). k == n) (numbers_of e.1.splits) (numbers_of (splits_of ts))
    ∙ ap (λ (t : Bool). t || is_among (numbers_of (splits_of ts)) n) (found_among n e.1.splits x found)
among_at n (e ∷ ts) (suc i) d x below found =
    ap (λ (ns : List ℕ). is_among ns n) (map-append (λ (s : Split). s.id) e.1.splits (splits_of ts))
    ∙ list_any-append (λ (k : ℕ). k == n) (numbers_of e.1.splits) (numbers_of (splits_of ts))
    ∙ ap (λ (t : Bool). is_among (numbers_of e.1.splits) n || t)
    (among_at n ts i d x (omega (arith, below)) found)
    ∙ or_last (is_among (numbers_of e.1.splits) n)
  where
    or_last : (t : Bool) → (t || true) ≡ true
    or_last true = refl
    or_last false = refl

-- where each split has a number of its own, the split that a transaction has is the one of the number
pub open_at_place : (n : ℕ) (ts : List (ℕ × Txn)) (i : ℕ) (d : ℕ × Txn) (x : Split)
    → are_once (numbers_of (splits_of ts)) ≡ true → i < length ts
    → split_among n (get_or ts i d).1.splits ≡ Some x → open_at n ts ≡ open_split (get_or ts i d).1.day x
open_at_place n [] i d x once below found = absurd (omega (arith, below))
open_at_place n (e ∷ ts) zero d x once below found = open_here n e ts x found
open_at_place n (e ∷ ts) (suc i) d x once below found =
    let own = numbers_of e.1.splits in
    let others = numbers_of (splits_of ts) in
    let both : are_once (own ++ others) ≡ true =
    sym (ap are_once (map-append (λ (s : Split). s.id) e.1.splits (splits_of ts))) ∙ once in
    let there = among_at n ts i d x (omega (arith, below)) found in
    elim (is_among own n) as (λ (t : Bool). is_among own n ≡ t
    → option_and_then (open_in n) (cond t (Some e) (find (has_split n) ts)) ≡ open_split (get_or ts i d).1.day x) [
      | true ↦ λ has. absurd (let none = once_apart n own others both has in cc)
      | false ↦ λ lacks. open_at_place n ts i d x (once_behind own others both) (omega (arith, below)) found
    ] refl
