-- Entries whose numbers follow one another: which numbers they have, and what putting and taking at either end makes.
use Rattle.std.proofs.Common.{◌≡◌, ℕ, suc, ◌+◌, ◌<◌, ◌≤◌, ◌==◌, ◌&&◌, nat_lt, not, Bool, true, false}
use Rattle.std.proofs.Common.{if◌then◌else◌, List, [], ◌∷◌, ◌++◌, length, Option, Some, None, is_some, refl, sym, ap}
use Rattle.std.proofs.Common.{◌∙◌, subst, arith}
use Rattle.std.proofs.lemmas.Bool.Decides.{nat_tests}
use Rattle.book_commodity.specs.Table.{AllAbove, Rises, value_of, with_entry, without_entry}
use Rattle.book_commodity.proofs.TableLemmas.{above_less, above_value}
use Rattle.book_history.specs.History.{AreNumberedFrom}
use Rattle.book_history.specs.Numbers.{numbers_from, without_all}

-- All numbers are above one that is below the first.
pub numbered_above :
    {T : Type 0} (n from : ℕ) (entries : List (ℕ × T)) → n < from → AreNumberedFrom from entries → AllAbove n entries
numbered_above n from [] below are = tt
numbered_above n from (e ∷ entries) below are =
    (omega (arith, are.0), numbered_above n (suc from) entries (omega arith) are.1)

pub numbered_rises : {T : Type 0} (from : ℕ) (entries : List (ℕ × T)) → AreNumberedFrom from entries → Rises entries
numbered_rises from [] are = tt
numbered_rises from (e ∷ entries) are =
    (numbered_above e.0 (suc from) entries (omega (arith, are.0)) are.1, numbered_rises (suc from) entries are.1)

some_at :
    {T : Type 0} (n : ℕ) (e : ℕ × T) (es : List (ℕ × T))
    → is_some (value_of n (e ∷ es)) ≡ (if n == e.0 then true else is_some (value_of n es))
some_at n e es = by (n == e.0)
  where
    by : (t : Bool) → is_some (if t then Some e.1 else value_of n es) ≡ (if t then true else is_some (value_of n es))
    by true = refl
    by false = refl

within_next :
    (n first from end last : ℕ) (rest : Bool) → first ≡ from → last ≡ suc end → from + 0 ≤ end
    → rest ≡ (not (nat_lt n (suc from)) && nat_lt n last)
    → (if n == first then true else rest) ≡ (not (nat_lt n from) && nat_lt n last)
within_next n first from end last rest is after high more = grind (arith, nat_tests)

-- They have the numbers from the first one on that are below the end, and no other.
pub numbered_within :
    {T : Type 0} (from : ℕ) (entries : List (ℕ × T)) → AreNumberedFrom from entries → (n : ℕ)
    → is_some (value_of n entries) ≡ (not (nat_lt n from) && nat_lt n (from + length entries))
numbered_within from [] are n = none_by from n (nat_lt n from) refl
  where
    none_by : (from n : ℕ) (t : Bool) → nat_lt n from ≡ t → false ≡ (not t && nat_lt n (from + 0))
    none_by from n true e = refl
    none_by from n false e = grind (arith, nat_tests)
numbered_within from (e ∷ es) are n =
    let next : suc from + length es ≡ from + suc (length es) = omega arith in
    some_at n e es
    ∙ within_next n e.0 from (from + length es) (from + suc (length es)) (is_some (value_of n es)) are.0 (omega arith)
    (omega arith)
    (numbered_within (suc from) es are.1 n ∙ ap (λ (k : ℕ). not (nat_lt n (suc from)) && nat_lt n k) next)

-- ---- rising entries with the numbers between two bounds
others :
    {T : Type 0} (n : ℕ) (e : ℕ × T) (es : List (ℕ × T)) → (n == e.0) ≡ false
    → is_some (value_of n (e ∷ es)) ≡ is_some (value_of n es)
others n e es other = grind (arith, nat_tests)

own : {T : Type 0} (e : ℕ × T) (es : List (ℕ × T)) → is_some (value_of e.0 (e ∷ es)) ≡ true
own e es = grind (arith, nat_tests)

none_some : {T : Type 0} (o : Option T) → o ≡ None → is_some o ≡ false
none_some None e = refl
none_some (Some x) e = absurd cc

bounds_of : (n from end : ℕ) → true ≡ (not (nat_lt n from) && nat_lt n end) → (from ≤ n) × (n < end)
bounds_of n from end e = by (nat_lt n from) (nat_lt n end) refl refl e
  where
    by : (s t : Bool) → nat_lt n from ≡ s → nat_lt n end ≡ t → true ≡ (not s && t) → (from ≤ n) × (n < end)
    by true t low high e = absurd cc
    by false true low high e = (grind (arith, nat_tests), grind (arith, nat_tests))
    by false false low high e = absurd cc

inside : (n from end : ℕ) → from ≤ n → n < end → (not (nat_lt n from) && nat_lt n end) ≡ true
inside n from end low high = grind (arith, nat_tests)

outside : (n from end : ℕ) → n < from → (not (nat_lt n from) && nat_lt n end) ≡ false
outside n from end low = grind (arith, nat_tests)

not_both : (a : Bool) → a ≡ false → a ≡ true → ⊥
not_both a p q = cc

-- the first of them has the first number
first_is :
    {T : Type 0} (from end : ℕ) (e : ℕ × T) (es : List (ℕ × T)) → Rises (e ∷ es)
    → ((n : ℕ) → is_some (value_of n (e ∷ es)) ≡ (not (nat_lt n from) && nat_lt n end)) → (e.0 ≡ from) × (from < end)
first_is {T} from end e es rise has =
    let bounds = bounds_of e.0 from end (sym (own e es) ∙ has e.0) in
    let low = bounds.0 in
    let high = bounds.1 in (same_by (nat_lt from e.0) refl low high, omega (arith, low, high))
  where
    same_by : (t : Bool) → nat_lt from e.0 ≡ t → from ≤ e.0 → e.0 < end → e.0 ≡ from
    same_by false test low high = grind (arith, nat_tests)
    same_by true test low high =
        let past : from < e.0 = grind (arith, nat_tests) in
        absurd (not_both (is_some (value_of from (e ∷ es)))
        (none_some (value_of from (e ∷ es))
        (above_value from (e ∷ es) (past, above_less from e.0 es (omega arith) rise.0)))
        (has from ∙ inside from from end (omega arith) (omega arith)))

rest_has :
    {T : Type 0} (from end : ℕ) (e : ℕ × T) (es : List (ℕ × T)) → Rises (e ∷ es) → e.0 ≡ from
    → ((n : ℕ) → is_some (value_of n (e ∷ es)) ≡ (not (nat_lt n from) && nat_lt n end))
    → (n : ℕ) → is_some (value_of n es) ≡ (not (nat_lt n (suc from)) && nat_lt n end)
rest_has from end e es rise is has n = by (n == e.0) refl
  where
    next : (n from end : ℕ) → (n == from) ≡ false
        → (not (nat_lt n from) && nat_lt n end) ≡ (not (nat_lt n (suc from)) && nat_lt n end)
    next n from end other = ap (λ (b : Bool). not b && nat_lt n end) (tests n from other)
      where
        tests : (n from : ℕ) → (n == from) ≡ false → nat_lt n from ≡ nat_lt n (suc from)
        tests n from other = grind (arith, nat_tests)

    by : (t : Bool) → (n == e.0) ≡ t → is_some (value_of n es) ≡ (not (nat_lt n (suc from)) && nat_lt n end)
    by true test =
        let same : n ≡ e.0 = grind (arith, nat_tests) in
        none_some (value_of n es) (above_value n es (above_less n e.0 es (omega (arith, same)) rise.0))
        ∙ sym (outside n (suc from) end (omega (arith, same, is)))
    by false test = sym (others n e es test) ∙ has n ∙ next n from end (ap (λ (m : ℕ). n == m) (sym is) ∙ test)

-- Rising entries that have the numbers from a first one on that are below an end, and no other, are numbered from the
-- first one, and reach to the end.
pub within_numbered :
    {T : Type 0} (from end : ℕ) (entries : List (ℕ × T)) → Rises entries → from ≤ end
    → ((n : ℕ) → is_some (value_of n entries) ≡ (not (nat_lt n from) && nat_lt n end))
    → AreNumberedFrom from entries × (from + length entries ≡ end)
within_numbered from end [] rise low has = (tt, none_by (nat_lt from end) refl (has from))
  where
    none_by : (t : Bool) → nat_lt from end ≡ t → false ≡ (not (nat_lt from from) && nat_lt from end) → from + 0 ≡ end
    none_by true test none =
        absurd (not_both (not (nat_lt from from) && nat_lt from end) (sym none)
        (inside from from end (omega arith) (grind (arith, nat_tests))))
    none_by false test none = let past : end ≤ from = grind (arith, nat_tests) in omega (arith, past, low)
within_numbered from end (e ∷ es) rise low has =
    let first = first_is from end e es rise has in
    let room = first.1 in
    let behind = rest_has from end e es rise first.0 has in
    let rest = within_numbered (suc from) end es rise.1 (omega (arith, room)) behind in
    let count = rest.1 in ((first.0, rest.0), omega (arith, count))

-- ---- the numbers above one and up to another
between :
    (low high n : ℕ) → (nat_lt low n && not (nat_lt high n)) ≡ (not (nat_lt n (low + 1)) && nat_lt n (high + 1))
between low high n =
    ap (λ (b : Bool). b && not (nat_lt high n)) (above low n)
    ∙ ap (λ (b : Bool). not (nat_lt n (low + 1)) && b) (up_to high n)
  where
    above : (low n : ℕ) → nat_lt low n ≡ not (nat_lt n (low + 1))
    above low n = grind (arith, nat_tests)

    up_to : (high n : ℕ) → not (nat_lt high n) ≡ nat_lt n (high + 1)
    up_to high n = grind (arith, nat_tests)

-- Entries that are numbered from the number behind another have the numbers above that one, as many as they are.
pub numbered_between :
    {T : Type 0} (low high : ℕ) (entries : List (ℕ × T)) → AreNumberedFrom (low + 1) entries
    → low + length entries ≡ high → (n : ℕ)
    → is_some (value_of n entries) ≡ (nat_lt low n && not (nat_lt high n))
numbered_between low high entries are count n =
    let end : low + 1 + length entries ≡ high + 1 = omega (arith, count) in
    numbered_within (low + 1) entries are n
    ∙ ap (λ (k : ℕ). not (nat_lt n (low + 1)) && nat_lt n k) end ∙ sym (between low high n)

-- Rising entries that have the numbers above one and up to another, and no other, are numbered from the one behind the
-- first, and reach up to the other.
pub between_numbered :
    {T : Type 0} (low high : ℕ) (entries : List (ℕ × T)) → Rises entries → low ≤ high
    → ((n : ℕ) → is_some (value_of n entries) ≡ (nat_lt low n && not (nat_lt high n)))
    → AreNumberedFrom (low + 1) entries × (low + length entries ≡ high)
between_numbered low high entries rise le has =
    let parts = within_numbered (low + 1) (high + 1) entries rise (omega (arith, le))
    (λ n. has n ∙ between low high n) in
    let count = parts.1 in (parts.0, omega (arith, count))

-- ---- putting and taking at either end
-- Entries that are numbered from a number are numbered from the same one, however it is written.
pub numbered_same :
    {T : Type 0} (from other : ℕ) (entries : List (ℕ × T)) → from ≡ other → AreNumberedFrom from entries
    → AreNumberedFrom other entries
numbered_same from other entries same are = subst (λ (n : ℕ). AreNumberedFrom n entries) same are

-- What is put under the number behind the last stands behind all.
pub with_last :
    {T : Type 0} (from n : ℕ) (v : T) (entries : List (ℕ × T)) → AreNumberedFrom from entries
    → n ≡ from + length entries → with_entry n v entries ≡ entries ++ (n, v) ∷ []
with_last from n v [] are is = refl
with_last from n v (e ∷ es) are is =
    let first = are.0 in
    let rest = with_last (suc from) n v es are.1 (omega (arith, is)) in grind (arith, nat_tests, first, rest)

-- So the entries are numbered on.
pub numbered_last :
    {T : Type 0} (from n : ℕ) (v : T) (entries : List (ℕ × T)) → AreNumberedFrom from entries
    → n ≡ from + length entries → AreNumberedFrom from (entries ++ (n, v) ∷ [])
numbered_last from n v [] are is = (omega (arith, is), tt)
numbered_last from n v (e ∷ es) are is = (are.0, numbered_last (suc from) n v es are.1 (omega (arith, is)))

-- What is put under the number before the first stands before all.
pub with_first :
    {T : Type 0} (from n : ℕ) (v : T) (entries : List (ℕ × T)) → AreNumberedFrom from entries → from ≡ suc n
    → with_entry n v entries ≡ (n, v) ∷ entries
with_first from n v [] are is = refl
with_first from n v (e ∷ es) are is = let first = are.0 in grind (arith, nat_tests, first)

-- Taking the first leaves the others.
pub without_first :
    {T : Type 0} (from : ℕ) (e : ℕ × T) (es : List (ℕ × T)) → AreNumberedFrom from (e ∷ es)
    → without_entry from (e ∷ es) ≡ es
without_first from e es are = let first = are.0 in grind (arith, nat_tests, first)

-- Taking the last leaves those before it.
pub without_last :
    {T : Type 0} (from last : ℕ) (v : T) (init : List (ℕ × T)) → AreNumberedFrom from (init ++ (last, v) ∷ [])
    → without_entry last (init ++ (last, v) ∷ []) ≡ init
without_last from last v [] are = grind (arith, nat_tests)
without_last {T} from last v (e ∷ es) are =
    let behind = last_number (suc from) last v es are.1 in
    let first = are.0 in
    let rest = without_last (suc from) last v es are.1 in grind (arith, nat_tests, first, behind, rest)
  where
    last_number :
        {T : Type 0} (from last : ℕ) (v : T) (init : List (ℕ × T)) → AreNumberedFrom from (init ++ (last, v) ∷ [])
        → last ≡ from + length init
    last_number from last v [] are = omega (arith, are.0)
    last_number from last v (e ∷ es) are = let rest = last_number (suc from) last v es are.1 in omega (arith, rest)

-- Entries with a last one, which stands under the last of their numbers, behind the others.
pub record HasLast {T : Type 0} (from : ℕ) (entries : List (ℕ × T)) : Type 0 where
  pub init : List (ℕ × T)
  pub value : T
  pub number : ℕ
  pub is : entries ≡ init ++ (number, value) ∷ []
  pub number_is : number ≡ from + length init
  pub numbered : AreNumberedFrom from init
  pub count : length entries ≡ suc (length init)
  pub found : value_of number entries ≡ Some value

last_found :
    {T : Type 0} (from n : ℕ) (v : T) (init : List (ℕ × T)) → AreNumberedFrom from init → n ≡ from + length init
    → value_of n (init ++ (n, v) ∷ []) ≡ Some v
last_found from n v [] are is = grind (arith, nat_tests)
last_found from n v (e ∷ es) are is =
    let first = are.0 in
    let rest = last_found (suc from) n v es are.1 (omega (arith, is)) in grind (arith, nat_tests, first, rest)

-- Where there are some, there is a last.
pub has_last :
    {T : Type 0} (from : ℕ) (entries : List (ℕ × T)) → AreNumberedFrom from entries → 1 ≤ length entries
    → HasLast from entries
has_last from [] are some = absurd (omega (arith, some))
has_last from (e ∷ []) are some = record {
  init = [];
  value = e.1;
  number = e.0;
  is = refl;
  number_is = omega (arith, are.0);
  numbered = tt;
  count = refl;
  found = last_found from e.0 e.1 [] tt (omega (arith, are.0));
}
has_last from (e ∷ d ∷ es) are some =
    let rest = has_last (suc from) (d ∷ es) are.1 (omega arith) in
    let number = rest.number_is in
    let numbered : AreNumberedFrom from (e ∷ rest.init) = (are.0, rest.numbered) in
    let is : e ∷ d ∷ es ≡ (e ∷ rest.init) ++ (rest.number, rest.value) ∷ [] = ap (λ (l : List _). e ∷ l) rest.is in
    record {
      init = e ∷ rest.init;
      value = rest.value;
      number = rest.number;
      is = is;
      number_is = omega (arith, number);
      numbered = numbered;
      count = ap suc rest.count;
      found = ap (value_of rest.number) is
          ∙ last_found from rest.number rest.value (e ∷ rest.init) numbered (omega (arith, number));
    }

-- There is a value under each number from the first one to the last.
pub value_there :
    {T : Type 0} (from n : ℕ) (entries : List (ℕ × T)) → AreNumberedFrom from entries → from ≤ n
    → n < from + length entries → (v : T) × (value_of n entries ≡ Some v)
value_there from n entries are low high =
    some_of (value_of n entries)
    (numbered_within from entries are n ∙ inside n from (from + length entries) low high)
  where
    some_of : {T : Type 0} (o : Option T) → is_some o ≡ true → (v : T) × (o ≡ Some v)
    some_of None e = absurd cc
    some_of (Some v) e = (v, refl)

-- ---- taking all
-- Taking them one after another, from the first to the last, leaves none.
pub none_left :
    {T : Type 0} (from : ℕ) (entries : List (ℕ × T)) → AreNumberedFrom from entries
    → without_all (numbers_from from (length entries)) entries ≡ []
none_left from [] are = refl
none_left from (e ∷ es) are =
    ap (without_all (numbers_from (suc from) (length es))) (without_first from e es are)
    ∙ none_left (suc from) es are.1
