-- Splits in line, each of which begins where the one before ends, and which of them have units past a number.
use Rattle.std.proofs.Common.{◌≡◌, ℕ, ◌+◌, ◌-◌, ◌<◌, ◌≤◌, List, [], ◌∷◌, ◌++◌, map, max, refl, sym, ap, ◌∙◌}
use Rattle.std.proofs.Common.{subst, arith, ⊎_elim}
use Rattle.std.specs.Prelude.{⊤}
use Rattle.std.proofs.lemmas.Bool.{cases_lt, cond-false, cond-true, le-ltb, lt-ltb}
use Rattle.book_lots.specs.Lots.{end_of, lot_past, open_past, share_of, units_of}
use Rattle.book_lots.specs.Sides.{AreInLine}
use Rattle.book_lots.specs.declared.stretch.Stretch.{Stretch}
use Rattle.book_lots.specs.declared.open_lot.OpenLot.{OpenLot}
use Rattle.book_commodity.specs.Amount.{with_sign_of}

pub open_here : (n : ℕ) (s : Stretch) (more : List Stretch) → n < end_of s
    → open_past n (s ∷ more) ≡ s ∷ open_past n more
open_here n s more lt = cond-true _ _ _ (lt-ltb n (end_of s) lt)

pub open_not : (n : ℕ) (s : Stretch) (more : List Stretch) → end_of s ≤ n
    → open_past n (s ∷ more) ≡ open_past n more
open_not n s more le = cond-false _ _ _ (le-ltb n (end_of s) le)

-- all are open past their first number
pub open_all : (n a : ℕ) (all : List Stretch) → AreInLine a all → n ≤ a → open_past n all ≡ all
open_all n a [] line le = refl
open_all n a (s ∷ more) line le =
    open_here n s more (omega (arith, line.0, line.1.0, le))
    ∙ ap (λ l. s ∷ l) (open_all n (end_of s) more line.1.1 (omega (arith, line.0, le)))

-- none is open past all their units
pub open_none : (n a : ℕ) (all : List Stretch) → AreInLine a all → a + units_of all ≤ n → open_past n all ≡ []
open_none n a [] line le = refl
open_none n a (s ∷ more) line le =
    open_not n s more (omega (arith, line.0, le))
    ∙ open_none n (end_of s) more line.1.1 (omega (arith, line.0, le))

-- where none is open, all units lie before the number
pub units_closed : (n a : ℕ) (all : List Stretch) → AreInLine a all → a ≤ n → open_past n all ≡ []
    → a + units_of all ≤ n
units_closed n a [] line le none = omega arith
units_closed n a (s ∷ more) line le none =
    ⊎_elim (λ lt. absurd (let here = open_here n s more lt in cc))
    (λ past. (let rest = units_closed n (end_of s) more line.1.1 past (sym (open_not n s more past) ∙ none) in
    omega (arith, line.0, rest)))
    (cases_lt n (end_of s))

-- the first open one has the number among its units, or begins past it where none is closed
abbrev pub IsFront : ℕ → List Stretch → Type 0
IsFront n [] = ⊤
IsFront n (s ∷ more) = (s.first ≤ n) × ((n < end_of s) × AreInLine (end_of s) more)

pub open_front : (n a : ℕ) (all : List Stretch) → AreInLine a all → a ≤ n → IsFront n (open_past n all)
open_front n a [] line le = tt
open_front n a (s ∷ more) line le =
    ⊎_elim
    (λ lt. subst (IsFront n)
    (sym (open_here n s more lt ∙ ap (λ l. s ∷ l) (open_all n (end_of s) more line.1.1 (omega (arith, lt)))))
    (omega (arith, line.0, le), (lt, line.1.1)))
    (λ past. subst (IsFront n) (sym (open_not n s more past)) (open_front n (end_of s) more line.1.1 past))
    (cases_lt n (end_of s))

open_same : (m : ℕ) (s : Stretch) (more other : List Stretch) → open_past m more ≡ open_past m other
    → open_past m (s ∷ more) ≡ open_past m (s ∷ other)
open_same m s more other same =
    ⊎_elim (λ lt. open_here m s more lt ∙ ap (λ l. s ∷ l) same ∙ sym (open_here m s other lt))
    (λ past. open_not m s more past ∙ same ∙ sym (open_not m s other past))
    (cases_lt m (end_of s))

-- what is open past a number is found among those that are open past a lower one
pub open_again : (n m : ℕ) (all : List Stretch) → n ≤ m → open_past m (open_past n all) ≡ open_past m all
open_again n m [] le = refl
open_again n m (s ∷ more) le =
    let rest = open_again n m more le in
    ⊎_elim
    (λ lt. ap (open_past m) (open_here n s more lt) ∙ open_same m s (open_past n more) more rest)
    (λ past. ap (open_past m) (open_not n s more past) ∙ rest ∙ sym (open_not m s more (omega (arith, past, le))))
    (cases_lt n (end_of s))

pub still_closed : (n m : ℕ) (all : List Stretch) → n ≤ m → open_past n all ≡ [] → open_past m all ≡ []
still_closed n m all le none = sym (open_again n m all le) ∙ ap (open_past m) none

pub units_of-append : (one other : List Stretch) → units_of (one ++ other) ≡ units_of one + units_of other
units_of-append [] other = omega arith
units_of-append (s ∷ more) other = omega (arith, units_of-append more other)

pub in_line-append : (a : ℕ) (one other : List Stretch) → AreInLine a one → AreInLine (a + units_of one) other
    → AreInLine a (one ++ other)
in_line-append a [] other line next = subst (λ n. AreInLine n other) (omega arith) next
in_line-append a (s ∷ more) other line next = (
  line.0,
  (
    line.1.0,
    in_line-append (end_of s) more other line.1.1
        (subst (λ n. AreInLine n other) (omega (arith, line.0)) next),
  ),
)

pub in_line-front : (a : ℕ) (one other : List Stretch) → AreInLine a (one ++ other) → AreInLine a one
in_line-front a [] other line = tt
in_line-front a (s ∷ more) other line = (line.0, (line.1.0, in_line-front (end_of s) more other line.1.1))

pub in_line-back : (a : ℕ) (one other : List Stretch) → AreInLine a (one ++ other)
    → AreInLine (a + units_of one) other
in_line-back a [] other line = subst (λ n. AreInLine n other) (omega arith) line
in_line-back a (s ∷ more) other line =
    subst (λ n. AreInLine n other) (omega (arith, line.0)) (in_line-back (end_of s) more other line.1.1)

-- the closed ones stand before the open ones
pub record IsParted (n : ℕ) (all : List Stretch) : Type 0 where
  pub before : List Stretch
  pub after : List Stretch
  pub parts : all ≡ before ++ after
  pub closed : open_past n before ≡ []
  pub all_open : open_past n after ≡ after

pub parted : (n a : ℕ) (all : List Stretch) → AreInLine a all → IsParted n all
parted n a [] line = record { before = []; after = []; parts = refl; closed = refl; all_open = refl }
parted n a (s ∷ more) line =
    ⊎_elim
    (λ lt. record {
      before = [];
      after = s ∷ more;
      parts = refl;
      closed = refl;
      all_open = open_here n s more lt
          ∙ ap (λ l. s ∷ l) (open_all n (end_of s) more line.1.1 (omega (arith, lt)));
    })
    (λ past. (let rest = parted n (end_of s) more line.1.1 in record {
      before = s ∷ rest.before;
      after = rest.after;
      parts = ap (λ l. s ∷ l) rest.parts;
      closed = open_not n s rest.before past ∙ rest.closed;
      all_open = rest.all_open;
    }))
    (cases_lt n (end_of s))

-- a lot of a split's units from its first one on
abbrev lot_from : Stretch → ℕ → OpenLot
lot_from s from = record {
  split = s.split;
  units = with_sign_of s.quantity (end_of s - from);
  cost = share_of s from (end_of s);
}

pub whole_lot : (n m : ℕ) (s : Stretch) → n ≤ s.first → m ≤ s.first → lot_past n s ≡ lot_past m s
whole_lot n m s le le' = ap (lot_from s) (let same : max n s.first ≡ max m s.first = omega arith in same)

pub whole_lots : (n m a : ℕ) (all : List Stretch) → AreInLine a all → n ≤ a → m ≤ a
    → map (lot_past n) all ≡ map (lot_past m) all
whole_lots n m a [] line le le' = refl
whole_lots n m a (s ∷ more) line le le' =
    ap (λ (l : OpenLot). l ∷ map (lot_past n) more)
    (whole_lot n m s (omega (arith, line.0, le)) (omega (arith, line.0, le')))
    ∙ ap (λ l. lot_past m s ∷ l)
    (whole_lots n m (end_of s) more line.1.1 (omega (arith, line.0, le)) (omega (arith, line.0, le')))
