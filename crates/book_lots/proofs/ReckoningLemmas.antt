-- What one more entry, and the way back, do to the sides and the pairs.
use Rattle.std.proofs.Common.{◌≡◌, ◌<◌, ◌≤◌, List, [], ◌∷◌, ◌++◌}
use Rattle.std.proofs.Common.{refl, sym, ap, ◌∙◌, subst, arith, append_assoc, slice_get}
use Rattle.std.proofs.Common.{Some, None, ⊎_elim}
use Rattle.std.specs.List.{All}
use Rattle.std.proofs.lemmas.Bool.{cases_lt}
use Rattle.std.proofs.lemmas.List.{append-nil}
use Rattle.std.proofs.lemmas.List.Elements.{All-filter, All-head}
use Rattle.book_lots.specs.Lots.{common_from, common_to, open_past, pair_of_two, pairs_between}
use Rattle.book_lots.specs.Lots.{units_of}
use Rattle.book_lots.specs.Sides.{Begins, IsBounded, IsFrontTo, IsSound, Paired}
use Rattle.book_lots.specs.declared.pair.Pair.{Pair}
use Rattle.book_lots.specs.declared.stretch.Stretch.{Stretch}
use Rattle.book_lots.proofs.LineLemmas.{IsFront, open_again, open_front, open_none, units_closed}
use Rattle.book_lots.proofs.PairLemmas.{between_none, next_pair}

-- ---- the first open split of a side
pub record HasFront (side : Paired) (s : Stretch) : Type 0 where
  pub more : List Stretch
  pub is : open_past side.paired side.stretches ≡ s ∷ more
  pub front : IsFront side.paired (s ∷ more)
  pub bounded : IsBounded s

first_of : (all : List Stretch) (s : Stretch) → slice_get all 0 ≡ Some s → (more : List Stretch) × (all ≡ s ∷ more)
first_of [] s is = absurd (let both = is in cc)
first_of (x ∷ more) s is = (more, (let same : x ≡ s = cc in ap (λ (y : Stretch). y ∷ more) same))

none_first : (all : List Stretch) → slice_get all 0 ≡ None → all ≡ []
none_first [] is = refl
none_first (x ∷ more) is = absurd (let both = is in cc)

pub has_front : (side : Paired) (s : Stretch) → IsSound side
    → Some s ≡ slice_get (open_past side.paired side.stretches) 0 → HasFront side s
has_front side s sound is =
    let first = first_of (open_past side.paired side.stretches) s (sym is) in
    record {
      more = first.0;
      is = first.1;
      front = subst (IsFront side.paired) first.1
          (open_front side.paired 0 side.stretches sound.in_line (omega arith));
      bounded = All-head IsBounded s first.0 (subst (All IsBounded) first.1
          (All-filter _ IsBounded side.stretches sound.bounded));
    }

-- a side without a front is paired in full
pub all_paired : (side : Paired) → IsSound side → None ≡ slice_get (open_past side.paired side.stretches) 0
    → (open_past side.paired side.stretches ≡ []) × (side.paired ≡ units_of side.stretches)
all_paired side sound is =
    let none = none_first (open_past side.paired side.stretches) (sym is) in
    let within = sound.within in
    let closed = units_closed side.paired 0 side.stretches sound.in_line (omega arith) none in
    (none, omega (arith, closed, within))

pub overlapping : (one other : Paired) (p m : Stretch) → HasFront one p → HasFront other m
    → one.paired ≡ other.paired → common_from p m < common_to p m
overlapping one other p m first second same =
    omega (arith, first.front.0, first.front.1.0, second.front.0, second.front.1.0, same)

pub front_to : (one other : Paired) (p m : Stretch) (first : HasFront one p) → HasFront other m
    → one.paired ≡ other.paired → IsFrontTo one (common_to p m)
front_to one other p m first second same = record {
  front = p;
  more = first.more;
  is_front = first.is;
  least = omega (arith, first.front.1.0, second.front.1.0, same);
  most = omega arith;
}

pub front_to_too : (one other : Paired) (p m : Stretch) → HasFront one p → (second : HasFront other m)
    → one.paired ≡ other.paired → IsFrontTo other (common_to p m)
front_to_too one other p m first second same = record {
  front = m;
  more = second.more;
  is_front = second.is;
  least = omega (arith, first.front.1.0, second.front.1.0, same);
  most = omega arith;
}

-- ---- the loop that pairs
-- the pairs so far, with those of what is still open, are all that come of it
abbrev pub PairsSoFar : List Pair → Paired → Paired → List Pair → Type 0
PairsSoFar all one other pairs =
    all ≡ pairs ++ pairs_between (open_past one.paired one.stretches) (open_past other.paired other.stretches)

pub one_pair : (all pairs : List Pair) (one other : Paired) (p m : Stretch) → (first : HasFront one p)
    → (second : HasFront other m) → one.paired ≡ other.paired → PairsSoFar all one other pairs
    → PairsSoFar all (record one { paired = common_to p m }) (record other { paired = common_to p m })
    (pairs ++ pair_of_two p m ∷ [])
one_pair all pairs one other p m first second same so_far =
    let n = one.paired in
    let e = common_to p m in
    let least : one.paired ≤ e = omega (arith, first.front.1.0, second.front.1.0, same) in
    let least_too : other.paired ≤ e = omega (arith, first.front.1.0, second.front.1.0, same) in
    let again : open_past e (p ∷ first.more) ≡ open_past e one.stretches =
    ap (open_past e) (sym first.is) ∙ open_again one.paired e one.stretches least in
    let again_too : open_past e (m ∷ second.more) ≡ open_past e other.stretches =
    ap (open_past e) (sym second.is) ∙ open_again other.paired e other.stretches least_too in
    so_far
    ∙ ap (λ l. pairs ++ pairs_between l (open_past other.paired other.stretches)) first.is
    ∙ ap (λ l. pairs ++ pairs_between (p ∷ first.more) l) second.is
    ∙ ap (λ l. pairs ++ l) (next_pair n p m first.more second.more first.front
    (subst (λ k. IsFront k (m ∷ second.more)) (sym same) second.front))
    ∙ ap (λ l. pairs ++ pair_of_two p m ∷ pairs_between l (open_past e (m ∷ second.more))) again
    ∙ ap (λ l. pairs ++ pair_of_two p m ∷ pairs_between (open_past e one.stretches) l) again_too
    ∙ sym (append_assoc pairs (pair_of_two p m ∷ [])
    (pairs_between (open_past e one.stretches) (open_past e other.stretches)))

-- where one side has none left, the pairs so far are all
pub all_pairs : (all pairs : List Pair) (one other : Paired) → PairsSoFar all one other pairs
    → open_past one.paired one.stretches ≡ [] → all ≡ pairs
all_pairs all pairs one other so_far none =
    so_far ∙ ap (λ l. pairs ++ pairs_between l (open_past other.paired other.stretches)) none ∙ append-nil pairs

pub all_pairs_too : (all pairs : List Pair) (one other : Paired) → PairsSoFar all one other pairs
    → open_past other.paired other.stretches ≡ [] → all ≡ pairs
all_pairs_too all pairs one other so_far none =
    so_far ∙ ap (λ l. pairs ++ pairs_between (open_past one.paired one.stretches) l) none
    ∙ ap (λ l. pairs ++ l) (between_none (open_past one.paired one.stretches)) ∙ append-nil pairs

pub begins_more : (one other : List Pair) (x : Pair) → Begins one other → Begins one (other ++ x ∷ [])
begins_more one other x begins = record {
  rest = begins.rest ++ x ∷ [];
  is_longer = ap (λ l. l ++ x ∷ []) begins.is_longer ∙ append_assoc one begins.rest (x ∷ []);
}

-- a side with a front isn't paired in full
pub paired_less : (side : Paired) (s : Stretch) → IsSound side → HasFront side s
    → side.paired < units_of side.stretches
paired_less side s sound front =
    ⊎_elim (λ lt. lt)
    (λ le. absurd (let none = sym (open_none side.paired 0 side.stretches sound.in_line (omega (arith, le))) ∙ front.is in
    cc))
    (cases_lt side.paired (units_of side.stretches))
