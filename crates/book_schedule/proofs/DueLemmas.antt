-- Days that follow one another list a set: what stands in the list, and how many of the set come before a day.
use Rattle.std.proofs.Common.{Option, Some, None, ◌≡◌, ℕ, zero, suc, ◌-◌, ◌<◌, ◌≤◌, ◌⊎◌, List, [], ◌∷◌, ◌++◌, length}
use Rattle.std.proofs.Common.{get_or, inl, inr, refl, sym, subst, arith, ℤ, ◌<ℤ◌, ◌≤ℤ◌}
use Rattle.std.specs.Prelude.{All}
use Rattle.std.specs.List.{Contains}
use Rattle.std.proofs.lemmas.Int.{by_lt_z}
use Rattle.std.proofs.lemmas.List.Elements.{All-nil, All-cons, All-head, All-tail, All-weaker, Contains-get_or}
use Rattle.jiff_core.proofs.SignedLemmas.{signed_arith}
use Rattle.book_schedule.specs.DueDays.{IsBeforeAll, Rises, HasAtLeast, IsAfter, IsPlanned, IsAllowed, IsDue, Lists}
use Rattle.book_schedule.specs.NextDay.{IsNext, Follow, AreFirst, kept_at_most}
use Rattle.book_schedule.specs.declared.timing.End.{End}
use Rattle.book_schedule.specs.declared.timing.End.TheVariants.{Never, Until, After}
use Rattle.book_schedule.specs.declared.timing.Timing.{Timing}

contains_cases : (d : ℤ) (ds : List ℤ) (x : ℤ) → Contains (d ∷ ds) x → (d ≡ x) ⊎ Contains ds x
contains_cases d ds x (zero, lt, e) = inl e
contains_cases d ds x (suc k, lt, e) = inr (k, omega arith, e)

contains_first : (d : ℤ) (ds : List ℤ) (x : ℤ) → d ≡ x → Contains (d ∷ ds) x
contains_first d ds x e = (0, omega arith, e)

contains_later : (d : ℤ) (ds : List ℤ) (x : ℤ) → Contains ds x → Contains (d ∷ ds) x
contains_later d ds x (k, lt, e) = (suc k, omega arith, e)

-- what lies after a later day lies after an earlier one
after_later : (after : Option ℤ) (day later : ℤ) → IsAfter after day → day ≤ℤ later → IsAfter after later
after_later None day later h le = h
after_later (Some last) day later h le = omega (arith, signed_arith)

pub follow_push :
    (set : ℤ → Type 0) (after last : Option ℤ) (days : List ℤ) (day : ℤ) → Follow set after days last
    → IsNext set last (Some day) → Follow set after (days ++ day ∷ []) (Some day)
follow_push set after last [] day e next = (subst (λ from. IsNext set from (Some day)) e next, refl)
follow_push set after last (d ∷ ds) day (h, rest) next = (h, follow_push set (Some d) last ds day rest next)

-- each day of the list is one of the set
pub follow_member :
    (set : ℤ → Type 0) (after last : Option ℤ) (days : List ℤ) (x : ℤ) → Follow set after days last → Contains days x
    → set x × IsAfter after x
follow_member set after last [] x e (k, lt, is) = absurd (omega arith)
follow_member set after last (d ∷ ds) x (h, rest) there =
    elim (contains_cases d ds x there) [
      | inl e ↦ (subst set e h.0, subst (IsAfter after) e h.1)
      | inr later ↦ let member = follow_member set (Some d) last ds x rest later in
          let lt : d <ℤ x = member.1 in
          (member.0, after_later after d x h.1 (omega (arith, signed_arith)))
    ]

follow_before :
    (set : ℤ → Type 0) (early from : ℤ) (last : Option ℤ) (days : List ℤ) → early ≤ℤ from
    → Follow set (Some from) days last → IsBeforeAll early days
follow_before set early from last [] h e = tt
follow_before set early from last (d ∷ ds) h (next, rest) =
    let lt : from <ℤ d = next.1 in
    (omega (arith, signed_arith), follow_before set early d last ds (omega (arith, signed_arith)) rest)

pub follow_rises : (set : ℤ → Type 0) (after last : Option ℤ) (days : List ℤ) → Follow set after days last → Rises days
follow_rises set after last [] e = tt
follow_rises set after last (d ∷ ds) (h, rest) =
    (follow_before set d d last ds (omega (arith, signed_arith)) rest, follow_rises set (Some d) last ds rest)

-- a day of the set, not before a next day, is that day or lies after it
by_order : {P : Type 0} (d x : ℤ) → d ≤ℤ x → (d ≡ x → P) → (d <ℤ x → P) → P
by_order d x h same later =
    by_lt_z d x later (λ le. same (omega (arith, signed_arith)))

-- where the set has no day after the last one, each of its days stands in the list
pub follow_whole :
    (set : ℤ → Type 0) (after last : Option ℤ) (days : List ℤ) (x : ℤ) → Follow set after days last
    → IsNext set last None → set x → IsAfter after x → Contains days x
follow_whole set after last [] x e end is later = absurd (end x is (subst (λ from. IsAfter from x) (sym e) later))
follow_whole set after last (d ∷ ds) x (h, rest) end is later =
    by_order d x (h.2 x is later) (λ e. contains_first d ds x e)
    (λ lt. contains_later d ds x (follow_whole set (Some d) last ds x rest end is lt))

abbrev IsEarlier : (ℤ → Type 0) → Option ℤ → ℤ → ℤ → Type 0
IsEarlier set after x earlier = (set earlier × IsAfter after earlier) × (earlier <ℤ x)

-- days that rise above their first
above_first :
    (set : ℤ → Type 0) (after : Option ℤ) (d x e : ℤ) (es : List ℤ) → d ≤ℤ e → IsBeforeAll e es
    → All (IsEarlier set after x) es → All (IsEarlier set (Some d) x) es
above_first set after d x e [] h before all = All-nil _
above_first set after d x e (f ∷ es) h before all =
    let here = All-head (IsEarlier set after x) f es all in
    All-cons (IsEarlier set (Some d) x) f es ((here.0.0, omega (arith, signed_arith, before.0)), here.1)
    (above_first set after d x e es h before.1 (All-tail (IsEarlier set after x) f es all))

-- fewer days of the set lie before a day of the list than the list has
pub few_before :
    (set : ℤ → Type 0) (after last : Option ℤ) (days : List ℤ) (x : ℤ) (es : List ℤ) → Follow set after days last
    → Contains days x → Rises es → All (IsEarlier set after x) es → length es < length days
few_before set after last [] x es e (k, lt, is) rises all = absurd (omega arith)
few_before set after last (d ∷ ds) x [] (h, rest) there rises all = omega arith
few_before set after last (d ∷ ds) x (e ∷ es) (h, rest) there rises all =
    let first = All-head (IsEarlier set after x) e es all in
    let low : d ≤ℤ e = h.2 e first.0.0 first.0.1 in
    elim (contains_cases d ds x there) [
      | inl same ↦ absurd (omega (arith, signed_arith, first.1))
      | inr later ↦
          let rest_all = above_first set after d x e es low rises.0 (All-tail (IsEarlier set after x) e es all) in
          omega (arith, few_before set (Some d) last ds x es rest later rises.1 rest_all)
    ]

before_all : (set : ℤ → Type 0) (d x : ℤ) (es : List ℤ) → All (IsEarlier set (Some d) x) es → IsBeforeAll d es
before_all set d x [] all = tt
before_all set d x (e ∷ es) all =
    let first = All-head (IsEarlier set (Some d) x) e es all in
    (first.0.1, before_all set d x es (All-tail (IsEarlier set (Some d) x) e es all))

-- one day more before the others
more_before :
    (set : ℤ → Type 0) (after : Option ℤ) (d x : ℤ) (count : ℕ) → set d → IsAfter after d → d <ℤ x
    → HasAtLeast count (IsEarlier set (Some d) x) → HasAtLeast (suc count) (IsEarlier set after x)
more_before set after d x count is later lt (es, rises, all, size) = (
  d ∷ es,
  (before_all set d x es all, rises),
  All-cons (IsEarlier set after x) d es ((is, later), lt)
      (All-weaker (IsEarlier set (Some d) x) (IsEarlier set after x)
      (λ e h. ((h.0.0, after_later after d e later (omega (arith, signed_arith, h.0.1))), h.1)) es all),
  omega
      (arith, size),
)

whole_rest :
    (set : ℤ → Type 0) (last : Option ℤ) (count : ℕ) (d : ℤ) (ds : List ℤ)
    → IsNext set last None ⊎ (suc count ≤ length (d ∷ ds)) → IsNext set last None ⊎ (count ≤ length ds)
whole_rest set last count d ds (inl end) = inl end
whole_rest set last count d ds (inr le) = inr (omega arith)

-- a day of the set stands in the list unless as many days as the list has lie before it
pub follow_kept :
    (set : ℤ → Type 0) (after last : Option ℤ) (days : List ℤ) (x : ℤ) (count : ℕ) → Follow set after days last
    → IsNext set last None ⊎ (count ≤ length days) → set x → IsAfter after x
    → (HasAtLeast count (IsEarlier set after x) → ⊥) → Contains days x
follow_kept set after last days x zero follow whole is later few = absurd (few ([], tt, All-nil _, refl))
follow_kept set after last [] x (suc count) e (inl end) is later few =
    absurd (end x is (subst (λ from. IsAfter from x) (sym e) later))
follow_kept set after last [] x (suc count) e (inr le) is later few = absurd (omega arith)
follow_kept set after last (d ∷ ds) x (suc count) (h, rest) whole is later few =
    by_order d x (h.2 x is later) (λ e. contains_first d ds x e)
    (λ lt. contains_later d ds x
    (follow_kept set (Some d) last ds x count rest (whole_rest set last count d ds whole) is lt
    (λ many. few (more_before set after d x count h.0 h.1 lt many))))

abbrev IsFirst : Timing → ℤ → ℕ → List ℤ → Type 0
IsFirst timing upto most days = AreFirst (IsPlanned timing upto) timing.last most days

-- a day of the list is allowed by the end
allowed :
    (end : End) (made most : ℕ) (set : ℤ → Type 0) (after : Option ℤ) (days : List ℤ) (x : ℤ)
    → most ≡ kept_at_most end made → AreFirst set after most days → Contains days x
    → IsAllowed end made (λ d. set d × IsAfter after d) x
allowed Never made most set after days x e first there = tt
allowed (Until last) made most set after days x e first there = tt
allowed (After count) made most set after days x e first there =
    λ (es, rises, all, size). (let few = few_before set after first.last days x es first.follow there rises all in
    let at_most = first.count in omega arith)

pub first_is_due :
    (t : Timing) (upto : ℤ) (most : ℕ) (days : List ℤ) (x : ℤ) → most ≡ kept_at_most t.end t.made
    → IsFirst t upto most days → Contains days x → IsDue t upto x
first_is_due t upto most days x e first there = (
  follow_member (IsPlanned t upto) t.last first.last days x first.follow there,
  allowed t.end t.made most
      (IsPlanned t upto) t.last days x e first there,
)

-- where the list is no longer than may be due, each due day stands in it
whole_list :
    (end : End) (made most : ℕ) (set : ℤ → Type 0) (after : Option ℤ) (days : List ℤ) (x : ℤ)
    → most ≡ kept_at_most end made → length days ≤ 1000 → (first : AreFirst set after most days)
    → (length days ≡ most) ⊎ IsNext set first.last None → set x → IsAfter after x
    → IsAllowed end made (λ d. set d × IsAfter after d) x → Contains days x
whole_list Never made most set after days x e few first (inl full) is later may = absurd (omega arith)
whole_list Never made most set after days x e few first (inr end) is later may =
    follow_whole set after first.last days x first.follow end is later
whole_list (Until last) made most set after days x e few first (inl full) is later may = absurd (omega arith)
whole_list (Until last) made most set after days x e few first (inr end) is later may =
    follow_whole set after first.last days x first.follow end is later
whole_list (After count) made most set after days x e few first (inl full) is later may =
    follow_kept set after first.last days x (count - made) first.follow (inr (omega arith)) is later may
whole_list (After count) made most set after days x e few first (inr end) is later may =
    follow_kept set after first.last days x (count - made) first.follow (inl end) is later may

pub due_days :
    (t : Timing) (upto : ℤ) (most : ℕ) (days : List ℤ) → most ≡ kept_at_most t.end t.made → IsFirst t upto most days
    → length days ≤ 1000 → Lists (IsDue t upto) days
due_days t upto most days e first few = record {
  rising = follow_rises (IsPlanned t upto) t.last first.last days first.follow;
  each = λ x. (
    first_is_due t upto most days x e first,
    λ due. whole_list t.end t.made most
        (IsPlanned t upto) t.last days x e few first first.whole due.0.0 due.0.1 due.1,
  );
}

kept_bound : (end : End) (made : ℕ) → kept_at_most end made ≤ 1001
kept_bound Never made = omega arith
kept_bound (Until last) made = omega arith
kept_bound (After count) made = omega arith

pub too_many :
    (t : Timing) (upto : ℤ) (most : ℕ) (days : List ℤ) → most ≡ kept_at_most t.end t.made → IsFirst t upto most days
    → 1000 < length days → HasAtLeast 1001 (IsDue t upto)
too_many t upto most days e first many =
    let bound = kept_bound t.end t.made in
    let at_most = first.count in (
      days,
      follow_rises (IsPlanned t upto) t.last first.last days first.follow,
      (λ k d lt. first_is_due t upto most days (get_or days k d) e first (Contains-get_or days k d lt)),
      omega arith,
    )
