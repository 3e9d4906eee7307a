-- What is kept of a side, as its calls change it.
use Rattle.std.proofs.Common.{◌≡◌, ℕ, zero, suc, ◌+◌, ◌-◌, ◌<◌, ◌≤◌, List, [], ◌∷◌, ◌++◌, length, map, take, drop, set}
use Rattle.std.proofs.Common.{get_or, refl, sym, ap, ◌∙◌, subst, arith, slice_get, Some, None, ⊎_elim}
use Rattle.std.proofs.Common.{unsigned_abs, MatchOption, ◌⊎◌, inl, inr}
use Rattle.std.proofs.lemmas.Bool.{cases_lt}
use Rattle.std.proofs.lemmas.List.{drop_all, drop_more, take-append-drop, take-map}
use Rattle.std.proofs.lemmas.List.Elements.{All-push, All-take}
use Rattle.book_limits.specs.Limits.{largest_sum}
use Rattle.book_register.specs.declared.entry.Entry.{Entry}
use Rattle.book_lots.specs.Lots.{IsSmall, end_of, lot_past, open_past, stretch_at, units_of}
use Rattle.book_lots.specs.Sides.{AreInLine, IsBounded, IsFrontTo, IsKept, IsQueue, Paired, mark_of_side}
use Rattle.book_lots.specs.declared.mark.SideMark.{SideMark}
use Rattle.book_lots.specs.declared.open_lot.OpenLot.{OpenLot}
use Rattle.book_lots.specs.declared.stretch.Stretch.{Stretch}
use Rattle.book_lots.proofs.LineLemmas.{in_line-append, in_line-back, in_line-front, units_of-append}
use Rattle.book_lots.proofs.QueueLemmas.{all_whole, head_is, none_open_whole, open_first, open_is, queue_closed, queue_made}
use Rattle.book_lots.proofs.QueueLemmas.{queue_next, queue_part, queue_push, open_from_head}

abbrev side : List Stretch → ℕ → Paired
side all n = record { stretches = all; paired = n }

-- ---- the element at a place
abbrev IsThere : List Stretch → ℕ → Type 0
IsThere all h = ((slice_get all h ≡ None) × (length all ≤ h))
    ⊎ ((s : Stretch) × (more : List Stretch) × (slice_get all h ≡ Some s) × (drop h all ≡ s ∷ more))

there : (all : List Stretch) (h : ℕ) → IsThere all h
there [] zero = inl (refl, omega arith)
there [] (suc h) = inl (refl, omega arith)
there (s ∷ more) zero = inr (s, more, refl, refl)
there (s ∷ more) (suc h) =
    ⊎_elim (λ no_one. inl (no_one.0, omega (arith, no_one.1))) (λ some. inr some) (there more h)

-- ---- the front
front_at : (all : List Stretch) (lots : List OpenLot) (h n : ℕ) → IsQueue all lots h n → h < length all
    → (x : Stretch) → x ≡ get_or all h x → open_past n all ≡ x ∷ drop (h + 1) all
front_at all lots h n q lt x is =
    open_is all lots h n q ∙ drop_more all h x lt ∙ ap (λ (s : Stretch). s ∷ drop (h + 1) all) (sym is)

pub front_some : (all : List Stretch) (lots : List OpenLot) (h n : ℕ) → IsQueue all lots h n → h < length all
    → (x : Stretch) → x ≡ get_or all h x → Some x ≡ slice_get (open_past n all) 0
front_some all lots h n q lt x is = sym (ap (λ l. slice_get l 0) (front_at all lots h n q lt x is))

pub front_none : (all : List Stretch) (lots : List OpenLot) (h n : ℕ) → IsQueue all lots h n → length all ≤ h
    → None ≡ slice_get (open_past n all) 0
front_none all lots h n q le = sym (ap (λ l. slice_get l 0) (open_is all lots h n q ∙ drop_all h all le))

-- the front that a pair is made of
pub head_within : (all : List Stretch) (lots : List OpenLot) (h n k : ℕ) → IsQueue all lots h n
    → IsFrontTo (side all n) k → h < length all
head_within all lots h n k q f =
    ⊎_elim (λ lt. lt)
    (λ le. absurd (let none = sym (drop_all h all le) ∙ sym (open_is all lots h n q) ∙ f.is_front in cc))
    (cases_lt h (length all))

pub front_here : (all : List Stretch) (lots : List OpenLot) (h n k : ℕ) → IsQueue all lots h n
    → (f : IsFrontTo (side all n) k) → (x : Stretch) → x ≡ get_or all h x → x ≡ f.front
front_here all lots h n k q f x is =
    (let same : x ∷ drop (h + 1) all ≡ f.front ∷ f.more =
    sym (front_at all lots h n q (head_within all lots h n k q f) x is) ∙ f.is_front in cc)

here : (all : List Stretch) (lots : List OpenLot) (h n k : ℕ) → IsQueue all lots h n → IsFrontTo (side all n) k
    → (x : Stretch) → x ≡ get_or all h x → drop h all ≡ x ∷ drop (h + 1) all
here all lots h n k q f x is =
    sym (open_is all lots h n q) ∙ front_at all lots h n q (head_within all lots h n k q f) x is

-- no split ends past all units
end_within : (all : List Stretch) (h : ℕ) (x : Stretch) (more : List Stretch) → AreInLine 0 all
    → drop h all ≡ x ∷ more → end_of x ≤ units_of all
end_within all h x more line at =
    let parts : take h all ++ x ∷ more ≡ all = ap (λ l. take h all ++ l) (sym at) ∙ take-append-drop h all in
    let back = in_line-back 0 (take h all) (x ∷ more) (subst (AreInLine 0) (sym parts) line) in
    let both = units_of-append (take h all) (x ∷ more) in
    let same : units_of (take h all ++ x ∷ more) ≡ units_of all = ap units_of parts in
    omega (arith, both, same, back.0)

-- ---- the changes
pub side_push : (all : List Stretch) (lots : List OpenLot) (h u n place : ℕ) (e : Entry) → IsKept all lots h u n
    → IsSmall e → 1 ≤ unsigned_abs e.quantity → u ≤ largest_sum
    → IsKept (all ++ stretch_at place u e ∷ []) (lots ++ lot_past 0 (stretch_at place u e) ∷ []) h
    (end_of (stretch_at place u e)) n
side_push all lots h u n place e kept small some few =
    let s = stretch_at place u e in
    let counted = kept.counted in
    let within = kept.sound.within in
    let both = units_of-append all (s ∷ []) in
    record {
      sound = record {
        in_line = in_line-append 0 all (s ∷ []) kept.sound.in_line (omega (arith, counted), (some, tt));
        bounded = All-push IsBounded all s kept.sound.bounded
            (record { first = few; some = some; quantity = small.quantity; value = small.value });
        within = omega (arith, both, within);
      };
      queue = queue_push all lots h n s kept.queue (omega (arith, counted, within)) (omega (arith, counted, within, some));
      counted = omega (arith, both, counted);
    }

pub side_part : (all : List Stretch) (lots : List OpenLot) (h u n k : ℕ) → IsKept all lots h u n
    → IsFrontTo (side all n) k → (x : Stretch) → x ≡ get_or all h x → k < end_of x
    → IsKept all (set lots h (lot_past k x)) h u k
side_part all lots h u n k kept f x is lt =
    let at = here all lots h n k kept.queue f x is in
    record {
      sound = record {
        in_line = kept.sound.in_line;
        bounded = kept.sound.bounded;
        within = (let last = end_within all h x (drop (h + 1) all) kept.sound.in_line at in omega (arith, last, lt));
      };
      queue = queue_part all lots h n k x (drop (h + 1) all) kept.sound.in_line kept.queue at f.least lt;
      counted = kept.counted;
    }

pub side_next : (all : List Stretch) (lots : List OpenLot) (h u n k : ℕ) → IsKept all lots h u n
    → IsFrontTo (side all n) k → (x : Stretch) → x ≡ get_or all h x → end_of x ≤ k
    → IsKept all (set lots h (lot_past 0 x)) (h + 1) u k
side_next all lots h u n k kept f x is le =
    let at = here all lots h n k kept.queue f x is in
    let most : k ≤ end_of x = subst (λ (s : Stretch). k ≤ end_of s) (sym (front_here all lots h n k kept.queue f x is)) f.most in
    let end : k ≡ end_of x = omega (arith, most, le) in
    record {
      sound = record {
        in_line = kept.sound.in_line;
        bounded = kept.sound.bounded;
        within = (let last = end_within all h x (drop (h + 1) all) kept.sound.in_line at in omega (arith, last, end));
      };
      queue = subst (IsQueue all (set lots h (lot_past 0 x)) (h + 1)) (sym end)
          (queue_next all lots h n x (drop (h + 1) all) kept.sound.in_line kept.queue at
          (subst (λ m. n ≤ m) end f.least));
      counted = kept.counted;
    }

-- ---- the mark
abbrev mark_with : ℕ → ℕ → ℕ → ℕ → SideMark
mark_with len head units paired = record { len = len; head = head; units = units; paired = paired }

pub mark_is : (all : List Stretch) (lots : List OpenLot) (h u n len : ℕ) → IsKept all lots h u n
    → len ≡ length all → mark_with len h u n ≡ mark_of_side (side all n)
mark_is all lots h u n len kept is =
    ap (λ k. mark_with k h u n) is ∙ ap (λ k. mark_with (length all) k u n) (head_is all lots h n kept.queue)
    ∙ ap (λ k. mark_with (length all) (length all - length (open_past n all)) k n) kept.counted

-- ---- the way back
pub all_written : (all : List Stretch) (lots other : List OpenLot) (h u n : ℕ) → IsKept all lots h u n
    → MatchOption (slice_get all h) (other ≡ lots) (λ s. other ≡ set lots h (lot_past 0 s))
    → other ≡ map (lot_past 0) all
all_written all lots other h u n kept is =
    ⊎_elim
    (λ no_one. subst (λ o. MatchOption o (other ≡ lots) (λ s. other ≡ set lots h (lot_past 0 s))) no_one.0 is
    ∙ none_open_whole all lots h n kept.queue no_one.1)
    (λ some. subst (λ o. MatchOption o (other ≡ lots) (λ s. other ≡ set lots h (lot_past 0 s))) some.2 is
    ∙ all_whole all lots h n some.0 some.1 kept.sound.in_line kept.queue some.3
    (open_from_head all lots h n some.0 some.1 kept.queue some.3))
    (there all h)

-- the mark of so many first splits
pub record IsBack (all : List Stretch) (mark : SideMark) : Type 0 where
  pub is : mark ≡ mark_of_side (side (take mark.len all) mark.paired)
  pub within : mark.paired ≤ units_of (take mark.len all)

back_line : (all : List Stretch) (len : ℕ) → AreInLine 0 all → AreInLine 0 (take len all)
back_line all len line =
    in_line-front 0 (take len all) (drop len all) (subst (AreInLine 0) (sym (take-append-drop len all)) line)

pub back_open : (all : List Stretch) (mark : SideMark) → AreInLine 0 all → IsBack all mark
    → (s : Stretch) → slice_get (take mark.len all) mark.head ≡ Some s → mark.paired ≤ end_of s
back_open all mark line back s is =
    ⊎_elim (λ no_one. absurd (let both = sym no_one.0 ∙ is in cc))
    (λ some. (let same : some.0 ≡ s = (let both = sym some.2 ∙ is in cc) in
    let made = queue_made (take mark.len all) mark.head mark.paired some.0 some.1 (back_line all mark.len line)
    (ap (λ (m : SideMark). m.head) back.is) some.3 in
    let lt = open_first mark.paired some.0 some.1 (subst (λ l. open_past mark.paired l ≡ l) some.3 made.open_from) in
    subst (λ (x : Stretch). mark.paired ≤ end_of x) same (omega (arith, lt))))
    (there (take mark.len all) mark.head)

pub side_back : (all : List Stretch) (lots before other : List OpenLot) (h u n : ℕ) (mark : SideMark)
    → IsKept all lots h u n → IsBack all mark
    → MatchOption (slice_get all h) (before ≡ lots) (λ s. before ≡ set lots h (lot_past 0 s))
    → MatchOption (slice_get (take mark.len all) mark.head) (other ≡ take mark.len before)
    (λ s. other ≡ set (take mark.len before) mark.head (lot_past mark.paired s))
    → IsKept (take mark.len all) other mark.head mark.units mark.paired
side_back all lots before other h u n mark kept back is is_other =
    let line = back_line all mark.len kept.sound.in_line in
    let whole : take mark.len before ≡ map (lot_past 0) (take mark.len all) =
    ap (take mark.len) (all_written all lots before h u n kept is) ∙ take-map (lot_past 0) mark.len all in
    let head : mark.head ≡ length (take mark.len all) - length (open_past mark.paired (take mark.len all)) =
    ap (λ (m : SideMark). m.head) back.is in
    let P : List OpenLot → Type 0 = λ l. IsQueue (take mark.len all) l mark.head mark.paired in
    record {
      sound = record {
        in_line = line;
        bounded = All-take IsBounded mark.len all kept.sound.bounded;
        within = back.within;
      };
      queue = ⊎_elim
          (λ no_one. subst P
          (sym (subst (λ o. MatchOption o (other ≡ take mark.len before)
          (λ s. other ≡ set (take mark.len before) mark.head (lot_past mark.paired s))) no_one.0 is_other ∙ whole))
          (queue_closed (take mark.len all) mark.head mark.paired line head no_one.1))
          (λ some. subst P
          (sym (subst (λ o. MatchOption o (other ≡ take mark.len before)
          (λ s. other ≡ set (take mark.len before) mark.head (lot_past mark.paired s))) some.2 is_other
          ∙ ap (λ l. set l mark.head (lot_past mark.paired some.0)) whole))
          (queue_made (take mark.len all) mark.head mark.paired some.0 some.1 line head some.3))
          (there (take mark.len all) mark.head);
      counted = ap (λ (m : SideMark). m.units) back.is;
    }
