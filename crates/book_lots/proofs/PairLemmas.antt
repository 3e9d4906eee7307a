-- Pairs of splits in line: what one more split adds, and that the first open splits of both signs give the next pair.
use Rattle.std.proofs.Common.{◌≡◌, ℕ, ◌+◌, ◌<◌, ◌≤◌, min, List, [], ◌∷◌, ◌++◌}
use Rattle.std.proofs.Common.{map, refl, inl, inr, ◌⊎◌, sym, ap, ◌∙◌, arith, unsigned_abs, ⊎_elim, append_assoc}
use Rattle.std.specs.List.{filter}
use Rattle.std.proofs.lemmas.Bool.{cases_lt, cases_order, cond-false, cond-true, le-ltb, lt-ltb}
use Rattle.std.proofs.lemmas.List.{append-nil, map-append}
use Rattle.std.proofs.lemmas.List.Concat.{flat_map-append}
use Rattle.std.proofs.lemmas.List.Elements.{filter-append}
use Rattle.book_lots.specs.Lots.{common_from, common_to, end_of, open_past, overlap, pair_of_two, pairs_between}
use Rattle.book_lots.specs.Lots.{pairs_with, units_of}
use Rattle.book_lots.specs.Sides.{AreInLine}
use Rattle.book_lots.specs.declared.pair.Pair.{Pair}
use Rattle.book_lots.specs.declared.stretch.Stretch.{Stretch}
use Rattle.book_lots.proofs.LineLemmas.{IsFront, open_all, open_here, open_none, open_not}

-- ---- one split that buys, against those that sell
pub with_here : (p m : Stretch) (ms : List Stretch) → common_from p m < common_to p m
    → pairs_with (m ∷ ms) p ≡ pair_of_two p m ∷ pairs_with ms p
with_here p m ms lt = ap (map (pair_of_two p)) (cond-true _ _ _ (lt-ltb (common_from p m) (common_to p m) lt))

pub with_not : (p m : Stretch) (ms : List Stretch) → common_to p m ≤ common_from p m
    → pairs_with (m ∷ ms) p ≡ pairs_with ms p
with_not p m ms le = ap (map (pair_of_two p)) (cond-false _ _ _ (le-ltb (common_from p m) (common_to p m) le))

with_more : (p m : Stretch) (ms ns : List Stretch) → pairs_with ms p ≡ pairs_with ns p
    → pairs_with (m ∷ ms) p ≡ pairs_with (m ∷ ns) p
with_more p m ms ns same =
    ⊎_elim (λ lt. with_here p m ms lt ∙ ap (λ l. pair_of_two p m ∷ l) same ∙ sym (with_here p m ns lt))
    (λ le. with_not p m ms le ∙ same ∙ sym (with_not p m ns le))
    (cases_lt (common_from p m) (common_to p m))

with_append : (p : Stretch) (ms ns : List Stretch) → pairs_with (ms ++ ns) p ≡ pairs_with ms p ++ pairs_with ns p
with_append p ms ns =
    ap (map (pair_of_two p)) (filter-append (overlap p) ms ns)
    ∙ map-append (pair_of_two p) (filter (overlap p) ms) (filter (overlap p) ns)

-- no pair with those that begin past its end
with_later : (p : Stretch) (a : ℕ) (ms : List Stretch) → AreInLine a ms → end_of p ≤ a → pairs_with ms p ≡ []
with_later p a [] line le = refl
with_later p a (m ∷ ms) line le =
    with_not p m ms (omega (arith, line.0, le)) ∙ with_later p (end_of m) ms line.1.1 (omega (arith, line.0, le))

-- those that end before it begins may be left out
with_open : (p : Stretch) (n : ℕ) (ms : List Stretch) → n ≤ p.first → pairs_with (open_past n ms) p ≡ pairs_with ms p
with_open p n [] le = refl
with_open p n (m ∷ ms) le =
    ⊎_elim
    (λ lt. ap (λ l. pairs_with l p) (open_here n m ms lt) ∙ with_more p m (open_past n ms) ms (with_open p n ms le))
    (λ past. ap (λ l. pairs_with l p) (open_not n m ms past) ∙ with_open p n ms le
    ∙ sym (with_not p m ms (omega (arith, past, le))))
    (cases_lt n (end_of m))

-- ---- all that buy, against those that sell
pub between_none : (ps : List Stretch) → pairs_between ps [] ≡ []
between_none [] = refl
between_none (p ∷ ps) = between_none ps

between_later : (m : Stretch) (ms : List Stretch) (a : ℕ) (ps : List Stretch) → AreInLine a ps → end_of m ≤ a
    → pairs_between ps (m ∷ ms) ≡ pairs_between ps ms
between_later m ms a [] line le = refl
between_later m ms a (p ∷ ps) line le =
    ap (λ l. l ++ pairs_between ps (m ∷ ms)) (with_not p m ms (omega (arith, line.0, le)))
    ∙ ap (λ l. pairs_with ms p ++ l) (between_later m ms (end_of p) ps line.1.1 (omega (arith, line.0, le)))

between_open : (m : Stretch) (n : ℕ) (ps : List Stretch) → n ≤ m.first
    → pairs_between (open_past n ps) (m ∷ []) ≡ pairs_between ps (m ∷ [])
between_open m n [] le = refl
between_open m n (p ∷ ps) le =
    ⊎_elim
    (λ lt. ap (λ l. pairs_between l (m ∷ [])) (open_here n p ps lt)
    ∙ ap (λ l. pairs_with (m ∷ []) p ++ l) (between_open m n ps le))
    (λ past. ap (λ l. pairs_between l (m ∷ [])) (open_not n p ps past) ∙ between_open m n ps le
    ∙ ap (λ l. l ++ pairs_between ps (m ∷ [])) (sym (with_not p m [] (omega (arith, past, le)))))
    (cases_lt n (end_of p))

-- no pairs where those that sell end before those that buy begin
between_apart : (a b : ℕ) (ps ms : List Stretch) → AreInLine a ps → AreInLine b ms → b + units_of ms ≤ a
    → pairs_between ps ms ≡ []
between_apart a b [] ms line other le = refl
between_apart a b (p ∷ ps) ms line other le =
    ap (λ l. l ++ pairs_between ps ms)
    (sym (with_open p a ms (omega (arith, line.0))) ∙ ap (λ l. pairs_with l p) (open_none a b ms other le))
    ∙ between_apart (end_of p) b ps ms line.1.1 other (omega (arith, line.0, le))

-- one more that sells: its pairs stand behind all others
swapped : (a b c d : List Pair) → (b ≡ []) ⊎ (c ≡ []) → (a ++ b) ++ (c ++ d) ≡ (a ++ c) ++ (b ++ d)
swapped a b c d empty =
    ⊎_elim
    (λ none. ap (λ l. (a ++ l) ++ (c ++ d)) none ∙ ap (λ l. l ++ (c ++ d)) (append-nil a)
    ∙ sym (append_assoc a c d) ∙ ap (λ l. (a ++ c) ++ (l ++ d)) (sym none))
    (λ none. ap (λ l. (a ++ b) ++ (l ++ d)) none ∙ append_assoc a b d
    ∙ ap (λ l. l ++ (b ++ d)) (sym (append-nil a)) ∙ ap (λ l. (a ++ l) ++ (b ++ d)) (sym none))
    empty

between_push : (m : Stretch) (ms : List Stretch) (a : ℕ) (ps : List Stretch) → AreInLine a ps → AreInLine 0 ms
    → m.first ≡ units_of ms → pairs_between ps (ms ++ m ∷ []) ≡ pairs_between ps ms ++ pairs_between ps (m ∷ [])
between_push m ms a [] line other is = refl
between_push m ms a (p ∷ ps) line other is =
    ap (λ l. l ++ pairs_between ps (ms ++ m ∷ [])) (with_append p ms (m ∷ []))
    ∙ ap (λ l. (pairs_with ms p ++ pairs_with (m ∷ []) p) ++ l)
    (between_push m ms (end_of p) ps line.1.1 other is)
    ∙ swapped (pairs_with ms p) (pairs_with (m ∷ []) p) (pairs_between ps ms) (pairs_between ps (m ∷ []))
    (⊎_elim (λ lt. inr (between_apart (end_of p) 0 ps ms line.1.1 other (omega (arith, is, lt))))
    (λ le. inl (with_not p m [] (omega (arith, le)))) (cases_lt m.first (end_of p)))

-- ---- the pairs of one more split are those of the open ones
pub plus_pushed : (p : Stretch) (ps ms : List Stretch) (n : ℕ) → AreInLine 0 ps → AreInLine 0 ms
    → p.first ≡ units_of ps → 1 ≤ unsigned_abs p.quantity → n ≡ min (units_of ps) (units_of ms)
    → pairs_between (ps ++ p ∷ []) ms
    ≡ pairs_between ps ms ++ pairs_between (open_past n (ps ++ p ∷ [])) (open_past n ms)
plus_pushed p ps ms n line other is some least =
    flat_map-append (pairs_with ms) ps (p ∷ [])
    ∙ ap (λ l. pairs_between ps ms ++ l) (by_units (cases_lt (units_of ms) (units_of ps)))
  where
    open_is : open_past n (ps ++ p ∷ []) ≡ open_past n ps ++ p ∷ []
    open_is = filter-append _ ps (p ∷ [])
        ∙ ap (λ l. open_past n ps ++ l) (open_here n p [] (omega (arith, is, some, least)))

    by_units : (units_of ms < units_of ps) ⊎ (units_of ps ≤ units_of ms)
        → pairs_between (p ∷ []) ms ≡ pairs_between (open_past n (ps ++ p ∷ [])) (open_past n ms)
    by_units which =
        ⊎_elim
        (λ less. ap (λ l. l ++ [])
        (sym (with_open p n ms (omega (arith, is, least)))
        ∙ ap (λ l. pairs_with l p) (open_none n 0 ms other (omega (arith, less, least))))
        ∙ sym (between_none (open_past n (ps ++ p ∷ [])))
        ∙ ap (pairs_between (open_past n (ps ++ p ∷ [])))
        (sym (open_none n 0 ms other (omega (arith, less, least)))))
        (λ le. ap (λ l. l ++ []) (sym (with_open p n ms (omega (arith, is, least))))
        ∙ ap (λ l. pairs_between (l ++ p ∷ []) (open_past n ms))
        (sym (open_none n 0 ps line (omega (arith, le, least))))
        ∙ ap (λ l. pairs_between l (open_past n ms)) (sym open_is))
        which

pub minus_pushed : (m : Stretch) (ps ms : List Stretch) (n : ℕ) → AreInLine 0 ps → AreInLine 0 ms
    → m.first ≡ units_of ms → 1 ≤ unsigned_abs m.quantity → n ≡ min (units_of ps) (units_of ms)
    → pairs_between ps (ms ++ m ∷ [])
    ≡ pairs_between ps ms ++ pairs_between (open_past n ps) (open_past n (ms ++ m ∷ []))
minus_pushed m ps ms n line other is some least =
    between_push m ms 0 ps line other is
    ∙ ap (λ l. pairs_between ps ms ++ l) (sym (between_open m n ps (omega (arith, is, least)))
    ∙ by_units (cases_lt (units_of ps) (units_of ms)))
  where
    open_is : open_past n (ms ++ m ∷ []) ≡ open_past n ms ++ m ∷ []
    open_is = filter-append _ ms (m ∷ [])
        ∙ ap (λ l. open_past n ms ++ l) (open_here n m [] (omega (arith, is, some, least)))

    by_units : (units_of ps < units_of ms) ⊎ (units_of ms ≤ units_of ps)
        → pairs_between (open_past n ps) (m ∷ []) ≡ pairs_between (open_past n ps) (open_past n (ms ++ m ∷ []))
    by_units which =
        ⊎_elim
        (λ less. (let none : open_past n ps ≡ [] = open_none n 0 ps line (omega (arith, less, least)) in
        ap (λ l. pairs_between l (m ∷ [])) none
        ∙ ap (λ l. pairs_between l (open_past n (ms ++ m ∷ []))) (sym none)))
        (λ le. (let none : open_past n ms ≡ [] = open_none n 0 ms other (omega (arith, le, least)) in
        ap (λ l. pairs_between (open_past n ps) (l ++ m ∷ [])) (sym none)
        ∙ ap (pairs_between (open_past n ps)) (sym open_is)))
        which

-- ---- the next pair
-- the first open ones make it, and the others are those of what is open past the end of either
pub next_pair : (n : ℕ) (p m : Stretch) (ps ms : List Stretch) → IsFront n (p ∷ ps) → IsFront n (m ∷ ms)
    → pairs_between (p ∷ ps) (m ∷ ms) ≡ pair_of_two p m
    ∷ pairs_between (open_past (common_to p m) (p ∷ ps)) (open_past (common_to p m) (m ∷ ms))
next_pair n p m ps ms front other =
    ap (λ l. l ++ pairs_between ps (m ∷ ms)) (with_here p m ms (omega (arith, front.0, front.1.0, other.0, other.1.0)))
    ∙ ap (λ l. pair_of_two p m ∷ l) (by_end (cases_order (end_of p) (end_of m)))
  where
    closed : (s : Stretch) (more : List Stretch) → AreInLine (end_of s) more → common_to p m ≡ end_of s
        → open_past (common_to p m) (s ∷ more) ≡ more
    closed s more line is =
        open_not (common_to p m) s more (omega (arith, is)) ∙ open_all (common_to p m) (end_of s) more line (omega (arith, is))

    stays : (s : Stretch) (more : List Stretch) → AreInLine (end_of s) more → common_to p m < end_of s
        → open_past (common_to p m) (s ∷ more) ≡ s ∷ more
    stays s more line lt =
        open_here (common_to p m) s more lt ∙ ap (λ l. s ∷ l) (open_all (common_to p m) (end_of s) more line (omega (arith, lt)))

    both : (left right : List Stretch) → open_past (common_to p m) (p ∷ ps) ≡ left → open_past (common_to p m) (m ∷ ms) ≡ right
        → pairs_between left right ≡ pairs_between (open_past (common_to p m) (p ∷ ps)) (open_past (common_to p m) (m ∷ ms))
    both left right one two =
        ap (λ l. pairs_between l right) (sym one) ∙ ap (pairs_between (open_past (common_to p m) (p ∷ ps))) (sym two)

    by_end : (end_of p ≡ end_of m) ⊎ ((end_of p < end_of m) ⊎ (end_of m < end_of p))
        → pairs_with ms p ++ pairs_between ps (m ∷ ms)
        ≡ pairs_between (open_past (common_to p m) (p ∷ ps)) (open_past (common_to p m) (m ∷ ms))
    by_end which =
        ⊎_elim
        (λ same. ap (λ l. l ++ pairs_between ps (m ∷ ms))
        (with_later p (end_of m) ms other.1.1 (omega (arith, same)))
        ∙ between_later m ms (end_of p) ps front.1.1 (omega (arith, same))
        ∙ both ps ms (closed p ps front.1.1 (omega (arith, same))) (closed m ms other.1.1 (omega (arith, same))))
        (λ differ. ⊎_elim
        (λ less. ap (λ l. l ++ pairs_between ps (m ∷ ms))
        (with_later p (end_of m) ms other.1.1 (omega (arith, less)))
        ∙ both ps (m ∷ ms) (closed p ps front.1.1 (omega (arith, less)))
        (stays m ms other.1.1 (omega (arith, less))))
        (λ more. ap (λ l. pairs_with ms p ++ l) (between_later m ms (end_of p) ps front.1.1 (omega (arith, more)))
        ∙ both (p ∷ ps) ms (stays p ps front.1.1 (omega (arith, more)))
        (closed m ms other.1.1 (omega (arith, more))))
        differ)
        which
