-- The queue of a side: how a new split, a pair, and the way back change its head and its lots.
use Rattle.std.proofs.Common.{◌≡◌, ℕ, ◌+◌, ◌-◌, ◌<◌, ◌≤◌, List, [], ◌∷◌, ◌++◌, length, map, take, drop, set}
use Rattle.std.proofs.Common.{sym, ap, ◌∙◌, subst, arith, append_assoc, ⊎_elim}
use Rattle.std.proofs.lemmas.Bool.{cases_lt}
use Rattle.std.proofs.lemmas.List.{drop-append-le, drop_at, length-append, length-map, length-take-le}
use Rattle.std.proofs.lemmas.List.{map_push, set_at, take-append-drop, take-append-le, take_at}
use Rattle.std.proofs.lemmas.List.{append-nil, drop_all, length_push, map-append, take_all}
use Rattle.std.proofs.lemmas.List.Elements.{filter-append}
use Rattle.book_lots.specs.Lots.{end_of, lot_past, lots_past, open_past, units_of}
use Rattle.book_lots.specs.Sides.{AreInLine, IsQueue}
use Rattle.book_lots.specs.declared.open_lot.OpenLot.{OpenLot}
use Rattle.book_lots.specs.declared.stretch.Stretch.{Stretch}
use Rattle.book_lots.proofs.LineLemmas.{in_line-back, open_all, open_here, open_not, parted, still_closed}
use Rattle.book_lots.proofs.LineLemmas.{IsParted, whole_lot, whole_lots}

-- the splits from the head on are the open ones
pub open_is : (all : List Stretch) (lots : List OpenLot) (h n : ℕ) → IsQueue all lots h n
    → open_past n all ≡ drop h all
open_is all lots h n q =
    ap (open_past n) (sym (take-append-drop h all)) ∙ filter-append _ (take h all) (drop h all)
    ∙ ap (λ l. l ++ open_past n (drop h all)) q.closed ∙ q.open_from

pub head_is : (all : List Stretch) (lots : List OpenLot) (h n : ℕ) → IsQueue all lots h n
    → h ≡ length all - length (open_past n all)
head_is all lots h n q =
    let same : length (open_past n all) ≡ length (drop h all) = ap length (open_is all lots h n q) in
    let parts : length (take h all ++ drop h all) ≡ length all = ap length (take-append-drop h all) in
    let counted = length-append (take h all) (drop h all) in
    omega (arith, same, parts, counted, length-take-le h all q.within)

pub length_lots : (all : List Stretch) (lots : List OpenLot) (h n : ℕ) → IsQueue all lots h n
    → length lots ≡ length all
length_lots all lots h n q =
    let parts : length (take h all ++ drop h all) ≡ length all = ap length (take-append-drop h all) in
    let counted = length-append (take h all) (drop h all) in
    let both = length-append (map (lot_past 0) (take h all)) (map (lot_past n) (drop h all)) in
    let one = length-map (take h all) (lot_past 0) in
    let two = length-map (drop h all) (lot_past n) in
    ap length q.lots_are ∙ both ∙ omega (arith, parts, counted, one, two)

front_length : (all : List Stretch) (h : ℕ) → h ≤ length all → length (map (lot_past 0) (take h all)) ≡ h
front_length all h le = length-map (take h all) (lot_past 0) ∙ length-take-le h all le

pub open_lots : (all : List Stretch) (lots : List OpenLot) (h n : ℕ) → IsQueue all lots h n
    → drop h lots ≡ lots_past n all
open_lots all lots h n q =
    ap (drop h) q.lots_are
    ∙ drop_at (map (lot_past 0) (take h all)) (map (lot_past n) (drop h all)) h (front_length all h q.within)
    ∙ ap (map (lot_past n)) (sym (open_is all lots h n q))

-- a new split stands behind all others
pub queue_push : (all : List Stretch) (lots : List OpenLot) (h n : ℕ) (s : Stretch) → IsQueue all lots h n
    → n ≤ s.first → n < end_of s → IsQueue (all ++ s ∷ []) (lots ++ lot_past 0 s ∷ []) h n
queue_push all lots h n s q le lt =
    let front : take h (all ++ s ∷ []) ≡ take h all = take-append-le h all (s ∷ []) q.within in
    let rest : drop h (all ++ s ∷ []) ≡ drop h all ++ s ∷ [] = drop-append-le h all (s ∷ []) q.within in
    record {
      within = omega (arith, q.within, length_push all s);
      closed = ap (open_past n) front ∙ q.closed;
      open_from = ap (open_past n) rest ∙ filter-append _ (drop h all) (s ∷ [])
          ∙ ap (λ l. l ++ open_past n (s ∷ [])) q.open_from
          ∙ ap (λ l. drop h all ++ l) (open_here n s [] lt) ∙ sym rest;
      lots_are = ap (λ l. l ++ lot_past 0 s ∷ []) q.lots_are
          ∙ append_assoc (map (lot_past 0) (take h all)) (map (lot_past n) (drop h all)) (lot_past 0 s ∷ [])
          ∙ ap (λ (x : OpenLot). map (lot_past 0) (take h all) ++ (map (lot_past n) (drop h all) ++ x ∷ []))
          (whole_lot 0 n s (omega arith) le)
          ∙ ap (λ l. map (lot_past 0) (take h all) ++ l) (sym (map_push (lot_past n) (drop h all) s))
          ∙ ap (λ l. map (lot_past 0) l ++ map (lot_past n) (drop h all ++ s ∷ [])) (sym front)
          ∙ ap (λ l. map (lot_past 0) (take h (all ++ s ∷ [])) ++ map (lot_past n) l) (sym rest);
    }

-- the lots where that of the head is written
written : (all : List Stretch) (lots : List OpenLot) (h n : ℕ) (s : Stretch) (more : List Stretch) (x : OpenLot)
    → IsQueue all lots h n → drop h all ≡ s ∷ more
    → set lots h x ≡ map (lot_past 0) (take h all) ++ x ∷ map (lot_past n) more
written all lots h n s more x q here =
    ap (λ l. set l h x) (q.lots_are ∙ ap (λ l. map (lot_past 0) (take h all) ++ map (lot_past n) l) here)
    ∙ set_at (map (lot_past 0) (take h all)) (lot_past n s) (map (lot_past n) more) x h (front_length all h q.within)

length_open : (n : ℕ) (all : List Stretch) → length (open_past n all) ≤ length all
length_open n [] = omega arith
length_open n (s ∷ more) =
    ⊎_elim (λ lt. (let rest = length_open n more in let is = ap length (open_here n s more lt) in omega (arith, rest, is)))
    (λ past. (let rest = length_open n more in let is = ap length (open_not n s more past) in
    omega (arith, rest, is)))
    (cases_lt n (end_of s))

-- what stands behind the head is in line
behind : (all : List Stretch) (h : ℕ) (s : Stretch) (more : List Stretch) → AreInLine 0 all → drop h all ≡ s ∷ more
    → AreInLine (end_of s) more
behind all h s more line here =
    (let back : AreInLine (0 + units_of (take h all)) (s ∷ more) =
    subst (AreInLine (0 + units_of (take h all))) here
    (in_line-back 0 (take h all) (drop h all) (subst (AreInLine 0) (sym (take-append-drop h all)) line)) in
    back.1.1)

-- the head is paired in part
pub queue_part : (all : List Stretch) (lots : List OpenLot) (h n k : ℕ) (s : Stretch) (more : List Stretch)
    → AreInLine 0 all → IsQueue all lots h n → drop h all ≡ s ∷ more → n ≤ k → k < end_of s
    → IsQueue all (set lots h (lot_past k s)) h k
queue_part all lots h n k s more line q here le lt =
    let next = behind all h s more line here in
    record {
      within = q.within;
      closed = still_closed n k (take h all) le q.closed;
      open_from = ap (open_past k) here ∙ open_here k s more lt
          ∙ ap (λ l. s ∷ l) (open_all k (end_of s) more next (omega (arith, lt))) ∙ sym here;
      lots_are = written all lots h n s more (lot_past k s) q here
          ∙ ap (λ l. map (lot_past 0) (take h all) ++ lot_past k s ∷ l)
          (whole_lots n k (end_of s) more next (omega (arith, le, lt)) (omega (arith, lt)))
          ∙ ap (λ l. map (lot_past 0) (take h all) ++ map (lot_past k) l) (sym here);
    }

-- the head is paired in full, and the queue moves on
pub queue_next : (all : List Stretch) (lots : List OpenLot) (h n : ℕ) (s : Stretch) (more : List Stretch)
    → AreInLine 0 all → IsQueue all lots h n → drop h all ≡ s ∷ more → n ≤ end_of s
    → IsQueue all (set lots h (lot_past 0 s)) (h + 1) (end_of s)
queue_next all lots h n s more line q here le =
    let next = behind all h s more line here in
    let parts : all ≡ (take h all ++ s ∷ []) ++ more =
    sym (take-append-drop h all) ∙ ap (λ l. take h all ++ l) here ∙ sym (append_assoc (take h all) (s ∷ []) more) in
    let long : length (take h all ++ s ∷ []) ≡ h + 1 =
    length_push (take h all) s ∙ ap (λ n. n + 1) (length-take-le h all q.within) in
    let front : take (h + 1) all ≡ take h all ++ s ∷ [] =
    ap (take (h + 1)) parts ∙ take_at (take h all ++ s ∷ []) more (h + 1) long in
    let rest : drop (h + 1) all ≡ more =
    ap (drop (h + 1)) parts ∙ drop_at (take h all ++ s ∷ []) more (h + 1) long in
    let counted : length all ≡ (h + 1) + length more =
    ap length parts ∙ length-append (take h all ++ s ∷ []) more ∙ ap (λ n. n + length more) long in
    record {
      within = omega (arith, counted);
      closed = ap (open_past (end_of s)) front ∙ filter-append _ (take h all) (s ∷ [])
          ∙ ap (λ l. l ++ open_past (end_of s) (s ∷ [])) (still_closed n (end_of s) (take h all) le q.closed)
          ∙ open_not (end_of s) s [] (omega arith);
      open_from = ap (open_past (end_of s)) rest ∙ open_all (end_of s) (end_of s) more next (omega arith) ∙ sym rest;
      lots_are = written all lots h n s more (lot_past 0 s) q here
          ∙ ap (λ l. map (lot_past 0) (take h all) ++ lot_past 0 s ∷ l)
          (whole_lots n (end_of s) (end_of s) more next le (omega arith))
          ∙ sym (append_assoc (map (lot_past 0) (take h all)) (lot_past 0 s ∷ []) (map (lot_past (end_of s)) more))
          ∙ ap (λ l. l ++ map (lot_past (end_of s)) more) (sym (map_push (lot_past 0) (take h all) s))
          ∙ ap (λ l. map (lot_past 0) l ++ map (lot_past (end_of s)) more) (sym front)
          ∙ ap (λ l. map (lot_past 0) (take (h + 1) all) ++ map (lot_past (end_of s)) l) (sym rest);
    }

-- ---- the way back
-- where the lot of the head is written whole, all are
pub all_whole : (all : List Stretch) (lots : List OpenLot) (h n : ℕ) (s : Stretch) (more : List Stretch)
    → AreInLine 0 all → IsQueue all lots h n → drop h all ≡ s ∷ more → n < end_of s
    → set lots h (lot_past 0 s) ≡ map (lot_past 0) all
all_whole all lots h n s more line q here lt =
    written all lots h n s more (lot_past 0 s) q here
    ∙ ap (λ l. map (lot_past 0) (take h all) ++ lot_past 0 s ∷ l)
    (whole_lots n 0 (end_of s) more (behind all h s more line here) (omega (arith, lt)) (omega arith))
    ∙ ap (λ l. map (lot_past 0) (take h all) ++ map (lot_past 0) l) (sym here)
    ∙ sym (map-append (lot_past 0) (take h all) (drop h all)) ∙ ap (map (lot_past 0)) (take-append-drop h all)

pub none_open_whole : (all : List Stretch) (lots : List OpenLot) (h n : ℕ) → IsQueue all lots h n
    → length all ≤ h → lots ≡ map (lot_past 0) all
none_open_whole all lots h n q le =
    q.lots_are
    ∙ ap (λ l. map (lot_past 0) (take h all) ++ map (lot_past n) l) (drop_all h all le)
    ∙ append-nil (map (lot_past 0) (take h all)) ∙ ap (map (lot_past 0)) (take_all h all le)

-- of whole lots one with the head written makes a queue
made : (all : List Stretch) (h n : ℕ) → (p : IsParted n all) → h ≡ length p.before
    → (take h all ≡ p.before) × (drop h all ≡ p.after)
made all h n p is = (
  ap (take h) p.parts ∙ take_at p.before p.after h (sym is),
  ap (drop h) p.parts ∙ drop_at p.before p.after h (sym is),
)

parted_head : (all : List Stretch) (h n : ℕ) → (p : IsParted n all) → h ≡ length all - length (open_past n all)
    → h ≡ length p.before
parted_head all h n p is =
    let same : open_past n all ≡ p.after =
    ap (open_past n) p.parts ∙ filter-append _ p.before p.after ∙ ap (λ l. l ++ open_past n p.after) p.closed
    ∙ p.all_open in
    let counted : length all ≡ length p.before + length p.after = ap length p.parts ∙ length-append p.before p.after in
    let shorter : length (open_past n all) ≡ length p.after = ap length same in
    omega (arith, is, counted, shorter)

pub open_first : (n : ℕ) (s : Stretch) (more : List Stretch) → open_past n (s ∷ more) ≡ s ∷ more → n < end_of s
open_first n s more is =
    ⊎_elim (λ lt. lt)
    (λ past. absurd (let shorter = length_open n more in
    let same : length (open_past n more) ≡ length (s ∷ more) = ap length (sym (open_not n s more past) ∙ is) in
    omega (arith, shorter, same)))
    (cases_lt n (end_of s))

pub queue_made : (all : List Stretch) (h n : ℕ) (s : Stretch) (more : List Stretch) → AreInLine 0 all
    → h ≡ length all - length (open_past n all) → drop h all ≡ s ∷ more
    → IsQueue all (set (map (lot_past 0) all) h (lot_past n s)) h n
queue_made all h n s more line is here =
    let p = parted n 0 all line in
    let at = parted_head all h n p is in
    let parts = made all h n p at in
    let counted : length all ≡ length p.before + length p.after = ap length p.parts ∙ length-append p.before p.after in
    let after : p.after ≡ s ∷ more = sym parts.1 ∙ here in
    let lt : n < end_of s =
    open_first n s more (subst (λ l. open_past n l ≡ l) after p.all_open) in
    record {
      within = omega (arith, at, counted);
      closed = ap (open_past n) parts.0 ∙ p.closed;
      open_from = ap (open_past n) parts.1 ∙ p.all_open ∙ sym parts.1;
      lots_are = ap (λ l. set l h (lot_past n s))
          (ap (map (lot_past 0)) (p.parts ∙ ap (λ l. p.before ++ l) after)
          ∙ map-append (lot_past 0) p.before (s ∷ more))
          ∙ set_at (map (lot_past 0) p.before) (lot_past 0 s) (map (lot_past 0) more) (lot_past n s) h
          (length-map p.before (lot_past 0) ∙ sym at)
          ∙ ap (λ l. map (lot_past 0) p.before ++ lot_past n s ∷ l)
          (whole_lots 0 n (end_of s) more (behind all h s more line here) (omega arith) (omega (arith, lt)))
          ∙ ap (λ l. map (lot_past 0) l ++ map (lot_past n) (s ∷ more)) (sym parts.0)
          ∙ ap (λ l. map (lot_past 0) (take h all) ++ map (lot_past n) l) (sym here);
    }

pub queue_closed : (all : List Stretch) (h n : ℕ) → AreInLine 0 all
    → h ≡ length all - length (open_past n all) → length all ≤ h → IsQueue all (map (lot_past 0) all) h n
queue_closed all h n line is le =
    let p = parted n 0 all line in
    let at = parted_head all h n p is in
    let parts = made all h n p at in
    let counted : length all ≡ length p.before + length p.after = ap length p.parts ∙ length-append p.before p.after in
    let none : drop h all ≡ [] = drop_all h all le in
    record {
      within = omega (arith, at, counted);
      closed = ap (open_past n) parts.0 ∙ p.closed;
      open_from = ap (open_past n) parts.1 ∙ p.all_open ∙ sym parts.1;
      lots_are = sym (append-nil (map (lot_past 0) all))
          ∙ ap (λ l. map (lot_past 0) l ++ []) (sym (take_all h all le))
          ∙ ap (λ l. map (lot_past 0) (take h all) ++ map (lot_past n) l) (sym none);
    }

-- the split at the head is open
pub open_from_head : (all : List Stretch) (lots : List OpenLot) (h n : ℕ) (s : Stretch) (more : List Stretch)
    → IsQueue all lots h n → drop h all ≡ s ∷ more → n < end_of s
open_from_head all lots h n s more q here =
    open_first n s more (subst (λ l. open_past n l ≡ l) here q.open_from)
