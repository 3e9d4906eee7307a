-- The sides and the pairs of a register's entries: with one entry more, and with fewer.
use Rattle.std.proofs.Common.{◌≡◌, ℕ, ◌<◌, ◌≤◌, min, Bool, true, false, ℤ, pos}
use Rattle.std.proofs.Common.{◌<ℤ◌, List, [], ◌∷◌, ◌++◌, length, map, take, drop, refl, sym, ap, ◌∙◌, subst, arith}
use Rattle.std.proofs.Common.{⊎_elim}
use Rattle.std.specs.Prelude.{int_lt}
use Rattle.std.specs.List.{All}
use Rattle.std.proofs.lemmas.Bool.{cases_lt}
use Rattle.std.proofs.lemmas.Int.{ints}
use Rattle.std.proofs.lemmas.List.{append-nil, length-take, length_push, nil_from_length}
use Rattle.std.proofs.lemmas.List.{take-append-drop, take_at}
use Rattle.std.proofs.lemmas.List.Elements.{All-nil, All-push, All-take, filter-append}
use Rattle.std.proofs.lemmas.Bool.{cond-false, cond-true, eqb-false, eqb-true, false_from_ne_true}
use Rattle.std.proofs.lemmas.Bool.Decides.{Decides-int_eq}
use Rattle.std.proofs.Common.{Ok, Err, Result, OnOk, ◌+ℤ◌, eqb}
use Rattle.std.specs.List.{filter}
use Rattle.book_lots.specs.Lots.{value_of}
use Rattle.book_lots.proofs.EntryLemmas.{has_none}
use Rattle.book_register.specs.declared.entry.Entry.{Entry}
use Rattle.book_lots.specs.Lots.{IsSmall, adjustments_of, bought_in, lots_of, lots_past, open_past, pairs_between, pairs_of}
use Rattle.book_lots.specs.Lots.{sold_in, stretch_at, units_of, lot_past}
use Rattle.book_lots.specs.Sides.{AreSides, Begins, IsReckoned, Paired, bought_side, mark_of, mark_of_side}
use Rattle.book_lots.specs.Sides.{paired_in, sold_side}
use Rattle.book_lots.specs.declared.mark.Mark.{Mark}
use Rattle.book_lots.specs.declared.mark.SideMark.{SideMark}
use Rattle.book_lots.specs.declared.pair.Pair.{Pair}
use Rattle.book_lots.specs.declared.stretch.Stretch.{Stretch}
use Rattle.book_lots.proofs.EntryLemmas.{bought_front, bought_line, bought_more, bought_same, pairs_bought, pairs_front}
use Rattle.book_lots.proofs.EntryLemmas.{pairs_same, pairs_sold, sold_front, sold_line, sold_more, sold_same}
use Rattle.book_lots.proofs.LineLemmas.{open_none}

abbrev paired_with : List Stretch → ℕ → Paired
paired_with all n = record { stretches = all; paired = n }

pub same_side : (one other : Paired) → one.stretches ≡ other.stretches → one.paired ≡ other.paired → one ≡ other
same_side one other a b =
    ap (λ l. paired_with l one.paired) a ∙ ap (paired_with other.stretches) b

-- ---- signs
pub plus_sign : (q : ℤ) → pos 0 <ℤ q → (int_lt (pos 0) q ≡ true) × (int_lt q (pos 0) ≡ false)
plus_sign q lt = (grind (arith, ints), grind (arith, ints))

pub minus_sign : (q : ℤ) → q <ℤ pos 0 → (int_lt (pos 0) q ≡ false) × (int_lt q (pos 0) ≡ true)
minus_sign q lt = (grind (arith, ints), grind (arith, ints))

pub no_sign : (q : ℤ) → q ≡ pos 0 → (int_lt (pos 0) q ≡ false) × (int_lt q (pos 0) ≡ false)
no_sign q is = (ap (λ z. int_lt (pos 0) z) is, ap (λ z. int_lt z (pos 0)) is)

-- ---- one entry more
-- what stands after the loop that pairs
pub record ArePaired (one other : Paired) (before : List Pair) (new_one new_other : Paired) (pairs : List Pair)
    : Type 0 where
  pub one_same : new_one.stretches ≡ one.stretches
  pub other_same : new_other.stretches ≡ other.stretches
  pub all : pairs ≡ before
      ++ pairs_between (open_past one.paired one.stretches) (open_past other.paired other.stretches)
  pub paired : new_one.paired ≡ min (units_of one.stretches) (units_of other.stretches)
  pub same : new_other.paired ≡ new_one.paired

made : (es : List Entry) (one other : Paired) (pairs : List Pair) → length es ≤ 1_000_000 → All IsSmall es
    → one.stretches ≡ bought_in es → other.stretches ≡ sold_in es
    → one.paired ≡ min (units_of (bought_in es)) (units_of (sold_in es)) → other.paired ≡ one.paired
    → pairs ≡ pairs_of es → AreSides es one other pairs
made es one other pairs few small bought sold paired same are = record {
  few = few;
  small = small;
  bought_is = same_side one (bought_side es) bought paired;
  sold_is = same_side other (sold_side es) sold (same ∙ paired);
  pairs_are = are;
}

pub sides_bought : (es : List Entry) (e : Entry) (one other : Paired) (before : List Pair)
    → AreSides es one other before → length es < 1_000_000 → IsSmall e
    → int_lt (pos 0) e.quantity ≡ true → int_lt e.quantity (pos 0) ≡ false
    → (mid new_one new_other : Paired) (pairs : List Pair)
    → mid.stretches ≡ one.stretches ++ stretch_at (length es) (units_of one.stretches) e ∷ []
    → mid.paired ≡ one.paired → ArePaired mid other before new_one new_other pairs
    → AreSides (es ++ e ∷ []) new_one new_other pairs
sides_bought es e one other before sides few small is no_sale mid new_one new_other pairs pushed stays paired =
    let was : one.stretches ≡ bought_in es = ap (λ (v : Paired). v.stretches) sides.bought_is in
    let was_too : other.stretches ≡ sold_in es = ap (λ (v : Paired). v.stretches) sides.sold_is in
    let n : one.paired ≡ paired_in es = ap (λ (v : Paired). v.paired) sides.bought_is in
    let n_too : other.paired ≡ paired_in es = ap (λ (v : Paired). v.paired) sides.sold_is in
    let mid_is : mid.stretches ≡ bought_in (es ++ e ∷ []) =
    pushed ∙ ap (λ l. l ++ stretch_at (length es) (units_of l) e ∷ []) was ∙ sym (bought_more es e is) in
    let other_is : other.stretches ≡ sold_in (es ++ e ∷ []) = was_too ∙ sym (sold_same es e no_sale) in
    made (es ++ e ∷ []) new_one new_other pairs (omega (arith, few, length_push es e))
    (All-push IsSmall es e sides.small small)
    (paired.one_same ∙ mid_is) (paired.other_same ∙ other_is)
    (paired.paired ∙ ap (λ l. min (units_of l) (units_of other.stretches)) mid_is
    ∙ ap (λ l. min (units_of (bought_in (es ++ e ∷ []))) (units_of l)) other_is)
    paired.same
    (paired.all ∙ ap (λ l. l ++ pairs_between (open_past mid.paired mid.stretches)
    (open_past other.paired other.stretches)) sides.pairs_are
    ∙ ap (λ k. pairs_of es ++ pairs_between (open_past k mid.stretches) (open_past other.paired other.stretches))
    (stays ∙ n)
    ∙ ap (λ k. pairs_of es ++ pairs_between (open_past (paired_in es) mid.stretches) (open_past k other.stretches)) n_too
    ∙ ap (λ l. pairs_of es ++ pairs_between (open_past (paired_in es) l) (open_past (paired_in es) other.stretches))
    (mid_is ∙ bought_more es e is)
    ∙ ap (λ l. pairs_of es ++ pairs_between (open_past (paired_in es)
    (bought_in es ++ stretch_at (length es) (units_of (bought_in es)) e ∷ [])) (open_past (paired_in es) l)) was_too
    ∙ sym (pairs_bought es e is no_sale))

pub sides_sold : (es : List Entry) (e : Entry) (one other : Paired) (before : List Pair)
    → AreSides es one other before → length es < 1_000_000 → IsSmall e
    → int_lt (pos 0) e.quantity ≡ false → int_lt e.quantity (pos 0) ≡ true
    → (mid new_one new_other : Paired) (pairs : List Pair)
    → mid.stretches ≡ other.stretches ++ stretch_at (length es) (units_of other.stretches) e ∷ []
    → mid.paired ≡ other.paired → ArePaired one mid before new_one new_other pairs
    → AreSides (es ++ e ∷ []) new_one new_other pairs
sides_sold es e one other before sides few small no_buy is mid new_one new_other pairs pushed stays paired =
    let was : one.stretches ≡ bought_in es = ap (λ (v : Paired). v.stretches) sides.bought_is in
    let was_too : other.stretches ≡ sold_in es = ap (λ (v : Paired). v.stretches) sides.sold_is in
    let n : one.paired ≡ paired_in es = ap (λ (v : Paired). v.paired) sides.bought_is in
    let n_too : other.paired ≡ paired_in es = ap (λ (v : Paired). v.paired) sides.sold_is in
    let mid_is : mid.stretches ≡ sold_in (es ++ e ∷ []) =
    pushed ∙ ap (λ l. l ++ stretch_at (length es) (units_of l) e ∷ []) was_too ∙ sym (sold_more es e is) in
    let one_is : one.stretches ≡ bought_in (es ++ e ∷ []) = was ∙ sym (bought_same es e no_buy) in
    made (es ++ e ∷ []) new_one new_other pairs (omega (arith, few, length_push es e))
    (All-push IsSmall es e sides.small small)
    (paired.one_same ∙ one_is) (paired.other_same ∙ mid_is)
    (paired.paired ∙ ap (λ l. min (units_of l) (units_of mid.stretches)) one_is
    ∙ ap (λ l. min (units_of (bought_in (es ++ e ∷ []))) (units_of l)) mid_is)
    paired.same
    (paired.all ∙ ap (λ l. l ++ pairs_between (open_past one.paired one.stretches)
    (open_past mid.paired mid.stretches)) sides.pairs_are
    ∙ ap (λ k. pairs_of es ++ pairs_between (open_past k one.stretches) (open_past mid.paired mid.stretches)) n
    ∙ ap (λ k. pairs_of es ++ pairs_between (open_past (paired_in es) one.stretches) (open_past k mid.stretches))
    (stays ∙ n_too)
    ∙ ap (λ l. pairs_of es ++ pairs_between (open_past (paired_in es) l) (open_past (paired_in es) mid.stretches)) was
    ∙ ap (λ l. pairs_of es ++ pairs_between (open_past (paired_in es) (bought_in es)) (open_past (paired_in es) l))
    (mid_is ∙ sold_more es e is)
    ∙ sym (pairs_sold es e no_buy is))

-- an entry without units
pub sides_same : (es : List Entry) (e : Entry) (one other : Paired) (pairs : List Pair)
    → AreSides es one other pairs → length es < 1_000_000 → IsSmall e → e.quantity ≡ pos 0
    → AreSides (es ++ e ∷ []) one other pairs
sides_same es e one other pairs sides few small is =
    let signs = no_sign e.quantity is in
    let was : one.stretches ≡ bought_in es = ap (λ (v : Paired). v.stretches) sides.bought_is in
    let was_too : other.stretches ≡ sold_in es = ap (λ (v : Paired). v.stretches) sides.sold_is in
    let n : one.paired ≡ paired_in es = ap (λ (v : Paired). v.paired) sides.bought_is in
    let n_too : other.paired ≡ paired_in es = ap (λ (v : Paired). v.paired) sides.sold_is in
    let bought = sym (bought_same es e signs.0) in
    let sold = sym (sold_same es e signs.1) in
    made (es ++ e ∷ []) one other pairs (omega (arith, few, length_push es e))
    (All-push IsSmall es e sides.small small) (was ∙ bought) (was_too ∙ sold)
    (n ∙ ap (λ l. min (units_of l) (units_of (sold_in es))) bought
    ∙ ap (λ l. min (units_of (bought_in (es ++ e ∷ []))) (units_of l)) sold)
    (n_too ∙ sym n) (sides.pairs_are ∙ sym (pairs_same es e signs.0 signs.1))

-- ---- fewer
-- where one side begins with an earlier one, the mark of that leads back to it
pub back_known : (old new : Paired) (mark : SideMark) → mark ≡ mark_of_side old
    → take (length old.stretches) new.stretches ≡ old.stretches → mark.len ≤ length new.stretches
back_known old new mark is front =
    let len : mark.len ≡ length old.stretches = ap (λ (m : SideMark). m.len) is in
    let shorter : length (take (length old.stretches) new.stretches) ≡ length old.stretches = ap length front in
    let counted = length-take (length old.stretches) new.stretches in
    omega (arith, len, shorter, counted)

pub back_is : (old new : Paired) (mark : SideMark) → mark ≡ mark_of_side old
    → take (length old.stretches) new.stretches ≡ old.stretches
    → paired_with (take mark.len new.stretches) mark.paired ≡ old
back_is old new mark is front =
    same_side (paired_with (take mark.len new.stretches) mark.paired) old
    (ap (λ n. take n new.stretches) (ap (λ (m : SideMark). m.len) is) ∙ front) (ap (λ (m : SideMark). m.paired) is)

pub back_mark : (old new : Paired) (mark : SideMark) → mark ≡ mark_of_side old
    → take (length old.stretches) new.stretches ≡ old.stretches
    → mark ≡ mark_of_side (paired_with (take mark.len new.stretches) mark.paired)
back_mark old new mark is front = is ∙ ap mark_of_side (sym (back_is old new mark is front))

pub back_within : (old new : Paired) (mark : SideMark) → mark ≡ mark_of_side old
    → take (length old.stretches) new.stretches ≡ old.stretches → old.paired ≤ units_of old.stretches
    → mark.paired ≤ units_of (take mark.len new.stretches)
back_within old new mark is front within =
    subst (λ (v : Paired). v.paired ≤ units_of v.stretches) (sym (back_is old new mark is front)) within

pub begins_front : {X : Type 0} (one other : List X) → Begins one other → take (length one) other ≡ one
begins_front one other begins = ap (take (length one)) begins.is_longer ∙ take_at one begins.rest (length one) refl

-- the first so many entries
parts : (k : ℕ) (es : List Entry) → take k es ++ drop k es ≡ es
parts k es = take-append-drop k es

pub bought_back : (k : ℕ) (es : List Entry) → take (length (bought_in (take k es))) (bought_in es) ≡ bought_in (take k es)
bought_back k es =
    ap (λ l. take (length (bought_in (take k es))) (bought_in l)) (sym (parts k es))
    ∙ bought_front (take k es) (drop k es)

pub sold_back : (k : ℕ) (es : List Entry) → take (length (sold_in (take k es))) (sold_in es) ≡ sold_in (take k es)
sold_back k es =
    ap (λ l. take (length (sold_in (take k es))) (sold_in l)) (sym (parts k es))
    ∙ sold_front (take k es) (drop k es)

pub pairs_back : (k : ℕ) (es : List Entry) → take (length (pairs_of (take k es))) (pairs_of es) ≡ pairs_of (take k es)
pairs_back k es =
    ap (λ l. take (length (pairs_of (take k es))) (pairs_of l)) (sym (parts k es))
    ∙ pairs_front (take k es) (drop k es)

-- ---- the open lots
pub lots_some : (es : List Entry) → (lots_past (paired_in es) (bought_in es) ≡ [] → ⊥)
    → lots_past (paired_in es) (bought_in es) ≡ lots_of es
unfolding lots_of
lots_some es some =
    ⊎_elim
    (λ lt. (let n : paired_in es ≡ units_of (sold_in es) = omega (arith, lt) in
    ap (λ k. lots_past k (bought_in es)) n ∙ sym (append-nil (lots_past (units_of (sold_in es)) (bought_in es)))
    ∙ ap (λ l. lots_past (units_of (sold_in es)) (bought_in es) ++ map (lot_past (units_of (bought_in es))) l)
    (sym (open_none (units_of (bought_in es)) 0 (sold_in es) (sold_line es) (omega (arith, lt))))))
    (λ le. absurd (some (ap (map (lot_past (paired_in es)))
    (open_none (paired_in es) 0 (bought_in es) (bought_line es) (omega (arith, le))))))
    (cases_lt (units_of (sold_in es)) (units_of (bought_in es)))

pub lots_none : (es : List Entry) → lots_past (paired_in es) (bought_in es) ≡ []
    → lots_past (paired_in es) (sold_in es) ≡ lots_of es
unfolding lots_of
lots_none es none =
    ⊎_elim
    (λ lt. (let n : paired_in es ≡ units_of (sold_in es) = omega (arith, lt) in
    ap (map (lot_past (paired_in es))) (open_none (paired_in es) 0 (sold_in es) (sold_line es) (omega (arith, n)))
    ∙ ap (λ l. map (lot_past (units_of (bought_in es))) l)
    (sym (open_none (units_of (bought_in es)) 0 (sold_in es) (sold_line es) (omega (arith, lt))))
    ∙ ap (λ l. l ++ lots_past (units_of (bought_in es)) (sold_in es)) (sym none)
    ∙ ap (λ k. lots_past k (bought_in es) ++ lots_past (units_of (bought_in es)) (sold_in es)) n))
    (λ le. (let n : paired_in es ≡ units_of (bought_in es) = omega (arith, le) in
    ap (λ k. lots_past k (sold_in es)) n
    ∙ ap (λ l. map (lot_past (units_of (sold_in es))) l ++ lots_past (units_of (bought_in es)) (sold_in es))
    (sym (open_none (units_of (sold_in es)) 0 (bought_in es) (bought_line es) (omega (arith, le))))))
    (cases_lt (units_of (sold_in es)) (units_of (bought_in es)))

-- ---- nothing reckoned yet
pub none_reckoned : IsReckoned [] (paired_with [] 0) (paired_with [] 0) [] (pos 0)
unfolding bought_in sold_in pairs_of
none_reckoned = record {
  sides = record {
    few = omega arith;
    small = All-nil IsSmall;
    bought_is = refl;
    sold_is = refl;
    pairs_are = refl;
  };
  adjustments_are = refl;
}

-- ---- back to so many entries
module _ (es : List Entry) (one other : Paired) (pairs : List Pair) (adjusted : ℤ) (mark : Mark)
    (kept : IsReckoned es one other pairs adjusted) (is : mark ≡ mark_of (take mark.entries es)) where
  pub bought_mark_is : mark.bought ≡ mark_of_side (bought_side (take mark.entries es))
  bought_mark_is = ap (λ (m : Mark). m.bought) is

  pub sold_mark_is : mark.sold ≡ mark_of_side (sold_side (take mark.entries es))
  sold_mark_is = ap (λ (m : Mark). m.sold) is

  pub bought_begins : take (length (bought_in (take mark.entries es))) one.stretches ≡ bought_in (take mark.entries es)
  bought_begins =
      ap (λ (v : Paired). take (length (bought_in (take mark.entries es))) v.stretches) kept.sides.bought_is
      ∙ bought_back mark.entries es

  pub sold_begins : take (length (sold_in (take mark.entries es))) other.stretches ≡ sold_in (take mark.entries es)
  sold_begins =
      ap (λ (v : Paired). take (length (sold_in (take mark.entries es))) v.stretches) kept.sides.sold_is
      ∙ sold_back mark.entries es

  pub reckoned_back : IsReckoned (take mark.entries es)
      (paired_with (take mark.bought.len one.stretches) mark.bought.paired)
      (paired_with (take mark.sold.len other.stretches) mark.sold.paired) (take mark.pairs pairs) mark.adjustments
  reckoned_back = record {
    sides = record {
      few = omega (arith, length-take mark.entries es, kept.sides.few);
      small = All-take IsSmall mark.entries es kept.sides.small;
      bought_is = back_is (bought_side (take mark.entries es)) one mark.bought bought_mark_is bought_begins;
      sold_is = back_is (sold_side (take mark.entries es)) other mark.sold sold_mark_is sold_begins;
      pairs_are = ap (λ l. take mark.pairs l) kept.sides.pairs_are
          ∙ ap (λ n. take n (pairs_of es)) (ap (λ (m : Mark). m.pairs) is) ∙ pairs_back mark.entries es;
    };
    adjustments_are = ap (λ (m : Mark). m.adjustments) is;
  }

-- ---- adjustments
value_of-append : (one two : List Entry) → value_of (one ++ two) ≡ value_of one +ℤ value_of two
value_of-append [] two = omega (arith, ints)
value_of-append (e ∷ es) two = (let rest = value_of-append es two in omega (arith, ints, rest))

pub adjusted_more : (es : List Entry) (e : Entry)
    → adjustments_of (es ++ e ∷ []) ≡ adjustments_of es +ℤ adjustments_of (e ∷ [])
adjusted_more es e =
    ap value_of (filter-append has_none es (e ∷ []))
    ∙ value_of-append (filter has_none es) (filter has_none (e ∷ []))

pub adjusted_here : (e : Entry) → e.quantity ≡ pos 0 → adjustments_of (e ∷ []) ≡ e.value
adjusted_here e is =
    ap value_of (cond-true _ _ _ ((Decides-int_eq e.quantity (pos 0)).1 is)) ∙ omega (arith, ints)

pub adjusted_not : (e : Entry) → (e.quantity ≡ pos 0 → ⊥) → adjustments_of (e ∷ []) ≡ pos 0
adjusted_not e other =
    ap value_of (cond-false _ _ _
    (false_from_ne_true _ (λ is. other ((Decides-int_eq e.quantity (pos 0)).0 is))))

-- ---- what holds where the loop that pairs succeeded
pub done_bought : {T E : Type 0} (r : Result T E) (es : List Entry) (e : Entry) (one other : Paired) (before : List Pair)
    → AreSides es one other before → length es < 1_000_000 → IsSmall e → pos 0 <ℤ e.quantity
    → (mid new_one new_other : Paired) (pairs : List Pair)
    → mid.stretches ≡ one.stretches ++ stretch_at (length es) (units_of one.stretches) e ∷ []
    → mid.paired ≡ one.paired → new_one.stretches ≡ mid.stretches → new_other.stretches ≡ other.stretches
    → OnOk r (pairs ≡ before ++ pairs_between (open_past mid.paired mid.stretches)
    (open_past other.paired other.stretches))
    → OnOk r (new_one.paired ≡ min (units_of mid.stretches) (units_of other.stretches))
    → OnOk r (new_other.paired ≡ new_one.paired) → OnOk r (AreSides (es ++ e ∷ []) new_one new_other pairs)
done_bought (Ok x) es e one other before sides few small plus mid new_one new_other pairs pushed stays a b all paired same =
    let signs = plus_sign e.quantity plus in
    sides_bought es e one other before sides few small signs.0 signs.1 mid new_one new_other pairs pushed stays
    (record { one_same = a; other_same = b; all = all; paired = paired; same = same })
done_bought (Err x) es e one other before sides few small plus mid new_one new_other pairs pushed stays a b all paired same =
    tt

pub done_sold : {T E : Type 0} (r : Result T E) (es : List Entry) (e : Entry) (one other : Paired) (before : List Pair)
    → AreSides es one other before → length es < 1_000_000 → IsSmall e → e.quantity <ℤ pos 0
    → (mid new_one new_other : Paired) (pairs : List Pair)
    → mid.stretches ≡ other.stretches ++ stretch_at (length es) (units_of other.stretches) e ∷ []
    → mid.paired ≡ other.paired → new_one.stretches ≡ one.stretches → new_other.stretches ≡ mid.stretches
    → OnOk r (pairs ≡ before ++ pairs_between (open_past one.paired one.stretches)
    (open_past mid.paired mid.stretches))
    → OnOk r (new_one.paired ≡ min (units_of one.stretches) (units_of mid.stretches))
    → OnOk r (new_other.paired ≡ new_one.paired) → OnOk r (AreSides (es ++ e ∷ []) new_one new_other pairs)
done_sold (Ok x) es e one other before sides few small minus mid new_one new_other pairs pushed stays a b all paired same =
    let signs = minus_sign e.quantity minus in
    sides_sold es e one other before sides few small signs.0 signs.1 mid new_one new_other pairs pushed stays
    (record { one_same = a; other_same = b; all = all; paired = paired; same = same })
done_sold (Err x) es e one other before sides few small minus mid new_one new_other pairs pushed stays a b all paired same =
    tt

-- where a test says that a list is empty, it is
pub is_none : {X : Type 0} (all : List X) (r : Bool) → r ≡ eqb (length all) 0 → r ≡ true → all ≡ []
is_none all r is holds = nil_from_length all (eqb-true (length all) 0 (sym is ∙ holds))

pub is_some : {X : Type 0} (all : List X) (r : Bool) → r ≡ eqb (length all) 0 → r ≡ false → all ≡ [] → ⊥
is_some all r is fails none = eqb-false (length all) 0 (sym is ∙ fails) (ap length none)
