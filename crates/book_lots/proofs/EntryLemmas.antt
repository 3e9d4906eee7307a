-- The splits of a register's entries, and what one more entry, or fewer, does to them.
use Rattle.std.proofs.Common.{◌≡◌, ℕ, zero, suc, ◌+◌, ◌*◌, ◌≤◌, Bool, true, false, ℤ, pos}
use Rattle.std.proofs.Common.{negsuc, ◌+ℤ◌, ◌-ℤ◌, List, [], ◌∷◌, ◌++◌, length, take, refl, sym, ap, ◌∙◌, subst}
use Rattle.std.proofs.Common.{arith, unsigned_abs, ⊎_elim, ◌⊎◌, inl, inr, append_assoc}
use Rattle.std.specs.Prelude.{int_lt}
use Rattle.std.specs.List.{All}
use Rattle.std.specs.Ordering.{int_eq}
use Rattle.std.proofs.lemmas.Bool.{cond-false, cond-true, false≢true, le-ltb, lt-ltb, false_from_ne_true}
use Rattle.std.proofs.lemmas.Bool.Decides.{Decides-int_eq}
use Rattle.std.proofs.lemmas.Int.{ints}
use Rattle.std.proofs.lemmas.List.{append-nil, take_at}
use Rattle.std.proofs.lemmas.List.Elements.{All-head, All-tail}
use Rattle.book_limits.specs.Limits.{largest_split_amount, largest_sum}
use Rattle.book_register.specs.declared.entry.Entry.{Entry}
use Rattle.book_lots.specs.Lots.{IsSmall, adjustments_of, all_gains, bought_in, cost_of, lots_of, lots_past, numbered}
use Rattle.book_lots.specs.Lots.{open_past, pairs_between, pairs_of, sold_in, stretch_at, units_of, value_of}
use Rattle.book_lots.specs.Sides.{AreInLine, paired_in}
use Rattle.book_lots.specs.declared.pair.Pair.{Pair}
use Rattle.book_lots.proofs.PairLemmas.{minus_pushed, plus_pushed}
use Rattle.book_lots.proofs.ShareLemmas.{cost_of-append, values_between, values_of}

abbrev pub buys : Entry → Bool
buys entry = int_lt (pos 0) entry.quantity

abbrev pub sells : Entry → Bool
sells entry = int_lt entry.quantity (pos 0)

abbrev pub has_none : Entry → Bool
has_none entry = int_eq entry.quantity (pos 0)

-- ---- the picked splits
pub numbered_yes : (picks : Entry → Bool) (k a : ℕ) (e : Entry) (es : List Entry) → picks e ≡ true
    → numbered picks k a (e ∷ es) ≡ stretch_at k a e ∷ numbered picks (k + 1) (a + unsigned_abs e.quantity) es
numbered_yes picks k a e es is = cond-true _ _ _ is

pub numbered_no : (picks : Entry → Bool) (k a : ℕ) (e : Entry) (es : List Entry) → picks e ≡ false
    → numbered picks k a (e ∷ es) ≡ numbered picks (k + 1) a es
numbered_no picks k a e es is = cond-false _ _ _ is

pub either : (t : Bool) → (t ≡ true) ⊎ (t ≡ false)
either true = inl refl
either false = inr refl

pub numbered-append : (picks : Entry → Bool) (k a : ℕ) (one other : List Entry)
    → numbered picks k a (one ++ other) ≡ numbered picks k a one
    ++ numbered picks (k + length one) (a + units_of (numbered picks k a one)) other
numbered-append picks k a [] other =
    ap (λ n. numbered picks n a other) (omega arith) ∙ ap (λ n. numbered picks (k + 0) n other) (omega arith)
numbered-append picks k a (e ∷ es) other =
    ⊎_elim
    (λ is. numbered_yes picks k a e (es ++ other) is
    ∙ ap (λ l. stretch_at k a e ∷ l) (numbered-append picks (k + 1) (a + unsigned_abs e.quantity) es other)
    ∙ ap (λ n. stretch_at k a e ∷ (numbered picks (k + 1) (a + unsigned_abs e.quantity) es ++ numbered picks n
    ((a + unsigned_abs e.quantity) + units_of (numbered picks (k + 1) (a + unsigned_abs e.quantity) es)) other))
    (let same : (k + 1) + length es ≡ k + length (e ∷ es) = omega arith in same)
    ∙ ap (λ n. stretch_at k a e ∷ (numbered picks (k + 1) (a + unsigned_abs e.quantity) es
    ++ numbered picks (k + length (e ∷ es)) n other))
    (let same : (a + unsigned_abs e.quantity) + units_of (numbered picks (k + 1) (a + unsigned_abs e.quantity) es)
    ≡ a + units_of (stretch_at k a e ∷ numbered picks (k + 1) (a + unsigned_abs e.quantity) es) = omega arith in
    same)
    ∙ ap (λ l. l ++ numbered picks (k + length (e ∷ es)) (a + units_of l) other) (sym (numbered_yes picks k a e es is)))
    (λ is. numbered_no picks k a e (es ++ other) is ∙ numbered-append picks (k + 1) a es other
    ∙ ap (λ n. numbered picks (k + 1) a es
    ++ numbered picks n (a + units_of (numbered picks (k + 1) a es)) other)
    (let same : (k + 1) + length es ≡ k + length (e ∷ es) = omega arith in same)
    ∙ ap (λ l. l ++ numbered picks (k + length (e ∷ es)) (a + units_of l) other) (sym (numbered_no picks k a e es is)))
    (either (picks e))

pub numbered_in_line : (picks : Entry → Bool) (any : (e : Entry) → picks e ≡ true → 1 ≤ unsigned_abs e.quantity)
    (k a : ℕ) (es : List Entry) → AreInLine a (numbered picks k a es)
numbered_in_line picks any k a [] = tt
numbered_in_line picks any k a (e ∷ es) =
    ⊎_elim
    (λ is. subst (AreInLine a) (sym (numbered_yes picks k a e es is))
    (refl, (any e is, numbered_in_line picks any (k + 1) (a + unsigned_abs e.quantity) es)))
    (λ is. subst (AreInLine a) (sym (numbered_no picks k a e es is)) (numbered_in_line picks any (k + 1) a es))
    (either (picks e))

-- ---- the sign of a quantity
abbrev IsOne : ℤ → Type 0
IsOne q = ((int_lt (pos 0) q ≡ true) × ((int_lt q (pos 0) ≡ false) × (int_eq q (pos 0) ≡ false)))
    ⊎ (((int_lt (pos 0) q ≡ false) × ((int_lt q (pos 0) ≡ true) × (int_eq q (pos 0) ≡ false)))
    ⊎ ((int_lt (pos 0) q ≡ false) × ((int_lt q (pos 0) ≡ false) × (int_eq q (pos 0) ≡ true))))

no_zero : (n : ℕ) → int_eq (pos (suc n)) (pos 0) ≡ false
no_zero n = false_from_ne_true _
    (λ is. (let same : pos (suc n) ≡ pos 0 = (Decides-int_eq (pos (suc n)) (pos 0)).0 is in cc))

sign : (q : ℤ) → IsOne q
sign (pos zero) = inr (inr (refl, (refl, refl)))
sign (pos (suc n)) =
    inl (lt-ltb 0 (suc n) (omega arith), (le-ltb (suc n) 0 (omega arith), no_zero n))
sign (negsuc n) = inr (inl (refl, (refl, refl)))

pub plus_any : (q : ℤ) → int_lt (pos 0) q ≡ true → 1 ≤ unsigned_abs q
plus_any (pos zero) is = absurd (false≢true is)
plus_any (pos (suc n)) is = omega arith
plus_any (negsuc n) is = omega arith

pub minus_any : (q : ℤ) → int_lt q (pos 0) ≡ true → 1 ≤ unsigned_abs q
minus_any (pos zero) is = absurd (false≢true is)
minus_any (pos (suc n)) is = omega arith
minus_any (negsuc n) is = omega arith

pub bought_line : (es : List Entry) → AreInLine 0 (bought_in es)
unfolding bought_in
bought_line es = numbered_in_line buys (λ e is. plus_any e.quantity is) 0 0 es

pub sold_line : (es : List Entry) → AreInLine 0 (sold_in es)
unfolding sold_in
sold_line es = numbered_in_line sells (λ e is. minus_any e.quantity is) 0 0 es

-- ---- one more entry
pub bought_more : (es : List Entry) (e : Entry) → int_lt (pos 0) e.quantity ≡ true
    → bought_in (es ++ e ∷ []) ≡ bought_in es ++ stretch_at (length es) (units_of (bought_in es)) e ∷ []
unfolding bought_in
bought_more es e is =
    numbered-append buys 0 0 es (e ∷ [])
    ∙ ap (λ l. numbered buys 0 0 es ++ l)
    (numbered_yes buys (0 + length es) (0 + units_of (numbered buys 0 0 es)) e [] is
    ∙ ap (λ n. stretch_at n (0 + units_of (numbered buys 0 0 es)) e ∷ []) (omega arith)
    ∙ ap (λ n. stretch_at (length es) n e ∷ []) (omega arith))

pub bought_same : (es : List Entry) (e : Entry) → int_lt (pos 0) e.quantity ≡ false
    → bought_in (es ++ e ∷ []) ≡ bought_in es
unfolding bought_in
bought_same es e is =
    numbered-append buys 0 0 es (e ∷ [])
    ∙ ap (λ l. numbered buys 0 0 es ++ l)
    (numbered_no buys (0 + length es) (0 + units_of (numbered buys 0 0 es)) e [] is)
    ∙ append-nil (numbered buys 0 0 es)

pub sold_more : (es : List Entry) (e : Entry) → int_lt e.quantity (pos 0) ≡ true
    → sold_in (es ++ e ∷ []) ≡ sold_in es ++ stretch_at (length es) (units_of (sold_in es)) e ∷ []
unfolding sold_in
sold_more es e is =
    numbered-append sells 0 0 es (e ∷ [])
    ∙ ap (λ l. numbered sells 0 0 es ++ l)
    (numbered_yes sells (0 + length es) (0 + units_of (numbered sells 0 0 es)) e [] is
    ∙ ap (λ n. stretch_at n (0 + units_of (numbered sells 0 0 es)) e ∷ []) (omega arith)
    ∙ ap (λ n. stretch_at (length es) n e ∷ []) (omega arith))

pub sold_same : (es : List Entry) (e : Entry) → int_lt e.quantity (pos 0) ≡ false
    → sold_in (es ++ e ∷ []) ≡ sold_in es
unfolding sold_in
sold_same es e is =
    numbered-append sells 0 0 es (e ∷ [])
    ∙ ap (λ l. numbered sells 0 0 es ++ l)
    (numbered_no sells (0 + length es) (0 + units_of (numbered sells 0 0 es)) e [] is)
    ∙ append-nil (numbered sells 0 0 es)

-- ---- fewer entries
pub bought_front : (one other : List Entry)
    → take (length (bought_in one)) (bought_in (one ++ other)) ≡ bought_in one
unfolding bought_in
bought_front one other =
    ap (take (length (numbered buys 0 0 one))) (numbered-append buys 0 0 one other)
    ∙ take_at (numbered buys 0 0 one) _ (length (numbered buys 0 0 one)) refl

pub sold_front : (one other : List Entry) → take (length (sold_in one)) (sold_in (one ++ other)) ≡ sold_in one
unfolding sold_in
sold_front one other =
    ap (take (length (numbered sells 0 0 one))) (numbered-append sells 0 0 one other)
    ∙ take_at (numbered sells 0 0 one) _ (length (numbered sells 0 0 one)) refl

-- ---- the pairs that one more entry adds
pub pairs_bought : (es : List Entry) (e : Entry) → int_lt (pos 0) e.quantity ≡ true
    → int_lt e.quantity (pos 0) ≡ false
    → pairs_of (es ++ e ∷ []) ≡ pairs_of es
    ++ pairs_between (open_past (paired_in es) (bought_in es ++ stretch_at (length es) (units_of (bought_in es)) e ∷ []))
    (open_past (paired_in es) (sold_in es))
unfolding pairs_of
pairs_bought es e is other =
    ap (λ l. pairs_between l (sold_in (es ++ e ∷ []))) (bought_more es e is)
    ∙ ap (pairs_between (bought_in es ++ stretch_at (length es) (units_of (bought_in es)) e ∷ [])) (sold_same es e other)
    ∙ plus_pushed (stretch_at (length es) (units_of (bought_in es)) e) (bought_in es) (sold_in es) (paired_in es)
    (bought_line es) (sold_line es) refl (plus_any e.quantity is) refl

pub pairs_sold : (es : List Entry) (e : Entry) → int_lt (pos 0) e.quantity ≡ false
    → int_lt e.quantity (pos 0) ≡ true
    → pairs_of (es ++ e ∷ []) ≡ pairs_of es ++ pairs_between (open_past (paired_in es) (bought_in es))
    (open_past (paired_in es) (sold_in es ++ stretch_at (length es) (units_of (sold_in es)) e ∷ []))
unfolding pairs_of
pairs_sold es e other is =
    ap (λ l. pairs_between l (sold_in (es ++ e ∷ []))) (bought_same es e other)
    ∙ ap (pairs_between (bought_in es)) (sold_more es e is)
    ∙ minus_pushed (stretch_at (length es) (units_of (sold_in es)) e) (bought_in es) (sold_in es) (paired_in es)
    (bought_line es) (sold_line es) refl (minus_any e.quantity is) refl

pub pairs_same : (es : List Entry) (e : Entry) → int_lt (pos 0) e.quantity ≡ false
    → int_lt e.quantity (pos 0) ≡ false → pairs_of (es ++ e ∷ []) ≡ pairs_of es
unfolding pairs_of
pairs_same es e one other =
    ap (λ l. pairs_between l (sold_in (es ++ e ∷ []))) (bought_same es e one)
    ∙ ap (pairs_between (bought_in es)) (sold_same es e other)

-- the earlier pairs stay in front
abbrev Begins : List Pair → List Pair → Type 0
Begins one other = (rest : List Pair) × (other ≡ one ++ rest)

pairs_begin_more : (es : List Entry) (e : Entry) → Begins (pairs_of es) (pairs_of (es ++ e ∷ []))
pairs_begin_more es e =
    ⊎_elim (λ is. (_, pairs_bought es e is.0 is.1.0))
    (λ other. ⊎_elim (λ is. (_, pairs_sold es e is.0 is.1.0))
    (λ is. ([], pairs_same es e is.0 is.1.0 ∙ sym (append-nil (pairs_of es)))) other)
    (sign e.quantity)

pairs_begin : (one other : List Entry) → Begins (pairs_of one) (pairs_of (one ++ other))
pairs_begin one [] = ([], ap pairs_of (append-nil one) ∙ sym (append-nil (pairs_of one)))
pairs_begin one (e ∷ es) =
    let first = pairs_begin_more one e in
    let rest = pairs_begin (one ++ e ∷ []) es in (
      first.0 ++ rest.0,
      ap pairs_of (sym (append_assoc one (e ∷ []) es)) ∙ rest.1 ∙ ap (λ l. l ++ rest.0) first.1
          ∙ append_assoc (pairs_of one) first.0 rest.0,
    )

pub pairs_front : (one other : List Entry) → take (length (pairs_of one)) (pairs_of (one ++ other)) ≡ pairs_of one
pairs_front one other =
    let begin = pairs_begin one other in
    ap (take (length (pairs_of one))) begin.1 ∙ take_at (pairs_of one) begin.0 (length (pairs_of one)) refl

-- ---- bounds
units_below : (picks : Entry → Bool) (k a : ℕ) (es : List Entry) → All IsSmall es
    → units_of (numbered picks k a es) ≤ largest_split_amount * length es
units_below picks k a [] small = omega arith
units_below picks k a (e ∷ es) small =
    let one : unsigned_abs e.quantity ≤ largest_split_amount = (All-head IsSmall e es small).quantity in
    let rest = All-tail IsSmall e es small in
    ⊎_elim
    (λ is. (let more = units_below picks (k + 1) (a + unsigned_abs e.quantity) es rest in
    let all = ap units_of (numbered_yes picks k a e es is) in omega (arith, more, all)))
    (λ is. (let more = units_below picks (k + 1) a es rest in
    let all = ap units_of (numbered_no picks k a e es is) in omega (arith, more, all)))
    (either (picks e))

pub bought_units : (es : List Entry) → All IsSmall es → length es ≤ 1_000_000 → units_of (bought_in es) ≤ largest_sum
unfolding bought_in
bought_units es small few = (let below = units_below buys 0 0 es small in omega (arith, below, few))

pub sold_units : (es : List Entry) → All IsSmall es → length es ≤ 1_000_000 → units_of (sold_in es) ≤ largest_sum
unfolding sold_in
sold_units es small few = (let below = units_below sells 0 0 es small in omega (arith, below, few))

-- ---- the law of values
values_yes : (k a : ℕ) (picks : Entry → Bool) (e : Entry) (es : List Entry) → picks e ≡ true
    → values_of (numbered picks k a (e ∷ es))
    ≡ e.value +ℤ values_of (numbered picks (k + 1) (a + unsigned_abs e.quantity) es)
values_yes k a picks e es is = ap values_of (numbered_yes picks k a e es is)

values_no : (k a : ℕ) (picks : Entry → Bool) (e : Entry) (es : List Entry) → picks e ≡ false
    → values_of (numbered picks k a (e ∷ es)) ≡ values_of (numbered picks (k + 1) a es)
values_no k a picks e es is = ap values_of (numbered_no picks k a e es is)

adjusted_yes : (e : Entry) (es : List Entry) → has_none e ≡ true
    → adjustments_of (e ∷ es) ≡ e.value +ℤ adjustments_of es
adjusted_yes e es is = ap value_of (cond-true _ _ _ is)

adjusted_no : (e : Entry) (es : List Entry) → has_none e ≡ false → adjustments_of (e ∷ es) ≡ adjustments_of es
adjusted_no e es is = ap value_of (cond-false _ _ _ is)

value_parts : (k a b : ℕ) (es : List Entry)
    → value_of es ≡ (values_of (numbered buys k a es) +ℤ values_of (numbered sells k b es)) +ℤ adjustments_of es
value_parts k a b [] = refl
value_parts k a b (e ∷ es) =
    ⊎_elim
    (λ is. (let rest = value_parts (k + 1) (a + unsigned_abs e.quantity) b es in
    let one = values_yes k a buys e es is.0 in let two = values_no k b sells e es is.1.0 in
    let three = adjusted_no e es is.1.1 in omega (arith, ints, rest, one, two, three)))
    (λ other. ⊎_elim
    (λ is. (let rest = value_parts (k + 1) a (b + unsigned_abs e.quantity) es in
    let one = values_no k a buys e es is.0 in let two = values_yes k b sells e es is.1.0 in
    let three = adjusted_no e es is.1.1 in omega (arith, ints, rest, one, two, three)))
    (λ is. (let rest = value_parts (k + 1) a b es in
    let one = values_no k a buys e es is.0 in let two = values_no k b sells e es is.1.0 in
    let three = adjusted_yes e es is.1.1 in omega (arith, ints, rest, one, two, three)))
    other)
    (sign e.quantity)

parts_of : (es : List Entry)
    → value_of es ≡ (values_of (bought_in es) +ℤ values_of (sold_in es)) +ℤ adjustments_of es
unfolding bought_in sold_in
parts_of es = value_parts 0 0 0 es

-- the sum of all values is what is open less all gains and with the adjustments
pub law : (es : List Entry)
    → value_of es ≡ (cost_of (lots_of es) -ℤ all_gains es) +ℤ adjustments_of es
unfolding pairs_of lots_of
law es =
    let parts = parts_of es in
    let between = values_between (bought_in es) (sold_in es) (bought_line es) (sold_line es) in
    let cost = cost_of-append (lots_past (units_of (sold_in es)) (bought_in es))
    (lots_past (units_of (bought_in es)) (sold_in es)) in
    omega (arith, ints, parts, between, cost)
