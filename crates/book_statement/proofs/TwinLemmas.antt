-- Lines that were seen, as a map from what equal lines have in common to how many of them there were.
use Rattle.std.proofs.Common.{◌≡◌, Ordering, ℕ, ℤ, ◌+◌, ◌<◌, Bool, true, false, cond, List, length, take, count_by}
use Rattle.std.proofs.Common.{get_or, Bor, Some, unwrap_or, refl, sym, ap, ◌∙◌}
use Rattle.std.specs.Prelude.{◌&&◌}
use Rattle.std.proofs.lemmas.Bool.{and_parts}
use Rattle.std.specs.BTreeMap.{BTreeMap, get}
use Rattle.std.specs.Cmp.{both_tied}
use Rattle.std.specs.Cmp.Lexicographic.{slice_cmp}
use Rattle.std.specs.Ordering.{is_eq, int_eq, int_cmp, nat_cmp, ordering_then}
use Rattle.std.proofs.lemmas.Bool.Decides.{Decides-int_eq}
use Rattle.std.proofs.lemmas.List.Sums.{count_by_more_no, count_by_more_yes}
use Rattle.std.proofs.lemmas.Map.Text.{is_eq-slice_cmp}
use Rattle.std.proofs.lemmas.Slice.Eq.{bytes_eq-Decides}
use Rattle.book_statement.specs.declared.statement_line.StatementLine.{StatementLine}
use Rattle.book_statement.specs.Keys.{has_parts, is_twin, same_text}

-- what equal lines have in common, as the map's key
abbrev pub Twin : Type 0
Twin = ℤ × ℤ × Bor (List ℕ) × Bor (List ℕ) × Bor (List ℕ) × Bor (List ℕ)

-- the order of the keys
abbrev pub twin_cmp : Twin → Twin → Ordering
twin_cmp x y =
    ordering_then (ordering_then (ordering_then (ordering_then (ordering_then (int_cmp x.0 y.0) (int_cmp x.1 y.1))
    (slice_cmp nat_cmp x.2.now y.2.now)) (slice_cmp nat_cmp x.3.now y.3.now)) (slice_cmp nat_cmp x.4.now y.4.now))
    (slice_cmp nat_cmp x.5.now y.5.now)

-- whether a line has this key
abbrev pub has_twin : Twin → StatementLine → Bool
has_twin twin = has_parts twin.0 twin.1 twin.2.now twin.3.now twin.4.now twin.5.now

-- a key is that of a line
pub record IsTwinOf (twin : Twin) (line : StatementLine) : Type 0 where
  pub day : twin.0 ≡ line.day
  pub amount : twin.1 ≡ line.amount
  pub kind : twin.2.now ≡ line.kind
  pub own : twin.3.now ≡ line.ref_own
  pub bank : twin.4.now ≡ line.ref_bank
  pub text : twin.5.now ≡ line.text

-- parts of a conjunction, from the left
regrouped : (a b c d e f : Bool) → (((((a && b) && c) && d) && e) && f) ≡ (a && (b && (c && (d && (e && f)))))
regrouped false b c d e f = refl
regrouped true false c d e f = refl
regrouped true true false d e f = refl
regrouped true true true false e f = refl
regrouped true true true true false f = refl
regrouped true true true true true f = refl

-- equal in the order, where each part is
then_is : (a b c d e f : Ordering)
    → is_eq (ordering_then (ordering_then (ordering_then (ordering_then (ordering_then a b) c) d) e) f)
    ≡ (is_eq a && (is_eq b && (is_eq c && (is_eq d && (is_eq e && is_eq f)))))
then_is a b c d e f =
    sym (both_tied _ _ _ f (both_tied _ _ _ e
    (both_tied _ _ _ d (both_tied _ _ _ c (both_tied _ _ a b refl refl) refl) refl) refl) refl)
    ∙ regrouped (is_eq a) (is_eq b) (is_eq c) (is_eq d) (is_eq e) (is_eq f)

-- functions of six values that are the same
six : {X : Type 0} (f : ℤ → ℤ → List ℕ → List ℕ → List ℕ → List ℕ → X) {a a' b b' : ℤ} {k k' o o' r r' t t' : List ℕ}
    → a ≡ a' → b ≡ b' → k ≡ k' → o ≡ o' → r ≡ r' → t ≡ t' → f a b k o r t ≡ f a' b' k' o' r' t'
six f {a} {a'} {b} {b'} {k} {k'} {o} {o'} {r} {r'} {t} {t'} ea eb ek eo er et =
    ap (λ x. f x b k o r t) ea ∙ ap (λ x. f a' x k o r t) eb ∙ ap (λ x. f a' b' x o r t) ek
    ∙ ap (λ x. f a' b' k' x r t) eo ∙ ap (λ x. f a' b' k' o' x t) er ∙ ap (f a' b' k' o' r') et

-- a conjunction whose last four parts are the same
four : (a b : Bool) {c c' d d' e e' f f' : Bool} → c ≡ c' → d ≡ d' → e ≡ e' → f ≡ f'
    → (a && (b && (c && (d && (e && f))))) ≡ (a && (b && (c' && (d' && (e' && f')))))
four a b {c} {c'} {d} {d'} {e} {e'} {f} {f'} ec ed ee ef =
    ap (λ x. a && (b && (x && (d && (e && f))))) ec ∙ ap (λ x. a && (b && (c' && (x && (e && f))))) ed
    ∙ ap (λ x. a && (b && (c' && (d' && (x && f))))) ee ∙ ap (λ x. a && (b && (c' && (d' && (e' && x))))) ef

-- the key of a line is equal to a key that the line has, and to no other
pub twin-is : (k q : Twin) (line : StatementLine) → IsTwinOf k line → is_eq (twin_cmp k q) ≡ has_twin q line
twin-is k q line of =
    then_is (int_cmp k.0 q.0) (int_cmp k.1 q.1) (slice_cmp nat_cmp k.2.now q.2.now) (slice_cmp nat_cmp k.3.now q.3.now)
    (slice_cmp nat_cmp k.4.now q.4.now) (slice_cmp nat_cmp k.5.now q.5.now)
    ∙ four (int_eq k.0 q.0) (int_eq k.1 q.1) (is_eq-slice_cmp k.2.now q.2.now) (is_eq-slice_cmp k.3.now q.3.now)
    (is_eq-slice_cmp k.4.now q.4.now) (is_eq-slice_cmp k.5.now q.5.now)
    ∙ six (λ a b k2 o r t. int_eq a q.0
    && (int_eq b q.1 && (same_text k2 q.2.now
    && (same_text o q.3.now && (same_text r q.4.now && same_text t q.5.now)))))
    of.day of.amount of.kind of.own of.bank of.text

-- a key that a line has counts the lines equal to it
pub count-has : (q : Twin) (line : StatementLine) (lines : List StatementLine) → has_twin q line ≡ true
    → count_by (has_twin q) lines ≡ count_by (is_twin line) lines
count-has q line lines e =
    let p = and_parts (int_eq line.day q.0) _ e in
    let r = and_parts (int_eq line.amount q.1) _ p.1 in
    let s = and_parts (same_text line.kind q.2.now) _ r.1 in
    let t = and_parts (same_text line.ref_own q.3.now) _ s.1 in
    let u = and_parts (same_text line.ref_bank q.4.now) _ t.1 in
    sym (six (λ a b k o r t. count_by (has_parts a b k o r t) lines)
    ((Decides-int_eq line.day q.0).0 p.0) ((Decides-int_eq line.amount q.1).0 r.0)
    ((bytes_eq-Decides line.kind q.2.now).0 s.0)
    ((bytes_eq-Decides line.ref_own q.3.now).0 t.0) ((bytes_eq-Decides line.ref_bank q.4.now).0 u.0)
    ((bytes_eq-Decides line.text q.5.now).0 u.1))

-- the key of a line counts the lines equal to it
pub count-own : (k : Twin) (line : StatementLine) (lines : List StatementLine) → IsTwinOf k line
    → count_by (has_twin k) lines ≡ count_by (is_twin line) lines
count-own k line lines of =
    six (λ a b k o r t. count_by (has_parts a b k o r t) lines) of.day of.amount of.kind of.own of.bank of.text

-- one line more in the map
pub twins-next : (q k : Twin) (line : StatementLine) (lines : List StatementLine) (i ordinal : ℕ)
    (m n : BTreeMap Twin ℕ)
    → IsTwinOf k line → i < length lines → line ≡ get_or lines i line
    → unwrap_or (get twin_cmp m q) 0 ≡ count_by (has_twin q) (take i lines)
    → ordinal ≡ count_by (is_twin line) (take i lines)
    → get twin_cmp n q ≡ cond (is_eq (twin_cmp k q)) (Some (ordinal + 1)) (get twin_cmp m q)
    → unwrap_or (get twin_cmp n q) 0 ≡ count_by (has_twin q) (take (i + 1) lines)
twins-next q k line lines i ordinal m n of within item before ordinal_is now_is =
    go (has_twin q line) refl
  where
    at : get twin_cmp n q ≡ cond (has_twin q line) (Some (ordinal + 1)) (get twin_cmp m q)
    at = now_is ∙ ap (λ b. cond b (Some (ordinal + 1)) (get twin_cmp m q)) (twin-is k q line of)

    go : (b : Bool) → has_twin q line ≡ b → unwrap_or (get twin_cmp n q) 0 ≡ count_by (has_twin q) (take (i + 1) lines)
    go true e =
        ap (λ o. unwrap_or o 0) (at ∙ ap (λ b. cond b (Some (ordinal + 1)) (get twin_cmp m q)) e)
        ∙ ap (λ c. c + 1) (ordinal_is ∙ sym (count-has q line (take i lines) e))
        ∙ sym (count_by_more_yes (has_twin q) lines i line within (ap (has_twin q) (sym item) ∙ e))
    go false e =
        ap (λ o. unwrap_or o 0) (at ∙ ap (λ b. cond b (Some (ordinal + 1)) (get twin_cmp m q)) e)
        ∙ before
        ∙ sym (count_by_more_no (has_twin q) lines i line within (ap (has_twin q) (sym item) ∙ e))
