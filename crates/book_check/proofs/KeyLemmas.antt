-- Keys of things that may stand once, as their order compares them.
use Rattle.std.proofs.Common.{◌≡◌, Ordering, ◌==◌, nat_eq, Bool, true, false, ◌&&◌, Option, Some, None, refl}
use Rattle.std.proofs.Common.{sym, ap, ◌∙◌}
use Rattle.std.specs.Cmp.Lexicographic.{slice_cmp}
use Rattle.std.specs.Cmp.{int_eq_equiv, nat_eq_equiv, tied_then, unsigned_tied}
use Rattle.std.specs.Option.{option_cmp, option_eq}
use Rattle.std.specs.Bool.{beq}
use Rattle.std.specs.Ordering.{bool_cmp, int_cmp, int_eq, is_eq, nat_cmp, ordering_then}
use Rattle.std.proofs.lemmas.Map.Text.{is_eq-slice_cmp}
use lib.Pointwise.{pointwise}
use Rattle.book_check.specs.Keys.{account_keys, binding_keys, commodity_keys, line_keys, price_keys, statement_keys}
use Rattle.book_check.specs.Walk.{Ties}

-- two comparisons one after another
then_is :
    (a b : Ordering) (p q : Bool) → is_eq a ≡ p → is_eq b ≡ q → is_eq (ordering_then a b) ≡ (p && q)
then_is a b p q e f = sym (tied_then a b) ∙ ap (λ t. t && is_eq b) e ∙ ap (λ t. p && t) f

option_is :
    {T : Type 0} (cmp : T → T → Ordering) (same : T → T → Bool) (ties : (x y : T) → is_eq (cmp x y) ≡ same x y)
    (a b : Option T) → is_eq (option_cmp cmp a b) ≡ option_eq same a b
option_is cmp same ties None None = refl
option_is cmp same ties None (Some y) = refl
option_is cmp same ties (Some x) None = refl
option_is cmp same ties (Some x) (Some y) = ties x y

bool_is : (a b : Bool) → is_eq (bool_cmp a b) ≡ beq a b
bool_is true true = refl
bool_is true false = refl
bool_is false true = refl
bool_is false false = refl

pub account_ties : Ties account_keys
account_ties one other =
    then_is (option_cmp nat_cmp one.0 other.0) (slice_cmp nat_cmp one.1.now other.1.now)
    (option_eq nat_eq one.0 other.0) (pointwise nat_eq one.1.now other.1.now)
    (option_is nat_cmp nat_eq unsigned_tied one.0 other.0) (is_eq-slice_cmp one.1.now other.1.now)

pub commodity_ties : Ties commodity_keys
commodity_ties one other =
    then_is (slice_cmp nat_cmp one.0.now other.0.now) (slice_cmp nat_cmp one.1.now other.1.now)
    (pointwise nat_eq one.0.now other.0.now) (pointwise nat_eq one.1.now other.1.now)
    (is_eq-slice_cmp one.0.now other.0.now) (is_eq-slice_cmp one.1.now other.1.now)

and_assoc : (a b c : Bool) → ((a && b) && c) ≡ (a && (b && c))
and_assoc true b c = refl
and_assoc false b c = refl

pub price_ties : Ties price_keys
price_ties one other =
    then_is (ordering_then (nat_cmp one.0 other.0) (nat_cmp one.1 other.1)) (int_cmp one.2 other.2)
    ((one.0 == other.0) && (one.1 == other.1)) (int_eq one.2 other.2)
    (then_is (nat_cmp one.0 other.0) (nat_cmp one.1 other.1) (one.0 == other.0) (one.1 == other.1)
    (unsigned_tied one.0 other.0) (unsigned_tied one.1 other.1))
    refl
    ∙ and_assoc (one.0 == other.0) (one.1 == other.1) (int_eq one.2 other.2)
    ∙ ap (λ t. t && ((one.1 == other.1) && int_eq one.2 other.2)) (nat_eq_equiv.symm one.0 other.0)
    ∙ ap (λ t. (other.0 == one.0) && (t && int_eq one.2 other.2)) (nat_eq_equiv.symm one.1 other.1)
    ∙ ap (λ t. (other.0 == one.0) && ((other.1 == one.1) && t)) (int_eq_equiv.symm one.2 other.2)

pub binding_ties : Ties binding_keys
binding_ties one other = is_eq-slice_cmp one.now other.now

seven :
    (a b c d e f g : Bool)
    → ((((((a && b) && c) && d) && e) && f) && g) ≡ (a && (b && (c && (d && (e && (f && g))))))
seven false b c d e f g = refl
seven true false c d e f g = refl
seven true true false d e f g = refl
seven true true true false e f g = refl
seven true true true true false f g = refl
seven true true true true true false g = refl
seven true true true true true true g = refl

pub statement_ties : Ties statement_keys
statement_ties one other =
    let a = one.0 == other.0 in
    let b = pointwise nat_eq one.1.now other.1.now in
    let c = pointwise nat_eq one.2.now other.2.now in
    let d = option_eq int_eq one.3 other.3 in
    let e = option_eq int_eq one.4 other.4 in
    let f = int_eq one.5 other.5 in
    let g = option_eq beq one.6 other.6 in
    then_is _ (option_cmp bool_cmp one.6 other.6) (((((a && b) && c) && d) && e) && f) g
    (then_is _ (int_cmp one.5 other.5) ((((a && b) && c) && d) && e) f
    (then_is _ (option_cmp int_cmp one.4 other.4) (((a && b) && c) && d) e
    (then_is _ (option_cmp int_cmp one.3 other.3) ((a && b) && c) d
    (then_is _ (slice_cmp nat_cmp one.2.now other.2.now) (a && b) c
    (then_is (nat_cmp one.0 other.0) (slice_cmp nat_cmp one.1.now other.1.now) a b
    (unsigned_tied one.0 other.0) (is_eq-slice_cmp one.1.now other.1.now))
    (is_eq-slice_cmp one.2.now other.2.now))
    (option_is int_cmp int_eq (λ x y. refl) one.3 other.3))
    (option_is int_cmp int_eq (λ x y. refl) one.4 other.4))
    refl)
    (option_is bool_cmp beq bool_is one.6 other.6)
    ∙ seven a b c d e f g

eight :
    (a b c e f g h o : Bool)
    → ((((a && b) && c) && (((e && f) && g) && h)) && o) ≡ (a && (b && (c && (e && (f && (g && (h && o)))))))
eight false b c e f g h o = refl
eight true false c e f g h o = refl
eight true true false e f g h o = refl
eight true true true false f g h o = refl
eight true true true true false g h o = refl
eight true true true true true false h o = refl
eight true true true true true true false o = refl
eight true true true true true true true o = refl

pub line_ties : Ties line_keys
line_ties one other =
    let a = one.0.0 == other.0.0 in
    let b = int_eq one.0.1 other.0.1 in
    let c = int_eq one.0.2 other.0.2 in
    let e = pointwise nat_eq one.1.0.now other.1.0.now in
    let f = pointwise nat_eq one.1.1.now other.1.1.now in
    let g = pointwise nat_eq one.1.2.now other.1.2.now in
    let h = pointwise nat_eq one.1.3.now other.1.3.now in
    let o = one.2 == other.2 in
    let first = ordering_then (ordering_then (nat_cmp one.0.0 other.0.0) (int_cmp one.0.1 other.0.1))
    (int_cmp one.0.2 other.0.2) in
    let two = ordering_then (slice_cmp nat_cmp one.1.0.now other.1.0.now)
    (slice_cmp nat_cmp one.1.1.now other.1.1.now) in
    let three = ordering_then two (slice_cmp nat_cmp one.1.2.now other.1.2.now) in
    let texts = ordering_then three (slice_cmp nat_cmp one.1.3.now other.1.3.now) in
    then_is (ordering_then first texts) (nat_cmp one.2 other.2) (((a && b) && c) && (((e && f) && g) && h)) o
    (then_is first texts ((a && b) && c) (((e && f) && g) && h)
    (then_is (ordering_then (nat_cmp one.0.0 other.0.0) (int_cmp one.0.1 other.0.1)) (int_cmp one.0.2 other.0.2)
    (a && b) c
    (then_is (nat_cmp one.0.0 other.0.0) (int_cmp one.0.1 other.0.1) a b (unsigned_tied one.0.0 other.0.0) refl) refl)
    (then_is three (slice_cmp nat_cmp one.1.3.now other.1.3.now) ((e && f) && g) h
    (then_is two (slice_cmp nat_cmp one.1.2.now other.1.2.now) (e && f) g
    (then_is (slice_cmp nat_cmp one.1.0.now other.1.0.now) (slice_cmp nat_cmp one.1.1.now other.1.1.now) e f
    (is_eq-slice_cmp one.1.0.now other.1.0.now) (is_eq-slice_cmp one.1.1.now other.1.1.now))
    (is_eq-slice_cmp one.1.2.now other.1.2.now))
    (is_eq-slice_cmp one.1.3.now other.1.3.now)))
    (unsigned_tied one.2 other.2)
    ∙ eight a b c e f g h o
