-- The order of keys.
use Rattle.std.proofs.Common.{◌≡◌, nat_lt, ℤ, pos, ◌+ℤ◌, ◌<ℤ◌, Bool, true, false, if◌then◌else◌, refl, sym, ◌∙◌, arith}
use Rattle.std.proofs.lemmas.Bool.Decides.{nat_tests, Decides-int_eq}
use Rattle.std.proofs.lemmas.Int.{by_lt_z, ints}
use Rattle.std.specs.Prelude.{int_le, int_lt}
use Rattle.book_register.specs.Register.{has_key, key_at, key_of, precedes}
use Rattle.book_register.specs.declared.entry.Entry.{Entry}
use Rattle.book_register.specs.declared.key.Key.{Key}

-- the order by one number, and where it is the same by what comes next
abbrev outer : ℤ → ℤ → Bool → Bool
outer x y next = if int_lt x y then true else (if int_lt y x then false else next)

abbrev inner : Key → Key → Bool
inner a b = if nat_lt a.txn b.txn then true else (if nat_lt b.txn a.txn then false else nat_lt a.place b.place)

inner-trans : (a b c : Key) → inner a b ≡ true → inner b c ≡ true → inner a c ≡ true
inner-trans a b c one two = grind (arith, nat_tests)

outer-less : (x y : ℤ) (next : Bool) → x <ℤ y → outer x y next ≡ true
outer-less x y next less = grind (arith, ints)

outer-same : (x y : ℤ) (next : Bool) → x ≡ y → outer x y next ≡ next
outer-same x y next same = grind (arith, ints)

outer-more : (x y : ℤ) (next : Bool) → y <ℤ x → outer x y next ≡ true → ⊥
outer-more x y next more is = (let no_less : outer x y next ≡ false = grind (arith, ints) in cc)

cases : {P : Type 0} (x y : ℤ) → (x <ℤ y → P) → (x ≡ y → P) → (y <ℤ x → P) → P
cases x y less same more =
    by_lt_z x y less (λ ge. by_lt_z y x more (λ le. same (omega (arith, ints, ge, le))))

outer-trans : (x y z : ℤ) (u v w : Bool) → (u ≡ true → v ≡ true → w ≡ true) → outer x y u ≡ true
    → outer y z v ≡ true → outer x z w ≡ true
outer-trans x y z u v w next one two =
    cases x y
    (λ xy. cases y z (λ yz. outer-less x z w (omega (arith, ints, xy, yz)))
    (λ yz. outer-less x z w (omega (arith, ints, xy, yz))) (λ yz. absurd (outer-more y z v yz two)))
    (λ xy. cases y z (λ yz. outer-less x z w (omega (arith, ints, xy, yz)))
    (λ yz. outer-same x z w (xy ∙ yz) ∙ next (sym (outer-same x y u xy) ∙ one) (sym (outer-same y z v yz) ∙ two))
    (λ yz. absurd (outer-more y z v yz two)))
    (λ xy. absurd (outer-more x y u xy one))

pub precedes-trans : (a b c : Key) → precedes a b ≡ true → precedes b c ≡ true → precedes a c ≡ true
precedes-trans a b c one two =
    outer-trans a.day b.day c.day (inner a b) (inner b c) (inner a c) (inner-trans a b c) one two

-- where the earlier of two isn't before a key, the later isn't either
pub precedes-past : (a b c : Key) → precedes a b ≡ true → precedes a c ≡ false → precedes b c ≡ false
precedes-past a b c one two = by_test (precedes b c) refl
  where
    by_test : (t : Bool) → precedes b c ≡ t → precedes b c ≡ false
    by_test true is = absurd (let both = precedes-trans a b c one is in cc)
    by_test false is = is

-- the day tells
pub precedes-until : (entry : Entry) (day : ℤ)
    → precedes (key_of entry) (key_at (day +ℤ pos 1) 0 0) ≡ int_le entry.day day
precedes-until entry day = grind (arith, ints, nat_tests)

-- a row that is before a key, or after it, doesn't stand at it
pub before-other : (key : Key) (entry : Entry) → precedes (key_of entry) key ≡ true → has_key key entry ≡ false
before-other key entry before = grind (arith, ints, nat_tests, Decides-int_eq)

pub after-other : (key : Key) (entry : Entry) → precedes key (key_of entry) ≡ true → has_key key entry ≡ false
after-other key entry after = grind (arith, ints, nat_tests, Decides-int_eq)

-- a row that isn't before a key and doesn't stand at it is after it
pub after-neither : (key : Key) (entry : Entry) → precedes (key_of entry) key ≡ false → has_key key entry ≡ false
    → precedes key (key_of entry) ≡ true
after-neither key entry before other = grind (arith, ints, nat_tests, Decides-int_eq)
