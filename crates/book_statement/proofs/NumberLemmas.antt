-- Laws of the numbers that digits spell.
use Rattle.std.proofs.Common.{
  ◌≡◌,
  ℕ,
  zero,
  suc,
  ◌+◌,
  ◌-◌,
  ◌*◌,
  ◌/◌,
  ◌%◌,
  ◌^◌,
  ◌<◌,
  ◌≤◌,
  Bool,
  true,
  List,
  [],
  ◌∷◌,
  ◌++◌,
  length,
  take,
  drop,
  get_or,
  Some,
  None,
  refl,
  sym,
  ap,
  ◌∙◌,
  arith,
  add-one,
}
use Rattle.std.specs.Prelude.{nat_le, ◌&&◌, ◌==◌, fold}
use Rattle.std.proofs.lemmas.List.{at_drop_more}
use Rattle.std.proofs.Math.Nat.{pow-suc, add-mul, pow-le-pow_right}
use Rattle.std.proofs.lemmas.Bool.{and_parts, and_from, leb-true, ne_eqb, eq-eqb, lt-leb, le-leb}
use Rattle.std.specs.List.{list_all}
use Rattle.std.specs.Char.{is_ascii_digit}
use Rattle.book_statement.specs.Checks.{Check, check, first_bad}
use Rattle.book_statement.specs.declared.bad.Bad.TheVariants.{TooManyDecimals, AmountForm}
use Rattle.book_statement.specs.Numbers.{
  units,
  unit_checks,
  fine_units,
  largest_amount,
  number,
  has_digits,
}

-- the number of digits behind a number that others before them spelled, digit by digit
unfoldable pub number_onto : ℕ → List ℕ → ℕ
number_onto before digits = fold (λ number digit. number * 10 + (digit - 48)) before digits

shifted : (n d p q r : ℕ) → q ≡ p * 10 → (n * 10 + d) * p + r ≡ n * q + (d * p + r)
shifted n d p q r e = rw (e, add-mul) (omega arith)

-- what stands before the digits is moved up by their count
pub number_onto-split : (n : ℕ) (ds : List ℕ) → number_onto n ds ≡ n * 10 ^ length ds + number ds
unfolding number_onto number
number_onto-split n [] = omega arith
number_onto-split n (d ∷ ds) =
    number_onto-split (n * 10 + (d - 48)) ds
    ∙ shifted n (d - 48) (10 ^ length ds) (10 ^ length (d ∷ ds)) (number ds) (pow-suc 10 (length ds))

-- the digits alone
pub number_onto-none : (ds : List ℕ) → number_onto 0 ds ≡ number ds
number_onto-none ds = number_onto-split 0 ds ∙ omega arith

pub number_onto-append : (n : ℕ) (xs ys : List ℕ) → number_onto n (xs ++ ys) ≡ number_onto (number_onto n xs) ys
unfolding number_onto
number_onto-append n [] ys = refl
number_onto-append n (x ∷ xs) ys = number_onto-append (n * 10 + (x - 48)) xs ys

-- the number of two runs of digits, one behind the other
pub number-append : (xs ys : List ℕ) → number (xs ++ ys) ≡ number xs * 10 ^ length ys + number ys
number-append xs ys =
    sym (number_onto-none (xs ++ ys))
    ∙ number_onto-append 0 xs ys
    ∙ number_onto-split (number_onto 0 xs) ys
    ∙ ap (λ n. n * 10 ^ length ys + number ys) (number_onto-none xs)

-- digits are from 48 to 57
pub digit_range : (d : ℕ) → is_ascii_digit d ≡ true → (48 ≤ d) × (d ≤ 57)
digit_range d e = let p = and_parts (nat_le 48 d) (nat_le d 57) e in (leb-true 48 d p.0, leb-true d 57 p.1)

pub digit_at : (ds : List ℕ) (i : ℕ) → list_all is_ascii_digit ds ≡ true → i < length ds → (48 ≤ get_or ds i 0)
    × (get_or ds i 0 ≤ 57)
digit_at [] i e h = absurd (omega arith)
digit_at (d ∷ ds) zero e h = digit_range d (and_parts (is_ascii_digit d) (list_all is_ascii_digit ds) e).0
digit_at (d ∷ ds) (suc i) e h = digit_at ds i (and_parts (is_ascii_digit d) (list_all is_ascii_digit ds) e).1
    (omega arith)

-- parts of a list of which each item passes
pub list_all-take : {X : Type 0} (p : X → Bool) (n : ℕ) (xs : List X) → list_all p xs ≡ true
    → list_all p (take n xs) ≡ true
list_all-take p zero xs e = refl
list_all-take p (suc n) [] e = refl
list_all-take p (suc n) (x ∷ xs) e = let both = and_parts (p x) (list_all p xs) e in and_from (p x) _ both.0
    (list_all-take p n xs both.1)

pub list_all-drop : {X : Type 0} (p : X → Bool) (n : ℕ) (xs : List X) → list_all p xs ≡ true
    → list_all p (drop n xs) ≡ true
list_all-drop p zero xs e = e
list_all-drop p (suc n) [] e = refl
list_all-drop p (suc n) (x ∷ xs) e = list_all-drop p n xs (and_parts (p x) (list_all p xs) e).1

-- what has_digits says
pub record AreDigits (least most : ℕ) (text : List ℕ) : Type 0 where
  pub low : least ≤ length text
  pub high : length text ≤ most
  pub digits : list_all is_ascii_digit text ≡ true

pub are_digits : (least most : ℕ) (text : List ℕ) → has_digits least most text ≡ true → AreDigits least most text
are_digits least most text e =
    let outer = and_parts (nat_le least (length text) && nat_le (length text) most) (list_all is_ascii_digit text) e in
    let inner = and_parts (nat_le least (length text)) (nat_le (length text) most) outer.0 in
    record { low = leb-true least (length text) inner.0; high = leb-true (length text) most inner.1; digits = outer.1 }

-- a power of ten with a smaller exponent
pub power_below : (i j : ℕ) → i ≤ j → 10 ^ i ≤ 10 ^ j
power_below i j h = pow-le-pow_right {n = 10} (omega arith) h

-- one digit more
pub number_onto-digit : (n : ℕ) (ds : List ℕ) (i : ℕ) → i < length ds
    → number_onto n (drop i ds) ≡ number_onto (n * 10 + (get_or ds i 0 - 48)) (drop (i + 1) ds)
unfolding number_onto
number_onto-digit n ds i h = at_drop_more (λ l. number_onto n l) ds i 0 h

pub power_more : (n d i : ℕ) → n < 10 ^ i → d ≤ 9 → n * 10 + d < 10 ^ (i + 1)
power_more n d i h k = let up : 10 ^ (i + 1) ≡ 10 ^ i * 10 = ap (λ m. 10 ^ m) (add-one i)
    ∙ pow-suc 10 i in omega (arith, up)

-- the checks of an amount, by its fine units and their scale
abbrev pub checks_by : ℕ → ℕ → List Check
checks_by fine scale =
    check (fine % scale == 0) TooManyDecimals ∷ check (nat_le (fine / scale) largest_amount) AmountForm ∷ []

-- a decimal number by the numbers before and behind its mark
pub record IsDecimal (whole decimals : List ℕ) (fraction before behind scale fine : ℕ) : Type 0 where
  pub scaled : scale ≡ 10 ^ length decimals
  pub front : before ≡ number whole
  pub back : behind ≡ number decimals
  pub all : fine ≡ (before * scale + behind) * fraction

pub fine_units-by : (whole decimals : List ℕ) (fraction before behind scale fine : ℕ)
    → IsDecimal whole decimals fraction before behind scale fine
    → fine_units whole decimals fraction ≡ fine
fine_units-by whole decimals fraction before behind scale fine is =
    ap (λ n. n * fraction) (number-append whole decimals)
    ∙ sym (is.all ∙ ap (λ n. (n * scale + behind) * fraction) is.front
    ∙ ap (λ n. (number whole * scale + n) * fraction) is.back
    ∙ ap (λ n. (number whole * n + number decimals) * fraction) is.scaled)

pub unit_checks-by : (whole decimals : List ℕ) (fraction before behind scale fine : ℕ)
    → IsDecimal whole decimals fraction before behind scale fine
    → unit_checks whole decimals fraction ≡ checks_by fine scale
unfolding unit_checks units
unit_checks-by whole decimals fraction before behind scale fine is =
    ap (λ n. checks_by n (10 ^ length decimals)) (fine_units-by whole decimals fraction before behind scale fine is)
    ∙ ap (checks_by fine) (sym is.scaled)

pub units-by : (whole decimals : List ℕ) (fraction before behind scale fine : ℕ)
    → IsDecimal whole decimals fraction before behind scale fine
    → units whole decimals fraction ≡ fine / scale
unfolding units
units-by whole decimals fraction before behind scale fine is =
    ap (λ n. n / 10 ^ length decimals) (fine_units-by whole decimals fraction before behind scale fine is)
    ∙ ap (λ n. fine / n) (sym is.scaled)

pub too_fine : (fine scale : ℕ) → (fine % scale ≡ 0 → ⊥) → first_bad (checks_by fine scale) ≡ Some TooManyDecimals
too_fine fine scale h = rw (ne_eqb (fine % scale) 0 h) refl

pub too_large : (fine scale : ℕ) → fine % scale ≡ 0 → largest_amount < fine / scale
    → first_bad (checks_by fine scale) ≡ Some AmountForm
too_large fine scale whole h = rw (eq-eqb (fine % scale) 0 whole, lt-leb (fine / scale) largest_amount h) refl

pub sound_units : (fine scale : ℕ) → fine % scale ≡ 0 → fine / scale ≤ largest_amount
    → first_bad (checks_by fine scale) ≡ None
sound_units fine scale whole h = rw (eq-eqb (fine % scale) 0 whole, le-leb (fine / scale) largest_amount h) refl
