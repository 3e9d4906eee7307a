-- Digits without their commas, copied one by one.
use Rattle.std.proofs.Common.{◌≡◌, ℕ, ◌+◌, ◌<◌, ◌≤◌, Bool, true, false, ◌&&◌, Some, None, ℤ, pos, neg_ℤ, ◌-ℤ◌, List, []}
use Rattle.std.proofs.Common.{◌∷◌, ◌++◌, length, get_or, take, drop, set, refl, sym, ap, ◌∙◌, append_assoc, arith}
use Rattle.std.proofs.Common.{length-append}
use Rattle.std.proofs.lemmas.List.{drop_more, drop_all, take_more_set, length-take-le}
use Rattle.std.specs.Prelude.{◌==◌, nat_le}
use Rattle.std.proofs.lemmas.Bool.{ne_eqb}
use Rattle.std.specs.Char.{is_ascii_digit}
use Rattle.std.specs.List.{prefix_len, before_first, after_first}
use Rattle.std.proofs.lemmas.Bool.Decides.{nat_tests}
use Rattle.std.proofs.lemmas.Int.{ints}
use Rattle.book_statement.specs.declared.bad.Bad.{Bad}
use Rattle.book_statement.specs.Checks.{check, first_bad}
use Rattle.book_statement.specs.Numbers.{has_digits, units, unit_checks}
use Rattle.qif_read.specs.QifAmount.{without_commas, are_commas_placed, is_number, is_negative, unsigned, whole_part}
use Rattle.qif_read.specs.QifAmount.{decimal_part, number_checks, amount_checks, signed, amount}

-- a comma is passed over
pub comma_passed : (whole : List ℕ) (i : ℕ) → i < length whole → get_or whole i 0 ≡ 44
    → without_commas (drop i whole) ≡ without_commas (drop (i + 1) whole)
unfolding without_commas
comma_passed whole i lt e = rw (drop_more whole i 0 lt, e) refl

-- behind the last byte nothing is left
pub nothing_left : (whole : List ℕ) (i : ℕ) → length whole ≤ i → without_commas (drop i whole) ≡ []
unfolding without_commas
nothing_left whole i le = rw (drop_all i whole le) refl

-- another byte is kept
digit_kept : (whole : List ℕ) (i : ℕ) → i < length whole → (get_or whole i 0 ≡ 44 → ⊥)
    → without_commas (drop i whole) ≡ get_or whole i 0 ∷ without_commas (drop (i + 1) whole)
unfolding without_commas
digit_kept whole i lt differs =
    let other : (get_or whole i 0 == 44) ≡ false = ne_eqb (get_or whole i 0) 44 differs in
    rw (drop_more whole i 0 lt, other) refl

-- another byte is copied
pub digit_copied : (whole buffer : List ℕ) (i count : ℕ) → i < length whole → count < length buffer
    → (get_or whole i 0 ≡ 44 → ⊥)
    → take count buffer ++ without_commas (drop i whole) ≡ without_commas whole
    → take (count + 1) (set buffer count (get_or whole i 0)) ++ without_commas (drop (i + 1) whole)
    ≡ without_commas whole
digit_copied whole buffer i count lt room differs e =
    rw (take_more_set buffer count (get_or whole i 0) room)
    (append_assoc (take count buffer) (get_or whole i 0 ∷ []) (without_commas (drop (i + 1) whole))
    ∙ ap (λ l. take count buffer ++ l) (sym (digit_kept whole i lt differs)) ∙ e)

-- where the buffer is full and a byte is left, the digits are more
pub too_many : (whole buffer : List ℕ) (i count : ℕ) → i < length whole → count ≡ length buffer
    → (get_or whole i 0 ≡ 44 → ⊥)
    → take count buffer ++ without_commas (drop i whole) ≡ without_commas whole
    → length buffer < length (without_commas whole)
too_many whole buffer i count lt full differs e =
    let size : length (take count buffer ++ without_commas (drop i whole))
    ≡ length (without_commas whole) = ap length e in
    let rest : length (without_commas (drop i whole))
    ≡ length (get_or whole i 0 ∷ without_commas (drop (i + 1) whole)) = ap length
    (digit_kept whole i lt differs) in
    let front : length (take count buffer) ≡ count = length-take-le count buffer (omega arith) in
    omega (arith, length-append (take count buffer) (without_commas (drop i whole)))

and_left : (a b : Bool) → (a && b) ≡ true → a ≡ true
and_left true b e = refl
and_left false b e = absurd cc

and_right : (a b : Bool) → (a && b) ≡ true → b ≡ true
and_right true b e = e
and_right false b e = absurd cc

and_false : (a b : Bool) → b ≡ false → (a && b) ≡ false
and_false true b e = e
and_false false b e = refl

-- of a number, the digits of the whole part and the decimals are digits
pub whole_digits_of : (whole decimals : List ℕ) → is_number whole decimals ≡ true
    → has_digits 0 12 (without_commas whole) ≡ true
unfolding is_number
whole_digits_of whole decimals e = and_left _ _ (and_right (are_commas_placed whole) _ e)

pub decimals_of : (whole decimals : List ℕ) → is_number whole decimals ≡ true → has_digits 0 9 decimals ≡ true
unfolding is_number
decimals_of whole decimals e = and_left _ _
    (and_right (has_digits 0 12 (without_commas whole)) _ (and_right (are_commas_placed whole) _ e))

-- with more digits it is no number
pub too_long : (whole decimals : List ℕ) → 12 < length (without_commas whole) → is_number whole decimals ≡ false
unfolding is_number
too_long whole decimals lt = and_false (are_commas_placed whole) _
    (and_first _ _ (not_digits (without_commas whole) lt))
  where
    and_first : (a b : Bool) → a ≡ false → (a && b) ≡ false
    and_first true b e = absurd cc
    and_first false b e = refl

    not_digits : (digits : List ℕ) → 12 < length digits → has_digits 0 12 digits ≡ false
    not_digits digits over = and_first _ _ (and_false (nat_le 0 (length digits)) _ (grind (arith, nat_tests)))

-- the commas up to a place are in order where those behind are
pub commas_at : (whole : List ℕ) (i : ℕ) → i < length whole → get_or whole i 0 ≡ 44
    → are_commas_placed (drop i whole) ≡
    ((prefix_len is_ascii_digit (drop (i + 1) whole) == 3) && are_commas_placed (drop (i + 1) whole))
unfolding are_commas_placed
commas_at whole i lt e = rw (drop_more whole i 0 lt, e) refl

pub commas_past : (whole : List ℕ) (i : ℕ) → i < length whole → (get_or whole i 0 ≡ 44 → ⊥)
    → are_commas_placed (drop i whole) ≡ are_commas_placed (drop (i + 1) whole)
unfolding are_commas_placed
commas_past whole i lt differs =
    let other : (get_or whole i 0 == 44) ≡ false = ne_eqb (get_or whole i 0) 44 differs in
    rw (drop_more whole i 0 lt, other) refl

-- a size with a sign
pub with_sign : (size : ℕ) → pos 0 -ℤ pos size ≡ neg_ℤ (pos size)
with_sign size = omega (arith, ints)

pub misplaced : (whole : List ℕ) (i : ℕ) → i < length whole → get_or whole i 0 ≡ 44
    → (prefix_len is_ascii_digit (drop (i + 1) whole) ≡ 3 → ⊥) → are_commas_placed (drop i whole) ≡ false
misplaced whole i lt e differs =
    let other : (prefix_len is_ascii_digit (drop (i + 1) whole) == 3)
    ≡ false = ne_eqb (prefix_len is_ascii_digit (drop (i + 1) whole)) 3 differs in
    commas_at whole i lt e ∙ ap (λ b. b && are_commas_placed (drop (i + 1) whole)) other

pub placed : (whole : List ℕ) (i : ℕ) → i < length whole → get_or whole i 0 ≡ 44
    → prefix_len is_ascii_digit (drop (i + 1) whole) ≡ 3
    → are_commas_placed (drop i whole) ≡ are_commas_placed (drop (i + 1) whole)
placed whole i lt e three =
    commas_at whole i lt e ∙ ap (λ n. (n == 3) && are_commas_placed (drop (i + 1) whole)) three

pub commas_end : (whole : List ℕ) (i : ℕ) → length whole ≤ i → are_commas_placed (drop i whole) ≡ true
unfolding are_commas_placed
commas_end whole i le = rw (drop_all i whole le) refl

-- an amount is its number with its sign
pub read_ok : (fraction : ℕ) (text whole decimals : List ℕ) (found : ℤ) (negative : Bool)
    → whole ≡ whole_part text → decimals ≡ decimal_part text → negative ≡ is_negative text
    → (first_bad (number_checks fraction whole decimals) ≡ None) ×
    (found ≡ pos (units (without_commas whole) decimals fraction))
    → (first_bad (amount_checks fraction text) ≡ None) ×
    (signed negative (units (without_commas whole) decimals fraction) ≡ amount fraction text)
unfolding amount_checks amount
read_ok fraction text whole decimals found negative e1 e2 e3 (fine, _) =
    (rw (← e1, ← e2) fine, rw (e1, e2, e3) refl)

pub read_bad : (fraction : ℕ) (text whole decimals : List ℕ) (bad : Bad)
    → whole ≡ whole_part text → decimals ≡ decimal_part text
    → first_bad (number_checks fraction whole decimals) ≡ Some bad → first_bad (amount_checks fraction text) ≡ Some bad
unfolding amount_checks
read_bad fraction text whole decimals bad e1 e2 found = rw (← e1, ← e2) found

third_holds : (a b c : Bool) (x y z : Bad) → first_bad (check a x ∷ check b y ∷ check c z ∷ []) ≡ None → c ≡ true
third_holds true true true x y z e = refl
third_holds true true false x y z e = absurd cc
third_holds true false c x y z e = absurd cc
third_holds false b c x y z e = absurd cc

-- an amount with which nothing is wrong is not above 10^12
pub small_units : (fraction : ℕ) (whole decimals : List ℕ) → first_bad (number_checks fraction whole decimals) ≡ None
    → units (without_commas whole) decimals fraction ≤ 1_000_000_000_000
unfolding unit_checks
small_units fraction whole decimals fine =
    let small = third_holds (is_number whole decimals) _ _ _ _ _ fine in
    grind (arith, nat_tests)

-- the whole part and the decimals are the parts round the point
pub parts_are : (text behind whole decimals : List ℕ) → behind ≡ unsigned text
    → whole ≡ before_first (λ b. b == 46) behind → decimals ≡ after_first (λ b. b == 46) behind
    → (whole ≡ whole_part text) × (decimals ≡ decimal_part text)
unfolding whole_part decimal_part
parts_are text behind whole decimals e before after =
    (before ∙ ap (before_first (λ b. b == 46)) e, after ∙ ap (after_first (λ b. b == 46)) e)
