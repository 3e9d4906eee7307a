-- Laws of texts of one line.
use Rattle.std.proofs.Common.{◌&&◌, ◌+◌, ◌++◌, ◌/◌, ◌%◌, ◌<◌, ◌==◌, ◌≡◌, ◌∙◌, ◌∷◌, Bool, List, [], arith, cond}
use Rattle.std.proofs.Common.{decimal, false, inl, inr, nat_lt, negsuc, pos, refl, suc, true, zero, ℕ, ℤ}
use Rattle.std.proofs.lemmas.Bool.Decides.{eqb_tells}
use Rattle.std.proofs.lemmas.List.Folds.{list_all-append}
use Rattle.std.specs.Fmt.{digit_glyph, digits, digits_onto, signed_decimal}
use Rattle.book_commodity.specs.OneLine.{no_feed, is_one_line}

-- a byte above the line feed is none
pub above-no_feed : (byte : ℕ) → 10 < byte → no_feed byte ≡ true
above-no_feed byte above = elim (eqb_tells byte 10) [ inl t ↦ absurd (omega (arith, t.1)) | inr f ↦ rw f.0 refl ]

-- two tests that hold hold together
pub both : (x y : Bool) → x ≡ true → y ≡ true → (x && y) ≡ true
both x y p q = rw (p, q) refl

-- two texts in a row are one line where each is
pub append-one_line : (xs ys : List ℕ) → is_one_line xs ≡ true → is_one_line ys ≡ true → is_one_line (xs ++ ys) ≡ true
append-one_line xs ys p q = list_all-append no_feed xs ys ∙ both (is_one_line xs) (is_one_line ys) p q

glyph-above : (digit : ℕ) → 10 < digit_glyph false digit
glyph-above digit = elim (nat_lt digit 10) as (λ t. 10 < cond t (48 + digit) (87 + digit))
    [ true ↦ omega arith | false ↦ omega arith ]

digits_onto-one_line : (k n : ℕ) (behind : List ℕ) → is_one_line behind ≡ true
    → is_one_line (digits_onto k 10 false n behind) ≡ true
digits_onto-one_line zero n behind h = h
digits_onto-one_line (suc k) n behind h =
    let glyph = digit_glyph false (n % 10) in
    let first : is_one_line (glyph ∷ behind)
    ≡ true = both (no_feed glyph) (is_one_line behind) (above-no_feed glyph (glyph-above (n % 10))) h in
    elim (n / 10 == 0) as (λ t. is_one_line
    (cond t (glyph ∷ behind) (digits_onto k 10 false (n / 10) (glyph ∷ behind))) ≡ true)
    [ true ↦ first | false ↦ digits_onto-one_line k (n / 10) (glyph ∷ behind) first ]

-- a number in decimal digits is one line
pub decimal-one_line : (n : ℕ) → is_one_line (decimal n) ≡ true
unfolding digits
decimal-one_line n = digits_onto-one_line 64 n [] refl

-- so is one with its sign
pub signed_decimal-one_line : (z : ℤ) → is_one_line (signed_decimal z) ≡ true
signed_decimal-one_line (pos n) = decimal-one_line n
signed_decimal-one_line (negsuc n) = decimal-one_line (suc n)
