-- Numbers with a sign.
use Rattle.std.proofs.Common.{◌≡◌, ℕ, ◌<◌, ◌≤◌, ◌^◌, true, List, length, get_or, ◌==◌, pos, neg_ℤ, ap, sym, ◌∙◌, arith}
use Rattle.std.proofs.lemmas.Bool.{cond-true, cond-false, eq-eqb, ne_eqb}
use Rattle.book_statement.specs.Numbers.{has_digits, number}
use Rattle.book_statement.proofs.NumberLemmas.{are_digits, power_below}
use Rattle.bai2_read.specs.Amounts.{signed_number, without_sign}

-- a number of at most 18 digits
pub small_number : (text : List ℕ) (n : ℕ) → has_digits 1 18 text ≡ true → n < 10 ^ length text → n < 10 ^ 18
small_number text n digits below =
    let high : 10 ^ length text ≤ 10 ^ 18 = power_below (length text) 18 ((are_digits 1 18 text digits).high) in
    omega arith

pub signed_minus :
    (text : List ℕ) (n : ℕ) → get_or text 0 0 ≡ 45 → n ≡ number (without_sign text) → neg_ℤ (pos n) ≡ signed_number text
signed_minus text n minus is =
    ap (λ (m : ℕ). neg_ℤ (pos m)) is
    ∙ sym (cond-true (get_or text 0 0 == 45) (neg_ℤ (pos (number (without_sign text))))
    (pos (number (without_sign text))) (eq-eqb (get_or text 0 0) 45 minus))

pub signed_plain :
    (text : List ℕ) (n : ℕ) → (get_or text 0 0 ≡ 45 → ⊥) → n ≡ number (without_sign text) → pos n ≡ signed_number text
signed_plain text n plain is =
    ap (λ (m : ℕ). pos m) is
    ∙ sym (cond-false (get_or text 0 0 == 45) (neg_ℤ (pos (number (without_sign text))))
    (pos (number (without_sign text))) (ne_eqb (get_or text 0 0) 45 plain))
