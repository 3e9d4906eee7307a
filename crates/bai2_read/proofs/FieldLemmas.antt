-- Laws of fields, one byte of a record on.
use Rattle.std.proofs.Common.{◌≡◌, ℕ, zero, suc, ◌+◌, ◌-◌, ◌<◌, ◌==◌, true, false, cond, refl, sym, ap, ◌∙◌, arith}
use Rattle.std.proofs.Common.{List, [], ◌∷◌, length, drop, get_or}
use Rattle.std.proofs.lemmas.Bool.{ne_eqb}
use Rattle.std.proofs.lemmas.List.{at_drop_more, drop_more}
use Rattle.std.proofs.lemmas.List.Sums.{sum_by-drop_more}
use Rattle.bai2_read.specs.Details.{customer_reference, full_count, own_text}
use Rattle.bai2_read.specs.Fields.{after_fields, field, field_count, up_to_comma}

-- what stands behind fields, one byte on
pub after_more : (n : ℕ) (body : List ℕ) (i : ℕ) → i < length body
    → after_fields n (drop i body) ≡ cond (get_or body i 0 == 44)
    (cond (n == 0) (drop i body) (after_fields (n - 1) (drop (i + 1) body))) (after_fields n (drop (i + 1) body))
after_more n body i below =
    at_drop_more (after_fields n) body i 0 below
    ∙ ap (λ (l : List ℕ). cond (get_or body i 0 == 44) (cond (n == 0) l (after_fields (n - 1) (drop (i + 1) body)))
    (after_fields n (drop (i + 1) body))) (sym (drop_more body i 0 below))

-- how many fields there are, one byte on
pub count_more : (body : List ℕ) (i : ℕ) → i < length body
    → field_count (drop i body) ≡ cond (get_or body i 0 == 44) 1 0 + field_count (drop (i + 1) body)
count_more body i below = sum_by-drop_more (λ b. cond (b == 44) 1 0) body i 0 below

-- what stands behind fields, behind one byte
after_some : (n b : ℕ) (bs : List ℕ)
    → after_fields (suc n) (b ∷ bs) ≡ cond (b == 44) (after_fields n bs) (after_fields (suc n) bs)
after_some n b bs =
    ap (λ t. cond (b == 44) (cond t (b ∷ bs) (after_fields (suc n - 1) bs)) (after_fields (suc n) bs))
    (ne_eqb (suc n) 0 (λ e. omega arith))
    ∙ ap (λ k. cond (b == 44) (after_fields k bs) (after_fields (suc n) bs)) (omega arith)

-- what stands behind one field more
pub after_one_more : (n : ℕ) (body : List ℕ)
    → after_fields 0 (drop 1 (after_fields n body)) ≡ after_fields (suc n) body
after_one_more n [] = refl
after_one_more zero (b ∷ bs) =
    elim (b == 44) as (λ t. after_fields 0 (drop 1 (cond t (b ∷ bs) (after_fields 0 bs)))
    ≡ cond t (after_fields 0 bs) (after_fields 1 bs)) [ true ↦ refl | false ↦ after_one_more zero bs ]
after_one_more (suc n) (b ∷ bs) =
    ap (λ l. after_fields 0 (drop 1 l)) (after_some n b bs)
    ∙ (elim (b == 44) as (λ t. after_fields 0 (drop 1 (cond t (after_fields n bs) (after_fields (suc n) bs)))
    ≡ cond t (after_fields (suc n) bs) (after_fields (suc (suc n)) bs)) [
      | true ↦ after_one_more n bs
      | false ↦ after_one_more (suc n) bs
    ])
    ∙ sym (after_some (suc n) b bs)

-- the customer reference stands one field behind the bank reference
pub from_customer : (body : List ℕ) (full : ℕ) → full ≡ full_count body
    → up_to_comma (drop 1 (after_fields 0 (drop 1 (after_fields (full - 2) body)))) ≡ customer_reference body
unfolding full_count customer_reference field
from_customer body full is =
    ap (λ (l : List ℕ). up_to_comma (drop 1 l)) (after_one_more (full - 2) body)
    ∙ ap (λ n. up_to_comma (drop 1 (after_fields n body))) (omega (arith, is))

-- the text of a detail stands one field behind its customer reference
pub from_text : (body : List ℕ) (full : ℕ) → full ≡ full_count body
    → drop 1 (after_fields 0 (drop 1 (after_fields 0 (drop 1 (after_fields (full - 2) body))))) ≡ own_text body
unfolding full_count own_text
from_text body full is =
    ap (λ (l : List ℕ). drop 1 (after_fields 0 (drop 1 l))) (after_one_more (full - 2) body)
    ∙ ap (drop 1) (after_one_more (suc (full - 2)) body)
    ∙ ap (λ n. drop 1 (after_fields n body)) (omega (arith, is))
