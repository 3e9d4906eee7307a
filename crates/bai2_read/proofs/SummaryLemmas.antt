-- The items of an account's header, one item on.
use Rattle.std.proofs.Common.{◌≡◌, ℕ, ◌-◌, ◌<◌, ◌≤◌, ◌==◌, true, false, List, [], ◌∷◌, length, refl, sym, ap, subst}
use Rattle.std.proofs.Common.{◌∙◌, arith, inl, inr}
use Rattle.std.specs.Prelude.{ℤ, ◌+ℤ◌}
use Rattle.std.proofs.lemmas.Int.{ints}
use Rattle.std.proofs.lemmas.Bool.{cases_Bool, eqb-true, eq-eqb, ne_eqb}
use Rattle.bai2_read.specs.Fields.{after_fields}
use Rattle.bai2_read.specs.Summaries.{BeginsField, item_amount, items, items_after, sum_of_items, width}

-- the items behind some fields begin with what stands behind these fields
pub items_after-rest : (n : ℕ) (body : List ℕ) → items_after n body ≡ items_after 0 (after_fields n body)
items_after-rest n [] = refl
items_after-rest n (b ∷ bs) =
    elim (cases_Bool (b == 44)) [
      | inr other ↦ rw other (items_after-rest n bs)
      | inl comma ↦ elim (cases_Bool (n == 0)) [
        | inl none ↦ rw (comma, none) (rw comma refl)
        | inr some ↦ rw (comma, some) (items_after-rest (n - 1) bs)
      ]
    ]

-- what stands behind fields begins with a comma, or is empty
pub after_fields-begins : (n : ℕ) (body : List ℕ) → BeginsField (after_fields n body)
after_fields-begins n [] = λ h. absurd (omega arith)
after_fields-begins n (b ∷ bs) =
    elim (cases_Bool (b == 44)) [
      | inr other ↦ rw other (after_fields-begins n bs)
      | inl comma ↦ elim (cases_Bool (n == 0)) [
        | inl none ↦ rw (comma, none) (λ h. eqb-true b 44 comma)
        | inr some ↦ rw (comma, some) (after_fields-begins (n - 1) bs)
      ]
    ]

pub length-after_fields-le : (n : ℕ) (body : List ℕ) → length (after_fields n body) ≤ length body
length-after_fields-le n [] = omega arith
length-after_fields-le n (b ∷ bs) =
    elim (cases_Bool (b == 44)) [
      | inr other ↦ rw other (let le : length (after_fields n bs) ≤ length bs = length-after_fields-le n bs in
          omega arith)
      | inl comma ↦ elim (cases_Bool (n == 0)) [
        | inl none ↦ rw (comma, none) (omega arith)
        | inr some ↦ rw (comma, some)
            (let le : length (after_fields (n - 1) bs) ≤ length bs = length-after_fields-le (n - 1) bs in omega arith)
      ]
    ]

-- what is known of the text behind an item
pub record Behind (item rest : List ℕ) : Type 0 where
  pub items : items_after 0 item ≡ item ∷ items_after 0 rest
  pub shorter : length rest < length item
  pub begins : BeginsField rest

pub behind_item :
    (item : List ℕ) → 0 < length item → BeginsField item → 0 < width item → Behind item (after_fields (width item) item)
behind_item [] some comma wide = absurd (omega arith)
behind_item (b ∷ bs) some comma wide =
    let is_comma : b == 44 ≡ true = eq-eqb b 44 (comma some) in
    let not_none : width (b ∷ bs) == 0 ≡ false = ne_eqb (width (b ∷ bs)) 0 (λ e. absurd (omega arith)) in
    let rest : after_fields (width (b ∷ bs)) (b ∷ bs) ≡ after_fields (width (b ∷ bs) - 1) bs =
    rw (is_comma, not_none) refl in
    record {
      items =
          (let first : items_after 0 (b ∷ bs) ≡ (b ∷ bs) ∷ items_after (width (b ∷ bs) - 1) bs = rw is_comma refl in
          first ∙ ap (λ l. (b ∷ bs) ∷ l) (items_after-rest (width (b ∷ bs) - 1) bs ∙ ap (items_after 0) (sym rest)));
      shorter =
          (let le : length (after_fields (width (b ∷ bs) - 1) bs) ≤ length bs =
          length-after_fields-le (width (b ∷ bs) - 1) bs in
          omega (arith, ap length rest));
      begins = after_fields-begins (width (b ∷ bs)) (b ∷ bs);
    }

-- the items of a header stand behind its first two fields
pub items_rest :
    {X : Type 0} (f : List (List ℕ) → X) (body rest : List ℕ) → rest ≡ after_fields 2 body
    → f (items body) ≡ f (items_after 0 rest)
items_rest f body rest is = ap f (items_after-rest 2 body ∙ ap (items_after 0) (sym is))

pub begins_rest : (body rest : List ℕ) → rest ≡ after_fields 2 body → BeginsField rest
begins_rest body rest is = subst (λ (l : List ℕ). BeginsField l) (sym is) (after_fields-begins 2 body)

-- what is left to add with one item more
pub sum_more :
    (sum before here after : ℤ) (item rest : List ℕ)
    → sum ≡ before +ℤ sum_of_items (items_after 0 item)
    → items_after 0 item ≡ item ∷ items_after 0 rest
    → here ≡ item_amount item
    → after ≡ before +ℤ here
    → sum ≡ after +ℤ sum_of_items (items_after 0 rest)
sum_more sum before here after item rest whole next amount is =
    let left : sum_of_items (items_after 0 item) ≡ item_amount item +ℤ sum_of_items (items_after 0 rest) =
    ap (λ (its : List (List ℕ)). sum_of_items its) next in
    omega (arith, ints, whole, left, amount, is)
