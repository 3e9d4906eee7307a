-- How far the fields of a detail reach, with more fields behind them.
use Rattle.std.proofs.Common.{◌≡◌, ℕ, ◌+◌, ◌-◌, ◌*◌, ◌<◌, ◌≤◌, ◌==◌, nat_le, true, false, cond, List, [], ◌∷◌, ◌++◌}
use Rattle.std.proofs.Common.{length, take, drop, suc, not, refl, sym, ap, ◌∙◌, arith, inl, inr, ◌⊎◌}
use Rattle.std.proofs.lemmas.Bool.{cases_Bool, eq-eqb, eqb-false, eqb-true, lt-leb}
use Rattle.std.specs.List.{prefix_len}
use Rattle.std.proofs.lemmas.List.{append-nil, nil_from_length}
use Rattle.std.proofs.lemmas.List.Sums.{sum_by-append, sum_by-cons}
use Rattle.bai2_read.specs.Details.{full_count, is_complete}
use Rattle.bai2_read.specs.Extent.{HasExtent}
use Rattle.bai2_read.specs.Fields.{after_fields, count, field, field_count, fields_of_funds, funds_of, further}
use Rattle.bai2_read.specs.Fields.{up_to_comma}
use Rattle.bai2_read.specs.Summaries.{BeginsField}
use Rattle.bai2_read.specs.declared.funds.Funds.{Funds}
use Rattle.bai2_read.specs.declared.funds.Funds.TheVariants.{Simple, Distributed, ValueDated, Spread, Strange}
use Rattle.bai2_read.specs.declared.kind.Kind.{Kind}
use Rattle.bai2_read.specs.declared.kind.Kind.TheVariants.{Detail}

count_cons : (b : ℕ) (bs : List ℕ) → field_count (b ∷ bs) ≡ cond (b == 44) 1 0 + field_count bs
count_cons b bs = sum_by-cons (λ x. cond (x == 44) 1 0) b bs

pub count_append : (body more : List ℕ) → field_count (body ++ more) ≡ field_count body + field_count more
count_append body more = sum_by-append (λ x. cond (x == 44) 1 0) body more

-- fields that are there stay where they are
after_fields_append :
    (n : ℕ) (body more : List ℕ) → n < field_count body → after_fields n (body ++ more) ≡ after_fields n body ++ more
after_fields_append n [] more below = absurd (omega arith)
after_fields_append n (b ∷ bs) more below =
    elim (cases_Bool (b == 44)) [
      | inr other ↦
          let same : field_count (b ∷ bs) ≡ field_count bs = count_cons b bs
          ∙ ap (λ t. cond t 1 0 + field_count bs) other ∙ omega arith in
          rw other (after_fields_append n bs more (omega (arith, same)))
      | inl comma ↦
          let one : field_count (b ∷ bs) ≡ 1 + field_count bs = count_cons b bs
          ∙ ap (λ t. cond t 1 0 + field_count bs) comma in
          elim (cases_Bool (n == 0)) [
            | inl none ↦ rw (comma, none) refl
            | inr some ↦
                let positive : n ≡ 0 → ⊥ = eqb-false n 0 some in
                rw (comma, some) (after_fields_append (n - 1) bs more (omega (arith, one)))
          ]
    ]

-- and the fields behind them are as many less
after_fields_count : (n : ℕ) (body : List ℕ) → field_count (after_fields n body) ≡ field_count body - n
after_fields_count n [] = omega arith
after_fields_count n (b ∷ bs) =
    elim (cases_Bool (b == 44)) [
      | inr other ↦
          let same : field_count (b ∷ bs) ≡ field_count bs = count_cons b bs
          ∙ ap (λ t. cond t 1 0 + field_count bs) other ∙ omega arith in
          let next : after_fields n (b ∷ bs) ≡ after_fields n bs = rw other refl in
          ap field_count next ∙ after_fields_count n bs ∙ ap (λ m. m - n) (sym same)
      | inl comma ↦
          let one : field_count (b ∷ bs) ≡ 1 + field_count bs = count_cons b bs
          ∙ ap (λ t. cond t 1 0 + field_count bs) comma in
          elim (cases_Bool (n == 0)) [
            | inl none ↦
                let all : after_fields n (b ∷ bs) ≡ b ∷ bs = rw (comma, none) refl in
                let zero_ : n ≡ 0 = eqb-true n 0 none in
                ap field_count all ∙ omega (arith, zero_)
            | inr some ↦
                let positive : n ≡ 0 → ⊥ = eqb-false n 0 some in
                let next : after_fields n (b ∷ bs) ≡ after_fields (n - 1) bs = rw (comma, some) refl in
                ap field_count next ∙ after_fields_count (n - 1) bs ∙ omega (arith, one)
          ]
    ]

-- what stands before the first comma, by the first byte
before_comma : (b : ℕ) (bs : List ℕ) → up_to_comma (b ∷ bs) ≡ cond (b == 44) [] (b ∷ up_to_comma bs)
before_comma b bs =
    let rest : ℕ = prefix_len (λ x. not (x == 44)) bs in
    let one : 1 + rest ≡ suc rest = omega arith in
    elim (b == 44) as (λ t. take (cond (not t) (1 + rest) 0) (b ∷ bs) ≡ cond t [] (b ∷ take rest bs)) [
      | true ↦ refl
      | false ↦ ap (λ (n : ℕ). take n (b ∷ bs)) one
    ]

before_comma_append : (text more : List ℕ) → BeginsField more → up_to_comma (text ++ more) ≡ up_to_comma text
before_comma_append [] [] begins = refl
before_comma_append [] (b ∷ bs) begins =
    before_comma b bs ∙ ap (λ t. cond t [] (b ∷ up_to_comma bs)) (eq-eqb b 44 (begins (omega arith)))
before_comma_append (x ∷ xs) more begins =
    before_comma x (xs ++ more)
    ∙ ap (λ l. cond (x == 44) [] (x ∷ l)) (before_comma_append xs more begins)
    ∙ sym (before_comma x xs)

behind_comma : (from more : List ℕ) → 0 < field_count from → drop 1 (from ++ more) ≡ drop 1 from ++ more
behind_comma [] more some = absurd (omega arith)
behind_comma (b ∷ bs) more some = refl

-- a field that is there stays as it is
field_append :
    (n : ℕ) (body more : List ℕ) → n < field_count body → BeginsField more → field n (body ++ more) ≡ field n body
unfolding field
field_append n body more below begins =
    let from = after_fields n body in
    let some : 0 < field_count from = omega (arith, after_fields_count n body) in
    ap (λ (l : List ℕ). up_to_comma (drop 1 l)) (after_fields_append n body more below)
    ∙ ap (λ (l : List ℕ). up_to_comma l) (behind_comma from more some)
    ∙ before_comma_append (drop 1 from) more begins

further_by :
    (funds : Funds) (from other : List ℕ) → field 1 from ≡ field 1 other
    → fields_of_funds funds from ≡ fields_of_funds funds other
further_by Simple from other same = refl
further_by Distributed from other same = refl
further_by ValueDated from other same = refl
further_by Spread from other same = ap (λ (text : List ℕ). 1 + 2 * count text) same
further_by Strange from other same = refl

-- how many fields follow a funds type is said by the first four fields of a detail
full_count_append :
    (body more : List ℕ) → 4 ≤ field_count body → BeginsField more → full_count (body ++ more) ≡ full_count body
unfolding full_count further
full_count_append body more four begins =
    let from = after_fields 2 body in
    let behind : after_fields 2 (body ++ more) ≡ from ++ more = after_fields_append 2 body more (omega arith) in
    let counted = after_fields_count 2 body in
    let funds : field 0 (from ++ more) ≡ field 0 from = field_append 0 from more (omega (arith, counted)) begins in
    let pairs : field 1 (from ++ more) ≡ field 1 from = field_append 1 from more (omega (arith, counted)) begins in
    ap (λ (l : List ℕ). 5 + fields_of_funds (funds_of (field 0 l)) l) behind
    ∙ ap (λ (text : List ℕ). 5 + fields_of_funds (funds_of text) (from ++ more)) funds
    ∙ ap (λ (n : ℕ). 5 + n) (further_by (funds_of (field 0 from)) (from ++ more) from pairs)

five_at_least : (body : List ℕ) → 5 ≤ full_count body
unfolding full_count
five_at_least body = omega arith

-- a detail with fewer than five fields isn't complete
pub is_short : (body : List ℕ) (fields : ℕ) → fields ≡ field_count body → fields < 5 → is_complete body ≡ false
unfolding is_complete
is_short body fields counted few =
    let five : 5 ≤ full_count body = five_at_least body in
    lt-leb (full_count body) (field_count body) (omega (arith, counted))

-- with five or more it is where they are enough
pub is_long :
    (body : List ℕ) (fields full : ℕ) → fields ≡ field_count body → full ≡ full_count body
    → is_complete body ≡ nat_le full fields
unfolding is_complete
is_long body fields full counted is =
    ap (λ (n : ℕ). nat_le (full_count body) n) (sym counted) ∙ ap (λ (n : ℕ). nat_le n fields) (sym is)

-- the extent of a record with more fields
pub grown_extent :
    (kind : Kind) (old body more : List ℕ) (fields full : ℕ) → body ≡ old ++ more → BeginsField more
    → HasExtent kind old fields full
    → (4 ≤ fields) ⊎ (length more ≡ 0) → HasExtent kind body (fields + field_count more) full
grown_extent kind old body more fields full is begins known enough detail =
    let k = known detail in
    let counted : fields + field_count more ≡ field_count body =
    omega (arith, k.0, ap field_count is, count_append old more) in
    elim enough [
      | inl four ↦ (
        counted,
        λ _. k.1 four ∙ sym (full_count_append old more (omega (arith, k.0)) begins)
            ∙ ap full_count (sym is),
      )
      | inr none ↦
          let nothing : more ≡ [] = nil_from_length more none in
          let same : old ≡ body = sym (append-nil old) ∙ ap (λ l. old ++ l) (sym nothing) ∙ sym is in
          let zero_ : field_count more ≡ 0 = ap field_count nothing in
          (counted, λ four. k.1 (omega (arith, zero_)) ∙ ap full_count same)
    ]

-- whether a detail is complete, by its extent
pub long_by :
    (body : List ℕ) (fields full : ℕ) → HasExtent Detail body fields full → 5 ≤ fields
    → nat_le full fields ≡ is_complete body
long_by body fields full known five = let k = known refl in sym (is_long body fields full k.0 (k.1 (omega arith)))

pub short_by :
    (body : List ℕ) (fields full : ℕ) → HasExtent Detail body fields full → fields < 5 → false ≡ is_complete body
short_by body fields full known few = let k = known refl in sym (is_short body fields k.0 few)
