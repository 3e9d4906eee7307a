-- Numbers that rise, and the others that a walk has come by.
use Rattle.std.proofs.Common.{◌≡◌, ℕ, zero, suc, ◌+◌, ◌<◌, ◌≤◌, ◌==◌, Bool, true, false, ◌||◌, List, [], ◌∷◌, ◌++◌}
use Rattle.std.proofs.Common.{length, get_or, Result, Ok, Err, is_ok, nat_lt, refl, sym, ap, ◌∙◌, arith, MatchResult}
use Rattle.std.specs.List.Sorted.{IsBinarySearchResult}
use Rattle.std.specs.Cmp.{unsigned_tied}
use Rattle.std.specs.Ordering.{is_eq, nat_cmp}
use Rattle.std.proofs.lemmas.Bool.Decides.{nat_tests}
use Rattle.std.proofs.lemmas.List.Folds.{list_any-append, list_any_at}
use Rattle.std.proofs.lemmas.List.Sorted.{searched}
use Rattle.book_check.specs.Rising.{AllOver, AllUnder, Rise}
use Rattle.book_check.specs.Seen.{Adds, is_seen}

-- numbers under a bound are under the next of a number that is not, also with that one behind them
pub under_next : (m n : ℕ) (xs : List ℕ) → m ≤ n → AllUnder m xs → AllUnder (n + 1) (xs ++ n ∷ [])
under_next m n [] less under = (omega arith, tt)
under_next m n (x ∷ xs) less under = (omega (arith, less, under.0), under_next m n xs less under.1)

over_next : (m n : ℕ) (xs : List ℕ) → AllOver m xs → m < n → AllOver m (xs ++ n ∷ [])
over_next m n [] over less = (less, tt)
over_next m n (x ∷ xs) over less = (over.0, over_next m n xs over.1 less)

-- numbers that rise do so with a greater one behind them
pub rise_next : (m n : ℕ) (xs : List ℕ) → m ≤ n → AllUnder m xs → Rise xs → Rise (xs ++ n ∷ [])
rise_next m n [] less under rise = (tt, tt)
rise_next m n (x ∷ xs) less under rise =
    (over_next x n xs rise.0 (omega (arith, less, under.0)), rise_next m n xs less under.1 rise.1)

tied : (x y : ℕ) → is_eq (nat_cmp x y) ≡ (x == y)
tied = unsigned_tied

-- a number that isn't under the bound was not seen among what is
pub unseen_under : (m n : ℕ) (xs : List ℕ) → m ≤ n → AllUnder m xs → is_seen nat_cmp xs n ≡ false
unseen_under m n [] less under = refl
unseen_under m n (x ∷ xs) less under =
    let here : (n == x) ≡ false = (let low = under.0 in grind (arith, nat_tests)) in
    ap (λ b. b || is_seen nat_cmp xs n) (tied n x ∙ here) ∙ unseen_under m n xs less under.1

not_true : (b : Bool) → (b ≡ true → ⊥) → b ≡ false
not_true true never = absurd (never refl)
not_true false _ = refl

-- nor was it among those that rise and the others, where all are under the bound
pub unseen :
    (m n : ℕ) (xs others : List ℕ) → m ≤ n → AllUnder m xs
    → ((number : ℕ) → is_seen nat_cmp others number ≡ true → number < m) → is_seen nat_cmp (xs ++ others) n ≡ false
unseen m n xs others less under below =
    list_any-append (λ other. is_eq (nat_cmp n other)) xs others
    ∙ ap (λ b. b || is_seen nat_cmp others n) (unseen_under m n xs less under)
    ∙ not_true (is_seen nat_cmp others n) (λ seen. let low = below n seen in omega (arith, less, low))

-- the others stay under the bound with one more that is under it
pub others_next :
    (old new : List ℕ) (n m : ℕ) → Adds nat_cmp old n new → n < m
    → ((number : ℕ) → is_seen nat_cmp old number ≡ true → number < m)
    → (number : ℕ) → is_seen nat_cmp new number ≡ true → number < m
others_next old new n m adds low below number seen =
    go (n == number) (is_seen nat_cmp old number) refl refl
    (ap (λ b. b || is_seen nat_cmp old number) (sym (tied n number)) ∙ sym (adds number) ∙ seen)
  where
    go : (b s : Bool) → (n == number) ≡ b → is_seen nat_cmp old number ≡ s → (b || s) ≡ true → number < m
    go true s same old_seen either = let is : n ≡ number = grind (arith, nat_tests) in omega (arith, low, is)
    go false true same old_seen either = below number old_seen
    go false false same old_seen either = absurd cc

over_at : (n : ℕ) (xs : List ℕ) (k : ℕ) → AllOver n xs → k < length xs → n < get_or xs k 0
over_at n [] k over less = absurd (omega arith)
over_at n (x ∷ xs) zero over less = over.0
over_at n (x ∷ xs) (suc k) over less = over_at n xs k over.1 (omega arith)

rise_at : (xs : List ℕ) → Rise xs → (i j : ℕ) → i ≤ j → j < length xs → get_or xs i 0 ≤ get_or xs j 0
rise_at [] rise i j le less = absurd (omega arith)
rise_at (x ∷ xs) rise zero zero le less = omega arith
rise_at (x ∷ xs) rise zero (suc j) le less = let over = over_at x xs j rise.0 (omega arith) in omega (arith, over)
rise_at (x ∷ xs) rise (suc i) zero le less = absurd (omega arith)
rise_at (x ∷ xs) rise (suc i) (suc j) le less = rise_at xs rise.1 i j (omega arith) (omega arith)

never_at : (n : ℕ) (xs : List ℕ) → ((k : ℕ) → k < length xs → (n == get_or xs k 0) ≡ false) → is_seen nat_cmp xs n ≡ false
never_at n [] other = refl
never_at n (x ∷ xs) other =
    ap (λ b. b || is_seen nat_cmp xs n) (tied n x ∙ other 0 (omega arith))
    ∙ never_at n xs (λ k less. other (suc k) (omega arith))

-- a binary search tells whether a number is one of those that rise
pub search_tells :
    (xs : List ℕ) (n : ℕ) (r : Result ℕ ℕ) → IsBinarySearchResult (λ y. nat_cmp y n) xs r → Rise xs
    → is_ok r ≡ is_seen nat_cmp xs n
search_tells xs n r is rise = go r (searched xs n r is (rise_at xs rise))
  where
    go :
        (r : Result ℕ ℕ)
        → MatchResult r (λ i. (i < length xs) × (get_or xs i 0 ≡ n))
        (λ i. (i ≤ length xs) × ((k : ℕ) → k < i → get_or xs k 0 < n)
        × ((k : ℕ) → i ≤ k → k < length xs → n < get_or xs k 0))
        → is_ok r ≡ is_seen nat_cmp xs n
    go (Ok i) at =
        let here : (n == get_or xs i 0) ≡ true = (let same = at.1 in grind (arith, nat_tests)) in
        sym (list_any_at (λ other. is_eq (nat_cmp n other)) xs i 0 at.0 (tied n (get_or xs i 0) ∙ here))
    go (Err i) at = sym (never_at n xs (λ k less. apart k less (nat_lt k i) refl))
      where
        apart : (k : ℕ) → k < length xs → (b : Bool) → nat_lt k i ≡ b → (n == get_or xs k 0) ≡ false
        apart k less true before =
            let low = at.1 k (grind (arith, nat_tests, before)) in grind (arith, nat_tests)
        apart k less false before =
            let high = at.2 k (grind (arith, nat_tests, before)) less in grind (arith, nat_tests)
