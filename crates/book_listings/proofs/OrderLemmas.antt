-- What a stable sort by days gives stands by day.
use Rattle.std.proofs.Common.{◌≡◌, ℕ, ◌&&◌, Bool, true, false, cond, not, ℤ, int_lt, List, [], ◌∷◌, filter, if◌then◌else◌, refl, sym, ap, ◌∙◌}
use Rattle.std.proofs.Common.{is_lt, int_cmp}
use Rattle.std.specs.List.Sorted.{IsSortedByKey, IsStableByKey, ties}
use Rattle.std.specs.Ordering.{int_eq, is_eq}
use Rattle.std.specs.declared.cmp.Ordering.TheVariants.{Less, Equal, Greater}
use Rattle.book_listings.specs.Journal.{AreByDay}

-- a comparison of integers tells whether the first is less, and whether neither is
less_is : (t u : Bool) → is_lt (cond t Less (cond u Greater Equal)) ≡ t
less_is true u = refl
less_is false true = refl
less_is false false = refl

tie_is :
    (t u : Bool)
    → (not (is_lt (cond t Less (cond u Greater Equal))) && not (is_lt (cond u Less (cond t Greater Equal))))
    ≡ is_eq (cond u Less (cond t Greater Equal))
tie_is true true = refl
tie_is true false = refl
tie_is false true = refl
tie_is false false = refl

-- what two tests that agree leave of a list
same_filter :
    (p q : ℤ × ℕ → Bool) → ((e : ℤ × ℕ) → p e ≡ q e) → (all : List (ℤ × ℕ)) → filter p all ≡ filter q all
same_filter p q same [] = refl
same_filter p q same (e ∷ all) =
    ap (λ (t : Bool). if t then e ∷ filter p all else filter p all) (same e)
    ∙ ap (λ (l : List (ℤ × ℕ)). if q e then e ∷ l else l) (same_filter p q same all)

pub are_by_day :
    (all order : List (ℤ × ℕ)) → IsSortedByKey (λ (e : ℤ × ℕ). e.0) int_cmp order
    → IsStableByKey (λ (e : ℤ × ℕ). e.0) int_cmp all order → AreByDay all order
are_by_day all order sorted stable = record {
  rise = λ k d low below. sym (less_is _ _) ∙ sorted k d low below;
  each = λ day.
      let tied : ℤ × ℕ → Bool = λ e. ties (λ (x y : ℤ × ℕ). is_lt (int_cmp x.0 y.0)) (day, 0) e in
      let here : ℤ × ℕ → Bool = λ e. int_eq e.0 day in
      let same : (e : ℤ × ℕ) → tied e ≡ here e = λ e. tie_is (int_lt day e.0) (int_lt e.0 day) in
      sym (same_filter tied here same order) ∙ stable (day, 0) ∙ same_filter tied here same all;
}
