-- What the queries over the table of rows show.
use Rattle.std.proofs.Common.{◌≡◌, ◌≢◌, ◌⊎◌, ℕ, ℤ, zero, suc, pos, ◌<◌, ◌≤◌, Bool, true, false, cond, List, [], ◌∷◌, length, map, flat_map, get_or, inl, inr, refl, sym, ap, subst, ◌∙◌, arith, Contains}
use Rattle.std.specs.List.{list_all}
use Rattle.std.specs.Ordering.{is_lt}
use Rattle.std.specs.List.Sorted.{IsPermutation, IsSorted}
use Rattle.std.proofs.lemmas.List.Sorted.{Contains-permutation, IsPermutation-sym, sorted_far}
use Rattle.std.proofs.lemmas.List.MinMax.{ranks_by}
use Rattle.sqlite_value.specs.declared.value.Value.{Value}
use Rattle.sqlite_value.specs.Order.{Row as Entry}
use Rattle.sqlite_sql.specs.Term.{Term, Env, holds}
use Rattle.sqlite_sql.specs.Query.{Query, inner, end, Output, output, output_cmp, matches_as}
use Rattle.sqlite_sql.proofs.QueryLemmas.{output_cmp_total}
use Rattle.sqlite_trees.specs.Tree.{Trees}
use Rattle.sqlite_rules.specs.Lists.{Has}
use Rattle.sqlite_rules.proofs.ListLemmas.{has_contained, contains_had}

-- members of a list that is mapped, and of lists that are joined
pub mapped_from : {X Y : Type 0} (f : X → Y) (xs : List X) (y : Y) → Has (map f xs) y → (x : X) × Has xs x × (y ≡ f x)
mapped_from f [] y h = absurd h
mapped_from f (x ∷ xs) y (inl same) = (x, inl refl, same)
mapped_from f (x ∷ xs) y (inr later) = let z = mapped_from f xs y later in (z.0, inr z.1, z.2)

pub mapped_has : {X Y : Type 0} (f : X → Y) (xs : List X) (x : X) → Has xs x → Has (map f xs) (f x)
mapped_has f [] x h = absurd h
mapped_has f (y ∷ xs) x (inl same) = inl (ap f same)
mapped_has f (y ∷ xs) x (inr later) = inr (mapped_has f xs x later)

pub permuted : {X : Type 0} (xs ys : List X) (x : X) → IsPermutation xs ys → Has xs x → Has ys x
permuted xs ys x same h = has_contained ys x (Contains-permutation xs ys x same (contains_had xs x h))

-- the entry passes each term of WHERE
abbrev pub passes_all : Entry → List Term → Entry → Bool
passes_all params filter e = list_all (holds (params ∷ e ∷ [])) filter

matched : (lost : Value) (db : Trees) (filter : List Term) (params : Entry) (es : List Entry) (env : Env)
    → Has (flat_map (λ r. cond (passes_all params filter r) ((params ∷ r ∷ []) ∷ []) []) es) env
    → (e : Entry) × Has es e × (passes_all params filter e ≡ true) × (env ≡ params ∷ e ∷ [])
matched lost db filter params [] env h = absurd h
matched lost db filter params (e ∷ es) env h = go (passes_all params filter e) refl h (matched lost db filter params es env)
  where
    go :
        (b : Bool) → passes_all params filter e ≡ b
        → Has (Rattle.std.proofs.Common.◌++◌ (cond b ((params ∷ e ∷ []) ∷ []) []) (flat_map (λ r. cond (passes_all params filter r) ((params ∷ r ∷ []) ∷ []) []) es)) env
        → (Has (flat_map (λ r. cond (passes_all params filter r) ((params ∷ r ∷ []) ∷ []) []) es) env
        → (f : Entry) × Has es f × (passes_all params filter f ≡ true) × (env ≡ params ∷ f ∷ []))
        → (f : Entry) × Has (e ∷ es) f × (passes_all params filter f ≡ true) × (env ≡ params ∷ f ∷ [])
    go true is (inl same) more = (e, inl refl, is, same)
    go true is (inr later) more = let f = more later in (f.0, inr f.1, f.2, f.3)
    go false is later more = let f = more later in (f.0, inr f.1, f.2, f.3)

matches_has : (filter : List Term) (params : Entry) (es : List Entry) (e : Entry) → Has es e → passes_all params filter e ≡ true
    → Has (flat_map (λ r. cond (passes_all params filter r) ((params ∷ r ∷ []) ∷ []) []) es) (params ∷ e ∷ [])
matches_has filter params [] e h is = absurd h
matches_has filter params (f ∷ es) e (inl same) is =
    let here : passes_all params filter f ≡ true = ap (passes_all params filter) (sym same) ∙ is in
    rw here (inl (ap (λ r. params ∷ r ∷ []) same))
matches_has filter params (f ∷ es) e (inr later) is =
    elim (passes_all params filter f) as (λ b. Has (Rattle.std.proofs.Common.◌++◌ (cond b ((params ∷ f ∷ []) ∷ []) []) (flat_map (λ r. cond (passes_all params filter r) ((params ∷ r ∷ []) ∷ []) []) es)) (params ∷ e ∷ [])) [
      | true ↦ inr (matches_has filter params es e later is)
      | false ↦ matches_has filter params es e later is
    ]

-- an entry that passes, and what the query shows of it
pub record Passes (q : Query) (es : List Entry) (params : Entry) (o : Output) : Type 0 where
  pub entry : Entry
  pub there : Has es entry
  pub passes : passes_all params q.filter entry ≡ true
  pub is : o ≡ output q (params ∷ entry ∷ [])

module _ (q : Query) (lost : Value) (db : Trees) (params : Entry) (from_is : q.from ≡ inner 0 end) (ordered : List Output)
    (same : IsPermutation (map (output q) (matches_as lost db q.filter q.from (params ∷ []))) ordered) where
  pub shown_from : (o : Output) → Has ordered o → Passes q (db 0) params o
  shown_from o h =
      let all = permuted ordered (map (output q) (matches_as lost db q.filter q.from (params ∷ []))) o (IsPermutation-sym _ _ same) h in
      let env = mapped_from (output q) (matches_as lost db q.filter q.from (params ∷ [])) o all in
      let entry = matched lost db q.filter params (db 0) env.0
      (subst (λ f. Has (matches_as lost db q.filter f (params ∷ [])) env.0) from_is env.1) in
      record { entry = entry.0; there = entry.1; passes = entry.2; is = env.2 ∙ ap (output q) entry.3 }

  pub shown_has : (e : Entry) → Has (db 0) e → passes_all params q.filter e ≡ true → Has ordered (output q (params ∷ e ∷ []))
  shown_has e h is =
      let here = matches_has q.filter params (db 0) e h is in
      let there = subst (λ f. Has (matches_as lost db q.filter f (params ∷ [])) (params ∷ e ∷ [])) (sym from_is) here in
      permuted _ ordered (output q (params ∷ e ∷ [])) same
      (mapped_has (output q) (matches_as lost db q.filter q.from (params ∷ [])) (params ∷ e ∷ []) there)

-- nothing is below the first of what is sorted
pub first_least : (q : Query) (first : Output) (more : List Output) (o : Output) → IsSorted (output_cmp q) (first ∷ more)
    → Has (first ∷ more) o → is_lt (output_cmp q o first) ≡ false
first_least q first more o up h =
    let at = contains_had (first ∷ more) o h in
    let far = sorted_far (λ x y. is_lt (output_cmp q x y)) (ranks_by (output_cmp_total q) (λ x. x)) (first ∷ more) up 0 at.0 o (omega arith) at.1 in
    subst (λ z. is_lt (output_cmp q z first) ≡ false) at.2 far
