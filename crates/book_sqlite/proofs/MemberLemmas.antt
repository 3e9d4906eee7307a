-- The members of rising rows, and rows that have the same ones.
use Rattle.std.proofs.Common.{◌≡◌, ◌≢◌, ◌⊎◌, ℕ, ◌<◌, ◌≤◌, nat_lt, ◌==◌, Bool, true, false, cond, List, [], ◌∷◌, Some, None, inl, inr, refl, sym, ap, subst, ◌∙◌, arith}
use Rattle.std.proofs.lemmas.Bool.Decides.{nat_tests}
use Rattle.sqlite_rules.specs.Lists.{Has}
use Rattle.book_keeper.specs.declared.row.Row.{Row}
use Rattle.book_keeper.specs.declared.row.RowKey.{RowKey}
use Rattle.book_keeper.specs.Rows.{rank, AllAbove, Rises, with_row, without_row, first_above}

pub above_member : (n : ℕ) (rows : List Row) (x : Row) → AllAbove n rows → Has rows x → n < rank x.key
above_member n [] x all h = absurd h
above_member n (r ∷ rows) x all (inl same) = subst (λ (y : Row). n < rank y.key) (sym same) all.0
above_member n (r ∷ rows) x all (inr later) = above_member n rows x all.1 later

-- ---- equal members, equal rows
not_below : (n : ℕ) → n < n → ⊥
not_below n h = omega (arith, h)

-- rising rows with the same members are the same
pub same_members :
    (xs ys : List Row) → Rises xs → Rises ys → ((r : Row) → Has xs r → Has ys r) → ((r : Row) → Has ys r → Has xs r)
    → xs ≡ ys
same_members [] [] up down f g = refl
same_members [] (y ∷ ys) up down f g = absurd (g y (inl refl))
same_members (x ∷ xs) [] up down f g = absurd (f x (inl refl))
same_members (x ∷ xs) (y ∷ ys) up down f g =
    let first : x ≡ y = elim (f x (inl refl)) [
      | inl same ↦ same
      | inr low ↦ elim (g y (inl refl)) [
        | inl same ↦ sym same
        | inr high ↦ absurd (omega (
          arith,
          above_member (rank y.key) ys x down.0 low,
          above_member (rank x.key) xs y up.0 high,
        ))
      ]
    ] in
    let rest : xs ≡ ys = same_members xs ys up.1 down.1
    (λ r h. elim (f r (inr h)) [
      | inl same ↦ absurd (let up_r = above_member (rank x.key) xs r up.0 h in
          not_below (rank x.key) (subst (λ (z : Row). rank x.key < rank z.key) (same ∙ sym first) up_r))
      | inr later ↦ later
    ])
    (λ r h. elim (g r (inr h)) [
      | inl same ↦ absurd (let up_r = above_member (rank y.key) ys r down.0 h in
          not_below (rank y.key) (subst (λ (z : Row). rank y.key < rank z.key) (same ∙ first) up_r))
      | inr later ↦ later
    ]) in
    cc

-- ---- the members after one is put
pub put_member :
    (new : Row) (rows : List Row) (x : Row) → Rises rows → Has (with_row new rows) x
    → (x ≡ new) ⊎ (Has rows x × (rank x.key ≢ rank new.key))
put_member new [] x up (inl same) = inl same
put_member new [] x up (inr none) = absurd none
put_member new (r ∷ rows) x up h =
    go (nat_lt (rank new.key) (rank r.key)) (rank new.key == rank r.key) refl refl h (put_member new rows x up.1)
  where
    go :
        (low same : Bool) → nat_lt (rank new.key) (rank r.key) ≡ low → (rank new.key == rank r.key) ≡ same
        → Has (cond low (new ∷ r ∷ rows) (cond same (new ∷ rows) (r ∷ with_row new rows))) x
        → (Has (with_row new rows) x → (x ≡ new) ⊎ (Has rows x × (rank x.key ≢ rank new.key)))
        → (x ≡ new) ⊎ (Has (r ∷ rows) x × (rank x.key ≢ rank new.key))
    go true same is e (inl first) more = inl first
    go true same is e (inr (inl second)) more =
        inr (inl second, λ k. absurd (let r_is = ap (λ (z : Row). rank z.key) second in grind (arith, nat_tests, k, r_is, is)))
    go true same is e (inr (inr later)) more =
        let higher = above_member (rank r.key) rows x up.0 later in
        inr (inr later, λ k. absurd (grind (arith, nat_tests, k, higher, is)))
    go false true is e (inl first) more = inl first
    go false true is e (inr later) more =
        let higher = above_member (rank r.key) rows x up.0 later in
        inr (inr later, λ k. absurd (grind (arith, nat_tests, k, higher, e)))
    go false false is e (inl first) more =
        inr (inl first, λ k. absurd (let r_is = ap (λ (z : Row). rank z.key) first in grind (arith, nat_tests, k, r_is, e)))
    go false false is e (inr later) more = elim (more later) [
      | inl same ↦ inl same
      | inr old ↦ inr (inr old.0, old.1)
    ]

pub member_put : (new : Row) (rows : List Row) → Has (with_row new rows) new
member_put new [] = inl refl
member_put new (r ∷ rows) =
    elim (nat_lt (rank new.key) (rank r.key)) as (λ low. Has (cond low (new ∷ r ∷ rows)
    (cond (rank new.key == rank r.key) (new ∷ rows) (r ∷ with_row new rows))) new) [
      | true ↦ inl refl
      | false ↦ elim (rank new.key == rank r.key) as (λ same. Has (cond same (new ∷ rows) (r ∷ with_row new rows)) new)
          [ true ↦ inl refl | false ↦ inr (member_put new rows) ]
    ]

pub member_kept :
    (new : Row) (rows : List Row) (x : Row) → Has rows x → rank x.key ≢ rank new.key → Has (with_row new rows) x
member_kept new [] x h other = absurd h
member_kept new (r ∷ rows) x h other =
    go (nat_lt (rank new.key) (rank r.key)) (rank new.key == rank r.key) refl h
    (λ later. member_kept new rows x later other)
  where
    go :
        (low same : Bool) → (rank new.key == rank r.key) ≡ same → Has (r ∷ rows) x
        → (Has rows x → Has (with_row new rows) x)
        → Has (cond low (new ∷ r ∷ rows) (cond same (new ∷ rows) (r ∷ with_row new rows))) x
    go true same e here more = inr here
    go false true e (inl first) more =
        absurd (other (let r_is = ap (λ (z : Row). rank z.key) first in grind (arith, nat_tests, r_is, e)))
    go false true e (inr later) more = inr later
    go false false e (inl first) more = inl first
    go false false e (inr later) more = inr (more later)

-- ---- the members after one is deleted
pub left_member :
    (key : RowKey) (rows : List Row) (x : Row) → Rises rows → Has (without_row key rows) x
    → Has rows x × (rank x.key ≢ rank key)
left_member key [] x up h = absurd h
left_member key (r ∷ rows) x up h = go (rank key == rank r.key) refl h (left_member key rows x up.1)
  where
    go :
        (same : Bool) → (rank key == rank r.key) ≡ same → Has (cond same rows (r ∷ without_row key rows)) x
        → (Has (without_row key rows) x → Has rows x × (rank x.key ≢ rank key))
        → Has (r ∷ rows) x × (rank x.key ≢ rank key)
    go true e later more =
        let higher = above_member (rank r.key) rows x up.0 later in
        (inr later, λ k. absurd (grind (arith, nat_tests, k, higher, e)))
    go false e (inl first) more =
        (inl first, λ k. absurd (let r_is = ap (λ (z : Row). rank z.key) first in grind (arith, nat_tests, k, r_is, e)))
    go false e (inr later) more = let old = more later in (inr old.0, old.1)

pub member_left :
    (key : RowKey) (rows : List Row) (x : Row) → Has rows x → rank x.key ≢ rank key → Has (without_row key rows) x
member_left key [] x h other = absurd h
member_left key (r ∷ rows) x h other =
    go (rank key == rank r.key) refl h (λ later. member_left key rows x later other)
  where
    go :
        (same : Bool) → (rank key == rank r.key) ≡ same → Has (r ∷ rows) x
        → (Has rows x → Has (without_row key rows) x) → Has (cond same rows (r ∷ without_row key rows)) x
    go true e (inl first) more =
        absurd (other (let r_is = ap (λ (z : Row). rank z.key) first in grind (arith, nat_tests, r_is, e)))
    go true e (inr later) more = later
    go false e (inl first) more = inl first
    go false e (inr later) more = inr (more later)

-- ---- the first above a rank
pub none_above : (n : ℕ) (rows : List Row) → ((x : Row) → Has rows x → rank x.key ≤ n) → first_above n rows ≡ None
none_above n [] all = refl
none_above n (r ∷ rows) all =
    let here = all r (inl refl) in
    let more = none_above n rows (λ x h. all x (inr h)) in
    grind (arith, nat_tests, here, more)

-- it is the least of those that are above
pub first_is :
    (n : ℕ) (rows : List Row) (x : Row) → Rises rows → Has rows x → n < rank x.key
    → ((y : Row) → Has rows y → n < rank y.key → rank x.key ≤ rank y.key) → first_above n rows ≡ Some x
first_is n [] x up h above least = absurd h
first_is n (r ∷ rows) x up h above least =
    go (nat_lt n (rank r.key)) refl h (λ later. first_is n rows x up.1 later above (λ y k. least y (inr k)))
  where
    go :
        (t : Bool) → nat_lt n (rank r.key) ≡ t → Has (r ∷ rows) x → (Has rows x → first_above n rows ≡ Some x)
        → cond t (Some r) (first_above n rows) ≡ Some x
    go true e (inl first) more = ap Some (sym first)
    go true e (inr later) more =
        let low = least r (inl refl) (grind (arith, nat_tests, e)) in
        let high = above_member (rank r.key) rows x up.0 later in absurd (omega (arith, low, high))
    go false e (inl first) more =
        absurd (let r_is = ap (λ (z : Row). rank z.key) first in grind (arith, nat_tests, e, r_is, above))
    go false e (inr later) more = more later
