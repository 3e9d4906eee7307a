-- What stands in a table where entries were put into it one after another.
use Rattle.std.proofs.Common.{◌≡◌, ℕ, ◌==◌, Bool, true, false, if◌then◌else◌, All, List, [], ◌∷◌, ◌++◌, Some, None}
use Rattle.std.proofs.Common.{refl, sym, ap, subst, ◌∙◌, flat_map, Option}
use Rattle.std.proofs.lemmas.Bool.{eqb-true}
use Rattle.std.proofs.lemmas.List.Concat.{flat_map-append}
use Rattle.std.proofs.lemmas.List.Elements.{All-cons, All-head, All-nil, All-tail}
use Rattle.book_commodity.specs.Table.{Rises, value_of, with_entry}
use Rattle.book_commodity.proofs.TableLemmas.{rises_with, value_of_with}
use Rattle.book_match.specs.declared.free.Free.{Free}
use Rattle.book_undo.specs.Book.{Book}
use Rattle.book_undo.specs.Edit.{Leaf}
use Rattle.book_free.specs.Seen.{Seen, new_lines, new_splits, noted, old_lines, old_splits, seen_after}

pub noted_append : {V : Type 0} (xs ys es : List (ℕ × V)) → noted (xs ++ ys) es ≡ noted ys (noted xs es)
noted_append [] ys es = refl
noted_append (x ∷ xs) ys es = noted_append xs ys (with_entry x.0 x.1 es)

pub noted_rises : {V : Type 0} (xs es : List (ℕ × V)) → Rises es → Rises (noted xs es)
noted_rises [] es r = r
noted_rises (x ∷ xs) es r = noted_rises xs (with_entry x.0 x.1 es) (rises_with x.0 x.1 es r)

-- what holds of each that is put, and of each that stood there, holds of each that stands there then
pub noted_holds : {V : Type 0} (P : ℕ → V → Type 0) (xs es : List (ℕ × V)) → All (λ (x : ℕ × V). P x.0 x.1) xs
    → ((n : ℕ) (v : V) → value_of n es ≡ Some v → P n v)
    → (n : ℕ) (v : V) → value_of n (noted xs es) ≡ Some v → P n v
noted_holds P [] es all each n v there = each n v there
noted_holds {V} P (x ∷ xs) es all each n v there =
    let Each : ℕ × V → Type 0 = λ y. P y.0 y.1 in
    let own = All-head Each x xs all in
    noted_holds P xs (with_entry x.0 x.1 es) (All-tail Each x xs all)
    (λ m w found.
    elim (m == x.0) as (λ (t : Bool). (m == x.0) ≡ t → (if t then Some x.1 else value_of m es) ≡ Some w → P m w) [
      | true ↦ λ same here.
          let number = eqb-true m x.0 same in
          let value : x.1 ≡ w = cc in
          subst (λ (k : ℕ). P k w) (sym number) (subst (P x.0) value own)
      | false ↦ λ other here. each m w here
    ] refl (sym (value_of_with m x.0 x.1 es) ∙ found)) n v there

-- a number under which nothing stands then is that of none that was put
pub noted_none : {V : Type 0} (n : ℕ) (xs es : List (ℕ × V)) → value_of n (noted xs es) ≡ None
    → All (λ (x : ℕ × V). (n == x.0) ≡ false) xs × (value_of n es ≡ None)
noted_none {V} n [] es none = (All-nil (λ (x : ℕ × V). (n == x.0) ≡ false), none)
noted_none {V} n (x ∷ xs) es none =
    let rest = noted_none n xs (with_entry x.0 x.1 es) none in
    let here = sym (value_of_with n x.0 x.1 es) ∙ rest.1 in
    let both = beside (n == x.0) (value_of n es) here in
    (All-cons (λ (y : ℕ × V). (n == y.0) ≡ false) x xs both.0 rest.0, both.1)
  where
    beside : (t : Bool) (o : Option V) → (if t then Some x.1 else o) ≡ None → (t ≡ false) × (o ≡ None)
    beside true o e = absurd cc
    beside false o e = (refl, e)

-- What was seen, part by part.
abbrev pub seen_with : List (ℕ × Option Free) → List (ℕ × Option Free) → List (ℕ × ℕ) → List (ℕ × ℕ) → Seen
seen_with before after lost gained = record { before = before; after = after; lost = lost; gained = gained }

-- what leaves say is what the first of them say and then the others
pub seen_append : (b : Book) (xs ys : List Leaf) (s : Seen)
    → seen_after b (xs ++ ys) s ≡ seen_after b ys (seen_after b xs s)
seen_append b xs ys s =
    ap (λ es. seen_with es (noted (flat_map new_splits (xs ++ ys)) s.after)
    (noted (flat_map (old_lines b) (xs ++ ys)) s.lost) (noted (flat_map new_lines (xs ++ ys)) s.gained))
    (both (old_splits b) xs ys s.before)
    ∙ ap (λ es. seen_with (noted (flat_map (old_splits b) ys) (noted (flat_map (old_splits b) xs) s.before)) es
    (noted (flat_map (old_lines b) (xs ++ ys)) s.lost) (noted (flat_map new_lines (xs ++ ys)) s.gained))
    (both new_splits xs ys s.after)
    ∙ ap (λ es. seen_with (noted (flat_map (old_splits b) ys) (noted (flat_map (old_splits b) xs) s.before))
    (noted (flat_map new_splits ys) (noted (flat_map new_splits xs) s.after)) es
    (noted (flat_map new_lines (xs ++ ys)) s.gained))
    (both (old_lines b) xs ys s.lost)
    ∙ ap (seen_with (noted (flat_map (old_splits b) ys) (noted (flat_map (old_splits b) xs) s.before))
    (noted (flat_map new_splits ys) (noted (flat_map new_splits xs) s.after))
    (noted (flat_map (old_lines b) ys) (noted (flat_map (old_lines b) xs) s.lost)))
    (both new_lines xs ys s.gained)
  where
    both : {V : Type 0} (f : Leaf → List (ℕ × V)) (xs ys : List Leaf) (es : List (ℕ × V))
        → noted (flat_map f (xs ++ ys)) es ≡ noted (flat_map f ys) (noted (flat_map f xs) es)
    both {V} f xs ys es =
        ap (λ zs. noted zs es) (flat_map-append f xs ys) ∙ noted_append (flat_map f xs) (flat_map f ys) es
