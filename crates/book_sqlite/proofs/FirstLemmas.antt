-- The selects of the first row by key, and the delete of a row.
use Rattle.std.proofs.Common.{◌≡◌, ℕ, ℤ, pos, ◌<ℤ◌, ◌≤ℤ◌, Bool, true, false, ◌&&◌, zero, suc, ◌+◌, List, [], ◌∷◌, map, take, get_or, inl, inr, refl, sym, ap, subst, ◌∙◌, arith, true≢false, Ordering, Less, Equal, Greater}
use native.Mathlib.Numerals.{unary_clauses}
use Rattle.std.specs.Bool.{⊤}
use Rattle.std.specs.Ordering.{is_eq, is_lt, is_gt, is_ge, int_cmp, ordering_then}
use Rattle.std.specs.List.Sorted.{IsPermutation}
use Rattle.std.proofs.lemmas.Bool.{and_parts, and_from}
use Rattle.std.proofs.lemmas.Cmp.{int_ranked}
use Rattle.std.proofs.lemmas.Int.{ints}
use Rattle.sqlite_value.specs.declared.value.Value.TheVariants.{Null, Int}
use Rattle.sqlite_value.specs.Order.{Row as Entry, column, value_cmp}
use Rattle.sqlite_value.proofs.OrderLemmas.{value_cmp-Int}
use Rattle.sqlite_trees.specs.Tree.{Trees, rowid}
use Rattle.sqlite_sql.specs.declared.ops.CompareOp.TheVariants.{Eq, Gt, Ge}
use Rattle.sqlite_sql.specs.Term.{Term}
use Rattle.sqlite_sql.specs.Query.{Query, Output, output, output_cmp, page, matches_as, IsAnswerAs}
use Rattle.sqlite_sql.specs.Program.{overlay}
use Rattle.sqlite_rules.specs.Lists.{Has}
use Rattle.book_sqlite.specs.RowCalls.{HasKey, UpTo, Behind, From, Later, IsShown, ShowsOn, Shows}
use Rattle.sqlite_rules.specs.Edit.{id_in}
use Rattle.sqlite_rules.specs.Calls.{ids_of}
use Rattle.sqlite_rules.proofs.TableLemmas.{int_is}
use Rattle.book_keeper.specs.declared.row.RowKey.{RowKey}
use Rattle.book_sqlite.proofs.Meanings.{first_query, behind_terms, from_terms, key_terms, take_query}
use Rattle.book_sqlite.proofs.EntryLemmas.{AreEntries, compared, same_int, eq_itself}
use Rattle.book_sqlite.proofs.ChangeLemmas.{AreRowidsOf}
use Rattle.book_sqlite.proofs.ShownLemmas.{Passes, passes_all, shown_from, shown_has, first_least, mapped_from, mapped_has}

-- ---- tests of integers
gt_by : (a b : ℤ) (o : Ordering) → o ≡ int_cmp a b → is_gt o ≡ true → b <ℤ a
gt_by a b Less is h = absurd (true≢false (sym h))
gt_by a b Equal is h = absurd (true≢false (sym h))
gt_by a b Greater is h = int_ranked a b Greater is

by_gt : (a b : ℤ) (o : Ordering) → o ≡ int_cmp a b → b <ℤ a → is_gt o ≡ true
by_gt a b Less is h = let low : a <ℤ b = int_ranked a b Less is in absurd (omega (arith, ints, low, h))
by_gt a b Equal is h = let same : a ≡ b = int_ranked a b Equal is in absurd (omega (arith, ints, same, h))
by_gt a b Greater is h = refl

ge_by : (a b : ℤ) (o : Ordering) → o ≡ int_cmp a b → is_ge o ≡ true → b ≤ℤ a
ge_by a b Less is h = absurd (true≢false (sym h))
ge_by a b Equal is h = let same : a ≡ b = int_ranked a b Equal is in omega (arith, ints, same)
ge_by a b Greater is h = let high : b <ℤ a = int_ranked a b Greater is in omega (arith, ints, high)

by_ge : (a b : ℤ) (o : Ordering) → o ≡ int_cmp a b → b ≤ℤ a → is_ge o ≡ true
by_ge a b Less is h = let low : a <ℤ b = int_ranked a b Less is in absurd (omega (arith, ints, low, h))
by_ge a b Equal is h = refl
by_ge a b Greater is h = refl

up_to_by : (kind id other more : ℤ) (o p : Ordering) → o ≡ int_cmp other kind → p ≡ int_cmp more id
    → is_lt (ordering_then o (ordering_then p Equal)) ≡ false → UpTo kind id other more
up_to_by kind id other more Less p is js h = absurd (true≢false h)
up_to_by kind id other more Greater p is js h = inl (int_ranked other kind Greater is)
up_to_by kind id other more Equal Less is js h = absurd (true≢false h)
up_to_by kind id other more Equal Equal is js h =
    let same : more ≡ id = int_ranked more id Equal js in inr (sym (int_ranked other kind Equal is), omega (arith, ints, same))
up_to_by kind id other more Equal Greater is js h =
    let high : id <ℤ more = int_ranked more id Greater js in inr (sym (int_ranked other kind Equal is), omega (arith, ints, high))

-- WHERE decides it of entries with keys
abbrev Decides : Entry → List Term → (ℤ → ℤ → Type 0) → Type 0
Decides params filter P =
    (e : Entry) (kind id : ℤ) → HasKey e kind id
    → (passes_all params filter e ≡ true → P kind id) × (P kind id → passes_all params filter e ≡ true)

behind_is : (kind id : ℤ) (e : Entry) (k i : ℤ) → HasKey e k i
    → passes_all (Int kind ∷ Int id ∷ []) behind_terms e ≡ (is_eq (int_cmp k kind) && (is_gt (int_cmp i id) && true))
behind_is kind id e k i has = rw (has.0, has.1, compared Eq k kind, compared Gt i id) refl

pub behind_decides : (kind id : ℤ) → Decides (Int kind ∷ Int id ∷ []) behind_terms (Behind kind id)
behind_decides kind id e k i has = (
  λ h. let both = and_parts _ _ (sym (behind_is kind id e k i has) ∙ h) in
      (same_int k kind both.0, gt_by i id (int_cmp i id) refl (and_parts _ _ both.1).0),
  λ p. behind_is kind id e k i has ∙ and_from _ _ (ap (λ n. is_eq (int_cmp n kind)) p.0 ∙ ap is_eq (eq_itself kind))
      (and_from _ _ (by_gt i id (int_cmp i id) refl p.1) refl),
)

from_is : (kind : ℤ) (e : Entry) (k i : ℤ) → HasKey e k i
    → passes_all (Int kind ∷ []) from_terms e ≡ (is_ge (int_cmp k kind) && true)
from_is kind e k i has = rw (has.0, compared Ge k kind) refl

pub from_decides : (kind : ℤ) → Decides (Int kind ∷ []) from_terms (From kind)
from_decides kind e k i has = (
  λ h. ge_by k kind (int_cmp k kind) refl (and_parts _ _ (sym (from_is kind e k i has) ∙ h)).0,
  λ p. from_is kind e k i has ∙ and_from _ _ (by_ge k kind (int_cmp k kind) refl p) refl,
)

key_is : (kind id : ℤ) (e : Entry) (k i : ℤ) → HasKey e k i
    → passes_all (Int kind ∷ Int id ∷ []) key_terms e ≡ (is_eq (int_cmp k kind) && (is_eq (int_cmp i id) && true))
key_is kind id e k i has = rw (has.0, has.1, compared Eq k kind, compared Eq i id) refl

-- what is sorted is sorted from its second on
sorted_rest : {X : Type 0} (lt : X → X → Bool) (x : X) (xs : List X) → Rattle.std.specs.List.Sorted.IsSortedBy lt (x ∷ xs)
    → Rattle.std.specs.List.Sorted.IsSortedBy lt xs
sorted_rest lt x xs up k d low high =
    let step : lt (get_or (x ∷ xs) (suc (suc k)) d) (get_or (x ∷ xs) (suc k) d) ≡ false = simp unary_clauses at (up (k + 1) d (omega arith) (omega (arith, high))) in
    simp unary_clauses step

-- ---- the first
module _ (filter : List Term) (P : ℤ → ℤ → Type 0) (db : Trees) (params : Entry) (known : AreEntries (db 0)) (decides : Decides params filter P) where
  abbrev q : Query
  q = first_query filter

  -- what comes first of the outputs that are left is shown next
  shows_next : (Late : ℤ → ℤ → Type 0) (o : Output) (more : List Output) → Passes q (db 0) params o
      → Rattle.std.specs.List.Sorted.IsSorted (output_cmp q) (o ∷ more)
      → ((e : Entry) (kind id : ℤ) → Has (db 0) e → HasKey e kind id → P kind id → Late kind id → Has (o ∷ more) (output q (params ∷ e ∷ [])))
      → IsShown P Late (db 0) o.1
  shows_next Late o more p up all =
      let k = known.keyed p.entry p.there in record {
        entry = p.entry;
        kind = k.kind;
        id = k.id;
        there = p.there;
        has = (k.kind_is, k.id_is);
        passes = (decides p.entry k.kind k.id (k.kind_is, k.id_is)).0 p.passes;
        is = ap (λ (x : Output). x.1) p.is ∙ ap (λ v. v ∷ column p.entry 2 ∷ column p.entry 3 ∷ []) k.kind_is
            ∙ ap (λ v. Int k.kind ∷ v ∷ column p.entry 3 ∷ []) k.id_is;
        least = λ f other further h has passes late.
            let there = all f other further h has passes late in
            let least = first_least q o more (output q (params ∷ f ∷ [])) up there in
            let keys : is_lt (ordering_then (value_cmp (Int other) (Int k.kind)) (ordering_then (value_cmp (Int further) (Int k.id)) Equal)) ≡ false =
            rw (← has.0, ← has.1, ← k.kind_is, ← k.id_is) (subst (λ (x : Output). is_lt (output_cmp q (output q (params ∷ f ∷ [])) x) ≡ false) p.is least) in
            up_to_by k.kind k.id other further (value_cmp (Int other) (Int k.kind)) (value_cmp (Int further) (Int k.id))
            (value_cmp-Int other k.kind) (value_cmp-Int further k.id) keys;
      }

  -- no key is behind itself
  not_later : (kind id : ℤ) → Later kind id kind id → ⊥
  not_later kind id (inl less) = omega (arith, ints, less)
  not_later kind id (inr same) = omega (arith, ints, same.1)

  -- one that is behind what is shown is among the outputs after it
  left_after : (Late : ℤ → ℤ → Type 0) (o : Output) (more : List Output) (p : Passes q (db 0) params o) (kind id : ℤ)
      → column p.entry 1 ≡ Int kind → column p.entry 2 ≡ Int id
      → ((e : Entry) (other number : ℤ) → Has (db 0) e → HasKey e other number → P other number → Late other number
      → Has (o ∷ more) (output q (params ∷ e ∷ [])))
      → (e : Entry) (other number : ℤ) → Has (db 0) e → HasKey e other number → P other number
      → Late other number × Later kind id other number → Has more (output q (params ∷ e ∷ []))
  left_after Late o more p kind id kind_is id_is all e other number h has passes late = elim (all e other number h has passes late.0) [
    | inl same ↦
        let row : column e 1 ∷ column e 2 ∷ column e 3 ∷ [] ≡ column p.entry 1 ∷ column p.entry 2 ∷ column p.entry 3 ∷ [] =
        ap (λ (x : Output). x.1) (same ∙ p.is) in
        let kinds : Int other ≡ Int kind = sym has.0 ∙ ap (λ (r : Entry). column r 0) row ∙ kind_is in
        let numbers : Int number ≡ Int id = sym has.1 ∙ ap (λ (r : Entry). column r 1) row ∙ id_is in
        absurd (not_later kind id (subst (λ n. Later kind id n id) (let k = kinds in cc) (subst (Later kind id other) (let n = numbers in cc) late.1)))
    | inr later ↦ later
  ]

  shows_on : (n : ℕ) (Late : ℤ → ℤ → Type 0) (outs : List Output)
      → ((o : Output) → Has outs o → Passes q (db 0) params o) → Rattle.std.specs.List.Sorted.IsSorted (output_cmp q) outs
      → ((e : Entry) (kind id : ℤ) → Has (db 0) e → HasKey e kind id → P kind id → Late kind id → Has outs (output q (params ∷ e ∷ [])))
      → ShowsOn P Late (db 0) (take n (map (λ o. o.1) outs))
  unfolding shows_next
  shows_on zero Late outs from up all = tt
  shows_on (suc n) Late [] from up all = tt
  shows_on (suc n) Late (o ∷ more) from up all =
      let p = from o (inl refl) in
      let first = shows_next Late o more p up all in (
        first,
        shows_on n (λ other number. Late other number × Later first.kind first.id other number) more
            (λ x h. from x (inr h)) (sorted_rest (λ x y. is_lt (output_cmp q x y)) o more up)
            (left_after Late o more p first.kind first.id first.has.0 first.has.1 all),
      )

  first_by :
      (ordered : List Output) (rows : List Entry)
      → IsPermutation (map (output q) (matches_as Null (overlay db []) filter q.from (params ∷ []))) ordered
      → Rattle.std.specs.List.Sorted.IsSorted (output_cmp q) ordered → rows ≡ page q params (map (λ o. o.1) ordered)
      → Shows P (db 0) rows
  first_by [] rows same up shown =
      subst (Shows P (db 0)) (sym shown) (λ e kind id h has passes.
      shown_has q Null (overlay db []) params refl [] same e h ((decides e kind id has).1 passes))
  first_by (o ∷ more) rows same up shown =
      subst (Shows P (db 0)) (sym shown) (shows_on 64 (λ _ _. ⊤) (o ∷ more) (shown_from q Null (overlay db []) params refl (o ∷ more) same) up
      (λ e kind id h has passes late. shown_has q Null (overlay db []) params refl (o ∷ more) same e h ((decides e kind id has).1 passes)))

  -- an answer shows the first entries that pass
  pub shows_first : (rows : List Entry) → IsAnswerAs Null q (overlay db []) params rows → Shows P (db 0) rows
  shows_first rows a =
      let kept_is = a.distinct ∙ ap (map (output q)) a.grouped in
      first_by a.ordered rows (subst (λ k. IsPermutation k a.ordered) kept_is a.same) a.sorted a.shown

-- ---- the rowids of the entries with a key
pub answers_rowids :
    (db : Trees) (key : RowKey) (rows : List Entry) → AreEntries (db 0)
    → IsAnswerAs Null take_query (overlay db []) (Int (pos key.kind) ∷ Int (pos key.id) ∷ []) rows → AreRowidsOf (db 0) key (ids_of rows)
answers_rowids db key rows known a =
    let q = take_query in
    let params = Int (pos key.kind) ∷ Int (pos key.id) ∷ [] in
    let kept_is = a.distinct ∙ ap (map (output q)) a.grouped in
    let same = subst (λ k. IsPermutation k a.ordered) kept_is a.same in
    record {
      sound = λ id h.
          let x = mapped_from (λ r. id_in (rowid r)) rows id h in
          let o = mapped_from (λ (o : Output). o.1) a.ordered x.0 (subst (λ l. Has l x.0) a.shown x.1) in
          let p = shown_from q Null (overlay db []) params refl a.ordered same o.0 o.1 in
          let k = known.keyed p.entry p.there in
          let both = and_parts _ _ (sym (key_is (pos key.kind) (pos key.id) p.entry k.kind k.id (k.kind_is, k.id_is)) ∙ p.passes) in
          let second = and_parts _ _ both.1 in
          let shown : x.0 ≡ rowid p.entry ∷ [] = o.2 ∙ ap (λ (y : Output). y.1) p.is in
          let id_is : id ≡ id_in (rowid p.entry) = x.2 ∙ ap (λ e. id_in (rowid e)) shown in (
            p.entry,
            p.there,
            (k.kind_is ∙ ap Int (same_int k.kind (pos key.kind) both.0), k.id_is ∙ ap Int (same_int k.id (pos key.id) second.0)),
            int_is (rowid p.entry) (known.rowids p.entry p.there) ∙ ap Int (sym id_is),
          );
      complete = λ e h has.
          let passes : passes_all params key_terms e ≡ true =
          key_is (pos key.kind) (pos key.id) e (pos key.kind) (pos key.id) has ∙ rw (eq_itself (pos key.kind), eq_itself (pos key.id)) refl in
          let there = shown_has q Null (overlay db []) params refl a.ordered same e h passes in
          let shown = mapped_has (λ (o : Output). o.1) a.ordered (output q (params ∷ e ∷ [])) there in
          mapped_has (λ r. id_in (rowid r)) rows (rowid e ∷ []) (subst (λ l. Has l (rowid e ∷ [])) (sym a.shown) shown);
    }
