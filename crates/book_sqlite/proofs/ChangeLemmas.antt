-- The rows after an entry is put, or entries are taken out, by their rowids.
use Rattle.std.proofs.Common.{◌≡◌, ◌≢◌, ◌⊎◌, ◌^◌, ℕ, ℤ, ◌<◌, pos, Bool, true, false, not, List, [], ◌∷◌, Some, inl, inr, refl, sym, ap, subst, ◌∙◌, arith, Ordering, Equal, IsTrue, true≢false}
use Rattle.std.specs.List.{AllByRecursion}
use Rattle.std.specs.Ordering.{is_eq}
use Rattle.std.proofs.lemmas.Bool.{not-true, false_from_ne_true}
use Rattle.sqlite_value.specs.declared.value.Value.TheVariants.{Int}
use Rattle.sqlite_value.specs.Order.{Row as Entry, column, value_cmp}
use Rattle.sqlite_value.proofs.OrderLemmas.{value_cmp-Int}
use Rattle.sqlite_trees.specs.Tree.{IsTable, rowid, has_rowid, put_row, without_rowid}
use Rattle.sqlite_trees.specs.View.{is_int}
use Rattle.sqlite_rules.specs.Lists.{Has}
use Rattle.sqlite_rules.specs.Edit.{id_in, without_all, are_fresh}
use Rattle.sqlite_rules.proofs.ListLemmas.{has_filtered, has_kept, all_has, all_from}
use Rattle.sqlite_rules.proofs.TableLemmas.{int_is, has_put, put_has, put_all_keeps}
use Rattle.sqlite_rules.proofs.PlaceLemmas.{tied_same}
use Rattle.book_keeper.specs.declared.row.Row.{Row}
use Rattle.book_keeper.specs.declared.row.RowKey.{RowKey}
use Rattle.book_keeper.specs.Rows.{rank, with_row, without_row}
use Rattle.book_keeper.proofs.RowLemmas.{rises_with, rises_without}
use Rattle.book_sqlite.specs.Content.{row_held, rows_of}
use Rattle.book_sqlite.specs.KnownRows.{rises_of}
use Rattle.book_sqlite.specs.RowCalls.{HasKey}
use Rattle.book_sqlite.proofs.MemberLemmas.{same_members, put_member, member_put, member_kept, left_member, member_left}
use Rattle.book_sqlite.proofs.ContentLemmas.{made_from, holder, held_in, rank_parts}
use Rattle.book_sqlite.proofs.EntryLemmas.{AreEntries, holds_once, eq_itself}

abbrev pub HasKeyOf : RowKey → Entry → Type 0
HasKeyOf key e = HasKey e (pos key.kind) (pos key.id)

-- The rowids of the entries with this key, and no others.
pub record AreRowidsOf (es : List Entry) (key : RowKey) (ids : List ℤ) : Type 0 where
  pub sound : (id : ℤ) → Has ids id → (e : Entry) × Has es e × HasKeyOf key e × (rowid e ≡ Int id)
  pub complete : (e : Entry) → Has es e → HasKeyOf key e → Has ids (id_in (rowid e))

-- ---- entries taken out by their rowids
abbrev Lacks : List ℤ → Entry → Type 0
Lacks ids e = (id : ℤ) → Has ids id → has_rowid id e ≡ false

left_from : (ids : List ℤ) (es : List Entry) (e : Entry) → Has (without_all es ids) e → Has es e × Lacks ids e
left_from [] es e h = (h, λ id none. absurd none)
left_from (id ∷ ids) es e h =
    let later = left_from ids (without_rowid id es) e h in
    let kept = has_filtered (λ r. not (has_rowid id r)) es e later.0 in (
      kept.0,
      λ k there. elim there [
        | inl same ↦ subst (λ n. has_rowid n e ≡ false) (sym same) (not-true _ kept.1)
        | inr more ↦ later.1 k more
      ],
    )

left_has : (ids : List ℤ) (es : List Entry) (e : Entry) → Has es e → Lacks ids e → Has (without_all es ids) e
left_has [] es e h lacks = h
left_has (id ∷ ids) es e h lacks =
    left_has ids (without_rowid id es) e
    (has_kept (λ r. not (has_rowid id r)) es e h (ap not (lacks id (inl refl)))) (λ k there. lacks k (inr there))

ascends_all : (p : Entry → Bool) (R : Entry → Type 0) (es : List Entry) → AllByRecursion R es
    → AllByRecursion R (Rattle.std.specs.Prelude.filter p es)
ascends_all p R es all = all_from R (Rattle.std.specs.Prelude.filter p es) (λ e h. all_has R es e all (has_filtered p es e h).0)

filter_table : (p : Entry → Bool) (es : List Entry) → IsTable es → IsTable (Rattle.std.specs.Prelude.filter p es)
filter_table p [] up = tt
filter_table p (e ∷ es) up =
    elim (p e) as (λ b. IsTable (Rattle.std.proofs.Common.cond b (e ∷ Rattle.std.specs.Prelude.filter p es) (Rattle.std.specs.Prelude.filter p es))) [
      | true ↦ (ascends_all p (λ f. value_cmp (rowid e) (rowid f) ≡ Rattle.std.proofs.Common.Less) es up.0, filter_table p es up.1)
      | false ↦ filter_table p es up.1
    ]

-- what is left of a table is one
pub left_table : (ids : List ℤ) (es : List Entry) → IsTable es → IsTable (without_all es ids)
left_table [] es up = up
left_table (id ∷ ids) es up = left_table ids (without_rowid id es) (filter_table (λ r. not (has_rowid id r)) es up)

-- what holds of each entry holds of each that is left
pub left_all : (P : Entry → Type 0) (ids : List ℤ) (es : List Entry) → AllByRecursion P es → AllByRecursion P (without_all es ids)
left_all P ids es all = all_from P (without_all es ids) (λ e h. all_has P es e all (left_from ids es e h).0)

-- ---- which entries go
own_rowid : (e : Entry) → is_int (rowid e) ≡ true → has_rowid (id_in (rowid e)) e ≡ true
own_rowid e is =
    let equal : value_cmp (Int (id_in (rowid e))) (Int (id_in (rowid e))) ≡ Equal =
    value_cmp-Int (id_in (rowid e)) (id_in (rowid e)) ∙ eq_itself (id_in (rowid e)) in
    let here : value_cmp (rowid e) (Int (id_in (rowid e))) ≡ Equal =
    ap (λ v. value_cmp v (Int (id_in (rowid e)))) (int_is (rowid e) is) ∙ equal in
    ap is_eq here

equal_is : (o : Ordering) → is_eq o ≡ true → o ≡ Equal
equal_is Rattle.std.proofs.Common.Less h = absurd (true≢false (sym h))
equal_is Equal h = refl
equal_is Rattle.std.proofs.Common.Greater h = absurd (true≢false (sym h))

module _ (es : List Entry) (known : AreEntries es) (key : RowKey) (ids : List ℤ) (exact : AreRowidsOf es key ids) where
  -- no entry with the key is left
  gone : (e : Entry) → Has (without_all es ids) e → HasKeyOf key e → ⊥
  gone e h has =
      let left = left_from ids es e h in
      true≢false (sym (own_rowid e (known.rowids e left.0)) ∙ left.1 (id_in (rowid e)) (exact.complete e left.0 has))

  -- each other one is left
  kept : (e : Entry) → Has es e → (HasKeyOf key e → ⊥) → Has (without_all es ids) e
  kept e h other = left_has ids es e h (λ id there. false_from_ne_true _ (λ same.
      let f = exact.sound id there in
      let tie : value_cmp (rowid e) (rowid f.0) ≡ Equal =
      subst (λ v. value_cmp (rowid e) v ≡ Equal) (sym f.3) (equal_is _ same) in
      let entry = tied_same es e f.0 known.ordered h f.1 tie in
      other (subst (HasKeyOf key) (sym entry) f.2)))

-- the key of an entry is that of the row that it holds
key_held : (e : Entry) (row : Row) → row_held e ≡ Some row → HasKeyOf row.key e
key_held e row is = let made = made_from (column e 1) (column e 2) (column e 3) row is in (made.kind_is, made.id_is)

fits_held : (e : Entry) (row : Row) → row_held e ≡ Some row → row.key.id < 2 ^ 64
fits_held e row is = (made_from (column e 1) (column e 2) (column e 3) row is).fits

-- an entry with the key of a row has its rank
same_rank : (e : Entry) (row : Row) (key : RowKey) → row_held e ≡ Some row → HasKeyOf key e → rank row.key ≡ rank key
same_rank e row key is has =
    let held = key_held e row is in
    let kinds : Int (pos row.key.kind) ≡ Int (pos key.kind) = sym held.0 ∙ has.0 in
    let numbers : Int (pos row.key.id) ≡ Int (pos key.id) = sym held.1 ∙ has.1 in
    let kind : row.key.kind ≡ key.kind = cc in
    let number : row.key.id ≡ key.id = cc in
    rw (kind, number) refl

-- and the other way
has_key : (e : Entry) (row : Row) (key : RowKey) → row_held e ≡ Some row → key.id < 2 ^ 64 → rank row.key ≡ rank key → HasKeyOf key e
has_key e row key is low same =
    let held = key_held e row is in
    let parts = rank_parts row.key.kind row.key.id key.kind key.id (fits_held e row is) low same in
    (held.0 ∙ ap (λ n. Int (pos n)) parts.0, held.1 ∙ ap (λ n. Int (pos n)) parts.1)

-- ---- one row put
pub after_put :
    (es now : List Entry) → AreEntries es → AreEntries now → (row : Row) (new : Entry) (ids : List ℤ)
    → AreRowidsOf es row.key ids → row.key.id < 2 ^ 64 → row_held new ≡ Some row
    → are_fresh (without_all es ids) (new ∷ []) ≡ true → now ≡ put_row new (without_all es ids)
    → rows_of now ≡ with_row row (rows_of es)
after_put es now known next row new ids exact low new_is fresh now_is =
    let left = without_all es ids in
    same_members (rows_of now) (with_row row (rows_of es)) (rises_of now) (rises_with row (rows_of es) (rises_of es))
    (λ r h.
    let e = holder now r h in
    elim (put_has new left e.0 (subst (λ l. Has l e.0) now_is e.1)) [
      | inl first ↦
          let both : Some r ≡ Some row = sym e.2 ∙ ap row_held first ∙ new_is in
          let r_is : row ≡ r = cc in
          subst (Has (with_row row (rows_of es))) r_is (member_put row (rows_of es))
      | inr old ↦ member_kept row (rows_of es) r
          (held_in es (holds_once es known) e.0 r (left_from ids es e.0 old).0 e.2)
          (λ same. gone es known row.key ids exact e.0 old (has_key e.0 r row.key e.2 low same))
    ])
    (λ r h. elim (put_member row (rows_of es) r (rises_of es) h) [
      | inl first ↦ subst (Has (rows_of now)) (sym first)
          (held_in now (holds_once now next) new row (subst (λ l. Has l new) (sym now_is) (has_put new left)) new_is)
      | inr old ↦
          let e = holder es r old.0 in
          let there = kept es known row.key ids exact e.0 e.1 (λ has. old.1 (same_rank e.0 r row.key e.2 has)) in
          held_in now (holds_once now next) e.0 r
          (subst (λ l. Has l e.0) (sym now_is) (put_all_keeps (new ∷ []) left e.0 fresh there)) e.2
    ])

-- ---- one row deleted
pub after_take :
    (es now : List Entry) → AreEntries es → AreEntries now → (key : RowKey) (ids : List ℤ) → AreRowidsOf es key ids
    → key.id < 2 ^ 64 → now ≡ without_all es ids → rows_of now ≡ without_row key (rows_of es)
after_take es now known next key ids exact low now_is =
    same_members (rows_of now) (without_row key (rows_of es)) (rises_of now) (rises_without key (rows_of es) (rises_of es))
    (λ r h.
    let e = holder now r h in
    let old = subst (λ l. Has l e.0) now_is e.1 in
    member_left key (rows_of es) r (held_in es (holds_once es known) e.0 r (left_from ids es e.0 old).0 e.2)
    (λ same. gone es known key ids exact e.0 old (has_key e.0 r key e.2 low same)))
    (λ r h.
    let old = left_member key (rows_of es) r (rises_of es) h in
    let e = holder es r old.0 in
    let there = kept es known key ids exact e.0 e.1 (λ has. old.1 (same_rank e.0 r key e.2 has)) in
    held_in now (holds_once now next) e.0 r (subst (λ l. Has l e.0) (sym now_is) there) e.2)
