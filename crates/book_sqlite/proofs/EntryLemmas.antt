-- What the schema says of the entries of the table of rows.
use Rattle.std.proofs.Common.{◌≡◌, ℤ, pos, Bool, true, false, not, ◌&&◌, List, [], ◌∷◌, Some, inl, inr, refl, sym, ap, subst, ◌∙◌, arith, ◌<ℤ◌, true≢false, Ordering, Less, Equal, Greater, IsTrue}
use Rattle.std.specs.Ordering.{is_eq, int_eq, int_cmp}
use Rattle.std.proofs.lemmas.Bool.{and_parts, and_from, not-true, cases_Bool}
use Rattle.std.proofs.lemmas.Cmp.{int_ranked}
use Rattle.std.proofs.lemmas.Int.{ints}
use Rattle.sqlite_value.specs.declared.value.Value.{Value}
use Rattle.sqlite_value.specs.declared.value.Value.TheVariants.{Null, Int, Real, Text, Blob}
use Rattle.sqlite_value.specs.declared.keys.Collation.TheVariants.{Binary}
use Rattle.sqlite_value.specs.Order.{Row as Entry, column, value_cmp}
use Rattle.sqlite_value.specs.Keys.{plain, first_key}
use Rattle.sqlite_value.proofs.OrderLemmas.{value_cmp-Int}
use Rattle.sqlite_trees.specs.Tree.{Trees, rowid, IsTable}
use Rattle.sqlite_trees.specs.View.{is_int}
use Rattle.sqlite_sql.specs.declared.ops.BinaryOp.TheVariants.{Compare}
use Rattle.sqlite_sql.specs.declared.ops.CompareOp.{CompareOp}
use Rattle.sqlite_sql.specs.declared.ops.CompareOp.TheVariants.{Eq, Ne}
use Rattle.sqlite_sql.specs.Ops.{binary, is_true, is_null, from_truth, test}
use Rattle.sqlite_schema.specs.declared.schema.Constraint.TheVariants.{Datatype, NotNull, Unique}
use Rattle.sqlite_schema.specs.declared.schema.Kind.TheVariants.{Integer}
use Rattle.sqlite_schema.specs.Rules.{agree, differ, clashes, passes, is_of}
use Rattle.sqlite_rules.specs.Lists.{Has}
use Rattle.sqlite_rules.specs.Edit.{id_in}
use Rattle.sqlite_rules.proofs.ListLemmas.{all_has, some_from}
use Rattle.sqlite_rules.proofs.RuleLemmas.{keeps_at}
use Rattle.sqlite_rules.proofs.TableLemmas.{int_is}
use Rattle.sqlite_rules.proofs.PlaceLemmas.{tied_same}
use Rattle.sqlite.specs.Effect.{Database}
use Rattle.book_sqlite.specs.Content.{row_held}
use Rattle.book_sqlite.specs.RowsSchema.{rows_schema, rows_table}
use Rattle.book_sqlite.specs.RowsDatabase.{IsRowsDatabase}
use Rattle.book_sqlite.proofs.ContentLemmas.{made_from, HoldOnce, rank_parts}

-- ---- values
truth_of : (t : Bool) → is_true (from_truth (Some t)) ≡ t
truth_of true = refl
truth_of false = refl

-- integers compare as they are
pub compared : (op : CompareOp) (a b : ℤ) → is_true (binary (Compare op Binary) (Int a) (Int b)) ≡ test op (int_cmp a b)
unfolding binary
compared op a b = truth_of (test op (value_cmp (Int a) (Int b))) ∙ ap (test op) (value_cmp-Int a b)

same_by : (a b : ℤ) (o : Ordering) → o ≡ int_cmp a b → is_eq o ≡ true → a ≡ b
same_by a b Less is e = absurd cc
same_by a b Equal is e = int_ranked a b Equal is
same_by a b Greater is e = absurd cc

-- integers that compare as equal are the same
pub same_int : (a b : ℤ) → int_eq a b ≡ true → a ≡ b
same_int a b e = same_by a b (int_cmp a b) refl e

itself_by : (a : ℤ) (o : Ordering) → o ≡ int_cmp a a → o ≡ Equal
itself_by a Less is = let low : a <ℤ a = int_ranked a a Less is in absurd (omega (arith, ints, low))
itself_by a Equal is = refl
itself_by a Greater is = let low : a <ℤ a = int_ranked a a Greater is in absurd (omega (arith, ints, low))

-- an integer compares as equal to itself
pub eq_itself : (a : ℤ) → int_cmp a a ≡ Equal
eq_itself a = itself_by a (int_cmp a a) refl

integer_is : (v : Value) → is_of Integer v ≡ true → is_null v ≡ false → (n : ℤ) × (v ≡ Int n)
integer_is Null typed there = absurd cc
integer_is (Int n) typed there = (n, refl)
integer_is (Real x) typed there = absurd cc
integer_is (Text t) typed there = absurd cc
integer_is (Blob b) typed there = absurd cc

-- ---- entries
pub record IsKeyed (e : Entry) : Type 0 where
  pub kind : ℤ
  pub id : ℤ
  pub kind_is : column e 1 ≡ Int kind
  pub id_is : column e 2 ≡ Int id

never : (b : Bool) → (b && false) ≡ true → ⊥
never true h = true≢false (sym h)
never false h = true≢false (sym h)

keyed_from :
    (db : Trees) (e : Entry) → passes Datatype rows_schema db rows_table e ≡ true
    → passes NotNull rows_schema db rows_table e ≡ true → IsKeyed e
keyed_from db [] typed there = absurd cc
keyed_from db (r ∷ []) typed there = absurd cc
keyed_from db (r ∷ a ∷ []) typed there = absurd (never (not (is_null a)) there)
keyed_from db (r ∷ a ∷ b ∷ more) typed there =
    let types = and_parts _ _ (and_parts _ _ typed).0 in
    let second = and_parts _ _ types.1 in
    let present = and_parts _ _ there in
    let present_more = and_parts _ _ present.1 in
    let k = integer_is a types.0 (not-true _ present.0) in
    let i = integer_is b second.0 (not-true _ present_more.0) in
    record { kind = k.0; id = i.0; kind_is = k.1; id_is = i.1 }

-- the key of an entry agrees with another by both numbers
pub agree_keys :
    (a b : Entry) (k i l j : ℤ) → column a 1 ≡ Int k → column a 2 ≡ Int i → column b 1 ≡ Int l → column b 2 ≡ Int j
    → agree plain (1 ∷ 2 ∷ []) a (1 ∷ 2 ∷ []) b ≡ (int_eq k l && (int_eq i j && true))
unfolding first_key
agree_keys a b k i l j p q r s = rw (p, q, r, s, compared Eq k l, compared Eq i j)

is_true_then : (b : Bool) → IsTrue b → b ≡ true
is_true_then true h = refl
is_true_then false h = absurd cc

-- What is known of the entries of a file of rows.
pub record AreEntries (es : List Entry) : Type 0 where
  pub ordered : IsTable es
  pub rowids : (e : Entry) → Has es e → is_int (rowid e) ≡ true
  pub keyed : (e : Entry) → Has es e → IsKeyed e
  pub once : (a b : Entry) → Has es a → Has es b → column a 1 ≡ column b 1 → column a 2 ≡ column b 2 → a ≡ b

equal_by : (o : Ordering) → test Ne o ≡ false → o ≡ Equal
equal_by Less e = absurd (true≢false e)
equal_by Equal e = refl
equal_by Greater e = absurd (true≢false e)

-- rowids that do not differ are tied
tied_by : (v w : Value) → is_int v ≡ true → is_int w ≡ true → differ v w ≡ false → value_cmp v w ≡ Equal
tied_by v w p q e =
    let differ_is : differ (Int (id_in v)) (Int (id_in w)) ≡ false = rw (← int_is v p, ← int_is w q) e in
    let equal = equal_by (int_cmp (id_in v) (id_in w)) (sym (compared Ne (id_in v) (id_in w)) ∙ differ_is) in
    let ints_equal : value_cmp (Int (id_in v)) (Int (id_in w)) ≡ Equal = value_cmp-Int (id_in v) (id_in w) ∙ equal in
    rw (int_is v p, int_is w q) ints_equal

agree_same_keys :
    (a b : Entry) → IsKeyed a → column a 1 ≡ column b 1 → column a 2 ≡ column b 2
    → agree plain (1 ∷ 2 ∷ []) a (1 ∷ 2 ∷ []) b ≡ true
agree_same_keys a b k one two =
    agree_keys a b k.kind k.id k.kind k.id k.kind_is k.id_is (sym one ∙ k.kind_is) (sym two ∙ k.id_is)
    ∙ rw (eq_itself k.kind, eq_itself k.id) refl

once_in :
    (db : Trees) → IsTable (db 0) → ((e : Entry) → Has (db 0) e → is_int (rowid e) ≡ true) → (a b : Entry)
    → Has (db 0) a → Has (db 0) b → passes Unique rows_schema db rows_table b ≡ true → IsKeyed a
    → column a 1 ≡ column b 1 → column a 2 ≡ column b 2 → a ≡ b
once_in db up ints_only a b ha hb alone k one two = elim (cases_Bool (differ (rowid a) (rowid b))) [
  | inl apart ↦
      let clash = some_from (λ o. agree plain (1 ∷ 2 ∷ []) o (1 ∷ 2 ∷ []) b && differ (rowid o) (rowid b)) (db 0) a ha
      (and_from _ _ (agree_same_keys a b k one two) apart) in
      let none : clashes plain (1 ∷ 2 ∷ []) (db 0) b ≡ false = not-true _ (and_parts _ _ alone).0 in
      absurd (true≢false (sym clash ∙ none))
  | inr tied ↦ tied_same (db 0) a b up ha hb (tied_by (rowid a) (rowid b) (ints_only a ha) (ints_only b hb) tied)
]

pub entries : (db : Database) → IsRowsDatabase db → AreEntries (db.trees 0)
entries db it =
    let sound = subst (λ s. Rattle.sqlite_schema.specs.Rules.Obeys s db.trees) it.schema it.sound.obeys in
    let keyed = λ (e : Entry) (h : Has (db.trees 0) e). keyed_from db.trees e
    (keeps_at Datatype rows_schema db.trees rows_table e (sound.rules Datatype) (inl refl) h)
    (keeps_at NotNull rows_schema db.trees rows_table e (sound.rules NotNull) (inl refl) h) in
    let rowids = λ (e : Entry) (h : Has (db.trees 0) e). is_true_then _ (all_has _ (db.trees 0) e it.keyed h) in
    record {
      ordered = it.ordered;
      rowids = rowids;
      keyed = keyed;
      once = λ a b ha hb. once_in db.trees it.ordered rowids a b ha hb
          (keeps_at Unique rows_schema db.trees rows_table b (sound.rules Unique) (inl refl) hb) (keyed a ha);
    }

-- entries of a file of rows hold each key once
pub holds_once : (es : List Entry) → AreEntries es → HoldOnce es
holds_once es known a b row other ha hb ra rb same =
    let ma = made_from (column a 1) (column a 2) (column a 3) row ra in
    let mb = made_from (column b 1) (column b 2) (column b 3) other rb in
    let parts = rank_parts row.key.kind row.key.id other.key.kind other.key.id ma.fits mb.fits same in
    let entry = known.once a b ha hb (ma.kind_is ∙ ap (λ n. Int (pos n)) parts.0 ∙ sym mb.kind_is)
    (ma.id_is ∙ ap (λ n. Int (pos n)) parts.1 ∙ sym mb.id_is) in
    let both : row_held a ≡ row_held b = ap row_held entry in
    let some : Some row ≡ Some other = sym ra ∙ both ∙ rb in
    cc
