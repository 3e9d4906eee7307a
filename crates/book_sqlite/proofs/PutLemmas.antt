-- One row put: INSERT OR REPLACE takes out the entry with the key of the new one, and puts that behind the last.
use Rattle.std.proofs.Common.{◌≡◌, ◌⊎◌, ◌^◌, ℕ, ℤ, ◌<◌, pos, Bool, true, false, cond, List, [], ◌∷◌, Some, None, Ok, Err, Result, inl, inr, refl, sym, ap, subst, ◌∙◌, true≢false, Equal}
use Rattle.std.specs.List.{AllByRecursion}
use Rattle.std.specs.Ordering.{is_eq, int_eq}
use Rattle.std.proofs.lemmas.Bool.{and_parts, or_cases, or_left, or_right}
use Rattle.sqlite_value.specs.declared.value.Value.{Value}
use Rattle.sqlite_value.specs.declared.value.Value.TheVariants.{Null, Int, Blob}
use Rattle.sqlite_value.specs.Order.{Row as Entry, value_cmp}
use Rattle.sqlite_value.specs.Keys.{plain, first_key}
use Rattle.sqlite_value.proofs.OrderLemmas.{value_cmp-Int}
use Rattle.sqlite_trees.specs.Tree.{Trees, rowid, put_row}
use Rattle.sqlite_trees.specs.View.{is_int}
use Rattle.sqlite_trees.proofs.TreeLemmas.{IsTable-put_row}
use Rattle.sqlite_sql.specs.declared.ops.CompareOp.TheVariants.{Eq}
use Rattle.sqlite_sql.specs.Ops.{unary}
use Rattle.sqlite_schema.specs.declared.schema.Keys.TheVariants.{Enforced}
use Rattle.sqlite_schema.specs.declared.schema.Kind.TheVariants.{Integer}
use Rattle.sqlite_schema.specs.declared.command.Command.TheVariants.{InsertOr}
use Rattle.sqlite_schema.specs.declared.command.Conflict.TheVariants.{Replace}
use Rattle.sqlite_schema.specs.declared.command.Source.TheVariants.{Values}
use Rattle.sqlite_schema.specs.Rules.{agree}
use Rattle.sqlite_rules.specs.declared.error.Rowids.TheVariants.{Chosen, Given}
use Rattle.sqlite_rules.specs.Lists.{Has}
use Rattle.sqlite_rules.specs.Cast.{cast, cast_row}
use Rattle.sqlite_rules.specs.Keys.{AreConflicts, conflicts}
use Rattle.sqlite_rules.specs.Edit.{id_in, next_rowid, with_rowid, edit_of, without_all, is_taken, are_fresh}
use Rattle.sqlite_rules.specs.Calls.{ids_of}
use Rattle.sqlite_rules.proofs.ListLemmas.{some_from, all_from, all_has}
use Rattle.sqlite_rules.proofs.TableLemmas.{int_is, put_has}
use Rattle.sqlite_rules.proofs.PlaceLemmas.{next_is_free}
use Rattle.sqlite.specs.Effect.{Database}
use Rattle.sqlite.specs.Does.{Tally, Does}
use Rattle.sqlite.specs.Rows.{Task, Written, Puts, Clears, Tries}
use Rattle.sqlite.specs.State.{State, Writes, mode_of}
use Rattle.sqlite.proofs.Callers.{one_step}
use Rattle.book_keeper.specs.declared.row.Row.{Row}
use Rattle.book_keeper.specs.Rows.{with_row}
use Rattle.book_sqlite.specs.RowsSchema.{rows_schema, rows_table, rows_index}
use Rattle.book_sqlite.specs.RowsDatabase.{IsRowsDatabase, rows_in}
use Rattle.book_sqlite.proofs.Meanings.{put_terms}
use Rattle.book_sqlite.proofs.ContentLemmas.{made_of}
use Rattle.book_sqlite.proofs.EntryLemmas.{AreEntries, entries, compared, same_int, eq_itself, agree_keys}
use Rattle.book_sqlite.proofs.ChangeLemmas.{HasKeyOf, AreRowidsOf, left_table, left_all, after_put}
use Rattle.book_sqlite.proofs.ShownLemmas.{mapped_from, mapped_has}

-- ---- parts of a statement that gave a value
pub went : {B E R : Type 0} {b : B} {Stops : E → Type 0} → ((stop : E) × Stops stop × (Ok b ≡ Err stop)) ⊎ R → R
went (inl stopped) = absurd (let e = stopped.2 in cc)
went (inr on) = on

pub same_value : {B E : Type 0} {a b : B} → ◌≡◌ {A = Result B E} (Ok a) (Ok b) → a ≡ b
same_value e = cc

-- what the parts of a statement on the table of rows read
abbrev pub task : State → Entry → Task
task old params = record { limit = old.step_limit; keys = Enforced; schema = rows_schema; table = rows_table; params = params }

-- ---- the new entry
either : (b : Bool) (x : Value) → cond b x x ≡ x
either true x = refl
either false x = refl

cast_null : cast Integer Null ≡ Null
unfolding unary
cast_null = either _ Null

cast_int : (n : ℤ) → cast Integer (Int n) ≡ Int n
unfolding unary
cast_int n = either _ (Int n)

abbrev entry_of : Value → Value → Value → List ℕ → Entry
entry_of id kind number body = id ∷ kind ∷ number ∷ Blob body ∷ []

cast_entry :
    (id : Value) (k i : ℤ) (body : List ℕ) → cast Integer id ≡ id
    → cast_row rows_table (entry_of id (Int k) (Int i) body) ≡ entry_of id (Int k) (Int i) body
cast_entry id k i body h =
    ap (λ x. entry_of x (cast Integer (Int k)) (cast Integer (Int i)) body) h
    ∙ ap (λ x. entry_of id x (cast Integer (Int i)) body) (cast_int k)
    ∙ ap (λ x. entry_of id (Int k) x body) (cast_int i)

-- the values of the row as parameters
abbrev pub put_params : Row → Entry
put_params row = Int (pos row.key.kind) ∷ Int (pos row.key.id) ∷ Blob row.body ∷ []

-- the entry behind the last that holds the row
abbrev pub new_entry : List Entry → Row → Entry
new_entry es row = entry_of (Int (next_rowid es)) (Int (pos row.key.kind)) (Int (pos row.key.id)) row.body

numbered_is : (es : List Entry) (row : Row)
    → with_rowid Chosen es (cast_row rows_table (entry_of Null (Int (pos row.key.kind)) (Int (pos row.key.id)) row.body)) ≡ new_entry es row
numbered_is es row = ap (with_rowid Chosen es) (cast_entry Null (pos row.key.kind) (pos row.key.id) row.body cast_null)

cast_new : (es : List Entry) (row : Row) → cast_row rows_table (new_entry es row) ≡ new_entry es row
cast_new es row = cast_entry (Int (next_rowid es)) (pos row.key.kind) (pos row.key.id) row.body (cast_int (next_rowid es))

-- ---- what the parts make
puts_gives :
    (old : State) (params : Entry) (db : Trees) (new : Entry) (one : Written) → Puts (task old params) new db (Ok one)
    → (one.trees 0 ≡ put_row (cast_row rows_table new) (db 0)) × (are_fresh (db 0) (cast_row rows_table new ∷ []) ≡ true)
puts_gives old params db new one h =
    let done = went h in
    let applied = one_step rows_schema Enforced db done.0 (edit_of db rows_table [] Given 0 (new ∷ [])) refl done.1 in
    let same : one.trees ≡ done.0 = ap (λ (w : Written). w.trees) (same_value done.2) in
    (ap (λ (t : Trees). t 0) same ∙ applied.rows, applied.fresh)

clears_gives :
    (old : State) (params : Entry) (db : Trees) (new : Entry) (one : Written) (found : List Entry)
    → Clears (task old params) Replace new db found (Ok one)
    → (one.trees 0 ≡ put_row (cast_row rows_table new) (without_all (db 0) (ids_of found)))
    × (are_fresh (without_all (db 0) (ids_of found)) (cast_row rows_table new ∷ []) ≡ true)
clears_gives old params db new one [] h = puts_gives old params db new one h
clears_gives old params db new one (x ∷ more) h =
    let first = went h in
    let applied = one_step rows_schema Enforced db first.0 (edit_of db rows_table (ids_of (x ∷ more)) Given 0 []) refl first.1 in
    let last = puts_gives old params first.0 new one first.2 in (
      last.0 ∙ ap (put_row (cast_row rows_table new)) applied.rows,
      subst (λ es. are_fresh es (cast_row rows_table new ∷ []) ≡ true) applied.rows last.1,
    )

tries_gives :
    (old : State) (params : Entry) (db : Trees) (new : Entry) (one : Written) → Tries (task old params) Replace [] new db (Ok one)
    → (found : List Entry) × AreConflicts None (rows_index ∷ []) rows_table (db 0) new found
    × Clears (task old params) Replace new db found (Ok one)
tries_gives old params db new one (inl refused) = absurd (let e = refused.1 in cc)
tries_gives old params db new one (inr (None, judged, h)) = h
tries_gives old params db new one (inr (Some why, judged, h)) = absurd (let e : Ok one ≡ Err _ = h in cc)

-- ---- which entries the new one replaces
equal_rowids : (a b : ℤ) (r new : Entry) → rowid r ≡ Int a → rowid new ≡ Int b → agree plain (0 ∷ []) r (0 ∷ []) new ≡ true → a ≡ b
unfolding first_key
equal_rowids a b r new p q h =
    let parts = and_parts _ _ h in
    same_int a b (sym (compared Eq a b) ∙ (rw (← p, ← q) parts.0))

module _ (es : List Entry) (known : AreEntries es) (row : Row) where
  free : is_taken es (new_entry es row) ≡ false
  free = next_is_free Chosen es (Int (pos row.key.kind) ∷ Int (pos row.key.id) ∷ Blob row.body ∷ []) known.ordered
      (all_from _ es (λ e h. known.rowids e h))

  not_by_rowid : (r : Entry) → Has es r → agree plain (0 ∷ []) r (0 ∷ []) (new_entry es row) ≡ true → ⊥
  not_by_rowid r h same =
      let number = int_is (rowid r) (known.rowids r h) in
      let equal = equal_rowids (id_in (rowid r)) (next_rowid es) r (new_entry es row) number refl same in
      let tie : value_cmp (rowid r) (Int (next_rowid es)) ≡ Equal =
      ap (λ v. value_cmp v (Int (next_rowid es))) (number ∙ ap Int equal)
      ∙ value_cmp-Int (next_rowid es) (next_rowid es) ∙ eq_itself (next_rowid es) in
      let taken = some_from (λ x. is_eq (value_cmp (rowid x) (Int (next_rowid es)))) es r h (ap is_eq tie) in
      true≢false (sym taken ∙ free)

  by_key : (r : Entry) → Has es r → conflicts None (rows_index ∷ []) rows_table (new_entry es row) r ≡ true → HasKeyOf row.key r
  by_key r h met = elim (or_cases (agree plain (0 ∷ []) r (0 ∷ []) (new_entry es row)) _ met) [
    | inl rowids ↦ absurd (not_by_rowid r h rowids)
    | inr keys ↦ elim (or_cases (agree plain (1 ∷ 2 ∷ []) r (1 ∷ 2 ∷ []) (new_entry es row)) false keys) [
      | inl same ↦
          let k = known.keyed r h in
          let both = and_parts _ _ (sym (agree_keys r (new_entry es row) k.kind k.id (pos row.key.kind) (pos row.key.id) k.kind_is k.id_is refl refl) ∙ same) in
          let second = and_parts _ _ both.1 in
          (k.kind_is ∙ ap Int (same_int k.kind (pos row.key.kind) both.0), k.id_is ∙ ap Int (same_int k.id (pos row.key.id) second.0))
      | inr none ↦ absurd (true≢false (sym none))
    ]
  ]

  meets : (r : Entry) → HasKeyOf row.key r → conflicts None (rows_index ∷ []) rows_table (new_entry es row) r ≡ true
  meets r has =
      let keys : agree plain (1 ∷ 2 ∷ []) r (1 ∷ 2 ∷ []) (new_entry es row) ≡ true =
      agree_keys r (new_entry es row) (pos row.key.kind) (pos row.key.id) (pos row.key.kind) (pos row.key.id) has.0 has.1 refl refl
      ∙ rw (eq_itself (pos row.key.kind), eq_itself (pos row.key.id)) refl in
      or_right (agree plain (0 ∷ []) r (0 ∷ []) (new_entry es row)) _ (or_left _ false keys)

  replaced : (found : List Entry) → AreConflicts None (rows_index ∷ []) rows_table es (new_entry es row) found
      → AreRowidsOf es row.key (ids_of found)
  replaced found all = record {
    sound = λ id h.
        let x = mapped_from (λ r. id_in (rowid r)) found id h in
        let r = all.sound x.0 x.1 in
        let id_is : id ≡ id_in (rowid r.0) = x.2 ∙ ap (λ e. id_in (rowid e)) r.3 in
        (r.0, r.1, by_key r.0 r.1 r.2, int_is (rowid r.0) (known.rowids r.0 r.1) ∙ ap Int (sym id_is));
    complete = λ e h has. mapped_has (λ r. id_in (rowid r)) found (rowid e ∷ []) (all.complete e h (meets e has));
  }

-- ---- the statement
pub puts :
    (old new : State) (text : List ℕ) (row : Row) (count : ℕ) → IsRowsDatabase old.now → row.key.kind < 2 ^ 8 → row.key.id < 2 ^ 64
    → Writes old new None (InsertOr 0 Replace (Values put_terms 4) []) text (put_params row) count
    → IsRowsDatabase new.now × (rows_in new.now ≡ with_row row (rows_in old.now))
puts old new text row count it low fits w =
    let db = old.now.trees in
    let params = put_params row in
    let command = InsertOr 0 Replace (Values put_terms 4) [] in
    let done = went (subst (λ s. Does old.step_limit (mode_of old) params (record old.now { schema = s }) text None command
    (Ok (w.tally, new.now))) it.schema w.changed) in
    let now = ap (λ (p : Tally × Database). p.1) (same_value (went (went done.2).2).2) in
    let given = went done.1 in
    let counter = went given.2 in
    let tried = went counter.2 in
    let counted = went tried.2 in
    let source = given.1.1 in
    let one = went (subst (λ rows. Rattle.sqlite.specs.Rows.TriesEach (task old params) Replace [] rows
    (Rattle.sqlite.specs.Rows.count_of counter.0) (Rattle.sqlite.specs.Rows.nothing db) (Ok tried.0)) source tried.1) in
    let met = tries_gives old params db (new_entry (db 0) row) one.0
    (subst (λ n. Tries (task old params) Replace [] n db (Ok one.0)) (numbered_is (db 0) row) one.1) in
    let made = clears_gives old params db (new_entry (db 0) row) one.0 met.0 met.2 in
    let known = entries old.now it in
    let ids = ids_of met.0 in
    let last : tried.0.0.trees ≡ one.0.trees = ap (λ (p : Written × ℤ). p.0.trees) (same_value one.2) in
    let counts : counted.0 ≡ tried.0.0.trees = same_value counted.1 in
    let written : done.0.trees ≡ counted.0 = ap (λ (x : Written). x.trees) (same_value counted.2) in
    let trees : new.now.trees 0 ≡ put_row (new_entry (db 0) row) (without_all (db 0) ids) =
    ap (λ (d : Database). d.trees 0) now ∙ ap (λ (t : Trees). t 0) (written ∙ counts ∙ last) ∙ made.0
    ∙ ap (λ n. put_row n (without_all (db 0) ids)) (cast_new (db 0) row) in
    let fresh : are_fresh (without_all (db 0) ids) (new_entry (db 0) row ∷ []) ≡ true =
    subst (λ n. are_fresh (without_all (db 0) ids) (n ∷ []) ≡ true) (cast_new (db 0) row) made.1 in
    let next : IsRowsDatabase new.now = record {
      schema = ap (λ (d : Database). d.schema) now;
      ordered = subst Rattle.sqlite_trees.specs.Tree.IsTable (sym trees)
          (IsTable-put_row (new_entry (db 0) row) (without_all (db 0) ids) (left_table ids (db 0) it.ordered));
      keyed = subst (AllByRecursion (λ r. Rattle.std.specs.Prelude.IsTrue (is_int (rowid r)))) (sym trees)
          (all_from _ (put_row (new_entry (db 0) row) (without_all (db 0) ids)) (λ e h.
          elim (put_has (new_entry (db 0) row) (without_all (db 0) ids) e h) [
            | inl same ↦ subst (λ r. Rattle.std.specs.Prelude.IsTrue (is_int (rowid r))) (sym same) refl
            | inr old_one ↦ all_has _ (without_all (db 0) ids) e (left_all _ ids (db 0) it.keyed) old_one
          ]));
      sound = w.sound;
    } in (
      next,
      after_put (db 0) (new.now.trees 0) known (entries new.now next) row (new_entry (db 0) row) ids
          (replaced (db 0) known row met.0 met.1) fits (made_of row low fits) fresh trees,
    )
