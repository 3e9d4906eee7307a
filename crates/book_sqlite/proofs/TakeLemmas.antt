-- One row deleted, and the table made.
use Rattle.std.proofs.Common.{◌≡◌, ◌^◌, ℕ, ◌<◌, pos, true, false, List, [], ◌∷◌, None, Ok, refl, sym, ap, subst, ◌∙◌}
use Rattle.std.specs.List.{AllByRecursion}
use Rattle.sqlite_value.specs.declared.value.Value.TheVariants.{Null, Int}
use Rattle.sqlite_value.specs.Order.{Row as Entry}
use Rattle.sqlite_trees.specs.Tree.{Trees, rowid, IsTable}
use Rattle.sqlite_trees.specs.View.{is_int}
use Rattle.sqlite_schema.specs.declared.schema.Keys.TheVariants.{Enforced}
use Rattle.sqlite_schema.specs.declared.command.Command.TheVariants.{Delete, CreateTable}
use Rattle.sqlite_rules.specs.declared.error.Rowids.TheVariants.{Given}
use Rattle.sqlite_rules.specs.Edit.{edit_of, without_all}
use Rattle.sqlite_rules.specs.Calls.{ids_of}
use Rattle.sqlite_catalog.specs.Change.{created, next_tree}
use Rattle.sqlite.specs.Effect.{Database}
use Rattle.sqlite.specs.Does.{Tally, Does, lacks_sequence}
use Rattle.sqlite.specs.Rows.{Written}
use Rattle.sqlite.specs.State.{State, Writes, mode_of}
use Rattle.sqlite.proofs.Callers.{one_step}
use Rattle.book_keeper.specs.declared.row.RowKey.{RowKey}
use Rattle.book_keeper.specs.Rows.{without_row}
use Rattle.book_sqlite.specs.RowsSchema.{rows_schema, rows_table, no_schema}
use Rattle.book_sqlite.specs.RowsDatabase.{IsRowsDatabase, rows_in}
use Rattle.book_sqlite.proofs.Meanings.{create_text, create_is, created_is, take_query}
use Rattle.book_sqlite.proofs.EntryLemmas.{entries}
use Rattle.book_sqlite.proofs.ChangeLemmas.{left_table, left_all, after_take}
use Rattle.book_sqlite.proofs.FirstLemmas.{answers_rowids}
use Rattle.book_sqlite.proofs.PutLemmas.{went, same_value}

-- the key as parameters
abbrev pub take_params : RowKey → Entry
take_params key = Int (pos key.kind) ∷ Int (pos key.id) ∷ []

pub takes :
    (old new : State) (text : List ℕ) (key : RowKey) (count : ℕ) → IsRowsDatabase old.now → key.id < 2 ^ 64
    → Writes old new None (Delete 0 (record { lets = []; body = take_query })) text (take_params key) count
    → IsRowsDatabase new.now × (rows_in new.now ≡ without_row key (rows_in old.now))
takes old new text key count it fits w =
    let db = old.now.trees in
    let params = take_params key in
    let command = Delete 0 (record { lets = []; body = take_query }) in
    let done = went (subst (λ s. Does old.step_limit (mode_of old) params (record old.now { schema = s }) text None command
    (Ok (w.tally, new.now))) it.schema w.changed) in
    let now = ap (λ (p : Tally × Database). p.1) (same_value (went (went done.2).2).2) in
    let given = went done.1 in
    let known = entries old.now it in
    let ids = ids_of given.0 in
    let exact = answers_rowids db key given.0 known (given.1.answer Null) in
    let cleared = went given.2 in
    let applied = one_step rows_schema Enforced db cleared.0 (edit_of db rows_table ids Given 0 []) refl cleared.1 in
    let written : done.0.trees ≡ cleared.0 = ap (λ (x : Written). x.trees) (same_value cleared.2) in
    let trees : new.now.trees 0 ≡ without_all (db 0) ids =
    ap (λ (d : Database). d.trees 0) now ∙ ap (λ (t : Trees). t 0) written ∙ applied.rows in
    let next : IsRowsDatabase new.now = record {
      schema = ap (λ (d : Database). d.schema) now;
      ordered = subst IsTable (sym trees) (left_table ids (db 0) it.ordered);
      keyed = subst (AllByRecursion (λ r. is_int (rowid r) ≡ true)) (sym trees) (left_all _ ids (db 0) it.keyed);
      sound = w.sound;
    } in
    (next, after_take (db 0) (new.now.trees 0) known (entries new.now next) key ids exact fits trees)

-- the table is made, and is empty
pub creates :
    (old new : State) (count : ℕ) → old.now.schema ≡ no_schema → Writes old new None CreateTable create_text [] count
    → IsRowsDatabase new.now × (new.now.trees 0 ≡ [])
creates old new count has w =
    let all = went w.changed in
    let first = went all.1 in
    let made = first.1 in
    let both : Ok made.table ≡ Ok rows_table = sym made.defined ∙ create_is.2 in
    let same : made.table ≡ rows_table = cc in
    let schema : first.0.schema ≡ rows_schema =
    made.is ∙ ap (λ s. created s made.table) has ∙ ap (created no_schema) same ∙ created_is in
    let plain : lacks_sequence first.0.schema ≡ false = ap lacks_sequence schema in
    let now : new.now ≡ first.0 = ap (λ (p : Tally × Database). p.1) (same_value all.2) ∙ same_value (rw plain at first.2) in
    let trees : new.now.trees 0 ≡ [] =
    ap (λ (d : Database). d.trees 0) now ∙ subst (λ s. first.0.trees (next_tree s) ≡ []) has made.empty in (
      record {
        schema = ap (λ (d : Database). d.schema) now ∙ schema;
        ordered = subst IsTable (sym trees) tt;
        keyed = subst (AllByRecursion (λ r. is_int (rowid r) ≡ true)) (sym trees) tt;
        sound = w.sound;
      },
      trees,
    )
