-- A database as it is opened.
use Rattle.std.proofs.Common.{◌≡◌, ◌⊎◌, ℕ, true, false, List, [], ◌∷◌, Ok, refl, sym, ap, subst, ◌∙◌, IsTrue, if◌then◌else◌}
use Rattle.std.proofs.Common.{◌≢◌, ◌<◌, ◌≤◌, ◌++◌, filter, Bool, inl, inr, arith, codes, length, take, get_or-take, slice_index, unwrap_or}
use Rattle.std.proofs.Common.{Option, Some}
use Rattle.std.proofs.lemmas.List.{length-take}
use Rattle.std.proofs.Math.Logic.{∥∥₁_elim}
use Rattle.std.specs.List.{AllByRecursion, AllZip}
use Rattle.sqlite_value.specs.Order.{Row as Entry}
use Rattle.sqlite_trees.specs.Tree.{Trees, IsTable, rowid}
use Rattle.sqlite_trees.specs.declared.store.Shape.{Shape}
use Rattle.sqlite_trees.specs.View.{is_int, IsOrdered, IsShaped}
use Rattle.sqlite_trees.specs.Props.{IsOrdered-prop}
use Rattle.sqlite_wal.specs.Recovery.{Image, Pages}
use Rattle.sqlite_wal.specs.Recovery as raw
use Rattle.sqlite_wal.proofs.AppendLemmas.{some_value}
use Rattle.sqlite_wal.proofs.CreateLemmas.{begun_is_not_blank}
use Rattle.sqlite_pool.specs.Header.{first_page}
use Rattle.sqlite_pool.specs.Stored.{sealed, stored_size, used_size}
use Rattle.sqlite_pool.specs.StoredLaws.{trimmed_some}
use Rattle.sqlite_pool.proofs.ProbeLemmas.{first_byte}
use Rattle.sqlite_pool.specs.File.{header_in, version_in, in_use}
use Rattle.sqlite_store.specs.Listing.{file_trees, all_shapes, all_reals}
use Rattle.sqlite_store.specs.Listed.{catalog_rows, is_listed}
use Rattle.sqlite_store.proofs.ListingLemmas.{all_ordered}
use Rattle.sqlite.specs.Files.{AreFoundIn, IsNothing}
use Rattle.sqlite.specs.Start.{FindsIn}
use Rattle.sqlite.specs.Effect.{Database}
use Rattle.sqlite_trees.specs.Objects.{catalog_tree, IsListed}
use Rattle.sqlite_schema.specs.declared.schema.Schema.{Schema}
use Rattle.sqlite_schema.specs.declared.command.Command.TheVariants.{CreateTable}
use Rattle.sqlite_catalog.specs.Listing.{IsSound, AreListed, IsTableRow, IsIndexRow, IsViewRow, is_table_row}
use Rattle.sqlite_catalog.proofs.LayoutLemmas.{laid_out}
use Rattle.sqlite.specs.State.{State, HasCleanDisk, Opens, IsLive, Executes, Writes}
use Rattle.sqlite.proofs.Callers.{runs_as}
use Rattle.book_sqlite.specs.RowsSchema.{rows_schema, rows_table, no_schema}
use Rattle.book_sqlite.specs.RowsDatabase.{ListsNothing}
use Rattle.book_sqlite.specs.NewFiles.{HoldNothing}
use Rattle.book_sqlite.specs.RowCalls.{IsReady}
use Rattle.book_sqlite.proofs.Meanings.{create_text, create_is, create_plain}
use Rattle.book_sqlite.proofs.TakeLemmas.{creates}

-- what is listed as a table is one
pub has_rowids :
    (trees : Trees) (shape : ℕ → Shape) (reals : ℕ → ℕ) (schema : Schema) → IsListed (trees catalog_tree) shape reals → IsOrdered shape trees → IsSound schema trees
    → schema ≡ rows_schema → IsTable (trees 0) × AllByRecursion (λ r. IsTrue (is_int (rowid r))) (trees 0)
has_rowids trees shape reals schema listed ordered sound is =
    let laid = laid_out listed (subst (λ s. IsShaped s (trees catalog_tree)) listed.itself.0 (ordered catalog_tree)) (subst (λ s. Rattle.sqlite_catalog.specs.Listing.AreListed (trees catalog_tree) s) is sound.lists.listed) in
    subst (λ s. IsShaped s (trees 0)) laid.tables.0 (ordered 0)

-- so are the trees of a file that was just opened, as its pages read, or that has nothing
pub found_rowids : (image : Image) (db : Trees) (schema : Schema) → AreFoundIn image db → IsSound schema db → schema ≡ rows_schema
    → IsTable (db 0) × AllByRecursion (λ r. IsTrue (is_int (rowid r))) (db 0)
found_rowids image db schema (inl found) sound is =
    let size = found.0 in
    let pages = found.1 in
    let wanted = found.2 in
    let trees = file_trees size wanted pages in
    let same : db ≡ trees = found.5 in
    let ordered : IsOrdered (all_shapes wanted) trees =
    ∥∥₁_elim found.4 (IsOrdered-prop _ _) (λ ours. all_ordered ours.file.db (version_in pages)) in
    subst (λ (t : Trees). IsTable (t 0) × AllByRecursion (λ r. IsTrue (is_int (rowid r))) (t 0)) (sym same)
    (has_rowids trees (all_shapes wanted) (all_reals wanted) schema (rw (catalog_rows size wanted (in_use size pages)) (is_listed wanted)) ordered
    (subst (IsSound schema) same sound) is)
found_rowids image db schema (inr nothing) sound is =
    subst (λ t. IsTable t × AllByRecursion (λ r. IsTrue (is_int (rowid r))) t) (sym (nothing.1.0 0 (omega arith))) (tt, tt)

-- a file that was just opened, as its state shows it
pub found_ready : (image : Image) (s : State) → FindsIn image s → Opens s × IsLive s → IsTrue s.is_open → s.now.schema ≡ rows_schema
    → IsTable (s.now.trees 0) × AllByRecursion (λ r. IsTrue (is_int (rowid r))) (s.now.trees 0)
found_ready image s found opened is schema_is =
    found_rowids image s.now.trees s.now.schema
    (subst (λ (d : Database). AreFoundIn image d.trees) (sym opened.0.clean) found.reads) (opened.1 is).0 schema_is

-- the table that was made is ready
pub create_ready :
    (old new : State) (count : ℕ) → old.now.schema ≡ no_schema → old.in_transaction ≡ false → new.in_transaction ≡ false
    → (HasCleanDisk new → Executes create_text [] old new (Ok count)) → IsReady new
create_ready old new count empty outside mode ran =
    let wrote = λ (clean : HasCleanDisk new). subst (λ t. Writes old new Rattle.std.proofs.Common.None CreateTable t [] count) create_is.1
    (runs_as create_text [] old new no_schema empty CreateTable create_is.0 create_plain count (ran clean)) in
    record {
      autocommit = mode;
      settled = λ sure. sym ((wrote sure.0).shown.committed_is ∙ ap (λ b. if b then old.committed else new.now) outside);
      rows = λ sure. (creates old new count empty (wrote sure.0)).0;
    }

-- and has no entries
pub create_empty :
    (old new : State) (count : ℕ) → old.now.schema ≡ no_schema → (HasCleanDisk new → Executes create_text [] old new (Ok count))
    → HasCleanDisk new → new.now.trees 0 ≡ []
create_empty old new count empty ran clean =
    (creates old new count empty (subst (λ t. Writes old new Rattle.std.proofs.Common.None CreateTable t [] count) create_is.1
    (runs_as create_text [] old new no_schema empty CreateTable create_is.0 create_plain count (ran clean)))).1

-- and its connection is open
pub create_open :
    (old new : State) (count : ℕ) → old.now.schema ≡ no_schema → (HasCleanDisk new → Executes create_text [] old new (Ok count))
    → HasCleanDisk new → IsTrue new.is_open
create_open old new count empty ran clean =
    (runs_as create_text [] old new no_schema empty CreateTable create_is.0 create_plain count (ran clean)).shown.is_open

zip_apart : {A B : Type 0} (R : A → B → Type 0) (xs : List A) (y : B) (ys : List B) → AllZip R xs (y ∷ ys) → AllZip R xs [] → ⊥
zip_apart R [] y ys one none = absurd one
zip_apart R (x ∷ xs) y ys one none = absurd none

-- a list that has the table of rows is not that of nothing
pub lists_something : (objects : List Entry) (schema : Schema) → AreListed objects rows_schema → AreListed objects schema → schema ≢ no_schema
lists_something objects schema rows listed none =
    zip_apart IsTableRow (filter is_table_row objects) rows_table [] rows.tables
    (subst (λ (s : Schema). AllZip IsTableRow (filter is_table_row objects) s.tables) none listed.tables)

zip_none : {A B : Type 0} (R : A → B → Type 0) (ys : List B) → AllZip R [] ys → ys ≡ []
zip_none R [] zip = refl
zip_none R (y ∷ ys) zip = absurd zip

-- a list of nothing is that of no schema
pub nothing_listed : (objects : List Entry) (schema : Schema) → AreListed objects schema → objects ≡ [] → schema ≡ no_schema
nothing_listed objects schema listed none =
    let bare : AreListed [] schema = subst (λ (l : List Entry). AreListed l schema) none listed in
    let tables = zip_none IsTableRow schema.tables bare.tables in
    let indexes = zip_none (IsIndexRow schema.tables) schema.indexes bare.indexes in
    let views = zip_none IsViewRow schema.views bare.views in
    ap (λ t. let s : Schema = record { tables = t; indexes = schema.indexes; views = schema.views } in s) tables
    ∙ ap (λ i. let s : Schema = record { tables = []; indexes = i; views = schema.views } in s) indexes
    ∙ ap (λ v. let s : Schema = record { tables = []; indexes = []; views = v } in s) views

-- a connection that was just opened over trees that list nothing has no schema
pub opened_bare : (s : State) → Opens s × IsLive s → ListsNothing s.committed.trees → s.now.schema ≡ no_schema
opened_bare s opened nothing =
    nothing_listed (s.now.trees catalog_tree) s.now.schema (opened.1 opened.0.is_open).0.lists.listed
    (ap (λ (d : Database). d.trees catalog_tree) opened.0.clean ∙ nothing)

first_of_page : (size : ℕ) (page : List ℕ) → take 16 (take 100 (take size page)) ≡ codes "SQLite format 3" ++ 0 ∷ []
    → (16 ≤ size) × (slice_index page 0 ≡ 83)
first_of_page size page magic =
    let count : length (take 16 (take 100 (take size page))) ≡ 16 = ap length magic in
    let long : 16 ≤ size =
    omega (arith, count, length-take 16 (take 100 (take size page)), length-take 100 (take size page), length-take size page) in (
      long,
      sym (get_or-take size page 0 0 (omega (arith, long))) ∙ sym (get_or-take 100 (take size page) 0 0 (omega arith))
          ∙ sym (get_or-take 16 (take 100 (take size page)) 0 0 (omega arith)) ∙ ap (λ (b : List ℕ). slice_index b 0) magic,
    )

-- pages whose first one is whole and begins as a database does are not those of nothing
begins_something : (size : ℕ) (image : Image) (pages : Pages) (page : List ℕ) → 1 < size → raw.Recovers size image pages
    → pages 1 ≡ Some page → length page ≡ size → slice_index page 0 ≡ 83 → ¬ IsNothing image
begins_something size image pages page big found is len begins nothing =
    let never = λ (other : ℕ) (some : 0 < other). let gate = first_byte other some in
    begun_is_not_blank (sealed (first_page other)) page size image pages found is len big (begins ∙ sym gate)
    (λ none. let no = sym gate ∙ none in omega arith) in
    elim nothing [
      | inl plain ↦ never (used_size 4096 false) (omega arith) plain
      | inr summed ↦ never (used_size 4096 true) (omega arith) summed
    ]

-- where no database was made, none is found
pub nothing_found : (image : Image) (db : Trees) → AreFoundIn image db → IsNothing image → ListsNothing db
nothing_found image db (inr empty) nothing = empty.1.1
nothing_found image db (inl found) nothing =
    let size = found.0 in
    let pages = found.1 in
    let adopts = found.3 in
    absurd (∥∥₁_elim found.4 (λ a b. absurd a) (λ ours.
    let (page, is) = some_value (adopts.stored 1) adopts.whole.first in
    let used : pages 1 ≡ Some (take size page) =
    ap (λ (p : Pages). p 1) (sym adopts.shows) ∙ trimmed_some size adopts.stored 1 page is in
    let head : take 100 (take size page) ≡ header_in pages =
    ap (λ (o : Option (List ℕ)). take 100 (unwrap_or o [])) (sym used) in
    let first = first_of_page size page (ap (take 16) head ∙ ours.file.sound.header.0.magic) in
    begins_something (stored_size size) image adopts.stored page (omega (arith, first.0)) adopts.found is (adopts.whole.sized 1 page is)
    first.1 nothing))

-- a file that held nothing lists nothing
pub bare_found : (image : Image) (s : State) → FindsIn image s → HoldNothing image → ListsNothing s.committed.trees
bare_found image s found (inl nothing) = nothing_found image s.committed.trees found.reads nothing
bare_found image s found (inr (db, holds, none)) = ap (λ (t : Trees). t catalog_tree) (found.holds db holds) ∙ none

-- a store that is not broken is open
pub open_while_whole : (is_open broken : Bool) → (is_open ≡ false → IsTrue broken) → broken ≡ false → IsTrue is_open
open_while_whole true broken shut whole = refl
open_while_whole false broken shut whole = absurd (let b = shut refl in let w : true ≡ false = sym b ∙ whole in cc)
