-- What the statements mean.
use Rattle.std.proofs.Common.{◌≡◌, ℕ, pos, negsuc, List, [], ◌∷◌, codes, false, None, Ok, ◌++◌, refl, ap, arith}
use Rattle.std.proofs.lemmas.Fmt.{decimal_digit}
use Rattle.sqlite_value.specs.declared.value.Value.TheVariants.{Null, Int}
use Rattle.sqlite_value.specs.declared.keys.Collation.TheVariants.{Binary}
use Rattle.sqlite_value.specs.Keys.{ascending}
use Rattle.sqlite_sql.specs.declared.ops.BinaryOp.TheVariants.{Compare}
use Rattle.sqlite_sql.specs.declared.ops.CompareOp.TheVariants.{Eq, Gt, Ge}
use Rattle.sqlite_sql.specs.Term.{Term, lit, col, op2}
use Rattle.sqlite_sql.specs.Query.{Query, inner, end}
use Rattle.sqlite_schema.specs.declared.schema.Schema.{Schema}
use Rattle.sqlite_schema.specs.declared.command.Source.TheVariants.{Values}
use Rattle.sqlite_schema.specs.declared.command.Conflict.TheVariants.{Replace}
use Rattle.sqlite_schema.specs.declared.command.Command.TheVariants.{InsertOr, Select, Delete, CreateTable}
use Rattle.sqlite_resolve.specs.Compile.{table_defined_by}
use Rattle.sqlite_catalog.specs.Change.{created}
use Rattle.sqlite_tied.specs.Compute.{everything}
use Rattle.sqlite.specs.Listing.{understood, reads_listing}
use Rattle.sqlite.proofs.Callers.{IsPlain, command_of, statement_of}
use Rattle.book_sqlite.specs.RowsSchema.{rows_table, rows_index, rows_schema, no_schema}

abbrev pub create_text : List ℕ
create_text = codes "CREATE TABLE bk_rows(kind INTEGER, id INTEGER, body BLOB, PRIMARY KEY(kind, id)) STRICT"

abbrev pub put_text : List ℕ
put_text = codes "INSERT OR REPLACE INTO bk_rows(kind, id, body) VALUES (?1, ?2, ?3)"

abbrev pub take_text : List ℕ
take_text = codes "DELETE FROM bk_rows WHERE kind = ?1 AND id = ?2"

abbrev pub behind_text : List ℕ
behind_text = codes "SELECT kind, id, body FROM bk_rows WHERE kind = ?1 AND id > ?2 ORDER BY kind, id LIMIT 64"

abbrev pub from_text : List ℕ
from_text = codes "SELECT kind, id, body FROM bk_rows WHERE kind >= ?1 ORDER BY kind, id LIMIT 64"

-- ---- the table
pub create_is : (command_of (understood no_schema create_text) ≡ CreateTable)
    × (statement_of create_text (understood no_schema create_text) ≡ create_text)
    × (table_defined_by create_text ≡ Ok rows_table)
unfolding understood everything
create_is = (refl, refl, refl)

pub create_plain : IsPlain (understood no_schema create_text)
unfolding understood everything
create_plain = (refl, refl)

abbrev schema_named : List ℕ → Schema
schema_named d = record {
  tables = rows_table ∷ [];
  indexes = (record rows_index { name = codes "sqlite_autoindex_" ++ (codes "bk_rows" ++ (codes "_" ++ d)) }) ∷ [];
  views = [];
}

pub created_is : created no_schema rows_table ≡ rows_schema
created_is = ap schema_named (decimal_digit 1 (omega arith))

-- ---- one row put
abbrev pub put_terms : List Term
put_terms = lit Null ∷ col 0 0 ∷ col 0 1 ∷ col 0 2 ∷ []

pub put_is : command_of (understood rows_schema put_text) ≡ InsertOr 0 Replace (Values put_terms 4) []
unfolding understood everything
put_is = refl

pub put_plain : IsPlain (understood rows_schema put_text)
unfolding understood everything
put_plain = (refl, refl)

-- ---- one row deleted
abbrev pub key_terms : List Term
key_terms = op2 (Compare Eq Binary) (col 1 1) (col 0 0) ∷ op2 (Compare Eq Binary) (col 1 2) (col 0 1) ∷ []

-- A query over the table of rows, without GROUP BY or DISTINCT.
abbrev pub take_query : Query
take_query = record {
  from = inner 0 end;
  filter = key_terms;
  group = None;
  project = col 1 0 ∷ [];
  distinct = false;
  collations = [];
  order = [];
  limit = lit (Int (negsuc 0));
  offset = lit (Int (pos 0));
}

pub take_is : command_of (understood rows_schema take_text) ≡ Delete 0 (record { lets = []; body = take_query })
unfolding understood everything
take_is = refl

pub take_plain : IsPlain (understood rows_schema take_text)
unfolding understood everything
take_plain = (refl, refl)

-- ---- the first rows by key
abbrev pub first_query : List Term → Query
first_query filter = record {
  from = inner 0 end;
  filter = filter;
  group = None;
  project = col 1 1 ∷ col 1 2 ∷ col 1 3 ∷ [];
  distinct = false;
  collations = [];
  order = (col 1 1, ascending Binary) ∷ (col 1 2, ascending Binary) ∷ [];
  limit = lit (Int (pos 64));
  offset = lit (Int (pos 0));
}

abbrev pub behind_terms : List Term
behind_terms = op2 (Compare Eq Binary) (col 1 1) (col 0 0) ∷ op2 (Compare Gt Binary) (col 1 2) (col 0 1) ∷ []

abbrev pub from_terms : List Term
from_terms = op2 (Compare Ge Binary) (col 1 1) (col 0 0) ∷ []

abbrev pub first_names : List (List ℕ)
first_names = codes "kind" ∷ codes "id" ∷ codes "body" ∷ []

pub behind_is : command_of (understood rows_schema behind_text) ≡ Select (record { lets = []; body = first_query behind_terms }) first_names
unfolding understood everything
behind_is = refl

pub behind_plain : IsPlain (understood rows_schema behind_text)
unfolding understood everything
behind_plain = (refl, refl)

pub from_is : command_of (understood rows_schema from_text) ≡ Select (record { lets = []; body = first_query from_terms }) first_names
unfolding understood everything
from_is = refl

pub from_plain : IsPlain (understood rows_schema from_text)
unfolding understood everything
from_plain = (refl, refl)

pub unlisted : (reads_listing rows_schema behind_text ≡ false) × (reads_listing rows_schema from_text ≡ false)
unfolding understood everything
unlisted = (refl, refl)
