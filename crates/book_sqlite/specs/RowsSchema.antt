-- The schema of a file of rows: one table with its key, and the index that SQLite makes for the key.
use Rattle.std.specs.Prelude.{◌≡◌, ℕ, Bool, true, false, List, [], ◌∷◌, None, codes}
use Rattle.sqlite_value.specs.declared.value.Value.TheVariants.{Null}
use Rattle.sqlite_value.specs.declared.keys.Collation.TheVariants.{Binary}
use Rattle.sqlite_value.specs.Keys.{plain}
use Rattle.sqlite_schema.specs.declared.schema.Kind.{Kind}
use Rattle.sqlite_schema.specs.declared.schema.Kind.TheVariants.{Integer, Blob}
use Rattle.sqlite_schema.specs.declared.schema.Column.{Column}
use Rattle.sqlite_schema.specs.declared.schema.Table.{Table}
use Rattle.sqlite_schema.specs.declared.schema.Index.{Index}
use Rattle.sqlite_schema.specs.declared.schema.Schema.{Schema}

-- A column of a STRICT table, with no default of its own.
abbrev pub strict_column : List ℕ → Kind → Bool → Column
strict_column name kind not_null =
    record { name = name; kind = kind; is_strict = true; not_null = not_null; default = Null; collation = Binary }

-- bk_rows(kind INTEGER, id INTEGER, body BLOB, PRIMARY KEY(kind, id)) STRICT
abbrev pub rows_table : Table
rows_table = record {
  name = codes "bk_rows";
  tree = 0;
  columns = strict_column (codes "kind") Integer true ∷ strict_column (codes "id") Integer true
      ∷ strict_column (codes "body") Blob false ∷ [];
  key = None;
  primary = 1 ∷ 2 ∷ [];
  uniques = (1 ∷ 2 ∷ []) ∷ [];
  orders = plain ∷ [];
  checks = [];
  references = [];
  computed = [];
  stamps = record { places = []; terms = []; formats = [] };
  is_counted = false;
}

-- The index of its key.
abbrev pub rows_index : Index
rows_index = record {
  name = codes "sqlite_autoindex_bk_rows_1";
  tree = 1;
  table = 0;
  columns = 1 ∷ 2 ∷ [];
  order = plain;
  is_unique = true;
}

abbrev pub rows_schema : Schema
rows_schema = record { tables = rows_table ∷ []; indexes = rows_index ∷ []; views = [] }

-- The schema of an empty file.
abbrev pub no_schema : Schema
no_schema = record { tables = []; indexes = []; views = [] }

-- A table that has no rule beside its keys, and no default that is computed.
pub record HasNoMore (table : Table) : Type 0 where
  pub checks : table.checks ≡ []
  pub references : table.references ≡ []
  pub computed : table.computed ≡ []
  pub places : table.stamps.places ≡ []
  pub terms : table.stamps.terms ≡ []
  pub formats : table.stamps.formats ≡ []
  pub counted : table.is_counted ≡ false

-- The columns of the table of rows.
abbrev pub rows_columns : List Column
rows_columns = rows_table.columns

-- A table whose key is that of the table of rows.
pub record HasRowsKey (table : Table) : Type 0 where
  pub key : table.key ≡ None
  pub primary : table.primary ≡ 1 ∷ 2 ∷ []
  pub uniques : table.uniques ≡ (1 ∷ 2 ∷ []) ∷ []
  pub orders : table.orders ≡ plain ∷ []
