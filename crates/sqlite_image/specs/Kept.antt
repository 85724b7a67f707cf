-- A file that keeps one image: a database of one table with one row, and what a crash may leave of it.
use Rattle.sqlite.specs.Collation.TheVariants.{Binary}
use Rattle.std.specs.Prelude.{◌≡◌, ◌⊎◌, true, false, [], ◌∷◌, Option, None, Some, option_map, codes, ℕ, List, Vec, pos}
use Rattle.std.specs.Prelude.{IsTrue}
use Rattle.std.specs.declared.alloc.Global.{Global}
use Rattle.sqlite.specs.declared.types.Value.TheVariants.{Null, Int, Blob as Bytes}
use Rattle.sqlite.specs.Order.{Row, column}
use Rattle.sqlite.specs.Tree.{Trees}
use Rattle.sqlite.specs.Table.{Table}
use Rattle.sqlite.specs.Schema.{Schema}
use Rattle.sqlite.specs.Kind.TheVariants.{Integer, Blob}
use Rattle.sqlite.specs.Effect.{Database, IsDatabase}
use Rattle.sqlite.specs.State.{State}

-- CREATE TABLE kept (id INTEGER PRIMARY KEY, version INTEGER NOT NULL, image BLOB NOT NULL) STRICT
abbrev pub kept_table : Table
kept_table = record {
  name = codes "kept";
  tree = 0;
  columns = (record {
    name = codes "id";
    kind = Integer;
    is_strict = true;
    not_null = false;
    default = Null;
    collation = Binary;
  })
      ∷ (record {
        name = codes "version";
        kind = Integer;
        is_strict = true;
        not_null = true;
        default = Null;
        collation = Binary;
      })
      ∷ (record {
        name = codes "image";
        kind = Blob;
        is_strict = true;
        not_null = true;
        default = Null;
        collation = Binary;
      }) ∷ [];
  key = Some 0;
  primary = 0 ∷ [];
  uniques = [];
  orders = [];
  checks = [];
  references = [];
  computed = [];
  stamps = record { places = []; terms = []; formats = [] };
  is_counted = false;
}

-- the database has our table alone
abbrev pub kept_schema : Schema
kept_schema = record { tables = kept_table ∷ []; indexes = []; views = [] }

-- the database has no table
abbrev pub no_schema : Schema
no_schema = record { tables = []; indexes = []; views = [] }

-- the one row, as it is stored (the column of the key is kept as NULL) and as the SELECT shows it
abbrev pub stored_row : ℕ → List ℕ → Row
stored_row version image = Int (pos 1) ∷ Null ∷ Int (pos version) ∷ Bytes image ∷ []

abbrev pub shown_row : Row → Row
shown_row row = column row 0 ∷ column row 2 ∷ column row 3 ∷ []

-- nothing was made yet
pub record IsFresh (db : Database) : Type 0 where
  pub schema : db.schema ≡ no_schema
  pub sound : IsDatabase db

-- the database has our table alone, whatever its rows are
pub record IsOurs (db : Database) : Type 0 where
  pub schema : db.schema ≡ kept_schema
  pub sound : IsDatabase db

-- our table, with no row
pub record HasNone (db : Database) : Type 0 where
  pub ours : IsOurs db
  pub none : db.trees 0 ≡ []

-- our table with one row, whose key is 1, of this version and with this image
pub record HasImage (version : ℕ) (image : List ℕ) (db : Database) : Type 0 where
  pub ours : IsOurs db
  pub row : Row
  pub only : db.trees 0 ≡ row ∷ []
  pub key : column row 0 ≡ Int (pos 1)
  pub version_is : column row 2 ≡ Int (pos version)
  pub image_is : column row 3 ≡ Bytes image

-- our table, with this image or with no row
abbrev pub HasTable : ℕ → Option (List ℕ) → Database → Type 0
HasTable version None = HasNone
HasTable version (Some image) = HasImage version image

-- the database has this image, or none yet
abbrev pub Has : ℕ → Option (List ℕ) → Database → Type 0
Has version image db = (IsFresh db × (image ≡ None)) ⊎ HasTable version image db

-- the rows of a database that has this image, or none yet
abbrev pub Holds : ℕ → Option (List ℕ) → Trees → Type 0
Holds version image rows = (db : Database) × (rows ≡ db.trees) × Has version image db

-- the connection is open outside a transaction, and P holds of its last commit
pub record Stands (P : Database → Type 0) (s : State) : Type 0 where
  pub is_open : IsTrue s.is_open
  pub autocommit : s.in_transaction ≡ false
  pub has : P s.now
  pub settled : s.committed ≡ s.now

-- the bytes of an image that was read
abbrev pub bytes_of : Option (Vec ℕ Global) → Option (List ℕ)
bytes_of = option_map (λ v. v.items)
