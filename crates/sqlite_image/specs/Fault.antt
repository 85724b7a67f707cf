-- The faults by which errors of the database are told, and when one comes.
use Rattle.std.specs.Prelude.{◌≡◌, ◌≢◌, ◌<◌, ℕ, pos, List, [], ◌∷◌, ⊤}
use Rattle.sqlite.specs.declared.types.Value.TheVariants.{Int}
use Rattle.sqlite.specs.Order.{Row, column}
use Rattle.sqlite.specs.Effect.{Database}
use Rattle.sqlite_image.specs.Kept.{kept_schema, no_schema}
use Rattle.sqlite.specs.declared.error.Error.{Error}
use Rattle.sqlite.specs.declared.error.Error.TheVariants.{SqliteFailure}
use Rattle.sqlite.specs.declared.error.ErrorCode.TheVariants as code
use Rattle.sqlite_image.specs.declared.path_fault.PathFault.TheVariants as path
use Rattle.sqlite_image.specs.declared.fault.KeepFault.{KeepFault}
use Rattle.sqlite_image.specs.declared.fault.KeepFault.TheVariants.{InUse, NotOurs, Newer, Older, Damaged, Unreachable}
use Rattle.sqlite_image.specs.declared.fault.KeepFault.TheVariants.{Full, OutOfMemory, Failed}

abbrev pub opening_fault : Error → KeepFault
opening_fault (SqliteFailure code.DatabaseBusy) = InUse
opening_fault (SqliteFailure code.NotADatabase) = NotOurs
opening_fault (SqliteFailure code.DatabaseCorrupt) = Damaged
opening_fault (SqliteFailure code.CannotOpen) = Unreachable path.Other
opening_fault (SqliteFailure code.DiskFull) = Full
opening_fault (SqliteFailure code.OutOfMemory) = OutOfMemory
opening_fault _ = Failed

abbrev pub calling_fault : Error → KeepFault
calling_fault (SqliteFailure code.DatabaseCorrupt) = Damaged
calling_fault (SqliteFailure code.DiskFull) = Full
calling_fault (SqliteFailure code.OutOfMemory) = OutOfMemory
calling_fault _ = Failed

-- the table has one row, of this version
pub record HasVersion (found : ℕ) (db : Database) : Type 0 where
  pub row : Row
  pub only : db.trees 0 ≡ row ∷ []
  pub version_is : column row 2 ≡ Int (pos found)

-- when a database that was opened is refused with a fault
abbrev pub IsRefused : ℕ → Database → KeepFault → Type 0
IsRefused version db InUse = ⊥
IsRefused version db NotOurs = (db.schema ≢ no_schema) × (db.schema ≢ kept_schema)
IsRefused version db (Newer found) = HasVersion found db × (version < found)
IsRefused version db (Older found) = HasVersion found db × (found < version)
IsRefused version db Damaged = ⊤
IsRefused version db (Unreachable why) = ⊥
IsRefused version db Full = ⊤
IsRefused version db OutOfMemory = ⊤
IsRefused version db Failed = ⊤

-- the same of the rows that the SELECT shows
abbrev pub AreRefused : ℕ → List Row → KeepFault → Type 0
AreRefused version rows InUse = ⊥
AreRefused version rows NotOurs = ⊥
AreRefused version rows (Newer found) = (row : Row) × (rows ≡ row ∷ []) × (column row 1 ≡ Int (pos found))
    × (version < found)
AreRefused version rows (Older found) = (row : Row) × (rows ≡ row ∷ []) × (column row 1 ≡ Int (pos found))
    × (found < version)
AreRefused version rows Damaged = ⊤
AreRefused version rows (Unreachable why) = ⊥
AreRefused version rows Full = ⊥
AreRefused version rows OutOfMemory = ⊤
AreRefused version rows Failed = ⊥
