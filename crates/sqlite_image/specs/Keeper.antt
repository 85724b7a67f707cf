-- What a keeper shows, and what a crash at this moment leaves of it.
use Rattle.std.specs.Prelude.{◌≡◌, Option, None, Some, ℕ, List, ⊤, refl}
use Rattle.std.specs.Coded.{Coded, code_by, coded×, coded_ℕ}
use Rattle.sqlite.specs.Tree.{Trees}
use Rattle.sqlite.specs.Store.{Ghosts}
use Rattle.sqlite.specs.State.{State, HasCleanDisk}
use Rattle.sqlite.specs.Held.{Held, held_code, state}
use Rattle.sqlite_image.specs.declared.kept.Rows.{Rows}
use Rattle.sqlite_image.specs.declared.kept.Rows.TheVariants.{Empty, One, Unsure}
use Rattle.sqlite_image.specs.contracts.kept.Rows as rows_row
use Rattle.sqlite_image.specs.Kept.{Holds, HasTable, Stands}

-- a connection, the version of the format, and what is known of the table
pub record Keeper (S : Type 0) : Type 0 where
  pub conn : Held S
  pub version : ℕ
  pub rows : Rows

abbrev pub keeper_code : {S : Type 0} → Coded S → Coded (Keeper S)
keeper_code {S} store =
    code_by (Held S × (ℕ × Rows)) (coded× (held_code store) (coded× coded_ℕ rows_row.the_row.coded))
    (λ k. (k.conn, (k.version, k.rows)))
    (λ p. record { conn = p.0; version = p.1.0; rows = p.1.1 })
    (λ _. refl)

-- the table is as it is known to be
abbrev pub Fits : Rows → ℕ → State → Type 0
Fits Empty version s = Stands (HasTable version None) s
Fits One version s = (image : List ℕ) × Stands (HasTable version (Some image)) s
Fits Unsure version s = ⊤

module _ {S : Type 0} (g : Ghosts S) where
  -- up to now the disk has given back what was written
  abbrev pub IsClean : Keeper S → Type 0
  IsClean k = HasCleanDisk (state g k.conn)

  -- a crash at this moment may leave these rows
  abbrev pub MayLeave : Keeper S → Trees → Type 0
  MayLeave k = (state g k.conn).may_leave

  -- whatever a crash at this moment leaves holds this image, or none yet, and it leaves something
  pub record Keeps (k : Keeper S) (image : Option (List ℕ)) : Type 0 where
    pub every : (rows : Trees) → MayLeave k rows → Holds k.version image rows
    pub some : (rows : Trees) × MayLeave k rows

  -- a save failed: what is kept is the image before or the one that was to be saved
  abbrev pub HasEnded : Keeper S → Type 0
  HasEnded k = k.rows ≡ Unsure
