-- What the database file and its log hold.
use Rattle.std.specs.Prelude.{Option, [], ℕ, List}
use Rattle.sqlite.specs.Recovery.{Image}
use Rattle.sqlite_disk.specs.declared.Disk as disk
use Rattle.sqlite_disk.specs.declared.Files.{Files}
use Rattle.sqlite.specs.WalFiles.{outcomes}
use Rattle.sqlite.specs.WalReads.{AreClean}
use Rattle.sqlite.specs.Tree.{Trees}
use Rattle.sqlite.specs.Files.{HoldsDatabase}
use Rattle.sqlite.specs.Store.{Ghosts}
use Rattle.sqlite_image.specs.Kept.{Holds}
use Rattle.sqlite_image.specs.Keeper.{Keeper, MayLeave}

-- the two files hold a database with this image, or with none yet
abbrev pub FilesHold : ℕ → Option (List ℕ) → Image → Type 0
FilesHold version image files = ∥ ((rows : Trees) × HoldsDatabase files rows × Holds version image rows) ∥₁

-- the database file holds it without the log
abbrev pub FileHolds : ℕ → Option (List ℕ) → Image → Type 0
FileHolds version image files = FilesHold version image (record files { log = [] })

-- the two files hold rows that a crash might have left at that moment
abbrev pub HoldLeft : {S : Type 0} → Ghosts S → Keeper S → Image → Type 0
HoldLeft g k files = ∥ ((rows : Trees) × MayLeave g k rows × HoldsDatabase files rows) ∥₁

-- files that were closed: the database file holds it without the log, whatever a crash leaves of them, while the disk
-- has given back what was written
abbrev pub AreClosed : {D : Type 0} → disk.Ghosts D → Files D → ℕ → Option (List ℕ) → Type 0
AreClosed g files version image =
    AreClean g files.log files.db → (left : Image) → outcomes g files.log files.db left → FileHolds version image left
