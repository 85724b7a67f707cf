-- What a kill may leave of a log, in SQLite's format (fileformat2.html, section 4). A save is some frames, of which the
-- last commits. The first byte of its first frame's salt is its mark, which is written once all else of the save is on
-- the disk; and behind each save the mark of the next is unset. Each start begins the log anew, under a new salt.
use Rattle.std.specs.Prelude.{◌≡◌, ◌≢◌, ◌⊎◌, ◌+◌, ◌<◌, ◌≤◌, ℕ, List, length, slice_index, slice_set}
use Rattle.sqlite.specs.Recovery.{Image, Passes, header, frame, frame_at, file_page}
use Rattle.sqlite_wal.specs.Format.{part, be32, IsSigned, page_number, commit_size, content}
use Rattle.sqlite_wal.specs.Gate.{IsShut}

-- how long a page is, as the log's header has it
abbrev pub size_in : List ℕ → ℕ
size_in log = be32 log 8

-- the log begins with a header that is signed, and has pages as SQLite may
pub record HasHeader (log : List ℕ) : Type 0 where
  pub long : 32 ≤ length log
  pub signed : IsSigned (header log)
  pub small : size_in log ≤ 65536

module _ (size : ℕ) (log : List ℕ) where
  -- frame i is in the log, with all its bytes
  abbrev pub IsThere : ℕ → Type 0
  IsThere i = frame_at size i + (24 + size) ≤ length log

  -- the first n frames pass SQLite's test, and frame n does not
  pub record HasFrames (n : ℕ) : Type 0 where
    pub good : (i : ℕ) → i < n → Passes size log i
    pub no_more : ¬ Passes size log n

  -- a save begins with frame n: no frame is before it, or one that commits
  abbrev pub IsFirst : ℕ → Type 0
  IsFirst n = (i : ℕ) → i + 1 ≡ n → commit_size (frame size log i) ≢ 0

  -- the mark of a save that begins with frame n is there, and isn't set
  abbrev pub IsUnset : ℕ → Type 0
  IsUnset n = IsShut log (frame_at size n + 8) (slice_index log 16)

  -- a save that begins with frame n ends with frame i, whatever its mark is
  pub record IsEnd (n i : ℕ) : Type 0 where
    pub from : n ≤ i
    pub there : IsThere i
    pub commits : commit_size (frame size log i) ≢ 0
    pub passes : n < i → Passes size log i

  -- frame i bears the salt of the log
  pub record Bears (i : ℕ) : Type 0 where
    pub there : IsThere i
    pub salt : part log (frame_at size i + 8) 8 ≡ part log 16 8

  -- a save begins with frame n, and behind its end another one was written
  pub record GoesOn (n : ℕ) : Type 0 where
    pub last : ℕ
    pub next : ℕ
    pub ends : IsEnd n last
    pub behind : last < next
    pub bears : Bears next

  -- The log ends behind n frames, as a save leaves it, or one that was broken off before its mark was set.
  pub record IsLeft (n : ℕ) : Type 0 where
    pub frames : HasFrames n
    pub first : IsFirst n
    pub unset : IsUnset n
    pub alone : ¬ GoesOn n

  -- no later one of the first n frames is for the page of frame i
  abbrev pub IsNewest : ℕ → ℕ → Type 0
  IsNewest n i = (j : ℕ) → i < j → j < n → page_number (frame size log j) ≢ page_number (frame size log i)

  -- the file has what the frames say
  abbrev pub IsCopied : List ℕ → Type 0
  IsCopied db = (n : ℕ) → HasFrames n → (i : ℕ) → i < n → IsNewest n i
      → content (frame size log i) ≡ file_page size db (page_number (frame size log i))

-- The first byte of the log's header is as it is written last. Then all of the header is there, and the frames end as
-- they may; and where there is one there is a file.
pub record IsBegun (image : Image) : Type 0 where
  pub header : HasHeader image.log
  pub frames : ℕ
  pub left : IsLeft (size_in image.log) image.log frames
  pub based : 0 < frames → 1 < length image.db

-- with that byte
abbrev pub begun : List ℕ → List ℕ
begun log = slice_set log 0 0x37

-- It isn't: a new log was to be begun, so the file has what the old one says.
abbrev pub IsBroken : Image → Type 0
IsBroken image = HasHeader (begun image.log) → IsCopied (size_in (begun image.log)) (begun image.log) image.db

-- The log is as a process that was killed may have left it beside its file, or there is none. Any other was changed or
-- cut. Source: profile.
abbrev pub IsUnharmed : Image → Type 0
IsUnharmed image =
    ((slice_index image.log 0 ≡ 0x37) × IsBegun image) ⊎ ((slice_index image.log 0 ≢ 0x37) × IsBroken image)
