-- What one try of `resend` hears, and what tries that brought nothing come to; for proofs alone, as the contracts of
-- private functions. Source: profile.
use Rattle.std.specs.Prelude.{◌≡◌, ℕ, ◌+◌, ◌*◌, ◌≤◌, ◌⊎◌, Bool, true, false, List, length, Option, None}
use Rattle.std.specs.Io.KnownBytes.{Appends, IsAtEnd}
use Rattle.uecp_encoder.specs.Metered.{Metered}
use Rattle.uecp_link.specs.declared.driving.Listened.{Listened}
use Rattle.uecp_link.specs.declared.driving.Listened.TheVariants as listened
use Rattle.uecp_link.specs.Reading.{Reads}
use Rattle.uecp_link.specs.Server.{ServerState, heard}
use Rattle.uecp_link.specs.Driving.{copies, frame_sent, acknowledged_in, IsAcknowledged}

-- How a try ended that read these bytes by so many reads, of which so many failed.
abbrev pub Hears : ServerState → (read : List ℕ) → (unread : Option (List ℕ)) → (turns reads failed : ℕ) → Listened
    → Type 0
Hears s read unread turns reads failed (listened.Acknowledged code) =
    IsAcknowledged s read code × (failed ≡ 0) × (1 ≤ reads)
Hears s read unread turns reads failed listened.Nothing =
    (acknowledged_in s read ≡ None) × (((failed ≡ 1) × (1 ≤ reads)) ⊎ ((failed ≡ 0) × (reads ≡ turns)))
Hears s read unread turns reads failed listened.Ended =
    (acknowledged_in s read ≡ None) × (failed ≡ 0) × (1 ≤ reads) × IsAtEnd unread

-- Whether a try met the end of input.
abbrev pub met_end : Listened → Bool
met_end (listened.Acknowledged code) = false
met_end listened.Nothing = false
met_end listened.Ended = true

-- A try from one state of the server to another. But for `Ended`, no read brought nothing; there one did.
pub record Listens {R : Type 0} (remaining : R → Option (List ℕ)) (old new : ServerState) (reader reader' : Metered R)
    (turns : ℕ) (result : Listened) : Type 0 where
  pub read : List ℕ
  pub reads : ℕ
  pub failed : ℕ
  pub reading : Reads remaining reader reader' read reads failed (met_end result)
  pub state : new ≡ heard old read
  pub hears : Hears old read (remaining reader'.device) turns reads failed result
  pub few_reads : reads ≤ turns

-- So many reads, none of which failed, brought nothing, or brought the acknowledgement.
pub record Waits {R : Type 0} (remaining : R → Option (List ℕ)) (old new : ServerState) (reader reader' : Metered R)
    (reads : ℕ) : Type 0 where
  pub read : List ℕ
  pub reading : Reads remaining reader reader' read reads 0 false
  pub state : new ≡ heard old read
  pub silent : acknowledged_in old read ≡ None

-- So many tries, none of which brought the acknowledgement, and no read in them brought nothing; this many bytes were
-- sent in them.
pub record Tried {R W : Type 0} (remaining : R → Option (List ℕ)) (contents : W → Option (List ℕ))
    (old new : ServerState) (reader reader' : Metered R) (writer writer' : Metered W) (turns begun bytes : ℕ) : Type
    0 where
  pub read : List ℕ
  pub reads : ℕ
  pub failed : ℕ
  pub reading : Reads remaining reader reader' read reads failed false
  pub appended : Appends (contents writer.device) (contents writer'.device) (copies (frame_sent old) begun)
  pub state : new ≡ heard old read
  pub silent : acknowledged_in old read ≡ None
  pub bytes_are : bytes ≡ length (copies (frame_sent old) begun)
  pub few_written : bytes ≤ 524 * begun
  pub few_failed : failed ≤ begun
  pub made : failed + begun * turns ≤ reads + failed * turns
  pub few_reads : reads ≤ begun * turns
  pub write_failures : writer'.failures ≡ writer.failures
