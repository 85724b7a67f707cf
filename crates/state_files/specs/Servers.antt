-- A server's state in a file: what a crash may leave of it, and when there is none. Source: profile.
use Rattle.std.specs.Prelude.{◌≡◌, ◌≢◌, ◌⊎◌, ℕ, ◌<◌, ◌^◌, false, List, Option, Some, None, Ok}
use Rattle.sqlite.specs.Store.{Ghosts}
use Rattle.uecp_link.specs.Server.{ServerState}
use Rattle.uecp_link.specs.Resuming.{IsServer}
use Rattle.uecp_net.specs.declared.saved.keep.Progress.{Progress}
use Rattle.uecp_net.specs.Keeping.{KeptServer, kept_of}
use Rattle.sqlite_image.specs.Keeper.{Keeper}
use Rattle.end_images.specs.Images.{server_image, encoder_kind, server_kind}
use Rattle.end_images.specs.Reading.{IsFaultOf, ServerRead}
use Rattle.end_images.specs.declared.server_parts.KeptServer.{KeptServer as Image}
use Rattle.end_images.specs.declared.fault.ImageFault.{ImageFault}
use Rattle.state_files.specs.Faults.{IsOfFile, image_fault}
use Rattle.state_files.specs.Saving.{Leaves}
use Rattle.state_files.specs.declared.fault.StateFault.{StateFault}
use Rattle.state_files.specs.declared.fault.StateFault.TheVariants as state

-- the image of a server that has come so far
abbrev pub image_of : Progress → ServerState → List ℕ
image_of progress s = server_image progress.joined progress.taken s

-- This is a server that has come so far: what each server is, and a count of messages that its image has room for.
abbrev pub IsServerSoFar : Progress → ServerState → Type 0
IsServerSoFar progress s = IsServer s × (progress.taken < 2 ^ 64)

-- ---- What a file keeps.

-- a crash at this moment may leave rows that hold the image of a server of which this is kept
abbrev pub LeavesServer : {S : Type 0} → Ghosts S → Keeper S → KeptServer → Type 0
LeavesServer g = Leaves g image_of IsServerSoFar kept_of

-- ---- When there is none.

-- The image is that of a server for another address; or it is read as none, as it is told.
abbrev pub IsOther : (address : ℕ) → List ℕ → StateFault → Type 0
IsOther address bytes fault =
    ((k : Image) × ServerRead bytes (Ok k) × (k.server.address ≢ address) × (fault ≡ state.OtherAddress))
    ⊎ ((read : ImageFault) × (fault ≡ image_fault read) × IsFaultOf server_kind encoder_kind bytes read)

-- Why there is no server, where an open found this image, or none yet: it is another's; or a new one could not be
-- saved, as it is told.
abbrev pub IsRefused : Option (List ℕ) → (address : ℕ) → StateFault → Type 0
IsRefused (Some bytes) address fault = IsOther address bytes fault
IsRefused None address fault = IsOfFile fault

-- a server whose file is new has taken nothing of its input, and has not joined
abbrev pub begins : Progress
begins = record { taken = 0; joined = false }
