-- What opening a state file gives: what the file held. Source: profile.
use Rattle.std.specs.Prelude.{◌≡◌, ℕ, List, Option, None, Some}
use Rattle.sqlite_disk.specs.declared.Disk.{Ghosts}
use Rattle.sqlite_store.specs.declared.store.FileStore.{FileStore}
use Rattle.sqlite.specs.Files.{over_files}
use Rattle.rds_store.specs.Value.{Store}
use Rattle.rds_store.specs.Opening as stores
use Rattle.uecp_encoder.specs.State.{EncoderState, opening, restarted}
use Rattle.uecp_link.specs.Server.{ServerState, idle_at}
use Rattle.uecp_net.specs.declared.saved.keep.Progress.{Progress}
use Rattle.sqlite_disk.specs.declared.Files.{Files}
use Rattle.sqlite_image.specs.Keeper.{Keeper, IsClean, Keeps}
use Rattle.sqlite_image.specs.Files.{AreClosed}
use Rattle.end_images.specs.Images.{encoder_image, server_image}
use Rattle.end_images.specs.Reading.{IsEncoder, IsKeptServer, restarted_kept}
use Rattle.end_images.specs.declared.server_parts.KeptServer.{KeptServer}
use Rattle.state_files.specs.Servers.{image_of, begins}
use Rattle.state_files.specs.Reading.{IsFoundIn}
use Rattle.state_files.specs.declared.reading.Found.{Found}
use Rattle.state_files.specs.declared.reading.Found.TheVariants.{Empty}

-- Nothing is found where the file holds no image yet, and else the end whose image it holds.
abbrev pub IsFoundOf : Option (List ℕ) → Found → Type 0
IsFoundOf None found = found ≡ Empty
IsFoundOf (Some bytes) found = IsFoundIn bytes found

-- `holds` says which image of which version a file at a path holds, or that it holds none yet, as it is opened. All of
-- this is so while the disk has given back what was written.
module _ {F : Type 0} (holds : F → List ℕ → ℕ → Option (List ℕ) → Type 0) (files : F) (path : List ℕ) where
  module _ {D : Type 0} {g : Ghosts D} where
    -- An encoder is given, and what keeps it: where the file holds the image of an encoder, the one that goes on from
    -- it; where it holds none yet, a new one. From then on whatever a crash leaves holds the image of the one given.
    pub record GivesEncoder (e : EncoderState Store) (k : Keeper (FileStore D g)) : Type 0 where
      pub found : (was : EncoderState Store) → IsEncoder was → holds files path 1 (Some (encoder_image was))
          → IsClean over_files k → e ≡ restarted was
      pub new : holds files path 1 None → IsClean over_files k
          → e ≡ opening e.address (stores.opening e.value.sets e.value.services)
      pub kept : IsClean over_files k → Keeps over_files k (Some (encoder_image e))

    -- So is a server, with how far it has come.
    pub record GivesServer (s : ServerState) (progress : Progress) (k : Keeper (FileStore D g)) : Type 0 where
      pub found : (was : KeptServer) → IsKeptServer was
          → holds files path 1 (Some (server_image was.joined was.taken was.server)) → IsClean over_files k
          → (record { joined = progress.joined; taken = progress.taken; server = s }) ≡ restarted_kept was
      pub new : holds files path 1 None → IsClean over_files k → (s ≡ idle_at s.address) × (progress ≡ begins)
      pub kept : IsClean over_files k → Keeps over_files k (Some (image_of progress s))

  -- This is found: what is of the image that the file holds.
  pub record Finds (D : Type 0) (g : Ghosts D) (found : Found) : Type 0 where
    pub image : Option (List ℕ)
    pub is : IsFoundOf image found
    pub opened : Keeper (FileStore D g)
    pub held : (was : Option (List ℕ)) → holds files path 1 was → IsClean over_files opened → image ≡ was

-- A file was closed: by itself it holds the image that was kept, also after a crash.
pub record Closes {D : Type 0} {g : Ghosts D} (k : Keeper (FileStore D g)) : Type 0 where
  pub files : Files D
  pub alone : (image : List ℕ) → Keeps over_files k (Some image) → AreClosed g files k.version (Some image)
