-- Images of objects behind handles (profile).
use Rattle.std.specs.Prelude.{◌≡◌, ◌⊎◌, ℕ, Bool, List, length, Option, Some, None}
use Rattle.rds_store.specs.Value.{Store}
use Rattle.uecp_encoder.specs.State.{EncoderState, restarted}
use Rattle.uecp_link.specs.Server.{ServerState, restarted_server}
use Rattle.end_images.specs.declared.fault.ImageFault.{ImageFault}
use Rattle.end_images.specs.declared.fault.ImageFault.TheVariants.{Newer, OtherEnd, Damaged, OutOfMemory}
use Rattle.end_images.specs.Images.{encoder_kind, server_kind, encoder_image, server_image}
use Rattle.end_images.specs.Reading.{IsFaultOf}
use Rattle.c_values.specs.Buffers.{filled}
use Rattle.c_values.specs.declared.object.Object.{Object}
use Rattle.c_values.specs.declared.object.Object.TheVariants.{Encoder, Server}
use Rattle.c_values.specs.Statuses.{done, occupied, no_memory, newer_image, other_image, damaged_image}

-- Bytes were put into a buffer where they fit, and counted; or there was no memory, and all stays.
abbrev pub Writes : (bytes : List ℕ) → (status : ℕ) → (length_old length_new : ℕ) → (old new : List ℕ) → Type 0
Writes bytes status length_old length_new old new =
    ((status ≡ done) × (length_new ≡ length bytes) × (new ≡ filled bytes old))
    ⊎ ((status ≡ no_memory) × (length_new ≡ length_old) × (new ≡ old))

-- The status that says why bytes are not read as an image.
abbrev pub status_of : ImageFault → ℕ
status_of (Newer v) = newer_image
status_of OtherEnd = other_image
status_of Damaged = damaged_image
status_of OutOfMemory = no_memory

-- Bytes are not read as an image of one kind, where that of the other end has another: there was no memory, or that is
-- said which is so of them; the handle has nothing.
abbrev pub IsRefused : (kind other : ℕ) → List ℕ → (new : Option Object) → (status : ℕ) → Type 0
IsRefused kind other bytes new status = (new ≡ None)
    × ((status ≡ no_memory) ⊎ ((fault : ImageFault) × (status ≡ status_of fault) × IsFaultOf kind other bytes fault))

-- A handle before and after an encoder's image was read into it. Where it has an object, that stays; else it has an
-- encoder whose image these bytes are, as a start leaves it; or they are refused.
abbrev pub ReadsEncoder : (old new : Option Object) → List ℕ → (status : ℕ) → Type 0
ReadsEncoder (Some object) new bytes status = (status ≡ occupied) × (new ≡ Some object)
ReadsEncoder None new bytes status =
    ((e : EncoderState Store) × (status ≡ done) × (new ≡ Some (Encoder e)) × (bytes ≡ encoder_image e)
    × (e ≡ restarted e))
    ⊎ IsRefused encoder_kind server_kind bytes new status

-- The same of a server's image, and of what is told beside it; that stays where no server was read.
abbrev pub ReadsServer : (old new : Option Object) → List ℕ → (joined joined' : Bool) → (taken taken' : ℕ)
    → (status : ℕ) → Type 0
ReadsServer (Some object) new bytes joined joined' taken taken' status =
    (status ≡ occupied) × (new ≡ Some object) × (joined' ≡ joined) × (taken' ≡ taken)
ReadsServer None new bytes joined joined' taken taken' status =
    ((s : ServerState) × (status ≡ done) × (new ≡ Some (Server s)) × (bytes ≡ server_image joined' taken' s)
    × (s ≡ restarted_server s))
    ⊎ (IsRefused server_kind encoder_kind bytes new status × (joined' ≡ joined) × (taken' ≡ taken))

-- The handle has this object; or there was no memory for it.
abbrev pub IsBack : (new : Option Object) → (status : ℕ) → Object → Type 0
IsBack new status object =
    ((status ≡ done) × (new ≡ Some object)) ⊎ ((status ≡ no_memory) × (new ≡ None))
