-- What is read of an image, and which images are read. Source: profile.
use Rattle.std.specs.Prelude.{◌≡◌, ℕ, ◌<◌, ◌^◌, ◌==◌, ◌&&◌, nat_lt, if◌then◌else◌, Bool, true, false, List, [], ◌∷◌}
use Rattle.std.specs.Prelude.{Option, Some, None, Result, Ok, Err}
use Rattle.uecp_frame.specs.Address.{is_exact}
use Rattle.uecp_frame.specs.Findings.{OpenPart, Closed, Doomed, Part}
use Rattle.uecp_elements.specs.Grammar.{AreBytes}
use Rattle.rds_store.specs.Value.{Store}
use Rattle.rds_store.specs.Opening.{fault_of}
use Rattle.reply_ring.specs.Ring.{IsRing}
use Rattle.store_phrases.specs.Station.{IsStation}
use Rattle.uecp_encoder.specs.State.{EncoderState, restarted}
use Rattle.uecp_link.specs.Server.{restarted_server}
use Rattle.uecp_link.specs.Resuming.{IsServer}
use Rattle.end_images.specs.declared.fault.ImageFault.{ImageFault}
use Rattle.end_images.specs.declared.fault.ImageFault.TheVariants.{Newer, OtherEnd, Damaged, OutOfMemory}
use Rattle.end_images.specs.declared.server_parts.KeptServer.{KeptServer}
use Rattle.end_images.specs.Images.{version, encoder_kind, server_kind, sealed, encoder_image, server_image}

-- ---- What can be kept.

-- What is so of each store: it is a station, and was opened with its sets and services.
pub record IsOpenedStation (v : Store) : Type 0 where
  pub station : IsStation v
  pub opens : fault_of v.sets v.services ≡ None

-- What is open of the line was read from bytes.
abbrev pub IsOpenOfBytes : OpenPart → Type 0
IsOpenOfBytes Closed = Unit {0}
IsOpenOfBytes (Doomed fault) = Unit {0}
IsOpenOfBytes (Part x) = AreBytes x.plain × AreBytes x.rest

-- What is so of each encoder of a store: its address is its own, its store is one, its kept pairs are a ring, and what
-- is open was read from bytes.
pub record IsEncoder (e : EncoderState Store) : Type 0 where
  pub exact : is_exact e.address ≡ true
  pub store : IsOpenedStation e.value
  pub ring : IsRing e.ring
  pub open_part : IsOpenOfBytes e.part

-- ---- Which image it is.

-- The version of an image, where it is above the one that is read here.
abbrev pub newer_of : List ℕ → Option ℕ
newer_of [] = None
newer_of (v ∷ bytes) = if nat_lt version v then Some v else None

-- Whether bytes begin as an image of this kind.
abbrev pub is_headed : (kind : ℕ) → List ℕ → Bool
is_headed kind (v ∷ k ∷ bytes) = v == version && k == kind
is_headed kind _ = false

-- Bytes end with their check, and begin as an image of this kind.
pub record IsWhole (kind : ℕ) (bytes : List ℕ) : Type 0 where
  pub body : List ℕ
  pub is_sealed : bytes ≡ sealed body
  pub headed : is_headed kind body ≡ true

-- Why no image of one kind was read, where that of the other end has another: its version is above the one that is
-- read here, whatever its check is; it is the other end's, as its check says too; it is neither, and damaged; or there
-- was no memory for what it says, which its check confirms.
abbrev pub IsFaultOf : (kind other : ℕ) → List ℕ → ImageFault → Type 0
IsFaultOf kind other bytes (Newer v) = newer_of bytes ≡ Some v
IsFaultOf kind other bytes OtherEnd = IsWhole other bytes
IsFaultOf kind other bytes Damaged = (newer_of bytes ≡ None) × (IsWhole other bytes → ⊥)
IsFaultOf kind other bytes OutOfMemory = IsWhole kind bytes

-- An end was read, and it is this one; or there was no memory for it.
abbrev pub GivesBack : {V : Type 0} → Result V ImageFault → V → Type 0
GivesBack (Ok v) after = v ≡ after
GivesBack (Err OutOfMemory) after = Unit {0}
GivesBack (Err Damaged) after = ⊥
GivesBack (Err OtherEnd) after = ⊥
GivesBack (Err (Newer v)) after = ⊥

-- ---- What is read.

-- What reading an encoder's image answers: an encoder whose image these bytes are, as a start leaves it; or why none.
abbrev pub EncoderRead : List ℕ → Result (EncoderState Store) ImageFault → Type 0
EncoderRead bytes (Ok e) = (bytes ≡ encoder_image e) × (e ≡ restarted e) × IsEncoder e
EncoderRead bytes (Err fault) = IsFaultOf encoder_kind server_kind bytes fault

-- What is so of each server that a program keeps: it is one, its address is its encoder's own, and the number of
-- messages taken is one of 64 bits.
pub record IsKeptServer (k : KeptServer) : Type 0 where
  pub exact : is_exact k.server.address ≡ true
  pub taken : k.taken < 2 ^ 64
  pub server : IsServer k.server

-- The same once it is started again.
abbrev pub restarted_kept : KeptServer → KeptServer
restarted_kept k = record k { server = restarted_server k.server }

-- What reading a server's image answers.
abbrev pub ServerRead : List ℕ → Result KeptServer ImageFault → Type 0
ServerRead bytes (Ok k) =
    (bytes ≡ server_image k.joined k.taken k.server) × (k ≡ restarted_kept k) × IsKeptServer k
ServerRead bytes (Err fault) = IsFaultOf server_kind encoder_kind bytes fault
