-- An encoder's state in a file: what a crash may leave of it, and when there is none. Source: profile.
use Rattle.std.specs.Prelude.{◌≡◌, ◌≢◌, ◌⊎◌, ◌&&◌, ◌==◌, nat_le, ℕ, List, Option, Some, None, is_some, Ok}
use Rattle.std.specs.List.{list_any}
use Rattle.std.specs.FinMap.{get}
use Rattle.sqlite.specs.Store.{Ghosts}
use Rattle.rds_store.specs.Value.{Store}
use Rattle.rds_store.specs.declared.fault.StoreFault.{StoreFault}
use Rattle.rds_store.specs.Opening.{fault_of}
use Rattle.uecp_encoder.specs.State.{EncoderState}
use Rattle.uecp_encoder.specs.Keeping.{Kept, kept_of}
use Rattle.sqlite_image.specs.Keeper.{Keeper}
use Rattle.end_images.specs.Images.{encoder_image, encoder_kind, server_kind}
use Rattle.end_images.specs.Reading.{IsFaultOf, EncoderRead}
use Rattle.end_images.specs.declared.fault.ImageFault.{ImageFault}
use Rattle.state_files.specs.Faults.{IsOfFile, image_fault}
use Rattle.state_files.specs.Saving.{Leaves}
use Rattle.state_files.specs.declared.fault.StateFault.{StateFault}
use Rattle.state_files.specs.declared.fault.StateFault.TheVariants as state

-- ---- What a file keeps.

-- A store has something in each of its sets for each of its services, and nothing elsewhere.
abbrev pub IsPlaced : Store → Type 0
IsPlaced v =
    (place : ℕ × ℕ) → is_some (get v.places place)
    ≡ (list_any (λ s. place.1 == s) v.services && (nat_le 1 place.0 && nat_le place.0 v.sets))

-- the image tells these of each other
abbrev pub TellsWhatIsKept : Type 0
TellsWhatIsKept =
    (d e : EncoderState Store) → IsPlaced d.value → IsPlaced e.value → encoder_image d ≡ encoder_image e
    → kept_of d ≡ kept_of e

-- a crash at this moment may leave rows that hold the image of an encoder of which this is kept
abbrev pub LeavesEncoder : {S : Type 0} → Ghosts S → Keeper S → Kept Store → Type 0
LeavesEncoder g =
    Leaves g (λ (progress : Unit {0}) (e : EncoderState Store). encoder_image e)
    (λ (progress : Unit {0}) (e : EncoderState Store). IsPlaced e.value)
    (λ (progress : Unit {0}) (e : EncoderState Store). kept_of e)

-- ---- What is asked for.

-- The encoder has this address, this many data sets and these services.
pub record IsDescribed (address sets : ℕ) (services : List ℕ) (e : EncoderState Store) : Type 0 where
  pub address_is : e.address ≡ address
  pub sets_are : e.value.sets ≡ sets
  pub services_are : e.value.services ≡ services

-- ---- When there is none.

-- This encoder is another than the one that is asked for, in what the fault says, and the first in that order.
abbrev pub IsOtherEncoder : (address sets : ℕ) → (services : List ℕ) → EncoderState Store → StateFault → Type 0
IsOtherEncoder address sets services e state.OtherAddress = e.address ≢ address
IsOtherEncoder address sets services e state.OtherSets = (e.address ≡ address) × (e.value.sets ≢ sets)
IsOtherEncoder address sets services e state.OtherServices =
    (e.address ≡ address) × (e.value.sets ≡ sets) × (e.value.services ≢ services)
IsOtherEncoder address sets services e _ = ⊥

-- The image is that of an encoder at another address; at this address with another number of sets; with these and other
-- services; or it is read as none, as it is told.
abbrev pub IsOther : (address sets : ℕ) → (services : List ℕ) → List ℕ → StateFault → Type 0
IsOther address sets services bytes fault =
    ((e : EncoderState Store) × EncoderRead bytes (Ok e) × IsOtherEncoder address sets services e fault)
    ⊎ ((read : ImageFault) × (fault ≡ image_fault read) × IsFaultOf encoder_kind server_kind bytes read)

-- A new encoder was not begun: no store has these sets and services, or it could not be saved, as it is told.
abbrev pub IsUnbegun : (sets : ℕ) → (services : List ℕ) → StateFault → Type 0
IsUnbegun sets services fault =
    ((store : StoreFault) × (fault ≡ state.Store store) × (fault_of sets services ≡ Some store)) ⊎ IsOfFile fault

-- Why there is no encoder, where an open found this image, or none yet: it is another's; or a new one was not begun.
abbrev pub IsRefused : Option (List ℕ) → (address sets : ℕ) → (services : List ℕ) → StateFault → Type 0
IsRefused (Some bytes) address sets services fault = IsOther address sets services bytes fault
IsRefused None address sets services fault = IsUnbegun sets services fault
