-- A run of an encoder, on the air or not, is some of its days. Source: profile.
use Rattle.std.specs.Prelude.{ℕ, Bool, List, Option}
use Rattle.rds_groups.specs.declared.group.Group.{Group}
use Rattle.rds_store.specs.Value.{Store}
use Rattle.rds_store.specs.Step.{step as store_step, group_taken}
use Rattle.uecp_encoder.specs.State.{EncoderState}
use Rattle.uecp_encoder.specs.Keeping.{Kept}
use Rattle.kept_jobs.specs.Stops.{Went}
use Rattle.device_serving.specs.declared.air.moments.Moment.{Moment}
use Rattle.device_serving.specs.DeviceRun as device
use Rattle.device_serving.specs.AirRun as air
use Rattle.promises.specs.DeviceLives.{DeviceEvent, Deed, DeviceLives}

-- Some events lead from one encoder to the other, with these deeds.
abbrev pub AreDays : (e e' : EncoderState Store) → Type 0
AreDays e e' = (events : List DeviceEvent) × (deeds : List Deed)
    × DeviceLives store_step group_taken events e deeds e'

-- Law: a run of `run_device`, however it ended, is some days of its encoder in memory.
module _ {K C I O : Type 0} (most room : ℕ) (leaves : K → Kept Store → Type 0) (is_clean : K → Type 0)
    (saves fails : K → Kept Store → K → Type 0) (opens : C → Option (I × O) → C → Type 0)
    (closes : C → I → O → C → Type 0) (remaining : I → Option (List ℕ)) (contents : O → Option (List ℕ)) where
  abbrev pub DeviceIsDays : Type 0
  DeviceIsDays =
      (turns connections : ℕ) (store : Bool) (x x' : device.Standing Store K C) (went : Went)
      → device.RunsDevice most room leaves is_clean saves fails opens closes remaining contents turns connections store
      x x' went
      → AreDays x.encoder x'.encoder

-- Law: so is one of `run_on_air`, and its groups are among them.
module _ {K M I O : Type 0} (most room : ℕ) (leaves : K → Kept Store → Type 0) (is_clean : K → Type 0)
    (saves fails : K → Kept Store → K → Type 0) (waits : M → Bool → Moment I O → M → Type 0)
    (closes : M → I → O → M → Type 0) (sends : M → Group → M → Type 0) (remaining : I → Option (List ℕ))
    (contents : O → Option (List ℕ)) where
  abbrev pub AirIsDays : Type 0
  AirIsDays =
      (turns : ℕ) (store : Bool) (x x' : air.OnAir K M I O) (went : Went)
      → air.RunsOnAir most room leaves is_clean saves fails waits closes sends remaining contents turns store x x' went
      → AreDays x.encoder x'.encoder
