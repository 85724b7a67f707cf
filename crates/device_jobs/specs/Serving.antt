-- What a device does with its state in a file or with none, and how it ends (profile).
use Rattle.std.specs.Prelude.{◌≡◌, ◌⊎◌, ℕ, Bool, List, Option, Some, None, Result, Ok, Err, option_map}
use Rattle.std.specs.String.{string_bytes}
use Rattle.rds_store.specs.Value.{Store}
use Rattle.rds_store.specs.Step.{step}
use Rattle.uecp_encoder.specs.State.{EncoderState}
use Rattle.uecp_text.specs.declared.run_fault.RunFault.{RunFault}
use Rattle.uecp_text.specs.declared.run_fault.RunFault.TheVariants.{OutOfMemory}
use Rattle.uecp_text.specs.Faults.{error_lines, status_of}
use Rattle.uecp_jobs.specs.Setups.{Options, IsSetup, RefusesSetup, address_of, encoder_at_first}
use Rattle.uecp_encoder.specs.Keeping.{Kept, Settled}
use Rattle.kept_jobs.specs.declared.stop.KeptStop.{KeptStop}
use Rattle.kept_jobs.specs.Stops.{stop_lines}
use Rattle.state_files.specs.declared.fault.StateFault.{StateFault}
use Rattle.state_jobs.specs.Opened.{IsOpened}
use Rattle.state_jobs.specs.Texts.{IsClosed, fault_line}
use Rattle.device_serving.specs.Logging.{Log}
use Rattle.device_serving.specs.DeviceRun.{RunsDevice, OutlivesRun, Standing}
use Rattle.uecp_encoder.specs.declared.keep.NotSaved.{NotSaved}
use Rattle.commands.specs.declared.encoder_options.EncoderOptions.{EncoderOptions}
use Rattle.device_jobs.specs.Limits.{connections_of, turns_of, options_of}
use Rattle.notices.specs.Told.{Told, Says}

-- The state at the path could not be opened, and that was said.
abbrev pub HasNoState : (refuses : List ℕ → StateFault → Type 0) → (path : List ℕ) → (said said' : Told)
    → (status : ℕ) → Type 0
HasNoState refuses path said said' status =
    (fault : StateFault) × refuses path fault × (status ≡ 3) × Says said said' (fault_line path fault)

-- The options describe no encoder, or there was no memory for one, and that was said.
abbrev pub IsNoEncoder : Options → (said said' : Told) → (status : ℕ) → Type 0
IsNoEncoder options said said' status =
    (fault : RunFault) × ((fault ≡ OutOfMemory) ⊎ RefusesSetup options fault) × (status ≡ status_of fault)
    × Says said said' (error_lines fault)

module _ {K C I O : Type 0} (most room : ℕ) (leaves : K → Kept Store → Type 0) (is_clean : K → Type 0)
    (saves fails : K → Kept Store → K → Type 0) (opens : C → Option (I × O) → C → Type 0)
    (closes : C → I → O → C → Type 0) (remaining : I → Option (List ℕ)) (contents : O → Option (List ℕ))
    (turns connections : ℕ) (store : Bool) where
  -- A device ran from here to there. It came to its end, and nothing was said; or it stopped, and why was said.
  abbrev pub EndsDevice : (x x' : Standing Store K C) → (said said' : Told) → (status : ℕ) → Type 0
  EndsDevice x x' said said' status =
      ((status ≡ 0)
      × RunsDevice most room leaves is_clean saves fails opens closes remaining contents turns connections store x x'
      (Ok tt) × (said' ≡ said))
      ⊎ ((stop : KeptStop) × (status ≡ 3)
      × RunsDevice most room leaves is_clean saves fails opens closes remaining contents turns connections store x x'
      (Err stop) × Says said said' (stop_lines stop))

  -- The state at the path was opened, and its encoder is the one that is asked for; a device ran from there; and then
  -- the state was closed. Where it came to its end, whatever a crash leaves is the encoder as the last connection
  -- left it; and however it ended, it is that, or the encoder after some first bytes of the last connection, of whose
  -- replies all that was sent is.
  pub record ServesIn (gives : List ℕ → EncoderState Store → K → Type 0)
      (ends : K → Result (Unit {0}) StateFault → Type 0)
      (path : List ℕ) (address sets : ℕ) (services : List ℕ) (c c' : C) (l l' : Log)
      (said said' : Told) (status' : ℕ) : Type 0 where
    pub encoder : EncoderState Store
    pub keeper : K
    pub after : EncoderState Store
    pub keeper_after : K
    pub status : ℕ
    pub between : Told
    pub closed : Result (Unit {0}) StateFault
    pub is_opened : IsOpened (gives path) leaves is_clean address sets services encoder keeper
    pub runs : EndsDevice (record { encoder = encoder; keeper = keeper; connect = c; log = l })
        (record { encoder = after; keeper = keeper_after; connect = c'; log = l' }) said between status
    pub settled : status ≡ 0 → is_clean keeper_after → Settled (leaves keeper_after) after
    pub outlives : is_clean keeper_after → (left : Kept Store) → leaves keeper_after left
        → OutlivesRun most room step leaves is_clean saves fails opens closes remaining contents turns
        (record { encoder = after; keeper = keeper_after; connect = c'; log = l' }) left
    pub clean : is_clean keeper_after → is_clean keeper
    pub closes_so : ends keeper_after closed
    pub is_closed : IsClosed path status closed status' between said'

module _ {C I O : Type 0} (opens : C → Option (I × O) → C → Type 0) (closes : C → I → O → C → Type 0)
    (remaining : I → Option (List ℕ)) (contents : O → Option (List ℕ)) where
  -- A device ran with no state, from a new encoder on. What it would keep is kept nowhere.
  abbrev pub ServesUnkept : Options → (turns connections : ℕ) → (store : Bool) → (c c' : C) → (l l' : Log)
      → (said said' : Told) → (status : ℕ) → Type 0
  ServesUnkept options turns connections store c c' l l' said said' status =
      (keeper : NotSaved) × (keeper' : NotSaved) × (after : EncoderState Store)
      × EndsDevice 1 512 (λ k left. Unit {0}) (λ k. ⊥) (λ k left k'. k' ≡ k) (λ k left k'. ⊥) opens closes remaining
      contents turns connections store
      (record { encoder = encoder_at_first options; keeper = keeper; connect = c; log = l })
      (record { encoder = after; keeper = keeper'; connect = c'; log = l' }) said said' status

  module _ {K : Type 0} (gives : List ℕ → EncoderState Store → K → Type 0) (refuses : List ℕ → StateFault → Type 0)
      (ends : K → Result (Unit {0}) StateFault → Type 0) (most room : ℕ) (leaves : K → Kept Store → Type 0)
      (is_clean : K → Type 0) (saves fails : K → Kept Store → K → Type 0) where
    -- A device ran from the state in the file of this path; or with no state.
    abbrev pub ServesFrom : (state : Option (List ℕ)) → Options → (turns connections : ℕ) → (store : Bool) → (c c' : C)
        → (l l' : Log) → (said said' : Told) → (status : ℕ) → Type 0
    ServesFrom (Some path) options turns connections store c c' l l' said said' status =
        ServesIn most room leaves is_clean saves fails opens closes remaining contents turns connections store gives
        ends path (address_of options.site options.encoder) options.sets options.services c c' l l' said said' status
        ⊎ (HasNoState refuses path said said' status × (c' ≡ c) × (l' ≡ l))
    ServesFrom None options turns connections store c c' l l' said said' status =
        ServesUnkept options turns connections store c c' l l' said said' status

    -- So for the options of the job. Or they describe no encoder, and no state was opened, no connection, and nothing
    -- was told.
    abbrev pub HasServedDevice : EncoderOptions → (c c' : C) → (l l' : Log) → (said said' : Told)
        → (status : ℕ) → Type 0
    HasServedDevice job c c' l l' said said' status =
        (IsSetup (options_of job)
        × ServesFrom (option_map string_bytes job.state) (options_of job) (turns_of job) (connections_of job) job.store
        c c' l l' said said' status)
        ⊎ (IsNoEncoder (options_of job) said said' status × (c' ≡ c) × (l' ≡ l))
