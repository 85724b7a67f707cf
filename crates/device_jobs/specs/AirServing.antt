-- What a device on the air does with its state in a file or with none, and how it ends (profile).
use Rattle.std.specs.Prelude.{◌≡◌, ◌⊎◌, ℕ, Bool, true, false, List, Option, Some, None, Result, Ok, Err, option_map}
use Rattle.std.specs.Prelude.{codes}
use Rattle.std.specs.String.{string_bytes}
use Rattle.rds_groups.specs.declared.group.Group.{Group}
use Rattle.rds_store.specs.Value.{Store}
use Rattle.carousel.specs.Carousel.{Carousel, restarted}
use Rattle.carousel.specs.Service.{main_service, is_told}
use Rattle.uecp_encoder.specs.State.{EncoderState}
use Rattle.uecp_jobs.specs.Setups.{Options, IsSetup, address_of, encoder_at_first}
use Rattle.uecp_encoder.specs.Keeping.{Kept, Settled}
use Rattle.kept_jobs.specs.declared.stop.KeptStop.{KeptStop}
use Rattle.kept_jobs.specs.Stops.{stop_lines, state_line}
use Rattle.state_files.specs.declared.fault.StateFault.{StateFault}
use Rattle.state_jobs.specs.Opened.{IsOpened}
use Rattle.state_jobs.specs.Texts.{IsClosed}
use Rattle.device_serving.specs.Logging.{Log}
use Rattle.uecp_encoder.specs.declared.keep.NotSaved.{NotSaved}
use Rattle.device_serving.specs.declared.air.moments.Moment.{Moment}
use Rattle.device_serving.specs.AirRun.{OnAir, RunsOnAir, OutlivesRun}
use Rattle.commands.specs.declared.encoder_options.EncoderOptions.{EncoderOptions}
use Rattle.device_jobs.specs.Limits.{connections_of, turns_of, options_of}
use Rattle.device_jobs.specs.Serving.{HasNoState, IsNoEncoder}
use Rattle.notices.specs.Told.{Told, Says}

-- Where a run stands in which no connection is open, and so many are left to be served.
abbrev pub standing : {K M I O : Type 0} → EncoderState Store → K → Log → M → Carousel → (left : ℕ) → OnAir K M I O
standing e k l m c left = record {
  encoder = e;
  keeper = k;
  log = l;
  moments = m;
  carousel = c;
  line = None;
  left = left;
}

-- Where the service that goes out was told no PI, that was said once: 0000 is on the air. Else
-- nothing was said.
abbrev pub TellsNoPi : (is_told : Bool) → (said said' : Told) → Type 0
TellsNoPi true said said' = said' ≡ said
TellsNoPi false said said' = Says said said' (state_line (codes "air: no PI yet, 0000 is on the air"))

module _ {K M I O : Type 0} (most room : ℕ) (leaves : K → Kept Store → Type 0) (is_clean : K → Type 0)
    (saves fails : K → Kept Store → K → Type 0) (waits : M → Bool → Moment I O → M → Type 0)
    (closes : M → I → O → M → Type 0) (sends : M → Group → M → Type 0) (remaining : I → Option (List ℕ))
    (contents : O → Option (List ℕ)) (turns connections : ℕ) (store : Bool) where
  -- A device was on the air from this encoder, from a carousel at a start, and this is left. Before the first group it
  -- was said where no PI was told. It came to its end, and nothing more was said; or it stopped, and why was said.
  abbrev pub EndsOnAir : (e e' : EncoderState Store) → (k k' : K) → (m m' : M) → (l l' : Log)
      → (said said' : Told) → (status : ℕ) → Type 0
  EndsOnAir e e' k k' m m' l l' said said' status =
      (carousel : Carousel) × (left : ℕ) × (begun : Told)
      × TellsNoPi (is_told (main_service e.value)) said begun
      × (((status ≡ 0)
      × RunsOnAir most room leaves is_clean saves fails waits closes sends remaining contents turns store
      (standing e k l m restarted connections) (standing e' k' l' m' carousel left) (Ok tt)
      × (said' ≡ begun))
      ⊎ ((stop : KeptStop) × (status ≡ 3)
      × RunsOnAir most room leaves is_clean saves fails waits closes sends remaining contents turns store
      (standing e k l m restarted connections) (standing e' k' l' m' carousel left) (Err stop)
      × Says begun said' (stop_lines stop)))

  -- The state at the path was opened, and its encoder is the one that is asked for; a device was on the air from there;
  -- and then the state was closed. Where it came to its end, whatever a crash leaves is the encoder as the run left it;
  -- and however it ended, it is that, or what a save that failed at the last moment may leave.
  pub record AirsIn (gives : List ℕ → EncoderState Store → K → Type 0)
      (ends : K → Result (Unit {0}) StateFault → Type 0)
      (path : List ℕ) (address sets : ℕ) (services : List ℕ) (m m' : M) (l l' : Log)
      (said said' : Told) (status' : ℕ) : Type 0 where
    pub encoder : EncoderState Store
    pub keeper : K
    pub after : EncoderState Store
    pub keeper_after : K
    pub status : ℕ
    pub between : Told
    pub closed : Result (Unit {0}) StateFault
    pub is_opened : IsOpened (gives path) leaves is_clean address sets services encoder keeper
    pub runs : EndsOnAir encoder after keeper keeper_after m m' l l' said between status
    pub settled : status ≡ 0 → is_clean keeper_after → Settled (leaves keeper_after) after
    pub outlives : is_clean keeper_after → (kept : Kept Store) → leaves keeper_after kept
        → (carousel : Carousel) × (left : ℕ)
        × OutlivesRun most room leaves is_clean saves fails waits closes sends remaining contents turns
        (standing after keeper_after l' m' carousel left) kept
    pub clean : is_clean keeper_after → is_clean keeper
    pub closes_so : ends keeper_after closed
    pub is_closed : IsClosed path status closed status' between said'

module _ {M I O : Type 0} (waits : M → Bool → Moment I O → M → Type 0) (closes : M → I → O → M → Type 0)
    (sends : M → Group → M → Type 0) (remaining : I → Option (List ℕ)) (contents : O → Option (List ℕ)) where
  -- A device was on the air with no state, from a new encoder on. What it would keep is kept nowhere.
  abbrev pub AirsUnkept : Options → (turns connections : ℕ) → (store : Bool) → (m m' : M) → (l l' : Log)
      → (said said' : Told) → (status : ℕ) → Type 0
  AirsUnkept options turns connections store m m' l l' said said' status =
      (keeper : NotSaved) × (keeper' : NotSaved) × (after : EncoderState Store)
      × EndsOnAir 1 512 (λ k left. Unit {0}) (λ k. ⊥) (λ k left k'. k' ≡ k) (λ k left k'. ⊥) waits closes sends
      remaining contents turns connections store (encoder_at_first options) after keeper keeper' m m' l l' said said'
      status

  module _ {K : Type 0} (gives : List ℕ → EncoderState Store → K → Type 0) (refuses : List ℕ → StateFault → Type 0)
      (ends : K → Result (Unit {0}) StateFault → Type 0) (most room : ℕ) (leaves : K → Kept Store → Type 0)
      (is_clean : K → Type 0) (saves fails : K → Kept Store → K → Type 0) where
    -- A device was on the air from the state in the file of this path; or with no state.
    abbrev pub AirsFrom : (state : Option (List ℕ)) → Options → (turns connections : ℕ) → (store : Bool) → (m m' : M)
        → (l l' : Log) → (said said' : Told) → (status : ℕ) → Type 0
    AirsFrom (Some path) options turns connections store m m' l l' said said' status =
        AirsIn most room leaves is_clean saves fails waits closes sends remaining contents turns connections store gives
        ends path (address_of options.site options.encoder) options.sets options.services m m' l l' said said' status
        ⊎ (HasNoState refuses path said said' status × (m' ≡ m) × (l' ≡ l))
    AirsFrom None options turns connections store m m' l l' said said' status =
        AirsUnkept options turns connections store m m' l l' said said' status

    -- So for the options of the job. Or they describe no encoder, and no state was opened, nothing was waited for or
    -- sent, and nothing was told.
    abbrev pub HasBeenOnAir : EncoderOptions → (m m' : M) → (l l' : Log) → (said said' : Told) → (status : ℕ)
        → Type 0
    HasBeenOnAir job m m' l l' said said' status =
        (IsSetup (options_of job)
        × AirsFrom (option_map string_bytes job.state) (options_of job) (turns_of job) (connections_of job) job.store
        m m' l l' said said' status)
        ⊎ (IsNoEncoder (options_of job) said said' status × (m' ≡ m) × (l' ≡ l))
