-- What an encoder does as a device, and how it ends; a reader has to believe it (profile).
use Rattle.std.specs.Prelude.{◌≡◌, ◌⊎◌, ◌&&◌, ℕ, zero, suc, Bool, true, false, List, Option, Some, None, Ok, Err}
use Rattle.uecp_frame.specs.Findings.{Closed}
use Rattle.uecp_encoder.specs.Target.{Step}
use Rattle.uecp_encoder.specs.State.{EncoderState}
use Rattle.uecp_text.specs.declared.run_fault.RunFault.TheVariants as run
use Rattle.uecp_encoder.specs.declared.serving.KeptFault.TheVariants as kept
use Rattle.uecp_encoder.specs.Keeping.{Kept, kept_of, Settled, Outlives}
use Rattle.uecp_encoder.specs.ServingWith.{Ended, StaysSettled}
use Rattle.kept_jobs.specs.declared.stop.KeptStop.{KeptStop}
use Rattle.kept_jobs.specs.declared.stop.KeptStop.TheVariants.{Run, StateFailed}
use Rattle.kept_jobs.specs.Stops.{Went, Then}
use Rattle.rds_store.specs.Value.{Store}
use Rattle.rds_store.specs.Step.{step as store_step}
use Rattle.output_forms.specs.declared.form.Form.{Form}
use Rattle.output_forms.specs.declared.form.Form.TheVariants.{Lines, Words, Json}
use Rattle.output_forms.specs.Forms.{store_lines}
use Rattle.uecp_net.specs.Sessions.{ServingTold}
use Rattle.device_serving.specs.declared.log_lines.LogFault.{LogFault}
use Rattle.device_serving.specs.declared.log_lines.LogFault.TheVariants.{OutOfMemory, Writing}
use Rattle.device_serving.specs.ConnectionLines.{ended_lines}
use Rattle.device_serving.specs.Logging.{Log, WritesLog, Logs, LogsEvent, LogsOpening}

-- Where a device stands: its encoder, where that is kept, where connections come from, and its log.
pub record Standing (V K C : Type 0) : Type 0 where
  pub encoder : EncoderState V
  pub keeper : K
  pub connect : C
  pub log : Log

-- why a run stops whose log ended so
abbrev pub stop_of : LogFault → KeptStop
stop_of OutOfMemory = Run run.OutOfMemory
stop_of Writing = Run run.Writing

-- how a run goes on by its log: it stops where that has ended
abbrev pub went : Option LogFault → Went
went None = Ok tt
went (Some fault) = Err (stop_of fault)

-- how a run goes on after a connection that ended so: it stops where a save failed
abbrev pub ended_so : Ended → Went
ended_so (Ok served) = Ok tt
ended_so (Err (kept.Serve fault)) = Ok tt
ended_so (Err kept.StateFailed) = Err StateFailed

-- so by its log too: it stops where that has ended
abbrev pub went_after : Option LogFault → Ended → Went
went_after None ended = ended_so ended
went_after (Some fault) ended = Err (stop_of fault)

-- The lines of the store were told where that is asked for, and else nothing was. The run stops where the log has
-- ended.
abbrev pub TellsStore : (asked : Bool) → Store → (l l' : Log) → Went → Type 0
TellsStore true store l l' end = WritesLog (store_lines l.form true store) l l' × (end ≡ went l'.fault)
TellsStore false store l l' end = (l' ≡ l) × (end ≡ went l'.fault)

abbrev pub are_objects : Form → Bool
are_objects Lines = false
are_objects (Words region) = false
are_objects Json = true

-- A log tells the store before the first connection where it tells each event in objects: so whoever reads them knows
-- what the encoder has before a message changes it.
abbrev pub tells_first : Log → Bool
tells_first l = l.told && are_objects l.form

module _ {V K C I O : Type 0} (most room : ℕ) (step : Step V) (leaves : K → Kept V → Type 0) (is_clean : K → Type 0)
    (saves fails : K → Kept V → K → Type 0) (opens : C → Option (I × O) → C → Type 0) (closes : C → I → O → C → Type 0)
    (remaining : I → Option (List ℕ)) (contents : O → Option (List ℕ)) (turns : ℕ) where
  -- The next connection was served so, with the encoder kept; the log was told that it was opened, and then of each
  -- thing that was found, and is left so.
  abbrev pub ServesOne : Ended → (x x' : Standing V K C) → (told : Log) → Type 0
  ServesOne ended x x' told = ServingTold most room step leaves is_clean saves fails LogsOpening LogsEvent opens closes
      remaining contents turns x.encoder x.keeper x.log x.connect ended x'.encoder x'.keeper told x'.connect

  -- What a crash may leave after a connection: where it was the encoder before, it is the encoder now, unless a save
  -- failed. The premise reaches back.
  pub record KeepsOn (ended : Ended) (x x' : Standing V K C) : Type 0 where
    pub settled : Settled (leaves x.keeper) x.encoder → is_clean x'.keeper
        → StaysSettled (leaves x'.keeper) x'.encoder ended
    pub clean : is_clean x'.keeper → is_clean x.keeper

  -- A connection was served, and then the log got the line of how it ended. The run goes on from there, but where a
  -- save failed or the log has ended.
  pub record ServesAndTells (x x' : Standing V K C) (went : Went) : Type 0 where
    pub ended : Ended
    pub told : Log
    pub serves : ServesOne ended x x' told
    pub keeps : KeepsOn ended x x'
    pub tells : Logs (λ stamp. ended_lines told.form stamp told.number ended) told x'.log
    pub goes : went ≡ went_after x'.log.fault ended

  -- The next connection: there was none to be had, and nothing else changed; or it was served and told.
  abbrev pub ServesNext : (x x' : Standing V K C) → Went → Type 0
  ServesNext x x' went =
      (opens x.connect None x'.connect × (x' ≡ record x { connect = x'.connect }) × (went ≡ Err (Run run.Listening)))
      ⊎ ServesAndTells x x' went

  -- So many connections, one after another, each from where the one before ended; or some first of them, up to one at
  -- which the run stopped.
  abbrev pub ServesFrom : (connections : ℕ) → (x x' : Standing V K C) → Went → Type 0
  ServesFrom zero x x' went = (x' ≡ x) × (went ≡ Ok tt)
  ServesFrom (suc more) x x' went = Then ServesNext (ServesFrom more) x x' went

  -- A save failed at the last connection. This is what is to be kept of the encoder once some first bytes of what came
  -- over that were taken; and only replies to those were sent over it.
  pub record LastOutlives (x' : Standing V K C) (left : Kept V) : Type 0 where
    pub before : Standing V K C
    pub told : Log
    pub serves : ServesOne (Err kept.StateFailed) before x' told
    pub outlives : Outlives step (record before.encoder { part = Closed }) serves.6.session.read serves.6.session.sent
        left

  -- What a crash left after a run: the encoder as it is; or where a save failed at the last connection, as above.
  abbrev pub OutlivesRun : (x' : Standing V K C) → Kept V → Type 0
  OutlivesRun x' left = (left ≡ kept_of x'.encoder) ⊎ LastOutlives x' left

  -- The store was told, where that is asked for, and nothing else changed.
  pub record TellsOnly (asked : Bool) (store : Store) (x x' : Standing V K C) (end : Went) : Type 0 where
    pub encoder : x'.encoder ≡ x.encoder
    pub keeper : x'.keeper ≡ x.keeper
    pub connect : x'.connect ≡ x.connect
    pub tells : TellsStore asked store x.log x'.log end

-- A whole run: the store, where the log tells it first; so many connections; and then the store, where that is asked
-- for; or it stopped before.
abbrev pub RunsDevice : {K C I O : Type 0} → (most room : ℕ) → (leaves : K → Kept Store → Type 0) → (is_clean : K → Type
    0) → (saves fails : K → Kept Store → K → Type 0) → (opens : C → Option (I × O) → C → Type 0)
    → (closes : C → I → O → C → Type 0) → (remaining : I → Option (List ℕ)) → (contents : O → Option (List ℕ))
    → (turns connections : ℕ) → (store : Bool) → (x x' : Standing Store K C) → Went → Type 0
RunsDevice most room leaves is_clean saves fails opens closes remaining contents turns connections store x x' end =
    Then (λ w y. TellsOnly most room store_step leaves is_clean saves fails opens closes remaining contents turns
    (tells_first w.log) w.encoder.value w y)
    (Then (ServesFrom most room store_step leaves is_clean saves fails opens closes remaining contents turns
    connections)
    (λ y z. TellsOnly most room store_step leaves is_clean saves fails opens closes remaining contents turns store
    y.encoder.value y z)) x x' end
